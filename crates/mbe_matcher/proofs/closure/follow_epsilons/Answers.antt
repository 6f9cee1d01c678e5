use Rattle.std.proofs.Common.{◌≡◌, ◌+◌, ◌<◌, ◌≤◌, ◌++◌, ◌∷◌, ◌∙◌, true, false, [], length, reverse, option_to_list}
use Rattle.std.proofs.Common.{refl, sym, ap, subst, arith}
use Rattle.mbe_tt.specs.Trees.Tree.{flat_len, rest_at}
use Rattle.mbe_tt.specs.Views.View.{trees}
use Rattle.mbe_semantics.specs.Matching.States.{state_count}
use Rattle.mbe_semantics.specs.Readings.Input.{input_of}
use Rattle.mbe_semantics.proofs.InputLemmas.{lawful_input}
use Rattle.mbe_laws.specs.Bounded.ClosureTwoEach.{cons_if}
use Rattle.mbe_laws.specs.Loop.StackClosure.{kept}
use Rattle.mbe_threads.specs.declared.visit_counts.VisitCounts.{VisitCounts}
use Rattle.mbe_threads.specs.VisitCounts.{AreCounted, vacancies}
use Rattle.mbe_threads.proofs.Counting.{vacancies_most}
use Rattle.mbe_matcher.proofs.Keeping.{keeps_not, keeps_on}
use Rattle.mbe_matcher.proofs.Frontiers.{walked_start, popped_shown, popped_number, walked_drop, walked_take}
use Rattle.mbe_matcher.proofs.Frontiers.{walked_end, walked_done, report_start, report_drop, report_take, fills_begin}
use Rattle.mbe_matcher.proofs.Frontiers.{fills_next, fills_done, steps_few, few_on, stack_drops, stack_falls}
use Rattle.mbe_matcher.proofs.Frontiers.{popped_all}
use Rattle.std.specs.List.{filter_map}
use Rattle.mbe_semantics.specs.Matching.ThreadModel.{finished_of}
use Rattle.mbe_matcher.specs.Threads.{Each, Holds, IsThread}
use Rattle.mbe_matcher.specs.Failures.{mismatch}
use Rattle.mbe_matcher.specs.Reports.{IsReportOf}
use Rattle.mbe_matcher.proofs.closure.follow_epsilons.Goals as goal
use Rattle.mbe_matcher.proofs.closure.follow_epsilons.Goals.{In-Some}

pub loop-thread-init : goal.loop-thread-init
loop-thread-init g c =
    let s = c.args.source.now in
    let i = input_of (g.G.FragmentGrammar.grammar c.args.grammar.now) (trees s.whole) in
    let none = ap length c.clear.ensures.items in
    let no_ends = ap length c.clear-2.ensures.items in
    let most = vacancies_most s.offset c.args.state.now.counts.marks.items in
    let lawful = lawful_input (g.G.FragmentGrammar.grammar c.args.grammar.now) (trees s.whole)
    (g.met.G.FragmentGrammar.lawful c.args.grammar.now) in
    record {
      keeps = keeps_not c.args.log.now c.args.state.now.frames.items;
      no_visits = λ q l. c.requires.no_visits q (omega arith);
      size = refl;
      few = omega (arith, none, no_ends, most);
      walked = (
        [],
        c.requires.no_visits s.offset (omega arith),
        λ st. (
          walked_start i s.offset (length c.args.state.now.counts.marks.items) c.args.log.now
              c.args.state.now.frames.items (rest_at (trees s.whole) s.offset)
              c.args.todo.now.items c.clear.new.self.items c.clear-2.new.self.items st c.clear.ensures.items
              c.clear-2.ensures.items,
          λ n r. report_start i s.offset (length c.args.state.now.counts.marks.items) c.args.log.now
              c.args.state.now.frames.items (rest_at (trees s.whole) s.offset)
              c.args.todo.now.items c.clear.new.self.items c.clear-2.new.self.items st c.clear.ensures.items
              c.clear-2.ensures.items (trees s.whole) c.args.state.now.report n r,
          λ clean. (
            clean,
            fills_begin i s.offset (length c.args.state.now.counts.marks.items) c.args.log.now
                c.args.state.now.frames.items (rest_at (trees s.whole) s.offset)
                c.args.todo.now.items c.clear.new.self.items c.clear-2.new.self.items st c.clear.ensures.items
                c.clear-2.ensures.items (flat_len (trees s.whole)) lawful,
          ),
        ),
      );
    }

-- the position on top
module _ (g : _) (c : In-Some g) where
  shown : IsThread c.loop-thread.log c.loop-thread.state.frames.items c.in-Some.thread
  shown = popped_shown _ _ (trees c.args.source.now.whole) _ _ _ _ _ c.pop.new.self.items _ c.in-Some.thread _ _
      c.in-Some.ensures.items (c.loop-thread.invariant.walked.2 c.requires.stack).0

  number : (0 < c.in-Some.thread.number) × (c.in-Some.thread.number ≤ state_count c.requires.stack.pattern)
  number = popped_number _ _ (trees c.args.source.now.whole) _ _ _ _ _ c.pop.new.self.items _ c.in-Some.thread _ _
      c.in-Some.ensures.items (c.loop-thread.invariant.walked.2 c.requires.stack).0

pub try_visit-requires-clause-some : goal.try_visit-requires-clause-some
try_visit-requires-clause-some g c = (number g (goal.at.try_visit-requires-clause-some g c).In-Some).0

pub try_visit-requires-clause-within : goal.try_visit-requires-clause-within
try_visit-requires-clause-within g c =
    let n = (number g (goal.at.try_visit-requires-clause-within g c).In-Some).1 in
    let size = c.loop-thread.invariant.size in
    let all = c.requires.stack.size_is in
    omega (arith, n, size, all)

pub loop-thread-preserved-then-not-try_visit : goal.loop-thread-preserved-then-not-try_visit
loop-thread-preserved-then-not-try_visit g c =
    let s = c.args.source.now in
    let inv = c.loop-thread.invariant in
    let visited = inv.walked.0 in
    let counted = c.try_visit.ensures.counted visited inv.walked.1 in
    let same : c.try_visit.new.self.marks.items ≡ c.loop-thread.state.counts.marks.items =
    ap (λ (x : VisitCounts g.row.A.Denot). x.marks.items) (c.try_visit.ensures.stays c.if-not-try_visit.true) in
    record {
      keeps = inv.keeps;
      no_visits = c.try_visit.ensures.no_visits inv.no_visits;
      size = c.try_visit.ensures.size ∙ inv.size;
      few = subst (λ ms. length c.loop-thread.frontier.token_steps.items + length c.loop-thread.frontier.ends.items
          + vacancies s.offset ms ≤ length c.args.state.now.counts.marks.items
          + length c.args.state.now.counts.marks.items)
          (sym same) inv.few;
      walked = (
        visited,
        subst (λ b. AreCounted c.try_visit.new.self.marks.items s.offset (cons_if b c.in-Some.thread.number visited))
            c.if-not-try_visit.true counted.1,
        λ st. (
          walked_drop _ _ (trees s.whole) _ _ _ _ _ c.pop.new.self.items _ c.in-Some.thread _ _
              c.in-Some.ensures.items (inv.walked.2 st).0
              (sym counted.0 ∙ c.if-not-try_visit.true),
          λ n r. report_drop _ _ (trees s.whole) _ _ _ _ _ c.pop.new.self.items _ c.in-Some.thread _ _
              c.in-Some.ensures.items (inv.walked.2 st).0
              (sym counted.0 ∙ c.if-not-try_visit.true) (trees s.whole) c.loop-thread.state.report n
              ((inv.walked.2 st).1 n r),
          λ clean. let no : true ≡ false = clean in cc,
        ),
      );
    }

pub steps-requires : goal.steps-requires
steps-requires g c = shown g (goal.at.steps-requires g c).In-Some

pub loop-thread-smaller : goal.loop-thread-smaller
loop-thread-smaller g c =
    let s = c.args.source.now in
    let f = c.in_ok-found.found in
    let pushed = c.in_ok-push_some-2.ensures ∙ ap (λ l. l ++ option_to_list f.first) c.in_ok-push_some.ensures in
    stack_falls c.pop.new.self.items c.loop-thread.todo.items c.push_some-in-Some.new.values.items c.in-Some.thread
    f.first f.second
    (vacancies s.offset c.loop-thread.state.counts.marks.items) (vacancies s.offset c.try_visit.new.self.marks.items)
    c.in-Some.ensures.items pushed (c.try_visit.ensures.falls c.if-not-try_visit.false)

pub loop-thread-smaller-then-not-try_visit : goal.loop-thread-smaller-then-not-try_visit
loop-thread-smaller-then-not-try_visit g c =
    let s = c.args.source.now in
    stack_drops c.pop.new.self.items c.loop-thread.todo.items c.in-Some.thread
    (vacancies s.offset c.loop-thread.state.counts.marks.items) (vacancies s.offset c.try_visit.new.self.marks.items)
    c.in-Some.ensures.items
    (ap (λ (x : VisitCounts g.row.A.Denot). vacancies s.offset x.marks.items)
    (c.try_visit.ensures.stays c.if-not-try_visit.true))

pub loop-thread-preserved : goal.loop-thread-preserved
loop-thread-preserved g c =
    let s = c.args.source.now in
    let i = input_of (g.G.FragmentGrammar.grammar c.args.grammar.now) (trees s.whole) in
    let f = c.in_ok-found.found in
    let inv = c.loop-thread.invariant in
    let visited = inv.walked.0 in
    let counted = c.try_visit.ensures.counted visited inv.walked.1 in
    let taken = c.if-not-try_visit.false in
    let lawful = lawful_input (g.G.FragmentGrammar.grammar c.args.grammar.now) (trees s.whole)
    (g.met.G.FragmentGrammar.lawful c.args.grammar.now) in
    let pushed = c.in_ok-push_some-2.ensures ∙ ap (λ l. l ++ option_to_list f.first) c.in_ok-push_some.ensures in
    let is = shown g (goal.at.loop-thread-preserved g c).In-Some in
    let keeping = (c.in_ok-found.ensures is.0 is.1).kept in
    record {
      keeps = keeps_on c.args.log.now c.loop-thread.log c.steps.new.log c.args.state.now.frames.items
          c.loop-thread.state.frames.items c.steps.new.frames.items inv.keeps keeping;
      no_visits = c.try_visit.ensures.no_visits inv.no_visits;
      size = c.try_visit.ensures.size ∙ inv.size;
      few = few_on c.loop-thread.frontier.token_steps.items c.push_some-in-Some-2.new.values.items
          c.loop-thread.frontier.ends.items c.push_some-in-Some-3.new.values.items f.next f.done
          (vacancies s.offset c.loop-thread.state.counts.marks.items)
          (vacancies s.offset c.try_visit.new.self.marks.items)
          (length c.args.state.now.counts.marks.items + length c.args.state.now.counts.marks.items)
          c.in_ok-push_some-3.ensures c.in_ok-push_some-4.ensures
          (steps_few i (trees s.whole) s.offset c.loop-thread.log c.steps.new.log c.loop-thread.state.frames.items
          c.steps.new.frames.items c.in-Some.thread f is c.in_ok-found.ensures)
          (c.try_visit.ensures.falls taken) inv.few;
      walked = (
        c.in-Some.thread.number ∷ visited,
        subst (λ b. AreCounted c.try_visit.new.self.marks.items s.offset (cons_if b c.in-Some.thread.number visited))
            taken
            counted.1,
        λ st. (
          walked_take _ _ (trees s.whole) _ _ _ _ _ c.pop.new.self.items _ c.in-Some.thread _ _
              c.in-Some.ensures.items (inv.walked.2 st).0
              c.steps.new.log c.steps.new.frames.items f c.push_some-in-Some.new.values.items
              c.push_some-in-Some-2.new.values.items c.push_some-in-Some-3.new.values.items
              c.in_ok-found.ensures pushed c.in_ok-push_some-3.ensures c.in_ok-push_some-4.ensures
              (sym counted.0 ∙ taken),
          λ n r. report_take _ _ (trees s.whole) _ _ _ _ _ c.pop.new.self.items _ c.in-Some.thread _ _
              c.in-Some.ensures.items (inv.walked.2 st).0
              c.steps.new.log c.steps.new.frames.items f c.push_some-in-Some.new.values.items
              c.push_some-in-Some-2.new.values.items c.push_some-in-Some-3.new.values.items
              c.in_ok-found.ensures pushed c.in_ok-push_some-3.ensures c.in_ok-push_some-4.ensures
              (sym counted.0 ∙ taken) (trees s.whole) c.loop-thread.state.report c.note_thread.new.self n
              c.is_some.result c.again-handle.result c.is_some.ensures c.again-handle.ensures c.note_thread.ensures
              ((inv.walked.2 st).1 n r),
          λ clean.
              let was = (inv.walked.2 st).2 clean in (
                was.0,
                fills_next _ _ (trees s.whole) _ _ _ _ _ c.pop.new.self.items _ c.in-Some.thread _ _
                    c.in-Some.ensures.items
                    (inv.walked.2 st).0
                    c.steps.new.log c.steps.new.frames.items f c.push_some-in-Some.new.values.items
                    c.push_some-in-Some-2.new.values.items c.push_some-in-Some-3.new.values.items
                    c.in_ok-found.ensures pushed c.in_ok-push_some-3.ensures c.in_ok-push_some-4.ensures
                    (sym counted.0 ∙ taken) st.thread_stack (flat_len (trees s.whole)) lawful was.1,
              ),
        ),
      );
    }

pub returns-clause-frontier : goal.returns-clause-frontier
returns-clause-frontier g c = λ st.
    let s = c.args.source.now in
    let i = input_of (g.G.FragmentGrammar.grammar c.args.grammar.now) (trees s.whole) in
    let inv = c.loop-thread.invariant in
    let w = (inv.walked.2 st).0 in
    let all = kept i (state_count st.pattern) s.offset (reverse st.thread_stack) in
    let size = length c.args.state.now.counts.marks.items in
    let empty = popped_all c.loop-thread.todo.items c.in_default.ensures.variant.1 in
    let done = walked_done i s.offset size c.args.log.now c.loop-thread.log c.args.state.now.frames.items
    c.loop-thread.state.frames.items (rest_at (trees s.whole) s.offset)
    c.args.todo.now.items c.loop-thread.todo.items inv.walked.0 c.loop-thread.frontier.token_steps.items
    c.loop-thread.frontier.ends.items st empty w in
    let ended = subst (λ l. Each (Holds c.loop-thread.log) c.loop-thread.frontier.ends.items
    (filter_map finished_of l)) done w.ended in
    record {
      steps = walked_end i s.offset size c.args.log.now c.loop-thread.log c.args.state.now.frames.items
          c.loop-thread.state.frames.items (rest_at (trees s.whole) s.offset)
          c.args.todo.now.items c.loop-thread.todo.items inv.walked.0 c.loop-thread.frontier.token_steps.items
          c.loop-thread.frontier.ends.items st empty w;
      notes = λ n r. c.finish_offset.ensures c.loop-thread.log (trees s.whole) (filter_map (mismatch i s.offset) all)
          (filter_map finished_of all) n (rw c.deref.ensures ended)
          (subst (λ l. IsReportOf c.loop-thread.log (trees s.whole) c.loop-thread.state.report
          (filter_map (mismatch i s.offset) l) n) done ((inv.walked.2 st).1 n r));
      all = λ clean.
          let was = (inv.walked.2 st).2 clean in (
            was.0,
            fills_done i s.offset size c.args.log.now c.loop-thread.log c.args.state.now.frames.items
                c.loop-thread.state.frames.items (rest_at (trees s.whole) s.offset)
                c.args.todo.now.items c.loop-thread.todo.items inv.walked.0 c.loop-thread.frontier.token_steps.items
                c.loop-thread.frontier.ends.items st empty w
                (flat_len (trees s.whole)) (lawful_input (g.G.FragmentGrammar.grammar c.args.grammar.now)
                (trees s.whole) (g.met.G.FragmentGrammar.lawful c.args.grammar.now)) was.1,
          );
    }
