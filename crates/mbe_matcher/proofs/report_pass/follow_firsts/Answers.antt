use Rattle.std.proofs.Common.{◌<◌, ◌≤◌, ◌++◌, ◌∷◌, ◌∙◌, [], length, option_to_list, refl, sym, ap, subst, arith}
use Rattle.mbe_tt.specs.Trees.Tree.{rest_at}
use Rattle.mbe_tt.specs.Views.View.{trees}
use Rattle.mbe_semantics.specs.Matching.States.{state_count}
use Rattle.mbe_semantics.specs.Readings.Input.{input_of}
use Rattle.mbe_laws.specs.Bounded.ClosureTwoEach.{cons_if}
use Rattle.std.specs.List.{filter_map}
use Rattle.mbe_matcher.specs.declared.visited_set.VisitedSet.{VisitedSet}
use Rattle.mbe_matcher.specs.VisitedSet.{AreVisited, unvisited}
use Rattle.mbe_matcher.specs.Threads.{IsThread}
use Rattle.mbe_matcher.specs.Failures.{mismatch}
use Rattle.mbe_matcher.specs.Reports.{IsReportOf}
use Rattle.mbe_matcher.specs.FirstAndLast.{model_first}
use Rattle.mbe_matcher.proofs.Keeping.{keeps_not, keeps_on}
use Rattle.mbe_matcher.proofs.Frontiers.{stack_drops, stack_falls, popped_all}
use Rattle.mbe_matcher.proofs.FirstWalk.{first_start, noted_start, first_shown, first_number, first_drop, noted_drop}
use Rattle.mbe_matcher.proofs.FirstWalk.{first_take, noted_take, first_done, first_end}
use Rattle.mbe_matcher.proofs.report_pass.follow_firsts.Goals as goal
use Rattle.mbe_matcher.proofs.report_pass.follow_firsts.Goals.{In-Some}

pub loop-thread-init : goal.loop-thread-init
loop-thread-init g c =
    let s = c.args.source.now in
    let i = input_of (g.G.FragmentGrammar.grammar c.args.grammar.now) (trees s.whole) in
    record {
      keeps = keeps_not c.args.log.now c.args.pass.now.frames.items;
      unvisited = λ q l. c.requires.unvisited q (omega arith);
      size = refl;
      other = refl;
      walked = (
        [],
        c.requires.unvisited s.offset (omega arith),
        λ st. (
          first_start i s.offset (length c.args.pass.now.first_visited.offsets.items) c.args.log.now
              c.args.pass.now.frames.items (rest_at (trees s.whole) s.offset)
              c.args.todo.now.items c.clear.new.self.items c.clear-2.new.self.items st c.clear.ensures.items
              c.clear-2.ensures.items,
          λ n r. noted_start i s.offset (length c.args.pass.now.first_visited.offsets.items) c.args.log.now
              c.args.pass.now.frames.items (rest_at (trees s.whole) s.offset)
              c.args.todo.now.items c.clear.new.self.items c.clear-2.new.self.items st c.clear.ensures.items
              c.clear-2.ensures.items (trees s.whole) c.args.pass.now.report n r,
        ),
      );
    }

-- the position on top
module _ (g : _) (c : In-Some g) where
  shown : IsThread c.loop-thread.log c.loop-thread.pass.frames.items c.in-Some.thread
  shown = first_shown _ _ (trees c.args.source.now.whole) _ _ _ _ _ c.pop.new.self.items _ c.in-Some.thread _ _
      c.in-Some.ensures.items (c.loop-thread.invariant.walked.2 c.requires.stack).0

  number : (0 < c.in-Some.thread.number) × (c.in-Some.thread.number ≤ state_count c.requires.stack.pattern)
  number = first_number _ _ (trees c.args.source.now.whole) _ _ _ _ _ c.pop.new.self.items _ c.in-Some.thread _ _
      c.in-Some.ensures.items (c.loop-thread.invariant.walked.2 c.requires.stack).0

pub try_visit-requires-clause-some : goal.try_visit-requires-clause-some
try_visit-requires-clause-some g c = (number g (goal.at.try_visit-requires-clause-some g c).In-Some).0

pub try_visit-requires-clause-within : goal.try_visit-requires-clause-within
try_visit-requires-clause-within g c =
    let n = (number g (goal.at.try_visit-requires-clause-within g c).In-Some).1 in
    let size = c.loop-thread.invariant.size in
    let all = c.requires.stack.size_is in
    omega (arith, n, size, all)

pub loop-thread-smaller-then-not-try_visit : goal.loop-thread-smaller-then-not-try_visit
loop-thread-smaller-then-not-try_visit g c =
    let s = c.args.source.now in
    stack_drops c.pop.new.self.items c.loop-thread.todo.items c.in-Some.thread
    (unvisited s.offset c.loop-thread.pass.first_visited.offsets.items)
    (unvisited s.offset c.try_visit.new.self.offsets.items)
    c.in-Some.ensures.items
    (ap (λ (x : VisitedSet g.row.A.Denot). unvisited s.offset x.offsets.items)
    (c.try_visit.ensures.stays c.if-not-try_visit.true))

pub loop-thread-preserved-then-not-try_visit : goal.loop-thread-preserved-then-not-try_visit
loop-thread-preserved-then-not-try_visit g c =
    let s = c.args.source.now in
    let inv = c.loop-thread.invariant in
    let visited = inv.walked.0 in
    let counted = c.try_visit.ensures.counted visited inv.walked.1 in
    record {
      keeps = inv.keeps;
      unvisited = c.try_visit.ensures.unvisited inv.unvisited;
      size = c.try_visit.ensures.size ∙ inv.size;
      other = inv.other;
      walked = (
        visited,
        subst (λ b. AreVisited c.try_visit.new.self.offsets.items s.offset (cons_if b c.in-Some.thread.number visited))
            c.if-not-try_visit.true counted.1,
        λ st. (
          first_drop _ _ (trees s.whole) _ _ _ _ _ c.pop.new.self.items _ c.in-Some.thread _ _
              c.in-Some.ensures.items (inv.walked.2 st).0
              (sym counted.0 ∙ c.if-not-try_visit.true),
          λ n r. noted_drop _ _ (trees s.whole) _ _ _ _ _ c.pop.new.self.items _ c.in-Some.thread _ _
              c.in-Some.ensures.items (inv.walked.2 st).0
              (sym counted.0 ∙ c.if-not-try_visit.true) (trees s.whole) c.loop-thread.pass.report n
              ((inv.walked.2 st).1 n r),
        ),
      );
    }

pub steps-requires : goal.steps-requires
steps-requires g c = shown g (goal.at.steps-requires g c).In-Some

pub loop-thread-smaller : goal.loop-thread-smaller
loop-thread-smaller g c =
    let s = c.args.source.now in
    let f = c.in_ok-found.found in
    let pushed = c.in_ok-push_some-2.ensures ∙ ap (λ l. l ++ option_to_list f.first) c.in_ok-push_some.ensures in
    stack_falls c.pop.new.self.items c.loop-thread.todo.items c.push_some-in-Some.new.values.items c.in-Some.thread
    f.first f.second
    (unvisited s.offset c.loop-thread.pass.first_visited.offsets.items)
    (unvisited s.offset c.try_visit.new.self.offsets.items)
    c.in-Some.ensures.items pushed (c.try_visit.ensures.falls c.if-not-try_visit.false)

pub loop-thread-preserved : goal.loop-thread-preserved
loop-thread-preserved g c =
    let s = c.args.source.now in
    let f = c.in_ok-found.found in
    let inv = c.loop-thread.invariant in
    let visited = inv.walked.0 in
    let counted = c.try_visit.ensures.counted visited inv.walked.1 in
    let taken = c.if-not-try_visit.false in
    let pushed = c.in_ok-push_some-2.ensures ∙ ap (λ l. l ++ option_to_list f.first) c.in_ok-push_some.ensures in
    let is = shown g (goal.at.loop-thread-preserved g c).In-Some in
    let keeping = (c.in_ok-found.ensures is.0 is.1).kept in
    record {
      keeps = keeps_on c.args.log.now c.loop-thread.log c.steps.new.log c.args.pass.now.frames.items
          c.loop-thread.pass.frames.items c.steps.new.frames.items inv.keeps keeping;
      unvisited = c.try_visit.ensures.unvisited inv.unvisited;
      size = c.try_visit.ensures.size ∙ inv.size;
      other = inv.other;
      walked = (
        c.in-Some.thread.number ∷ visited,
        subst (λ b. AreVisited c.try_visit.new.self.offsets.items s.offset (cons_if b c.in-Some.thread.number visited))
            taken
            counted.1,
        λ st. (
          first_take _ _ (trees s.whole) _ _ _ _ _ c.pop.new.self.items _ c.in-Some.thread _ _
              c.in-Some.ensures.items (inv.walked.2 st).0
              c.steps.new.log c.steps.new.frames.items f c.push_some-in-Some.new.values.items
              c.push_some-in-Some-2.new.values.items c.push_some-in-Some-3.new.values.items
              c.in_ok-found.ensures pushed c.in_ok-push_some-3.ensures c.in_ok-push_some-4.ensures
              (sym counted.0 ∙ taken),
          λ n r. noted_take _ _ (trees s.whole) _ _ _ _ _ c.pop.new.self.items _ c.in-Some.thread _ _
              c.in-Some.ensures.items (inv.walked.2 st).0
              c.steps.new.log c.steps.new.frames.items f c.push_some-in-Some.new.values.items
              c.push_some-in-Some-2.new.values.items c.push_some-in-Some-3.new.values.items
              c.in_ok-found.ensures pushed c.in_ok-push_some-3.ensures c.in_ok-push_some-4.ensures
              (sym counted.0 ∙ taken) (trees s.whole) c.loop-thread.pass.report c.note_thread.new.self n
              c.is_some.result c.again-handle.result c.is_some.ensures c.again-handle.ensures c.note_thread.ensures
              ((inv.walked.2 st).1 n r),
        ),
      );
    }

pub returns-clause-firsts : goal.returns-clause-firsts
returns-clause-firsts g c = λ st.
    let todo = c.loop-thread.todo in
    let s = c.args.source.now in
    let i = input_of (g.G.FragmentGrammar.grammar c.args.grammar.now) (trees s.whole) in
    let inv = c.loop-thread.invariant in
    first_end i st.pattern s.offset st.models c.loop-thread.log c.loop-thread.pass.frames.items
    (rest_at (trees s.whole) s.offset)
    c.loop-thread.todo.items inv.walked.0 c.loop-thread.firsts.token_steps.items c.loop-thread.firsts.ends.items
    (popped_all todo.items (λ (l : 0 < length todo.items). c.in_default.ensures.variant.1
    (omega (arith, l, todo.ok.0)))) (inv.walked.2 st).0

pub returns-clause-notes : goal.returns-clause-notes
returns-clause-notes g c = λ st n r.
    let todo = c.loop-thread.todo in
    let s = c.args.source.now in
    let i = input_of (g.G.FragmentGrammar.grammar c.args.grammar.now) (trees s.whole) in
    let inv = c.loop-thread.invariant in
    let w = (inv.walked.2 st).0 in
    let done =
    first_done i st.pattern s.offset (model_first i (state_count st.pattern) s.offset st.models) c.loop-thread.log
    c.loop-thread.pass.frames.items (rest_at (trees s.whole) s.offset)
    c.loop-thread.todo.items inv.walked.0 c.loop-thread.firsts.token_steps.items c.loop-thread.firsts.ends.items
    (popped_all todo.items (λ (l : 0 < length todo.items). c.in_default.ensures.variant.1
    (omega (arith, l, todo.ok.0)))) w in
    subst (λ l. IsReportOf c.loop-thread.log (trees s.whole) c.loop-thread.pass.report
    (filter_map (mismatch i s.offset) l) n) done ((inv.walked.2 st).1 n r)
