use Rattle.std.proofs.Common.{◌++◌, ◌<◌, ◌≤◌, ◌∷◌, ◌∙◌, [], length, option_to_list, sym, ap, subst, arith}
use Rattle.mbe_tt.specs.Views.View.{trees}
use Rattle.mbe_semantics.specs.Readings.Input.{input_of}
use Rattle.mbe_semantics.specs.Matching.States.{state_count}
use Rattle.mbe_laws.specs.Bounded.ClosureTwoEach.{cons_if}
use Rattle.mbe_threads.specs.declared.visit_counts.VisitCounts.{VisitCounts}
use Rattle.mbe_threads.specs.VisitCounts.{AreCounted, vacancies}
use Rattle.mbe_matcher.specs.Threads.{IsThread, Shows}
use Rattle.mbe_matcher.proofs.Keeping.{keeps_not, keeps_on}
use Rattle.mbe_matcher.proofs.Frontiers.{stack_drops, stack_falls, popped_all}
use Rattle.mbe_matcher.proofs.Looking.{waits_same, looking_start, looking_shown, looking_number, looking_drop}
use Rattle.mbe_matcher.proofs.Looking.{looking_take, looking_end}
use Rattle.mbe_matcher.proofs.expectations.continuations_at.Goals as goal
use Rattle.mbe_matcher.proofs.expectations.continuations_at.Goals.{In-Some}

pub loop-thread-init : goal.loop-thread-init
loop-thread-init g c =
    let s = c.args.source.now in
    let i = input_of (g.G.FragmentGrammar.grammar c.args.grammar.now) (trees s.whole) in
    record {
      keeps = keeps_not c.args.log.now c.args.frames.now.items;
      size = c.in_ok-counts.ensures.size;
      walked = (
        [],
        c.in_ok-counts.ensures.no_visits s.offset (omega arith),
        λ st. looking_start i s.offset c.args.number c.args.log.now c.args.frames.now.items c.args.todo.now.items
            c.new-next_steps.result.items st c.new-next_steps.ensures.items,
      );
    }

-- the position on top
module _ (g : _) (c : In-Some g) where
  shown : IsThread c.loop-thread.log c.loop-thread.frames.items c.in-Some.thread
  shown = looking_shown _ _ (trees c.args.source.now.whole) _ _ _ _ _ c.pop.new.self.items _ c.in-Some.thread _
      c.in-Some.ensures.items (c.loop-thread.invariant.walked.2 c.requires)

  number : (0 < c.in-Some.thread.number) × (c.in-Some.thread.number ≤ state_count c.requires.pattern)
  number = looking_number _ _ (trees c.args.source.now.whole) _ _ _ _ _ c.pop.new.self.items _ c.in-Some.thread _
      c.in-Some.ensures.items (c.loop-thread.invariant.walked.2 c.requires)

pub next_after-next-requires : goal.next_after-next-requires
next_after-next-requires g c = (
  c.loop-thread.log,
  subst (λ os. IsThread c.loop-thread.log os c.in-Some.thread) (sym c.deref.ensures.value)
      (shown g (goal.at.next_after-next-requires g c).In-Some),
)

pub try_visit-requires-clause-some : goal.try_visit-requires-clause-some
try_visit-requires-clause-some g c = (number g (goal.at.try_visit-requires-clause-some g c).In-Some).0

pub try_visit-requires-clause-within : goal.try_visit-requires-clause-within
try_visit-requires-clause-within g c =
    let n = (number g (goal.at.try_visit-requires-clause-within g c).In-Some).1 in
    let size = c.loop-thread.invariant.size in
    let all = c.requires.size_is in
    omega (arith, n, size, all)

pub steps-requires : goal.steps-requires
steps-requires g c = shown g (goal.at.steps-requires g c).In-Some

pub loop-thread-smaller-then-not-try_visit : goal.loop-thread-smaller-then-not-try_visit
loop-thread-smaller-then-not-try_visit g c =
    let s = c.args.source.now in
    stack_drops c.pop.new.self.items c.loop-thread.todo.items c.in-Some.thread
    (vacancies s.offset c.loop-thread.counts.marks.items) (vacancies s.offset c.try_visit.new.self.marks.items)
    c.in-Some.ensures.items
    (ap (λ (x : VisitCounts g.row.A.Denot). vacancies s.offset x.marks.items)
    (c.try_visit.ensures.stays c.if-not-try_visit.true))

pub loop-thread-preserved-then-not-try_visit : goal.loop-thread-preserved-then-not-try_visit
loop-thread-preserved-then-not-try_visit g c =
    let s = c.args.source.now in
    let inv = c.loop-thread.invariant in
    let counted = c.try_visit.ensures.counted inv.walked.0 inv.walked.1 in
    record {
      keeps = inv.keeps;
      size = c.try_visit.ensures.size ∙ inv.size;
      walked = (
        inv.walked.0,
        subst (λ b. AreCounted c.try_visit.new.self.marks.items s.offset
            (cons_if b c.in-Some.thread.number inv.walked.0))
            c.if-not-try_visit.true counted.1,
        λ st. looking_drop _ _ (trees s.whole) _ _ _ _ _ c.pop.new.self.items _ c.in-Some.thread _
            c.in-Some.ensures.items (inv.walked.2 st) (sym counted.0 ∙ c.if-not-try_visit.true),
      );
    }

pub loop-thread-smaller : goal.loop-thread-smaller
loop-thread-smaller g c =
    let s = c.args.source.now in
    let f = c.in_ok-found.found in
    let pushed = c.in_ok-push_some-2.ensures ∙ ap (λ l. l ++ option_to_list f.first) c.in_ok-push_some.ensures in
    stack_falls c.pop.new.self.items c.loop-thread.todo.items c.push_some-in-Some.new.values.items c.in-Some.thread
    f.first f.second
    (vacancies s.offset c.loop-thread.counts.marks.items) (vacancies s.offset c.try_visit.new.self.marks.items)
    c.in-Some.ensures.items pushed (c.try_visit.ensures.falls c.if-not-try_visit.false)

pub loop-thread-preserved : goal.loop-thread-preserved
loop-thread-preserved g c =
    let s = c.args.source.now in
    let f = c.in_ok-found.found in
    let inv = c.loop-thread.invariant in
    let counted = c.try_visit.ensures.counted inv.walked.0 inv.walked.1 in
    let taken = c.if-not-try_visit.false in
    let pushed = c.in_ok-push_some-2.ensures ∙ ap (λ l. l ++ option_to_list f.first) c.in_ok-push_some.ensures in
    let is = shown g (goal.at.loop-thread-preserved g c).In-Some in
    let keeping = (c.in_ok-found.ensures is.0 is.1).kept in
    record {
      keeps = keeps_on c.args.log.now c.loop-thread.log c.steps.new.log c.args.frames.now.items
          c.loop-thread.frames.items c.steps.new.frames.items inv.keeps keeping;
      size = c.try_visit.ensures.size ∙ inv.size;
      walked = (
        c.in-Some.thread.number ∷ inv.walked.0,
        subst (λ b. AreCounted c.try_visit.new.self.marks.items s.offset
            (cons_if b c.in-Some.thread.number inv.walked.0))
            taken counted.1,
        λ st. looking_take _ _ (trees s.whole) _ _ _ _ _ c.pop.new.self.items _ c.in-Some.thread _
            c.in-Some.ensures.items (inv.walked.2 st)
            c.steps.new.log c.steps.new.frames.items f c.push_some-in-Some.new.values.items c.push.new.self.items
            c.next_after-next.result c.step_of.result
            c.in_ok-found.ensures (λ l o shown. c.next_after-next.ensures l o
            (subst (λ os. Shows l os c.in-Some.thread o) (sym c.deref.ensures.value) shown))
            (c.step_of.ensures ∙ waits_same _ _ c.as_ref.ensures.value) pushed c.in_ok-push.ensures.items
            (sym counted.0 ∙ taken),
      );
    }

pub returns-clause-next_steps : goal.returns-clause-next_steps
returns-clause-next_steps g c = λ st.
    let todo = c.loop-thread.todo in
    let s = c.args.source.now in
    looking_end _ s.offset c.args.number c.args.log.now c.loop-thread.log c.args.frames.now.items
    c.loop-thread.frames.items c.args.todo.now.items todo.items _ c.loop-thread.next_steps.items st
    (popped_all todo.items (λ (l : 0 < length todo.items). c.in_default.ensures.variant.1
    (omega (arith, l, todo.ok.0))))
    (c.loop-thread.invariant.walked.2 st)
