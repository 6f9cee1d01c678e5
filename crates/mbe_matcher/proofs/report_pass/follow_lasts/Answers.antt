use Rattle.std.proofs.Common.{◌≡◌, ◌+◌, ◌<◌, ◌≤◌, ◌++◌, ◌∷◌, ◌∙◌, [], length, length-append, refl, sym, ap, subst}
use Rattle.std.proofs.Common.{arith}
use Rattle.mbe_tt.specs.Trees.Tree.{rest_at}
use Rattle.mbe_tt.specs.Views.View.{trees}
use Rattle.mbe_semantics.specs.Readings.Input.{input_of}
use Rattle.mbe_semantics.specs.Matching.States.{state_count}
use Rattle.mbe_laws.specs.Bounded.ClosureTwoEach.{cons_if}
use Rattle.mbe_matcher.specs.declared.report_pass.Visit.TheVariants.{Enter}
use Rattle.mbe_matcher.specs.VisitedSet.{AreVisited, unvisited}
use Rattle.mbe_matcher.specs.Threads.{IsThread}
use Rattle.mbe_matcher.proofs.Keeping.{keeps_not, keeps_on}
use Rattle.mbe_matcher.proofs.Frontiers.{popped_all}
use Rattle.mbe_matcher.proofs.LastWalk.{last_start, last_shown, last_number, last_drop, last_few, last_take, last_leave}
use Rattle.mbe_matcher.proofs.LastWalk.{last_end}
use Rattle.mbe_matcher.proofs.report_pass.follow_lasts.Goals as goal
use Rattle.mbe_matcher.proofs.report_pass.follow_lasts.Goals.{In-Enter}

pub loop-visit-init : goal.loop-visit-init
loop-visit-init g c =
    let s = c.args.source.now in
    let i = input_of (g.G.FragmentGrammar.grammar c.args.grammar.now) (trees s.whole) in
    record {
      keeps = keeps_not c.args.log.now c.args.pass.now.frames.items;
      unvisited = λ q l. c.requires.unvisited q (omega arith);
      size = refl;
      other = refl;
      report = refl;
      walked = (
        [],
        c.requires.unvisited s.offset (omega arith),
        λ st. last_start i (rest_at (trees s.whole) s.offset) s.offset
            (length c.args.pass.now.last_visited.offsets.items)
            c.args.log.now c.args.pass.now.frames.items
            c.args.todo.now.items c.clear.new.self.items st c.clear.ensures.items,
      );
    }

pub loop-visit-preserved-in-Leave : goal.loop-visit-preserved-in-Leave
loop-visit-preserved-in-Leave g c =
    let inv = c.loop-visit.invariant in
    let top = c.in-Some.ensures.items ∙ ap (λ v. c.pop.new.self.items ++ v ∷ []) c.in-Leave.is in
    record {
      keeps = inv.keeps;
      unvisited = inv.unvisited;
      size = inv.size;
      other = inv.other;
      report = inv.report;
      walked = (
        inv.walked.0,
        inv.walked.1,
        λ st. (
          (inv.walked.2 st).0,
          (inv.walked.2 st).1,
          last_leave _ _ _ _ _ _ _ _ c.pop.new.self.items _ _ _
              c.in-Leave.left top (inv.walked.2 st).2
              c.leave.new.self.token_steps.items c.leave.new.self.failed c.in_ok-leave-in-Leave.ensures.token_steps
              c.in_ok-leave-in-Leave.ensures.failed,
        ),
      );
    }

-- the position to be entered
module _ (g : _) (c : In-Enter g) where
  top : c.loop-visit.todo.items ≡ c.pop.new.self.items ++ Enter c.in-Enter.thread ∷ []
  top = c.in-Some.ensures.items ∙ ap (λ v. c.pop.new.self.items ++ v ∷ []) c.in-Enter.is

  shown : IsThread c.loop-visit.log c.loop-visit.pass.frames.items c.in-Enter.thread
  shown = last_shown _ _ _ _ _ _ _ _ c.pop.new.self.items _ _ _ c.in-Enter.thread top
      (c.loop-visit.invariant.walked.2 c.requires.stack).2

  number : (0 < c.in-Enter.thread.number) × (c.in-Enter.thread.number ≤ state_count c.requires.stack.pattern)
  number = last_number _ _ _ _ _ _ _ _ c.pop.new.self.items _ _ _ c.in-Enter.thread top
      (c.loop-visit.invariant.walked.2 c.requires.stack).2

pub try_visit-requires-clause-some : goal.try_visit-requires-clause-some
try_visit-requires-clause-some g c = (number g (goal.at.try_visit-requires-clause-some g c).In-Enter).0

pub try_visit-requires-clause-within : goal.try_visit-requires-clause-within
try_visit-requires-clause-within g c =
    let n = (number g (goal.at.try_visit-requires-clause-within g c).In-Enter).1 in
    let size = c.loop-visit.invariant.size in
    let all = c.requires.stack.size_is in
    omega (arith, n, size, all)

pub loop-visit-preserved-then-not-try_visit : goal.loop-visit-preserved-then-not-try_visit
loop-visit-preserved-then-not-try_visit g c =
    let s = c.args.source.now in
    let inv = c.loop-visit.invariant in
    let counted = c.try_visit.ensures.counted inv.walked.0 inv.walked.1 in
    let on_top = top g (goal.at.loop-visit-preserved-then-not-try_visit g c).In-Enter in
    record {
      keeps = inv.keeps;
      unvisited = c.try_visit.ensures.unvisited inv.unvisited;
      size = c.try_visit.ensures.size ∙ inv.size;
      other = inv.other;
      report = inv.report;
      walked = (
        inv.walked.0,
        subst (λ b. AreVisited c.try_visit.new.self.offsets.items s.offset
            (cons_if b c.in-Enter.thread.number inv.walked.0))
            c.if-not-try_visit.true counted.1,
        λ st. (
          (inv.walked.2 st).0,
          (inv.walked.2 st).1,
          last_drop _ _ _ _ _ _ _ _ c.pop.new.self.items _ _ _
              c.in-Enter.thread on_top (inv.walked.2 st).2
              (sym counted.0 ∙ c.if-not-try_visit.true),
        ),
      );
    }

pub enter-requires : goal.enter-requires
enter-requires g c = shown g (goal.at.enter-requires g c).In-Enter

pub loop-visit-smaller : goal.loop-visit-smaller
loop-visit-smaller g c =
    let s = c.args.source.now in
    let x = c.loop-visit.invariant.walked.2 c.requires.stack in
    let few : length c.enter.new.todo.items ≤ length c.pop.new.self.items + 3 =
    last_few _ _ _ _ _ _ _ _ c.pop.new.self.items _ _ _ c.in-Enter.thread
    (top g (goal.at.loop-visit-smaller g c).In-Enter) x.2
    c.enter.new.log c.enter.new.frames.items c.enter.new.todo.items c.in_ok-enter.ensures in
    let falls : unvisited s.offset c.try_visit.new.self.offsets.items < unvisited s.offset
    c.loop-visit.pass.last_visited.offsets.items =
    c.try_visit.ensures.falls c.if-not-try_visit.false in
    let popped : length c.loop-visit.todo.items ≡ length c.pop.new.self.items + 1 =
    ap length c.in-Some.ensures.items ∙ length-append c.pop.new.self.items (c.in-Some.visit ∷ []) in
    omega (arith, few, falls, popped)

pub loop-visit-preserved : goal.loop-visit-preserved
loop-visit-preserved g c =
    let s = c.args.source.now in
    let inv = c.loop-visit.invariant in
    let counted = c.try_visit.ensures.counted inv.walked.0 inv.walked.1 in
    let taken = c.if-not-try_visit.false in
    let here = (goal.at.loop-visit-preserved g c).In-Enter in
    let is = shown g here in
    let keeping = (c.in_ok-enter.ensures is.0 is.1).kept in
    record {
      keeps = keeps_on c.args.log.now c.loop-visit.log c.enter.new.log c.args.pass.now.frames.items
          c.loop-visit.pass.frames.items c.enter.new.frames.items inv.keeps keeping;
      unvisited = c.try_visit.ensures.unvisited inv.unvisited;
      size = c.try_visit.ensures.size ∙ inv.size;
      other = inv.other;
      report = inv.report;
      walked = (
        c.in-Enter.thread.number ∷ inv.walked.0,
        subst (λ b. AreVisited c.try_visit.new.self.offsets.items s.offset
            (cons_if b c.in-Enter.thread.number inv.walked.0))
            taken counted.1,
        λ st. (
          (inv.walked.2 st).0,
          (inv.walked.2 st).1,
          last_take _ _ _ _ _ _ _ _ c.pop.new.self.items _ _ _
              c.in-Enter.thread (top g here) (inv.walked.2 st).2
              c.enter.new.log c.enter.new.frames.items c.enter.new.todo.items c.in_ok-enter.ensures
              (sym counted.0 ∙ taken),
        ),
      );
    }

pub returns-clause-lasts : goal.returns-clause-lasts
returns-clause-lasts g c = λ st.
    let s = c.args.source.now in
    let i = input_of (g.G.FragmentGrammar.grammar c.args.grammar.now) (trees s.whole) in
    let inv = c.loop-visit.invariant in
    let x = inv.walked.2 st in
    let todo = c.loop-visit.todo in
    last_end i st.pattern s.offset st.models x.0 inv.walked.0 c.loop-visit.log c.loop-visit.pass.frames.items
    (rest_at (trees s.whole) s.offset)
    todo.items c.loop-visit.lasts.token_steps.items c.loop-visit.lasts.failed
    (popped_all todo.items (λ (l : 0 < length todo.items). c.in_default.ensures.variant.1
    (omega (arith, l, todo.ok.0)))) x.1 x.2
