use Rattle.std.proofs.Common.{rules, vec_len, ◌≡◌, ◌∙◌, ◌++◌, ◌∷◌, Some, None, List, [], map, get_or, length, sym, ap}
use Rattle.std.proofs.Common.{subst, arith}
use Rattle.mbe_tt.specs.Views.View.{trees}
use Rattle.mbe_tt.specs.Trees.Tree.{flat_len}
use Rattle.mbe_semantics.specs.Readings.Input.{input_of}
use Rattle.mbe_semantics.specs.Readings.Verdict.{IsVerdict, stop_of}
use Rattle.mbe_semantics.specs.Matching.States.{state_count}
use Rattle.mbe_semantics.proofs.InputLemmas.{lawful_input}
use Rattle.mbe_ops.specs.Views.{template_of}
use Rattle.mbe_threads.specs.declared.visit_counts.VisitCounts.{VisitCounts}
use Rattle.mbe_threads.specs.declared.thread.TokenStep.{TokenStep}
use Rattle.mbe_threads.specs.VisitCounts.{NoVisitsFrom}
use Rattle.mbe_matcher.specs.MatchResults.{IsStack}
use Rattle.mbe_threads.specs.Stops.{thread_after, stop_at, verdict_in}
use Rattle.mbe_matcher.specs.Expected.{AreContinuations}
use Rattle.mbe_matcher.proofs.Arriving.{came_first, came_stack, came_still, came_next, SettledAt, Onward, stop_seen}
use Rattle.mbe_matcher.proofs.Arriving.{frontier_verdict, frontier_offset, frontier_some, frontier_onward}
use Rattle.mbe_matcher.proofs.Looking.{stack_kept}
use Rattle.mbe_matcher.proofs.ExpectedLemmas.{continuations_are}
use Rattle.mbe_matcher.proofs.expectations.run_to_stop.Goals as goal
use Rattle.mbe_matcher.proofs.expectations.run_to_stop.Goals.{After-len-number, In_ok-follow_epsilons, In-Some}
use Rattle.mbe_matcher.proofs.expectations.run_to_stop.Goals.{In_default}

-- the dots are counted
counted : (g : _) (c : After-len-number g) → c.len-number.result ≡ state_count (template_of c.args.pattern.now)
counted g c =
    let all : vec_len c.args.state.now.counts.marks ≡ length c.args.state.now.counts.marks.items = search rules in
    c.len-number.ensures ∙ (all ∙ c.requires.fresh.size)

pub at_start-requires : goal.at_start-requires
at_start-requires g c = counted g (goal.at.at_start-requires g c).After-len-number

pub loop-source-init : goal.loop-source-init
loop-source-init g c =
    let s = c.new-source.result in
    let p = c.in_ok-thread.thread in
    let fresh = c.requires.fresh in
    record {
      comes = came_first (g.G.FragmentGrammar.grammar c.args.grammar.now) (template_of c.args.pattern.now)
          (trees s.whole) c.at_start.new.log c.args.state.now.frames.items c.push.new.self.items s.offset p
          c.new-source.ensures.offset (c.in_ok-push.ensures.ok ∙ ap (λ l. l ++ p ∷ []) fresh.none)
          c.in_ok-thread.ensures.start;
      whole = c.new-source.ensures.whole;
      no_visits = λ q l. fresh.no_visits q (omega arith);
      size = fresh.size;
    }

pub follow_epsilons-requires : goal.follow_epsilons-requires
follow_epsilons-requires g c =
    let inv = c.loop-source.invariant in
    let stack =
    came_stack (g.met.G.FragmentGrammar.lawful c.args.grammar.now) c.requires.checked inv.comes inv.size in
    (omega arith, (omega arith, (stack, inv.no_visits)))

-- ---- at a place

module _ (g : _) (c : In_ok-follow_epsilons g) where
  frontier : SettledAt (g.G.FragmentGrammar.grammar c.args.grammar.now) (template_of c.args.pattern.now)
      (trees c.loop-source.source.whole) c.loop-source.source.offset c.loop-source.invariant.comes.thread_stack
      c.follow_epsilons.new.log c.follow_epsilons.new.state.frames.items
      c.follow_epsilons.new.frontier.token_steps.items
      c.follow_epsilons.new.frontier.ends.items
  frontier = record {
    lawful = g.met.G.FragmentGrammar.lawful c.args.grammar.now;
    checked = c.requires.checked;
    comes = c.loop-source.invariant.comes.comes;
    within = c.loop-source.source.within;
    steps = (c.in_ok-follow_epsilons.ensures.frontier
        (came_stack (g.met.G.FragmentGrammar.lawful c.args.grammar.now) c.requires.checked
        c.loop-source.invariant.comes
        c.loop-source.invariant.size)).steps;
  }

  -- the copies of what came there
  abbrev copies : IsStack
      (input_of (g.G.FragmentGrammar.grammar c.args.grammar.now) (trees c.loop-source.source.whole))
      c.loop-source.source.offset c.len-number.result c.follow_epsilons.new.log c.follow_epsilons.new.state.frames.items
      c.in_ok-stack.stack.items
  copies =
      let came = c.loop-source.invariant.comes in
      stack_kept (input_of (g.G.FragmentGrammar.grammar c.args.grammar.now) (trees c.loop-source.source.whole))
      c.loop-source.source.offset c.len-number.result c.loop-source.log c.follow_epsilons.new.log
      c.loop-source.state.frames.items c.follow_epsilons.new.state.frames.items c.loop-source.todo.items
      c.in_ok-stack.stack.items
      (came_stack (g.met.G.FragmentGrammar.lawful c.args.grammar.now) c.requires.checked came
      (counted g (goal.at.In_ok-follow_epsilons g c).After-len-number)) c.in_ok-follow_epsilons.ensures.kept
      (c.in_ok-stack.ensures ∙ c.as_slice.ensures)

-- it stops there
stops : (g : _) (c : In-Some g) → Some (verdict_in c.in-Some.stop)
    ≡ stop_at c.loop-source.source.offset (flat_len (trees c.loop-source.source.whole))
    c.follow_epsilons.new.frontier.token_steps.items c.follow_epsilons.new.frontier.ends.items
stops g c = stop_seen (Some (verdict_in c.in-Some.stop)) c.loop-source.source.offset
    (flat_len (trees c.loop-source.source.whole)) c.deref.result.now
    c.follow_epsilons.new.frontier.token_steps.items c.deref-in-loop-source.result.now
    c.follow_epsilons.new.frontier.ends.items
    c.in-Some.ensures.stop c.deref.ensures c.deref-in-loop-source.ensures

-- or not
stays : (g : _) (c : In_default g) → None
    ≡ stop_at c.loop-source.source.offset (flat_len (trees c.loop-source.source.whole))
    c.follow_epsilons.new.frontier.token_steps.items c.follow_epsilons.new.frontier.ends.items
stays g c = stop_seen None c.loop-source.source.offset (flat_len (trees c.loop-source.source.whole))
    c.deref.result.now c.follow_epsilons.new.frontier.token_steps.items c.deref-in-loop-source.result.now
    c.follow_epsilons.new.frontier.ends.items c.in_default.ensures.stop c.deref.ensures
    c.deref-in-loop-source.ensures

pub returns-in-Some-clause-verdict : goal.returns-in-Some-clause-verdict
returns-in-Some-clause-verdict g c =
    let here = goal.at.returns-in-Some-clause-verdict g c in
    let v = verdict_in c.in-Some.stop in
    subst (λ x. IsVerdict (g.G.FragmentGrammar.grammar c.args.grammar.now) (template_of c.args.pattern.now) (trees x) v)
    c.loop-source.invariant.whole (frontier_verdict (frontier g here.In_ok-follow_epsilons) v (stops g here.In-Some))

pub continuations_at-requires : goal.continuations_at-requires
continuations_at-requires g c = copies g (goal.at.continuations_at-requires g c).In_ok-follow_epsilons

pub returns-in-Some-clause-next_steps : goal.returns-in-Some-clause-next_steps
returns-in-Some-clause-next_steps g c =
    let here = goal.at.returns-in-Some-clause-next_steps g c in
    let h = g.G.FragmentGrammar.grammar c.args.grammar.now in
    let s = c.loop-source.source in
    let pat = template_of c.args.pattern.now in
    let law = g.met.G.FragmentGrammar.lawful c.args.grammar.now in
    let w = lawful_input h (trees s.whole) law in
    let came = c.loop-source.invariant.comes in
    let v = verdict_in c.in-Some.stop in
    let e = stops g here.In-Some in
    let at = frontier g here.In_ok-follow_epsilons in
    let next_steps = continuations_are h pat (trees s.whole) law w c.requires.checked s.offset came.thread_stack
    (came.comes w c.requires.checked)
    c.follow_epsilons.new.log c.follow_epsilons.new.state.frames.items c.follow_epsilons.new.frontier.token_steps.items
    c.follow_epsilons.new.frontier.ends.items at.steps v e c.in_ok-next_steps.next_steps.items
    (c.in_ok-next_steps.ensures.next_steps (copies g here.In_ok-follow_epsilons)) in
    subst (λ x. AreContinuations (input_of h (trees x)) pat (stop_of (trees x) v) v c.in_ok-next_steps.next_steps.items)
    c.loop-source.invariant.whole
    (subst (λ n. AreContinuations (input_of h (trees s.whole)) pat n v c.in_ok-next_steps.next_steps.items)
    (sym (frontier_offset at v e))
    next_steps)

pub bounds-deref-0 : goal.bounds-deref-0
bounds-deref-0 g c =
    let here = goal.at.bounds-deref-0 g c in
    frontier_some (frontier g here.In_ok-follow_epsilons) (stays g here.In_default) c.deref-in-loop-source-2.result.now
    c.deref-in-loop-source-2.ensures

-- it goes on, with the step at the front of what was read
onward : (g : _) (c : In_default g) (x : TokenStep g.row.A.Denot) (seen : List (TokenStep g.row.A.Denot))
    → seen ≡ c.follow_epsilons.new.frontier.token_steps.items → x ≡ get_or seen 0 x
    → Onward (g.G.FragmentGrammar.grammar c.args.grammar.now) (template_of c.args.pattern.now)
    (trees c.loop-source.source.whole) c.loop-source.source.offset c.loop-source.invariant.comes.thread_stack
    c.follow_epsilons.new.frontier.token_steps.items x
onward g c x seen same is =
    frontier_onward (frontier g (goal.at.In_default g c).In_ok-follow_epsilons) (stays g c) x seen same is

pub advance_all-requires : goal.advance_all-requires
advance_all-requires g c =
    let n = onward g (goal.at.advance_all-requires g c).In_default c.index-deref-0.result
    c.deref-in-loop-source-2.result.now c.deref-in-loop-source-2.ensures c.index-deref-0.is in
    let fits = n.fits in
    (omega arith, (omega (arith, fits), n.left))

pub loop-source-smaller : goal.loop-source-smaller
loop-source-smaller g c =
    let n = onward g (goal.at.loop-source-smaller g c).In_default c.index-deref-0.result
    c.deref-in-loop-source-2.result.now c.deref-in-loop-source-2.ensures c.index-deref-0.is in
    let fits = n.fits in
    let some = n.some in
    let at = c.in_ok-source.ensures.offset in
    let same = ap (λ x. flat_len (trees x)) c.in_ok-source.ensures.whole in
    omega (arith, fits, some, at, same)

pub loop-source-preserved : goal.loop-source-preserved
loop-source-preserved g c =
    let here = goal.at.loop-source-preserved g c in
    let inv = c.loop-source.invariant in
    let ws = c.follow_epsilons.new.frontier.token_steps.items in
    let step = c.index-deref-0.result in
    let n = onward g here.In_default step c.deref-in-loop-source-2.result.now c.deref-in-loop-source-2.ensures
    c.index-deref-0.is in
    let some = n.some in
    let at = c.in_ok-source.ensures.offset in
    let come = c.follow_epsilons.new.todo.items ++ map thread_after c.deref-in-loop-source-3.result.now in
    let arrived : come ≡ map thread_after ws =
    ap (λ l. c.follow_epsilons.new.todo.items ++ map thread_after l) c.deref-in-loop-source-3.ensures
    ∙ ap (λ l. l ++ map thread_after ws) c.in_ok-follow_epsilons.ensures.done in
    let tidied = c.in_ok-source.ensures in
    record {
      comes = came_still tidied.threads
          (came_next (frontier g here.In_ok-follow_epsilons) step n (trees c.in_ok-source.source.whole)
          (ap (λ x. trees x) c.in_ok-source.ensures.whole) c.in_ok-source.source.offset at come
          arrived);
      whole = c.in_ok-source.ensures.whole ∙ inv.whole;
      no_visits = subst (λ (k : VisitCounts g.row.A.Denot). NoVisitsFrom k.marks.items c.in_ok-source.source.offset)
          (sym tidied.counts) (λ q l. c.in_ok-follow_epsilons.ensures.no_visits q (omega (arith, l, at, some)));
      size = ap (λ (k : VisitCounts g.row.A.Denot). length k.marks.items) tidied.counts
          ∙ c.in_ok-follow_epsilons.ensures.size
          ∙ inv.size;
    }
