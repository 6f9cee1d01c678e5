use Rattle.std.proofs.Common.{◌≡◌, ℕ, ◌+◌, ◌-◌, Option, length, ap, sym, ◌∙◌, arith}
use Rattle.std.specs.Prelude.{option_map}
use Rattle.mbe_tt.specs.Views.View.{trees}
use Rattle.mbe_semantics.specs.Readings.Input.{input_of}
use Rattle.mbe_matcher.specs.Expected.{Expected, expected_seen}
use Rattle.mbe_matcher.specs.Readings.Continuation.{first_some}
use Rattle.mbe_matcher.proofs.Divergence.ContinuationSteps.{rest_from, one-dot-on}
use Rattle.mbe_matcher.proofs.readings.continuation.next_at_offset.Goals as goal
use Rattle.mbe_matcher.proofs.readings.continuation.next_at_offset.Goals.{After-next_at}

module _ (g : _) (c : After-next_at g) where
  -- what is next from a dot on
  abbrev from : ℕ → Option Expected
  from =
      let b = c.args.bounds in
      rest_from (input_of (g.G.FragmentGrammar.grammar c.args.grammar.now) (trees c.args.source.now.whole))
      (length c.args.states.now) c.args.source.now.offset c.args.marks.now b.live.now b.end b.last c.args.states.now

  -- it is next at this dot, or from the next one on
  stepped : from c.loop-passed.passed
      ≡ first_some (option_map expected_seen c.next_at.result) (from (c.loop-passed.passed + 1))
  stepped =
      let b = c.args.bounds in
      one-dot-on (input_of (g.G.FragmentGrammar.grammar c.args.grammar.now) (trees c.args.source.now.whole))
      (length c.args.states.now) c.args.source.now.offset c.args.marks.now b.live.now b.end b.last c.args.states.now
      c.loop-passed.passed (length c.args.states.now - c.loop-passed.passed) c.index-states-passed.result
      c.in_ok-step.step c.loop-passed-test.true c.index-states-passed.is (omega (arith, c.loop-passed-test.true))
      c.in_ok-step.ensures
      ∙ ap (λ o. first_some o (from (c.loop-passed.passed + 1))) (sym c.next_at.ensures)

pub returns-in-Some : goal.returns-in-Some
returns-in-Some g c =
    let here = (goal.at.returns-in-Some g c).After-next_at in
    sym (sym c.loop-passed.invariant ∙ stepped g here
    ∙ ap (λ o. first_some (option_map expected_seen o) (from g here (c.loop-passed.passed + 1))) c.in-Some.is)

pub loop-passed-preserved : goal.loop-passed-preserved
loop-passed-preserved g c =
    let here = (goal.at.loop-passed-preserved g c).After-next_at in
    sym (stepped g here
    ∙ ap (λ o. first_some (option_map expected_seen o) (from g here (c.loop-passed.passed + 1))) c.in_default.is)
    ∙ c.loop-passed.invariant
