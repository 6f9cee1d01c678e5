use Rattle.std.proofs.Common.{◌≡◌, ◌+◌, option_map, ap, rules}
use Rattle.mbe_tt.specs.Views.View.{trees}
use Rattle.mbe_semantics.specs.Readings.Input.{input_of}
use Rattle.mbe_ops.specs.Views.{separator_seen}
use Rattle.mbe_matcher.specs.Readings.Views.{transition_seen}
use Rattle.mbe_matcher.proofs.Divergence.Rounding.{round-none, round-some}
use Rattle.mbe_matcher.proofs.readings.transitions.round_transitions.Goals as goal

pub returns-in-None : goal.returns-in-None
returns-in-None g c = λ h e.
    let number : c.in_ok-number.number ≡ c.args.front + c.args.state_count = search rules in
    round-none (input_of h (trees c.args.source.now.whole)) c.args.source.now.offset c.args.kind c.args.state_count
    c.args.front
    c.in_ok-number.number (option_map (λ s. separator_seen s.now) c.args.separator)
    (option_map transition_seen c.again-again.result) (ap (option_map (λ s. separator_seen s.now)) c.in-None.is)
    (c.again-again.ensures h e) number

pub returns-in-Some : goal.returns-in-Some
returns-in-Some g c = λ h e.
    let number : c.in_ok-number.number ≡ c.args.front + c.args.state_count = search rules in
    round-some (input_of h (trees c.args.source.now.whole)) c.args.source.now.offset c.args.kind c.args.state_count
    c.args.front
    c.in_ok-number.number (option_map (λ s. separator_seen s.now) c.args.separator) _
    (option_map transition_seen c.again-again.result) (ap (option_map (λ s. separator_seen s.now)) c.in-Some.is)
    (c.again-again.ensures h e) number
