use Rattle.std.proofs.Common.{◌++◌, map, ap, ◌∙◌}
use Rattle.mbe_ops.specs.Views.{ops_of}
use Rattle.mbe_matcher.specs.Readings.States.{ending, states}
use Rattle.mbe_matcher.specs.Readings.Views.{state_seen}
use Rattle.mbe_matcher.proofs.readings.states.states_of_pattern.Goals as goal

pub returns : goal.returns
returns g c =
    c.in_ok-push_states.ensures
    ∙ ap (λ l. map state_seen l ++ states (ops_of c.deref.result.now) ending) c.new-all.ensures.items
    ∙ ap (λ xs. states (ops_of xs) ending) c.deref.ensures.value
