use Rattle.mbe_bindings.specs.BindingViews.{value_seen, values_seen}
use Rattle.mbe_session.proofs.BindingTextLemmas.{value_size, values_size}
use Rattle.mbe_session.proofs.binding_text.+values.Given as goal

abbrev pub decreases-push_value : goal.decreases-push_value
decreases-push_value g l = value_size (value_seen l.binding.now)

abbrev pub decreases-push_values : goal.decreases-push_values
decreases-push_values g l = values_size (values_seen l.rounds.now)
