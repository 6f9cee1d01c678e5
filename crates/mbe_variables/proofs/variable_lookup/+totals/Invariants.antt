use Rattle.std.proofs.Common.{◌≡◌, ◌+◌, drop}
use Rattle.mbe_semantics.specs.Transcription.Rounds.{totals}
use Rattle.mbe_bindings.specs.BindingViews.{values_seen}
use Rattle.mbe_variables.proofs.variable_lookup.+totals.Given as goal

abbrev pub invariant-values_total-loop-value : goal.invariant-values_total-loop-value
invariant-values_total-loop-value g l =
    totals l.depth (values_seen l.values) ≡ l.total + totals l.depth (values_seen (drop l.value-index l.values))
