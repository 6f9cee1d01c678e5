use Rattle.std.proofs.Common.{◌≡◌, ◌+◌, ◌*◌, ◌≤◌, length}
use Rattle.mbe_ops.specs.Views.{op_of, ops_of}
use Rattle.mbe_ops.proofs.EqualityLemmas.{op_weight, ops_weight}
use Rattle.mbe_session.proofs.repeat_lengths.+has_repetition.Given as goal

abbrev pub invariant-has_repetition-ops : goal.invariant-has_repetition-ops
invariant-has_repetition-ops g l = record {
  lighter : ops_weight (ops_of l.rest) ≤ ops_weight (ops_of l.ops);
}

abbrev pub decreases-has_repetition-ops : goal.decreases-has_repetition-ops
decreases-has_repetition-ops g l = length l.rest

abbrev pub decreases-has_repetition : goal.decreases-has_repetition
decreases-has_repetition g l = 2 * ops_weight (ops_of l.ops.now) + 1

abbrev pub decreases-is_or_has_repetition : goal.decreases-is_or_has_repetition
decreases-is_or_has_repetition g l = 2 * op_weight (op_of l.op.now)
