use Rattle.std.proofs.Common.{◌≡◌, ◌≤◌}
use Rattle.mbe_semantics.specs.Syntax.Nullable.{is_nullable}
use Rattle.mbe_ops.specs.Views.{op_of, ops_of}
use Rattle.mbe_ops.proofs.OpSizes.{op_size, ops_size}
use Rattle.mbe_parser.proofs.empty_repetition.+nullable.Given as goal

abbrev pub decreases-op_is_nullable : goal.decreases-op_is_nullable
decreases-op_is_nullable g l = op_size (op_of l.op.now)

abbrev pub decreases-ops_are_nullable : goal.decreases-ops_are_nullable
decreases-ops_are_nullable g l = ops_size (ops_of l.ops.now)

abbrev pub invariant-ops_are_nullable-ops : goal.invariant-ops_are_nullable-ops
invariant-ops_are_nullable-ops g l = record {
  same : is_nullable (ops_of l.fn.ops) ≡ is_nullable (ops_of l.rest);
  smaller : ops_size (ops_of l.rest) ≤ ops_size (ops_of l.fn.ops);
}

abbrev pub decreases-ops_are_nullable-ops : goal.decreases-ops_are_nullable-ops
decreases-ops_are_nullable-ops g l = ops_size (ops_of l.rest)
