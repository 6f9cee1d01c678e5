use Rattle.std.proofs.Common.{◌≡◌, ◌+◌, ◌*◌, ◌≤◌, ◌++◌, map, length}
use Rattle.mbe_ops.specs.Views.{op_of, ops_of}
use Rattle.mbe_ops.proofs.EqualityLemmas.{op_weight, ops_weight}
use Rattle.mbe_diagnostics.specs.RuleChecks.Variables.{variable_seen}
use Rattle.mbe_diagnostics.specs.RuleChecks.FixedRepetitions.{fixed_in}
use Rattle.mbe_diagnostics.proofs.rule_checks.fixed_repetitions.+fixed.Given as goal

abbrev pub invariant-push_fixed-ops : goal.invariant-push_fixed-ops
invariant-push_fixed-ops g l = record {
  added : l.found.items ++ fixed_in (map variable_seen l.bound) l.depth (ops_of l.rest)
      ≡ l.initial.found.items ++ fixed_in (map variable_seen l.bound) l.depth (ops_of l.ops);
  lighter : ops_weight (ops_of l.rest) ≤ ops_weight (ops_of l.ops);
}

abbrev pub decreases-push_fixed-ops : goal.decreases-push_fixed-ops
decreases-push_fixed-ops g l = length l.rest

abbrev pub decreases-push_fixed : goal.decreases-push_fixed
decreases-push_fixed g l = 2 * ops_weight (ops_of l.ops.now) + 1

abbrev pub decreases-push_fixed_op : goal.decreases-push_fixed_op
decreases-push_fixed_op g l = 2 * op_weight (op_of l.op.now)
