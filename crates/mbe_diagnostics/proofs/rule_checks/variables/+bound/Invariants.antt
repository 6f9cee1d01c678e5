use Rattle.std.proofs.Common.{◌≡◌, ◌+◌, ◌*◌, ◌≤◌, ◌++◌, map, length}
use Rattle.mbe_ops.specs.Views.{op_of, ops_of}
use Rattle.mbe_ops.proofs.EqualityLemmas.{op_weight, ops_weight}
use Rattle.mbe_diagnostics.specs.RuleChecks.Variables.{variables_in, variable_seen}
use Rattle.mbe_diagnostics.proofs.rule_checks.variables.+bound.Given as goal

abbrev pub invariant-push_bound-ops : goal.invariant-push_bound-ops
invariant-push_bound-ops g l = record {
  added : map variable_seen l.bound.items ++ variables_in l.depth (ops_of l.rest)
      ≡ map variable_seen l.initial.bound.items ++ variables_in l.depth (ops_of l.ops);
  lighter : ops_weight (ops_of l.rest) ≤ ops_weight (ops_of l.ops);
}

abbrev pub decreases-push_bound-ops : goal.decreases-push_bound-ops
decreases-push_bound-ops g l = length l.rest

abbrev pub decreases-push_bound : goal.decreases-push_bound
decreases-push_bound g l = 2 * ops_weight (ops_of l.ops.now) + 1

abbrev pub decreases-push_bound_op : goal.decreases-push_bound_op
decreases-push_bound_op g l = 2 * op_weight (op_of l.op.now)
