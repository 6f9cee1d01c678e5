use Rattle.std.proofs.Common.{◌≡◌, ◌+◌, ◌*◌, ◌≤◌, ◌++◌, map, length}
use Rattle.mbe_ops.specs.Views.{op_of, ops_of}
use Rattle.mbe_ops.proofs.EqualityLemmas.{op_weight, ops_weight}
use Rattle.mbe_diagnostics.specs.RuleChecks.Variables.{uses_in, use_seen}
use Rattle.mbe_diagnostics.proofs.rule_checks.variables.+used.Given as goal

abbrev pub invariant-push_used-ops : goal.invariant-push_used-ops
invariant-push_used-ops g l = record {
  added : map use_seen l.used.items ++ uses_in l.depth (ops_of l.rest)
      ≡ map use_seen l.initial.used.items ++ uses_in l.depth (ops_of l.ops);
  lighter : ops_weight (ops_of l.rest) ≤ ops_weight (ops_of l.ops);
}

abbrev pub decreases-push_used-ops : goal.decreases-push_used-ops
decreases-push_used-ops g l = length l.rest

abbrev pub decreases-push_used : goal.decreases-push_used
decreases-push_used g l = 2 * ops_weight (ops_of l.ops.now) + 1

abbrev pub decreases-push_used_op : goal.decreases-push_used_op
decreases-push_used_op g l = 2 * op_weight (op_of l.op.now)
