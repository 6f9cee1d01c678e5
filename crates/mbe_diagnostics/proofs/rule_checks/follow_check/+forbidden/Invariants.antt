use Rattle.std.proofs.Common.{◌≡◌, ◌+◌, ◌*◌, ◌≤◌, ◌++◌, map, length}
use Rattle.mbe_ops.specs.Views.{op_of, ops_of}
use Rattle.mbe_ops.proofs.EqualityLemmas.{op_weight, ops_weight}
use Rattle.mbe_diagnostics.specs.RuleChecks.FollowCheck.{forbidden_in, follower_seen, violation_seen}
use Rattle.mbe_diagnostics.proofs.rule_checks.follow_check.+forbidden.Given as goal

abbrev pub invariant-push_forbidden-ops : goal.invariant-push_forbidden-ops
invariant-push_forbidden-ops g l = record {
  added : map violation_seen l.found.items ++ forbidden_in (map follower_seen l.after) (ops_of l.rest)
      ≡ map violation_seen l.initial.found.items ++ forbidden_in (map follower_seen l.after) (ops_of l.ops);
  lighter : ops_weight (ops_of l.rest) ≤ ops_weight (ops_of l.ops);
}

abbrev pub decreases-push_forbidden-ops : goal.decreases-push_forbidden-ops
decreases-push_forbidden-ops g l = length l.rest

abbrev pub decreases-push_forbidden : goal.decreases-push_forbidden
decreases-push_forbidden g l = 2 * ops_weight (ops_of l.ops.now) + 1

abbrev pub decreases-push_forbidden_in_op : goal.decreases-push_forbidden_in_op
decreases-push_forbidden_in_op g l = 2 * op_weight (op_of l.op.now)
