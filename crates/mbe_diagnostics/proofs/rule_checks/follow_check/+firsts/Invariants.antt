use Rattle.std.proofs.Common.{◌≡◌, ◌+◌, ◌*◌, ◌≤◌, ◌++◌, map, length}
use Rattle.mbe_ops.specs.Views.{op_of, ops_of}
use Rattle.mbe_ops.proofs.EqualityLemmas.{op_weight, ops_weight}
use Rattle.mbe_diagnostics.specs.RuleChecks.FollowCheck.{firsts, may_be_empty, follower_seen}
use Rattle.mbe_diagnostics.proofs.rule_checks.follow_check.+firsts.Given as goal

abbrev pub invariant-push_firsts-ops : goal.invariant-push_firsts-ops
invariant-push_firsts-ops g l = record {
  empty : may_be_empty (ops_of l.ops) ≡ may_be_empty (ops_of l.rest);
  added : map follower_seen l.next.items ++ firsts (ops_of l.rest)
      ≡ map follower_seen l.initial.next.items ++ firsts (ops_of l.ops);
  lighter : ops_weight (ops_of l.rest) ≤ ops_weight (ops_of l.ops);
}

abbrev pub decreases-push_firsts-ops : goal.decreases-push_firsts-ops
decreases-push_firsts-ops g l = length l.rest

abbrev pub decreases-push_firsts : goal.decreases-push_firsts
decreases-push_firsts g l = 2 * ops_weight (ops_of l.ops.now) + 1

abbrev pub decreases-push_firsts_of_op : goal.decreases-push_firsts_of_op
decreases-push_firsts_of_op g l = 2 * op_weight (op_of l.op.now)
