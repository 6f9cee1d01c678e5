use Rattle.std.proofs.Common.{◌≡◌, ◌+◌, ◌*◌, ◌≤◌, ◌++◌, map, length}
use Rattle.mbe_ops.specs.Views.{op_of, ops_of, separator_seen}
use Rattle.mbe_ops.proofs.EqualityLemmas.{op_weight, ops_weight}
use Rattle.mbe_diagnostics.specs.RuleChecks.OptionalSeparators.{optional_separators}
use Rattle.mbe_diagnostics.proofs.rule_checks.optional_separators.+optional.Given as goal

abbrev pub invariant-push_optional-ops : goal.invariant-push_optional-ops
invariant-push_optional-ops g l = record {
  added : map (λ s. separator_seen s.now) l.found.items ++ optional_separators (ops_of l.rest)
      ≡ map (λ s. separator_seen s.now) l.initial.found.items ++ optional_separators (ops_of l.ops);
  lighter : ops_weight (ops_of l.rest) ≤ ops_weight (ops_of l.ops);
}

abbrev pub decreases-push_optional-ops : goal.decreases-push_optional-ops
decreases-push_optional-ops g l = length l.rest

abbrev pub decreases-push_optional : goal.decreases-push_optional
decreases-push_optional g l = 2 * ops_weight (ops_of l.ops.now) + 1

abbrev pub decreases-push_optional_op : goal.decreases-push_optional_op
decreases-push_optional_op g l = 2 * op_weight (op_of l.op.now)
