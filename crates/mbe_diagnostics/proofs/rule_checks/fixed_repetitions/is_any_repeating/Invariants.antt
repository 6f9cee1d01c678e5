use Rattle.std.proofs.Common.{◌≡◌, map, drop}
use Rattle.mbe_diagnostics.specs.RuleChecks.Variables.{variable_seen, use_seen}
use Rattle.mbe_diagnostics.specs.RuleChecks.FixedRepetitions as spec
use Rattle.mbe_diagnostics.proofs.rule_checks.fixed_repetitions.is_any_repeating.Given as goal

abbrev pub invariant-loop-one : goal.invariant-loop-one
invariant-loop-one l =
    spec.is_any_repeating (map variable_seen l.bound) l.depth (map use_seen (drop l.one-index l.used))
    ≡ spec.is_any_repeating (map variable_seen l.bound) l.depth (map use_seen l.used)
