use Rattle.std.proofs.Common.{◌≡◌, ◌++◌, map}
use Rattle.mbe_semantics.specs.Syntax.Op.{mentions_of_expression}
use Rattle.mbe_ops.specs.Expressions.{mentions_left, expression_seen}
use Rattle.mbe_diagnostics.specs.RuleChecks.Variables.{variable_use, use_seen}
use Rattle.mbe_diagnostics.proofs.rule_checks.variables.push_used_expression.Given as goal

abbrev pub invariant-loop-mention : goal.invariant-loop-mention
invariant-loop-mention g l =
    map use_seen l.used.items ++ map (variable_use l.depth) (mentions_left l.mention-iterator)
    ≡ map use_seen l.initial.used.items
    ++ map (variable_use l.depth) (mentions_of_expression (expression_seen l.expression))
