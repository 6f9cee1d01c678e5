use Rattle.std.proofs.Common.{◌≡◌, ◌++◌, drop}
use Rattle.std.specs.Prelude.{map}
use Rattle.mbe_rewriter.specs.MacroItemViews.{macro_definition_shown}
use Rattle.mbe_parser.specs.RuleViews.{rules_seen}
use Rattle.mbe_diagnostics.specs.Lints.Lint.{lint_seen}
use Rattle.mbe_diagnostics.specs.Lints.Linter.{rules_lints}
use Rattle.mbe_diagnostics.proofs.lints.linter.push_rules.Given as goal

abbrev pub invariant-loop-rule : goal.invariant-loop-rule
invariant-loop-rule g l =
    map lint_seen l.lints.items ++ rules_lints (macro_definition_shown l.defined)
    (rules_seen (drop l.rule-index l.rules))
    ≡ map lint_seen l.initial.lints.items ++ rules_lints (macro_definition_shown l.defined) (rules_seen l.rules)
