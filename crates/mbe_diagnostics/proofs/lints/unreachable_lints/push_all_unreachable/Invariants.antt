use Rattle.std.proofs.Common.{◌≡◌, ◌++◌, map, drop}
use Rattle.mbe_rewriter.specs.MacroItemViews.{macro_definition_shown}
use Rattle.mbe_diagnostics.specs.Lints.Lint.{lint_seen}
use Rattle.mbe_diagnostics.specs.Lints.UnreachableLints.{unreachable_lints}
use Rattle.mbe_diagnostics.proofs.lints.unreachable_lints.push_all_unreachable.Given as goal

abbrev pub invariant-loop-rule : goal.invariant-loop-rule
invariant-loop-rule g l =
    map lint_seen l.lints.items ++ unreachable_lints (macro_definition_shown l.defined)
    (drop l.rule-index l.unreachable_rules)
    ≡ map lint_seen l.initial.lints.items ++ unreachable_lints (macro_definition_shown l.defined) l.unreachable_rules
