use Rattle.std.proofs.Common.{◌≡◌, ◌++◌, map, drop}
use Rattle.mbe_rewriter.specs.MacroItemViews.{macro_definition_shown}
use Rattle.mbe_diagnostics.specs.Lints.Lint.{lint_seen}
use Rattle.mbe_diagnostics.specs.Lints.RepetitionLints.{fixed_lints}
use Rattle.mbe_diagnostics.proofs.lints.repetition_lints.push_all_fixed.Given as goal

abbrev pub invariant-loop-one : goal.invariant-loop-one
invariant-loop-one g l =
    map lint_seen l.lints.items ++ fixed_lints (macro_definition_shown l.defined) (drop l.one-index l.all)
    ≡ map lint_seen l.initial.lints.items ++ fixed_lints (macro_definition_shown l.defined) l.all
