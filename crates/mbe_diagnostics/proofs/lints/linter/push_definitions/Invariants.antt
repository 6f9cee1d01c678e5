use Rattle.std.proofs.Common.{map, drop, List}
use Rattle.mbe_rewriter.specs.MacroItemViews.{macro_definition_shown}
use Rattle.mbe_diagnostics.specs.Lints.Lint.{Lint, lint_seen}
use Rattle.mbe_diagnostics.specs.Lints.Linter.{AreLinted}
use Rattle.mbe_diagnostics.proofs.lints.linter.push_definitions.Given as goal

-- Whatever the definitions that are left add leads to all that the loop adds.
abbrev pub invariant-loop-defined : goal.invariant-loop-defined
invariant-loop-defined g l = (after : List Lint)
    → AreLinted (λ ctx e. g.E.Fn.post l.ctx_edition (ctx, tt) e)
    (map macro_definition_shown (drop l.defined-index l.all)) (map lint_seen l.lints.items) after
    → AreLinted (λ ctx e. g.E.Fn.post l.ctx_edition (ctx, tt) e) (map macro_definition_shown l.all)
    (map lint_seen l.initial.lints.items) after
