use Rattle.std.proofs.Common.{map}
use Rattle.mbe_rewriter.specs.MacroItemViews.{macro_definition_shown}
use Rattle.mbe_diagnostics.specs.Lints.Linter.{AreLinted}
use Rattle.mbe_diagnostics.proofs.LoopLemmas.{one_less}
use Rattle.mbe_diagnostics.proofs.lints.linter.push_definitions.Goals as goal

pub loop-defined-preserved : goal.loop-defined-preserved
loop-defined-preserved g c =
    one_less
    (λ ds before after. AreLinted (λ ctx e. g.E.Fn.post c.args.ctx_edition (ctx, tt) e) (map macro_definition_shown ds)
    before after)
    c.args.all.now _ _ c.defined-item.result c.loop-defined.defined-index _ c.loop-defined-test.true c.defined-item.is
    (λ end rest. (_, c.in_ok-push_definition.ensures, rest)) c.loop-defined.invariant
