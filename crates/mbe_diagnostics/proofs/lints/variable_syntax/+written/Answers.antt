use Rattle.std.proofs.Common.{◌∙◌, ◌-◌, ap, sym, arith}
use Rattle.mbe_tt.specs.Views.View.{trees}
use Rattle.mbe_diagnostics.specs.Lints.VariableSyntax.{find_among, find_in}
use Rattle.mbe_diagnostics.proofs.LintLemmas.VariableLemmas.{too_deep, deeper}
use Rattle.mbe_diagnostics.proofs.lints.variable_syntax.+written.Goals as goal

pub find_in-returns-then-levels-eq0 : goal.find_in-returns-then-levels-eq0
find_in-returns-then-levels-eq0 g t c =
    sym (too_deep c.args.levels c.args.place (trees c.args.tokens) c.if-levels-eq0.true)

pub find_in-trees-init : goal.find_in-trees-init
find_in-trees-init g t c =
    let some = c.if-levels-eq0.false in
    ap (find_among (find_in (c.args.levels - 1) c.args.place) c.args.place) c.iter-iter.ensures
    ∙ sym (deeper c.args.levels (c.args.levels - 1) c.args.place (trees c.args.tokens) (omega (arith, some)))
