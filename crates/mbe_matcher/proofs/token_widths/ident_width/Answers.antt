use Rattle.std.proofs.Common.{◌∙◌}
use Rattle.mbe_tt.specs.Views.LeafViews.{ident_of}
use Rattle.mbe_semantics.specs.Syntax.Op as ops
use Rattle.mbe_matcher.proofs.Widths.{token_width}
use Rattle.mbe_matcher.proofs.token_widths.ident_width.Goals as goal

pub returns : goal.returns
returns g c = c.width_to.ensures ∙ token_width c.eat_ident-passed.result (ops.ident (ident_of c.args.ident.now))
    c.args.src.now _ (rw c.fork-ahead.ensures at c.eat_ident-passed.ensures)
