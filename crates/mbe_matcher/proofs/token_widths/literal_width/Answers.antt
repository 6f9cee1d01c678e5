use Rattle.std.proofs.Common.{◌∙◌}
use Rattle.mbe_tt.specs.Views.LeafViews.{literal_of}
use Rattle.mbe_semantics.specs.Syntax.Op as ops
use Rattle.mbe_matcher.proofs.Widths.{token_width}
use Rattle.mbe_matcher.proofs.token_widths.literal_width.Goals as goal

pub returns : goal.returns
returns g c = c.width_to.ensures ∙ token_width c.eat_literal-passed.result (ops.literal (literal_of c.args.literal.now))
    c.args.src.now _ (rw c.fork-ahead.ensures at c.eat_literal-passed.ensures)
