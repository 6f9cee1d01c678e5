use Rattle.std.proofs.Common.{◌∙◌, sym}
use Rattle.mbe_ops.specs.Views.{op_of}
use Rattle.mbe_matcher.proofs.Widths.{other_width, same_width}
use Rattle.mbe_matcher.proofs.token_widths.exact_width.Goals as goal

pub returns-then-is_other_token : goal.returns-then-is_other_token
returns-then-is_other_token g c =
    other_width (op_of c.args.op.now) c.args.src.now (sym c.is_other_token.ensures ∙ c.if-is_other_token.true)

pub returns : goal.returns
returns g c =
    c.width_by_text.ensures
    ∙ same_width (op_of c.args.op.now) c.args.src.now (sym c.is_other_token.ensures ∙ c.if-is_other_token.false)
