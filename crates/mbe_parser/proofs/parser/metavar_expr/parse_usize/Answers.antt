use Rattle.mbe_tt.specs.Views.LeafViews.{literal_of}
use Rattle.std.proofs.Common.{◌∙◌}
use Rattle.mbe_parser.proofs.ExpressionLemmas.{reads_depth}
use Rattle.mbe_parser.proofs.parser.metavar_expr.parse_usize.Goals as goal

pub returns-then-is_empty : goal.returns-then-is_empty
returns-then-is_empty g c =
    let both = c.text_and_suffix in
    c.ok.ensures.value
    ∙ reads_depth (literal_of c.args.literal.now) both.result.0.now both.result.1.now c.parse.result both.ensures.text
    both.ensures.suffix c.if-is_empty.ensures c.parse.ensures.value.0
