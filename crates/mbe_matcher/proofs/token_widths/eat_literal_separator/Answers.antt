use Rattle.mbe_tt.specs.Views.LeafViews.{leaf_of}
use Rattle.mbe_matcher.proofs.Widths.{literal_separator_passed}
use Rattle.mbe_matcher.proofs.token_widths.eat_literal_separator.Goals as goal

pub returns-in-Ok : goal.returns-in-Ok
returns-in-Ok g c =
    rw c.has_text.ensures (literal_separator_passed c.args.src.now _ (leaf_of c.in-Ok.leaf.now)
    c.args.literal.now.text_and_suffix c.in-Ok.ensures.value c.in-Ok.ensures.rest)
