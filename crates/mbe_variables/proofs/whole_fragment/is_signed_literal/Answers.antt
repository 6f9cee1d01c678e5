use Rattle.std.proofs.Common.{◌∙◌, ap}
use Rattle.mbe_semantics.specs.Transcription.FragmentTrees.{is_signed_literal}
use Rattle.mbe_variables.proofs.WholeLemmas.{signed}
use Rattle.mbe_variables.proofs.whole_fragment.is_signed_literal.Goals as goal

pub returns : goal.returns
returns g c =
    c.is_one_literal.ensures
    ∙ signed c.expect_char-sign.result c.iter-iter.result _ c.expect_char-sign.ensures.value
    c.expect_char-sign.ensures.rest
    ∙ ap is_signed_literal c.iter-iter.ensures
