use Rattle.std.proofs.Common.{◌≡◌, ◌∙◌, ap, subst, map, List, ℕ}
use Rattle.std.specs.Prelude.{IfOk}
use Rattle.std.specs.String.{string_bytes}
use Rattle.mbe_rewriter.specs.Splice.{spliced}
use Rattle.mbe_rewriter.specs.ReplacementViews.{part_of}
use Rattle.mbe_session.specs.LineEndings as spec
use Rattle.mbe_session.specs.LineEndings.{original_part}
use Rattle.mbe_session.proofs.file_expansion.whole_text.Goals as goal

pub returns : goal.returns
returns c =
    let text : List ℕ = c.args.file.now.text.now in
    let original_parts : map part_of c.as_slice.result.now
    ≡ map (original_part (spec.returns text)) (map part_of c.args.parts.now) =
    ap (map part_of) c.as_slice.ensures.value ∙ c.in_ok-original_parts.ensures
    ∙ ap (λ rs. map (original_part rs) (map part_of c.args.parts.now)) c.args.file.now.returned in
    subst (λ ps. IfOk c.splice.result (λ s. string_bytes s ≡ spliced text ps)) original_parts c.splice.ensures
