use Rattle.std.proofs.Common.{◌∙◌, sym}
use Rattle.mbe_rewriter.proofs.Renaming.MentionLemmas.{byte_boundary}
use Rattle.mbe_rewriter.proofs.hygiene.format_names.first_byte.Goals as goal

pub split_at-requires : goal.split_at-requires
split_at-requires c =
    byte_boundary c.in_ok-byte.byte.now c.args.text.now c.in_ok-byte._more.now c.utf8.text
    (sym c.as_bytes.ensures.value ∙ c.in_ok-byte.ensures.cases.0) (sym c.is_name_byte.ensures ∙ c.if-is_name_byte.false)
