use Rattle.std.proofs.Common.{◌∙◌, None, Some, ap, map, subst}
use Rattle.std.specs.Prelude.{IfOk}
use Rattle.std.specs.String.{string_bytes}
use Rattle.mbe_rewriter.specs.ReplacementViews.{part_of}
use Rattle.mbe_session.specs.FileExpansion.{ExpansionsAt}
use Rattle.mbe_session.specs.FileViews.{source_of}
use Rattle.mbe_session.proofs.CrateLemmas.{not_rust, text_becomes}
use Rattle.mbe_session.proofs.file_expansion.file_text.Goals as goal

pub returns-then-is_none : goal.returns-then-is_none
returns-then-is_none c =
    not_rust string_bytes c.from_str.result c.args.call (map part_of c.args.parts.now) c.args.number
    (source_of c.args.file.now) c.is_none.result c.is_none.ensures c.if-is_none.true c.from_str.ensures.ok

pub returns-in-None : goal.returns-in-None
returns-in-None c =
    text_becomes string_bytes c.whole_text.result None c.args.call (map part_of c.as_slice.result.now)
    (map part_of c.args.parts.now) c.args.number (source_of c.args.file.now) c.is_none.result c.is_none.ensures
    c.if-is_none.false c.in-None.is (ap (map part_of) c.as_slice.ensures.value ∙ c.in_ok-parts.ensures)
    c.whole_text.ensures

pub returns : goal.returns
returns c =
    text_becomes string_bytes c.expansions_at.result (Some c.in-Some.position) c.args.call
    (map part_of c.as_slice-in-Some.result.now) (map part_of c.args.parts.now) c.args.number
    (source_of c.args.file.now) c.is_none.result c.is_none.ensures c.if-is_none.false c.in-Some.is
    (ap (map part_of) c.as_slice-in-Some.ensures.value ∙ c.in_ok-parts.ensures)
    (subst (λ text. IfOk c.expansions_at.result (λ s. ExpansionsAt c.in-Some.position text
    (map part_of c.as_slice-in-Some.result.now) (string_bytes s))) c.args.file.now.normalized c.expansions_at.ensures)
