use Rattle.std.proofs.Common.{◌≡◌, ◌∷◌, ◌∙◌, ap, sym, rules}
use Rattle.std.specs.Prelude.{chars}
use Rattle.std.specs.List.{list_all}
use Rattle.std.proofs.lemmas.Str.{chars_past_char}
use Rattle.unicode_ident.specs.Ident.{is_xid_continue}
use Rattle.mbe_transcriber.proofs.JoinLemmas.{identifier_reported}
use Rattle.mbe_transcriber.proofs.transcriber.expressions.is_identifier.Goals as goal

pub returns-then-begins_identifier : goal.returns-then-begins_identifier
returns-then-begins_identifier c =
    let same : c.chars-rest.result.rest.now ≡ c.args.text.now = search rules in
    let left = c.next.new.self.rest.now in
    let whole : chars c.args.text.now ≡ c.in-Some.first ∷ chars left =
    chars_past_char c.args.text.now left c.in-Some.first c.utf8.text (sym same ∙ c.in-Some.ensures.steps.0) in
    let rest : c.as_str.result.now ≡ left = search rules in
    identifier_reported c.args.text.now left c.in-Some.first c.continues_identifier.result whole
    (sym c.begins_identifier.ensures ∙ c.if-begins_identifier.true)
    (c.continues_identifier.ensures ∙ ap (λ t. list_all is_xid_continue (chars t)) rest)
