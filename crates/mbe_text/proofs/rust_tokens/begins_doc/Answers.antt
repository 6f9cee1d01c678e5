use Rattle.std.proofs.Common.{sym, ◌∙◌, chars}
use Rattle.mbe_text.proofs.Fronts.{no_doc}
use Rattle.mbe_text.proofs.rust_tokens.begins_doc.Goals as goal

pub returns-then-not-is_at-clause-exact : goal.returns-then-not-is_at-clause-exact
returns-then-not-is_at-clause-exact c = no_doc (chars c.args.text.now) (sym c.is_at.ensures.exact ∙ c.if-not-is_at.true)
