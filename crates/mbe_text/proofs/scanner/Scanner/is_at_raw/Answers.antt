use Rattle.std.proofs.Common.{sym, ◌∙◌, chars}
use Rattle.mbe_text.proofs.Fronts.{no_raw}
use Rattle.mbe_text.proofs.scanner.Scanner.is_at_raw.Goals as goal

pub returns-then-not-is_at-clause-exact : goal.returns-then-not-is_at-clause-exact
returns-then-not-is_at-clause-exact c =
    no_raw (chars c.args.self.now.rest.now) (sym c.is_at.ensures.exact ∙ c.if-not-is_at.true)
