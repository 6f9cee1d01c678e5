use Rattle.std.proofs.Common.{sym, ◌∙◌, chars}
use Rattle.mbe_text.proofs.BlanksFirst.{passes_after, passes_only}
use Rattle.mbe_text.proofs.scanner.Scanner.trivia.Goals as goal

pub returns-then-is_at-clause-exact : goal.returns-then-is_at-clause-exact
returns-then-is_at-clause-exact c =
    let old = c.args.self.now in
    let mid = c.whitespace.new.self in
    passes_after old.dialect mid.dialect old.total mid.total (chars old.rest.now) (chars mid.rest.now)
    (chars c.comments.new.self.rest.now) c.comments.result c.whitespace.ensures.on.4 c.whitespace.ensures.on.1
    c.whitespace.ensures.exact c.comments.ensures.exact

pub returns-clause-exact : goal.returns-clause-exact
returns-clause-exact c =
    let old = c.args.self.now in
    passes_only old.dialect old.total (chars old.rest.now) (chars c.whitespace.new.self.rest.now)
    c.whitespace.ensures.exact
    (sym c.is_at.ensures.exact ∙ c.if-is_at.false)
