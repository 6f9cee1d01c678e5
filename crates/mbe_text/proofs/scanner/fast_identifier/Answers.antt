use Rattle.std.proofs.Common.{chars}
use Rattle.mbe_text.proofs.CommonLemmas.{plain_word}
use Rattle.mbe_text.proofs.TailLemmas.{end_on}
use Rattle.mbe_text.proofs.scanner.fast_identifier.Goals as goal

pub returns-clause-exact : goal.returns-clause-exact
returns-clause-exact c = λ total.
    plain_word total (chars c.args.text.now) (chars c.args.after.now) (chars c.past-rest.result.now)
    c.before-name.result.now c.begins_with.result c.begins_literal.result
    c.begins_with.ensures.exact c.if-begins_with.false c.requires.rest c.past-rest.ensures.exact
    (c.before-name.ensures.exact
    (end_on c.args.text.now c.args.after.now c.past-rest.result.now c.requires.end c.past-rest.ensures.end).1)
    c.begins_literal.ensures c.if-begins_literal.false
