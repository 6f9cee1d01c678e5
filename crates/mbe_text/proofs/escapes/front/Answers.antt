use Rattle.mbe_text.proofs.TailLemmas.{front_chars}
use Rattle.mbe_text.proofs.escapes.front.Goals as goal

pub returns-clause-exact : goal.returns-clause-exact
returns-clause-exact c =
    front_chars c.args.text.now c.args.end.now c.before-2.result.now c.utf8.text c.utf8.end c.before-2.utf8
    (c.before-2.ensures.whole c.requires.1)
