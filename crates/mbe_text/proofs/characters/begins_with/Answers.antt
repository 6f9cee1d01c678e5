use Rattle.mbe_text.proofs.CharacterLemmas.{starts_with_front, front_fits}
use Rattle.mbe_text.proofs.characters.begins_with.Goals as goal

pub returns-clause-exact : goal.returns-clause-exact
returns-clause-exact c =
    starts_with_front c.starts_with.result c.args.front.now c.args.text.now c.requires c.utf8.front c.utf8.text
    c.starts_with.ensures.cases

pub returns-clause-some : goal.returns-clause-some
returns-clause-some c = front_fits c.starts_with.result c.args.front.now c.args.text.now c.starts_with.ensures.cases
