use Rattle.mbe_text.proofs.CharacterLemmas.{stripped, stripped_whole, front_end}
use Rattle.mbe_text.proofs.characters.past_front.Goals as goal

pub returns-clause-exact : goal.returns-clause-exact
returns-clause-exact c =
    stripped c.strip_prefix.result c.args.front.now c.args.text.now c.requires c.utf8.front c.utf8.text
    c.strip_prefix.ensures.cases

pub returns-clause-whole : goal.returns-clause-whole
returns-clause-whole c =
    stripped_whole c.strip_prefix.result c.args.front.now c.args.text.now c.strip_prefix.ensures.cases

pub returns-clause-end : goal.returns-clause-end
returns-clause-end c =
    front_end c.strip_prefix.result c.args.front.now c.args.text.now
    (stripped_whole c.strip_prefix.result c.args.front.now c.args.text.now c.strip_prefix.ensures.cases)
