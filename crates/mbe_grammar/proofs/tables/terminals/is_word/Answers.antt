use Rattle.mbe_grammar.proofs.WordLemmas.{plain_of}
use Rattle.mbe_grammar.proofs.tables.terminals.is_word.Goals as goal

pub returns-in-No : goal.returns-in-No
returns-in-No g c = plain_of c.args.texts.now _ _ _ _ c.is_text_of.ensures c.in-No.is c.as_str.ensures
