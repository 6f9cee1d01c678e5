use Rattle.mbe_grammar.proofs.ReadText.CharLemmas.{name_boundary}
use Rattle.mbe_grammar.proofs.peg.peg_token.name.Goals as goal

pub split_at-requires : goal.split_at-requires
split_at-requires c = rw c.name_len.ensures (name_boundary c.args.text.now c.utf8.text)
