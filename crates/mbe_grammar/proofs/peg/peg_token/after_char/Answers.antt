use Rattle.std.proofs.lemmas.Str.Pattern.{strip_prefix_char}
use Rattle.mbe_grammar.proofs.ReadText.CharLemmas.{after_byte_is}
use Rattle.mbe_grammar.proofs.peg.peg_token.after_char.Goals as goal

pub returns : goal.returns
returns c =
    after_byte_is c.args.char c.args.text.now c.strip_prefix.result
    (strip_prefix_char c.args.char c.args.text.now c.strip_prefix.result c.strip_prefix.ensures.cases c.requires)
