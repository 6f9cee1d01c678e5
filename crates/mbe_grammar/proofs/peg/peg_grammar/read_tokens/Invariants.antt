use Rattle.std.proofs.Common.{◌≡◌, map, drop}
use Rattle.mbe_grammar.specs.Peg.Grammar.{words}
use Rattle.mbe_grammar.specs.Peg.Views.{reader_model, plain_word}
use Rattle.mbe_grammar.proofs.peg.peg_grammar.read_tokens.Given as goal

abbrev pub invariant-loop-location : goal.invariant-loop-location
invariant-loop-location g l =
    words (map plain_word (drop l.location-index l.words)) (reader_model l.reader)
    ≡ words (map plain_word l.words) (reader_model l.initial.reader)
