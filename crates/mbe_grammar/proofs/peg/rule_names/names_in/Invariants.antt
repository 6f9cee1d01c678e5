use Rattle.std.proofs.Common.{◌≡◌, map, drop}
use Rattle.mbe_grammar.specs.Peg.Grammar.{no_names, names_in}
use Rattle.mbe_grammar.specs.Peg.Views.{names_model, plain_word}
use Rattle.mbe_grammar.proofs.peg.rule_names.names_in.Given as goal

abbrev pub invariant-loop-location : goal.invariant-loop-location
invariant-loop-location g l =
    names_in (map plain_word (drop l.location-index l.words)) (names_model l.names)
    ≡ names_in (map plain_word l.words) no_names
