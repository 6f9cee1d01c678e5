use Rattle.std.proofs.Common.{sym}
use Rattle.mbe_matcher.specs.Readings.States.{transitions}
use Rattle.mbe_matcher.proofs.readings.transitions.transitions.Goals as goal

pub returns-in-RoundEnd : goal.returns-in-RoundEnd
unfolding transitions
returns-in-RoundEnd g c =
    let h = c.round_transitions.ensures (g.G.FragmentGrammar.grammar c.args.grammar.now) (sym c.dialect.ensures) in
    rw c.in-RoundEnd.is h
