use Rattle.std.proofs.Common.{take, map}
use Rattle.mbe_matcher.specs.MatchResults.{verdict_seen}
use Rattle.mbe.specs.MacroViews.{macro_of}
use Rattle.mbe_program.specs.TreeExpansion.{AreVerdicts}
use Rattle.mbe_program.proofs.tree_expansion.explain_rules.Given as goal

abbrev pub invariant-loop-rule : goal.invariant-loop-rule
invariant-loop-rule g l =
    AreVerdicts (g.G.FragmentGrammar.grammar l.grammar) l.argument.1 (take l.rule (macro_of l.rules).rules)
    (map verdict_seen l.verdicts.items)
