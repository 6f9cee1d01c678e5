use Rattle.std.specs.Prelude.{◌≡◌, length, map}
use Rattle.mbe.specs.MacroViews.{macro_of}
use Rattle.mbe_grammar.specs.Tables.Lawful.{grammar_of}
use Rattle.mbe_session.specs.Explanation.{ExplainsFirst, explanation_seen}
use Rattle.mbe_session.proofs.file_expander.FileExpander.rule_explanations.Given as goal

abbrev pub invariant-loop-index : goal.invariant-loop-index
invariant-loop-index g l =
    ExplainsFirst (grammar_of l.self.grammar) (macro_of l.rules).rules l.argument (map explanation_seen l.all.items)
    × (length l.all.items ≡ l.index)
