use Rattle.std.proofs.Common.{sym, ap, ◌∙◌}
use Rattle.mbe_tt.specs.Views.View.{trees}
use Rattle.mbe_grammar.specs.Tables.Lawful.{answer}
use Rattle.mbe_grammar.proofs.FlatTreeLemmas.{trees_of_flat-flat}
use Rattle.mbe_grammar.proofs.tables.peg_table.RuleTableFragmentGrammar.parse.Goals as goal

pub returns : goal.returns
returns g c = c.front.ensures ∙ sym (ap (answer c.args.self.now c.args.entry)
    (trees_of_flat-flat (trees c.args.tokens)))
