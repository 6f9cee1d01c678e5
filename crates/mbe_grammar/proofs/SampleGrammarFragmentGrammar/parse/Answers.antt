use Rattle.std.proofs.Common.{sym, ap, ◌∙◌}
use Rattle.mbe_tt.specs.Views.View.{trees}
use Rattle.mbe_grammar.specs.SampleGrammar.{answer}
use Rattle.mbe_grammar.proofs.FlatTreeLemmas.{trees_of_flat-flat}
use Rattle.mbe_grammar.proofs.SampleGrammarFragmentGrammar.parse.Goals as goal

pub returns : goal.returns
returns g c = c.front.ensures ∙ sym (ap (answer c.args.entry) (trees_of_flat-flat (trees c.args.tokens)))
