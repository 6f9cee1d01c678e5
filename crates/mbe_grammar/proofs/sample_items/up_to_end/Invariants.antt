use Rattle.std.proofs.Common.{◌≡◌}
use Rattle.mbe_tt.specs.Trees.Tree.{flat_len}
use Rattle.mbe_tt.specs.Views.View.{trees}
use Rattle.mbe_grammar.specs.Rule.{past_first}
use Rattle.mbe_grammar.specs.SampleGrammar.{is_item_end}
use Rattle.mbe_grammar.proofs.sample_items.up_to_end.Given as goal

abbrev pub invariant-trees : goal.invariant-trees
invariant-trees g l = past_first (is_item_end l.at_brace) l.iter
    ≡ past_first (is_item_end l.at_brace) (trees l.fn.tokens)

abbrev pub decreases-trees : goal.decreases-trees
decreases-trees g l = flat_len l.iter
