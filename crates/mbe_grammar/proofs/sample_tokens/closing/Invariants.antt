use Rattle.std.proofs.Common.{◌≡◌, ◌+◌, ◌≤◌, false}
use Rattle.mbe_tt.specs.Trees.Tree.{flat_len}
use Rattle.mbe_tt.specs.Views.View.{trees}
use Rattle.mbe_grammar.specs.Rule.{after_angle}
use Rattle.mbe_grammar.proofs.sample_tokens.closing.Given as goal

abbrev pub invariant-trees : goal.invariant-trees
invariant-trees g l = record {
  same : after_angle l.more l.is_arrow l.iter ≡ after_angle 0 false (trees l.fn.tokens);
  within : l.more + flat_len l.iter ≤ flat_len (trees l.fn.tokens);
}

abbrev pub decreases-trees : goal.decreases-trees
decreases-trees g l = flat_len l.iter
