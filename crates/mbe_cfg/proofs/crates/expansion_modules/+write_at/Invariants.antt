use Rattle.mbe_tt.specs.Trees.Tree.{flat_len}
use Rattle.mbe_tt.specs.Views.View.{trees}
use Rattle.mbe_cfg.proofs.DeclareLemmas.{SpanLeft}
use Rattle.mbe_cfg.proofs.crates.expansion_modules.+write_at.Given as goal

abbrev pub decreases-write_at : goal.decreases-write_at
decreases-write_at g l = l.levels

abbrev pub invariant-trees : goal.invariant-trees
invariant-trees g l = SpanLeft l.fn.levels l.fn.at (trees l.fn.tokens) l.initial.builder l.rest l.builder

abbrev pub decreases-trees : goal.decreases-trees
decreases-trees g l = flat_len l.rest
