use Rattle.mbe_tt.specs.Trees.Tree.{flat_len}
use Rattle.mbe_tt.specs.Views.View.{trees}
use Rattle.mbe_cfg.proofs.StripLemmas.{Copying}
use Rattle.mbe_cfg.proofs.cfg_strip.copy_up_to.Given as goal

abbrev pub invariant-trees : goal.invariant-trees
invariant-trees g l =
    Copying (flat_len (trees l.fn.rest)) (trees l.fn.tokens) l.initial.builder l.iter l.builder

abbrev pub decreases-trees : goal.decreases-trees
decreases-trees g l = flat_len l.iter
