use Rattle.mbe_tt.specs.Trees.Tree.{tree_count}
use Rattle.mbe_cfg.proofs.cfg_strip.after_all.Given as goal

abbrev pub decreases-trees : goal.decreases-trees
decreases-trees g l = tree_count l.iter
