use Rattle.std.proofs.Common.{map}
use Rattle.mbe_tt.specs.Trees.Tree.{flat_len}
use Rattle.mbe_tt.specs.Views.View.{trees}
use Rattle.mbe_cfg.specs.Crates.CrateViews.{insertion_shown}
use Rattle.mbe_cfg.proofs.DeclareLemmas.{InsertionsLeft}
use Rattle.mbe_cfg.proofs.crates.expansion_modules.+write_inserted.Given as goal

abbrev pub decreases-write_inserted : goal.decreases-write_inserted
decreases-write_inserted g l = l.levels

abbrev pub invariant-trees : goal.invariant-trees
invariant-trees g l =
    InsertionsLeft l.fn.levels (map insertion_shown l.fn.insertions) (trees l.fn.tokens) l.initial.builder
    l.rest l.builder

abbrev pub decreases-trees : goal.decreases-trees
decreases-trees g l = flat_len l.rest
