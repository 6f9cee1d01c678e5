use Rattle.std.proofs.Common.{◌≡◌}
use Rattle.mbe_tt.specs.Trees.Tree.{flat_len}
use Rattle.mbe_tt.specs.Views.View.{trees}
use Rattle.mbe_cfg.specs.CrateExports.Exports.{crate_of}
use Rattle.mbe_cfg.proofs.exports.use_paths.crate_of.Given as goal

abbrev pub invariant-trees : goal.invariant-trees
invariant-trees g l = crate_of l.name l.rest ≡ crate_of l.name (trees l.fn.tokens)

abbrev pub decreases-trees : goal.decreases-trees
decreases-trees g l = flat_len l.rest
