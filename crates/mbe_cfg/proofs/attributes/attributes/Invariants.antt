use Rattle.std.proofs.Common.{◌≡◌, true}
use Rattle.mbe_tt.specs.Trees.Tree.{flat_len}
use Rattle.mbe_tt.specs.Views.View.{trees}
use Rattle.mbe_cfg.specs.Attributes.{attributes}
use Rattle.mbe_cfg.proofs.attributes.attributes.Given as goal

abbrev pub invariant-attributes : goal.invariant-attributes
invariant-attributes g l =
    attributes l.settings l.left l.all (trees l.rest)
    ≡ attributes l.settings (flat_len (trees l.fn.tokens)) true (trees l.fn.tokens)

abbrev pub decreases-attributes : goal.decreases-attributes
decreases-attributes g l = l.left
