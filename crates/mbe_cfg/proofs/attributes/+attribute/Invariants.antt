use Rattle.std.proofs.Common.{◌≡◌, ◌+◌, ◌*◌, true}
use Rattle.mbe_tt.specs.Trees.Tree.{flat_len}
use Rattle.mbe_tt.specs.Views.View.{trees}
use Rattle.mbe_cfg.specs.Attributes.{metas, attribute}
use Rattle.mbe_cfg.proofs.attributes.+attribute.Given as goal

abbrev pub decreases-attribute : goal.decreases-attribute
decreases-attribute g l = 3 * l.depth

abbrev pub decreases-cfg_attr : goal.decreases-cfg_attr
decreases-cfg_attr g l = 3 * l.depth + 2

abbrev pub decreases-metas : goal.decreases-metas
decreases-metas g l = 3 * l.depth + 1

abbrev pub invariant-metas-metas : goal.invariant-metas-metas
invariant-metas-metas g l =
    metas (attribute l.settings l.depth l.close) l.left l.all (trees l.rest)
    ≡ metas (attribute l.settings l.depth l.close) (flat_len (trees l.fn.tokens)) true (trees l.fn.tokens)

abbrev pub decreases-metas-metas : goal.decreases-metas-metas
decreases-metas-metas g l = l.left
