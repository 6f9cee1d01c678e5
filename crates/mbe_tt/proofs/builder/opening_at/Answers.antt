use Rattle.std.proofs.Common.{◌∙◌, ap, sym}
use Rattle.mbe_tt.specs.Views.LeafViews.{entry_of}
use Rattle.mbe_tt.proofs.Buffers.Seen.{opens_here, opens_with, opens_not}
use Rattle.mbe_tt.proofs.builder.opening_at.Goals as goal

pub unreachable-requires : goal.unreachable-requires
unreachable-requires g c = opens_not _ _ _ (opens_here _ _ _ _ c.index.ensures c.requires) c.in_default.not-Open

pub returns : goal.returns
returns g c = opens_with _ _ _ _ c.requires
    (sym (ap entry_of c.in-Open.is) ∙ opens_here _ _ _ _ c.index.ensures c.requires)
