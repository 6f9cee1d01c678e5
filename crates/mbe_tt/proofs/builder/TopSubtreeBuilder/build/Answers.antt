use Rattle.std.proofs.Common.{◌≡◌, ◌∙◌, ap, length, sym}
use Rattle.mbe_tt.specs.Buffers.GroupStack.{stack_of}
use Rattle.mbe_tt.specs.Views.LeafViews.{entries_of}
use Rattle.mbe_tt.proofs.Buffers.Built.{opens_at_first, after_build}
use Rattle.mbe_tt.proofs.builder.TopSubtreeBuilder.build.Goals as goal

pub opening_at-around-requires : goal.opening_at-around-requires
opening_at-around-requires g c =
    let one : length (stack_of (entries_of c.self.inside.entries.items)) ≡ 1 = ap length c.self.view_is ∙ c.requires in
    opens_at_first (stack_of (entries_of c.self.inside.entries.items)) _ c.self.invariant.spelled one

pub invariant_of-result : goal.invariant_of-result
invariant_of-result g c =
    (after_build (stack_of (entries_of c.self.inside.entries.items)) _ _ _ _ (ap length c.self.view_is ∙ c.requires)
    c.self.invariant.spelled c.opening_at-around.ensures c.close_at.ensures.items).spelled

pub returns : goal.returns
returns g c =
    sym c.self.view_is
    ∙ (after_build (stack_of (entries_of c.self.inside.entries.items)) _ _ _ _ (ap length c.self.view_is ∙ c.requires)
    c.self.invariant.spelled c.opening_at-around.ensures c.close_at.ensures.items).is
