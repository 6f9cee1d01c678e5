use Rattle.std.proofs.Common.{◌∙◌, ◌<◌, arith, ap, length}
use Rattle.mbe_tt.specs.Buffers.GroupStack.{closed, stack_of}
use Rattle.mbe_tt.specs.Views.LeafViews.{entries_of}
use Rattle.mbe_tt.proofs.Buffers.Built.{opens_at, closed_after}
use Rattle.mbe_tt.proofs.builder.TopSubtreeBuilder.close.Goals as goal

pub opening_at-around-requires : goal.opening_at-around-requires
opening_at-around-requires g c =
    opens_at (stack_of (entries_of c.self.inside.entries.items)) _ _ c.self.invariant.spelled c.self.invariant.at
    (omega (arith, c.self.invariant.some, c.self.invariant.depth))

pub invariant_of-self : goal.invariant_of-self
invariant_of-self g c =
    let more : 1 < length (stack_of (entries_of c.self.inside.entries.items)) =
    omega (arith, ap length c.self.view_is, c.requires) in
    (closed_after _ _ _ _ _ _ _ _ c.args.span more c.self.invariant c.opening_at-around.ensures
    c.close_at.ensures.items c.close_at.ensures.capacity).building

pub returns : goal.returns
returns g c =
    let more : 1 < length (stack_of (entries_of c.self.inside.entries.items)) =
    omega (arith, ap length c.self.view_is, c.requires) in
    (closed_after _ _ _ _ _ _ _ _ c.args.span more c.self.invariant c.opening_at-around.ensures
    c.close_at.ensures.items c.close_at.ensures.capacity).levels
    ∙ ap (closed c.args.span) c.self.view_is
