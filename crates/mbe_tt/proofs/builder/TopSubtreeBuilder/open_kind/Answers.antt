use Rattle.std.proofs.Common.{◌∙◌, ◌<◌, arith, ap, length}
use Rattle.mbe_tt.specs.Buffers.GroupStack.{innermost_kind, stack_of}
use Rattle.mbe_tt.specs.Views.LeafViews.{entries_of}
use Rattle.mbe_tt.proofs.Buffers.Built.{opens_at, kind_here}
use Rattle.mbe_tt.proofs.builder.TopSubtreeBuilder.open_kind.Goals as goal

pub opening_at-around-requires : goal.opening_at-around-requires
opening_at-around-requires g c =
    opens_at (stack_of (entries_of c.self.inside.entries.items)) _ _ c.self.invariant.spelled c.self.invariant.at
    (omega (arith, c.self.invariant.some, c.self.invariant.depth))

pub returns-clause-kind : goal.returns-clause-kind
returns-clause-kind g c =
    let more : 1 < length (stack_of (entries_of c.self.inside.entries.items)) =
    omega (arith, c.self.invariant.some, c.self.invariant.depth, c.if-self-eq1.false) in
    kind_here (stack_of (entries_of c.self.inside.entries.items)) _ _ _ _ more c.self.invariant.spelled
    c.self.invariant.at c.opening_at-around.ensures
    ∙ ap innermost_kind c.self.view_is
