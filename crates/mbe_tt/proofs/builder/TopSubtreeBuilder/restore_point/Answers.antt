use Rattle.std.proofs.Common.{arith, ap, length}
use Rattle.mbe_tt.specs.Buffers.GroupStack.{stack_of, flat_written}
use Rattle.mbe_tt.specs.Views.LeafViews.{entries_of}
use Rattle.mbe_tt.proofs.Buffers.Seen.{length-shown}
use Rattle.mbe_tt.proofs.Buffers.Built.{length-written}
use Rattle.mbe_tt.proofs.builder.TopSubtreeBuilder.restore_point.Goals as goal

pub returns : goal.returns
returns g c =
    omega (
      arith,
      c.len.ensures,
      length-shown c.self.inside.entries.items,
      ap length c.self.invariant.spelled,
      ap flat_written c.self.view_is,
      length-written (stack_of (entries_of c.self.inside.entries.items))
          (omega (arith, c.self.invariant.some, c.self.invariant.depth)),
    )
