use Rattle.std.proofs.Common.{rules}
use Rattle.mbe_tt.proofs.Buffers.Grown.{put-none, put_more}
use Rattle.mbe_tt.proofs.builder.TopSubtreeBuilder.extend.Goals as goal

pub loop-leaf-init : goal.loop-leaf-init
loop-leaf-init g c =
    let ready = c.requires _ c.into_iter-leaf-iterator.ensures.into_iter_gives in
    (ready.0, ready.1, put-none _)

pub loop-leaf-preserved : goal.loop-leaf-preserved
loop-leaf-preserved g c =
    let more = put_more _ _ _ _ _ c.in_default.ensures.ok c.loop-leaf.invariant.2 in
    (search rules, search rules, more)
