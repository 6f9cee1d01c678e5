use Rattle.std.proofs.Common.{ap, sym, ◌∙◌}
use Rattle.mbe_tt.specs.Buffers.GroupStack.{put}
use Rattle.mbe_tt.proofs.Buffers.Grown.{put-none}
use Rattle.mbe_rewriter.specs.WholeFragments.FragmentGroups.{colons_if}
use Rattle.mbe_rewriter.proofs.whole_fragments.fragment_groups.write_colons_if.Goals as goal

pub returns-else-is_needed : goal.returns-else-is_needed
returns-else-is_needed g c =
    put-none c.args.builder.now
    ∙ ap (λ b. put (colons_if b c.args.span) c.args.builder.now) (sym c.if-is_needed.false)
