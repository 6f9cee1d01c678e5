use Rattle.std.proofs.Common.{ap, ◌∙◌}
use Rattle.mbe_tt.specs.Buffers.GroupStack.{put}
use Rattle.mbe_tt.specs.Trees.Leaf.{span_of}
use Rattle.mbe_tt.specs.Trees.Tree.{one_leaf}
use Rattle.mbe_tt.specs.Views.LeafViews.{leaf_of}
use Rattle.mbe_tt.specs.Views.View.{trees}
use Rattle.mbe_tt.proofs.Buffers.Grown.{put-put}
use Rattle.mbe_rewriter.specs.WholeFragments.FragmentGroups.{colons_if, has_colons}
use Rattle.mbe_rewriter.proofs.whole_fragments.fragment_groups.write_leaf.Goals as goal

pub returns : goal.returns
returns g c =
    let l = leaf_of c.args.leaf.now in
    let needed = has_colons c.args.is_path l (trees c.args.rest) in
    c.in_ok-write_colons_if.ensures
    ∙ ap (λ s. put (colons_if c.has_colons-is_needed.result s) c.push.new.self) c.span.ensures
    ∙ ap (λ b. put (colons_if b (span_of l)) c.push.new.self) c.has_colons-is_needed.ensures
    ∙ ap (put (colons_if needed (span_of l)))
    (c.in_ok-push.ensures.ok ∙ ap (λ k. put (one_leaf k) c.args.builder.now) c.in_ok-copy_of.ensures)
    ∙ put-put (one_leaf l) (colons_if needed (span_of l)) c.args.builder.now
