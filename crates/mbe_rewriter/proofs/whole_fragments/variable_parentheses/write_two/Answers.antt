use Rattle.std.proofs.Common.{ap, ◌∙◌}
use Rattle.mbe_tt.specs.Buffers.GroupStack.{put}
use Rattle.mbe_tt.specs.Trees.Tree.{one_leaf}
use Rattle.mbe_tt.specs.Views.LeafViews.{leaf_of}
use Rattle.mbe_tt.proofs.Buffers.Grown.{put-put}
use Rattle.mbe_rewriter.proofs.whole_fragments.variable_parentheses.write_two.Goals as goal

pub returns : goal.returns
returns g c =
    let one = one_leaf (leaf_of c.args.one.now) in
    let other = one_leaf (leaf_of c.args.other.now) in
    c.in_ok-push-2.ensures.ok ∙ ap (λ l. put (one_leaf l) c.push.new.self) c.in_ok-copy_of-2.ensures
    ∙ ap (put other) (c.in_ok-push.ensures.ok ∙ ap (λ l. put (one_leaf l) c.args.builder.now) c.in_ok-copy_of.ensures)
    ∙ put-put one other c.args.builder.now
