use Rattle.std.proofs.Common.{ap, ◌∙◌}
use Rattle.mbe_tt.specs.Buffers.GroupStack.{put}
use Rattle.mbe_tt.specs.Trees.Tree.{one_leaf}
use Rattle.mbe_tt.specs.declared.tt.Spacing.TheVariants.{Alone, Joint}
use Rattle.mbe_tt.proofs.Buffers.Grown.{put-put}
use Rattle.mbe_rewriter.specs.WholeFragments.FragmentGroups.{colon}
use Rattle.mbe_rewriter.proofs.whole_fragments.fragment_groups.write_colons.Goals as goal

pub returns : goal.returns
returns g c =
    let one = one_leaf (colon Joint c.args.span) in
    let other = one_leaf (colon Alone c.args.span) in
    c.in_ok-push-2.ensures.ok ∙ ap (λ l. put (one_leaf l) c.push.new.self) c.colon-2.ensures
    ∙ ap (put other) (c.in_ok-push.ensures.ok ∙ ap (λ l. put (one_leaf l) c.args.builder.now) c.colon.ensures)
    ∙ put-put one other c.args.builder.now
