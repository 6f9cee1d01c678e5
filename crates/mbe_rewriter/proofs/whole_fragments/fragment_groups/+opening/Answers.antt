use Rattle.std.proofs.Common.{◌≡◌, ◌<◌, Some, sym, ap, subst, ◌∙◌, arith}
use Rattle.std.specs.Result.{OnOk}
use Rattle.mbe_tt.specs.Buffers.GroupStack.{put}
use Rattle.mbe_tt.specs.Trees.Tree.{Leaf_tree, Group_tree, first}
use Rattle.mbe_tt.specs.Views.Element.{element_tree}
use Rattle.mbe_tt.specs.Views.LeafViews.{leaf_of}
use Rattle.mbe_tt.specs.Views.View.{trees}
use Rattle.mbe_rewriter.specs.declared.whole_fragments.receivers.TreePrefix.TheVariants as prefix
use Rattle.mbe_rewriter.specs.WholeFragments.FragmentGroups.{open_in}
use Rattle.mbe_rewriter.specs.WholeFragments.Receivers.{surroundings_in}
use Rattle.mbe_rewriter.proofs.Worded.GroupLemmas.{all_left, as_they_are, fragment_written, group_on, leaf_on, left_of}
use Rattle.mbe_rewriter.proofs.Worded.GroupLemmas.{none_left, plain_written}
use Rattle.mbe_rewriter.proofs.Worded.WrittenLemmas.{Left, all_written, begins}
use Rattle.mbe_rewriter.proofs.whole_fragments.fragment_groups.+opening.Goals as goal

pub write_fragment-returns : goal.write_fragment-returns
write_fragment-returns g t c =
    fragment_written (open_in c.args.levels c.args.site.opening) c.args.site.surroundings c.args.prefix
    c.args.delimiter c.around_fragment-around.result (trees c.args.inside) (trees c.args.rest)
    c.is_bare-bare.result c.needs_semicolon-is_needed.result c.is_around-is_path.result c.plain_span-span.result
    c.args.builder.now c.open.new.builder c.write_opened.new.builder c.write_semicolon.new.builder c.close.new.builder
    c.plain_span-span.ensures c.around_fragment-around.ensures c.is_bare-bare.ensures
    c.needs_semicolon-is_needed.ensures c.is_around-is_path.ensures c.in_ok-open.ensures c.in_ok-write_opened.ensures
    c.in_ok-write_semicolon.ensures c.close.ensures

pub write_plain-returns : goal.write_plain-returns
write_plain-returns g t c =
    plain_written c.args.levels c.args.site.opening
    (surroundings_in c.args.site.surroundings c.args.prefix c.args.delimiter.kind)
    c.surroundings_in-surroundings.result c.args.delimiter (trees c.args.inside) c.args.builder.now c.open.new.self
    c.write_opened.new.builder c.close.new.self c.surroundings_in-surroundings.ensures c.in_ok-open.ensures.ok
    c.in_ok-write_opened.ensures c.close.ensures

pub write_opened-returns-then-levels-eq0 : goal.write_opened-returns-then-levels-eq0
write_opened-returns-then-levels-eq0 g t c =
    subst (λ f. OnOk c.extend_with_tt.result (c.extend_with_tt.new.self ≡ put f c.args.builder.now))
    (sym (as_they_are c.args.levels c.args.site.opening c.args.site.is_path c.args.site.surroundings
    (trees c.args.tokens) c.if-levels-eq0.true))
    c.extend_with_tt.ensures.ok

pub write_opened-trees-init : goal.write_opened-trees-init
write_opened-trees-init g t c =
    let all = trees c.args.tokens in
    let n = c.args.levels in
    let o = c.args.site.opening in
    let x = c.args.site.is_path in
    let s = c.args.site.surroundings in
    let whole = open_in n o x s all in
    let not_zero = c.if-levels-eq0.false in
    let some : 0 < n = omega (arith, not_zero) in
    subst (λ f. Left whole c.args.builder.now (left_of n o x s prefix.Other f) c.args.builder.now)
    (sym c.iter-rest.ensures)
    (begins whole (left_of n o x s prefix.Other all) c.args.builder.now (all_left n o x s all some))

pub write_opened-trees-preserved-in-Leaf : goal.write_opened-trees-preserved-in-Leaf
write_opened-trees-preserved-in-Leaf g t c =
    let l = leaf_of c.in-Leaf.leaf.now in
    let n = c.args.levels in
    let o = c.args.site.opening in
    let x = c.args.site.is_path in
    let s = c.args.site.surroundings in
    let is : first c.trees.rest ≡ Some (Leaf_tree l) =
    sym c.in-Some.ensures.value ∙ ap (λ e. Some (element_tree e)) c.in-Leaf.is in
    leaf_on (open_in n o x s (trees c.args.tokens)) n o x s c.trees.prefix c.prefix_after-prefix.result c.trees.rest
    c.next.new.self (trees c.remaining-after.result) l c.args.builder.now c.trees.builder c.write_leaf.new.builder
    c.trees.invariant is c.in-Some.ensures.rest c.remaining-after.ensures c.prefix_after-prefix.ensures
    c.in_ok-write_leaf-in-Leaf.ensures

pub write_opened-trees-preserved : goal.write_opened-trees-preserved
write_opened-trees-preserved g t c =
    let d = c.in-Subtree.group.now.delimiter in
    let n = c.args.levels in
    let o = c.args.site.opening in
    let x = c.args.site.is_path in
    let s = c.args.site.surroundings in
    let ahead = trees c.remaining-after.result in
    let inside = trees c.remaining-inside.result in
    let is : first c.trees.rest ≡ Some (Group_tree d inside) =
    sym c.in-Some.ensures.value ∙ ap (λ e. Some (element_tree e)) c.in-Subtree.is
    ∙ ap (λ f. Some (Group_tree d f)) (sym c.remaining-inside.ensures) in
    group_on (open_in n o x s (trees c.args.tokens)) n o x s c.trees.prefix c.trees.rest c.next.new.self ahead inside d
    c.args.builder.now c.trees.builder c.write_group.new.builder c.trees.invariant is c.in-Some.ensures.rest
    c.remaining-after.ensures c.in_ok-write_group-in-Subtree.ensures

pub write_opened-returns : goal.write_opened-returns
write_opened-returns g t c =
    let n = c.args.levels in
    let o = c.args.site.opening in
    let x = c.args.site.is_path in
    let s = c.args.site.surroundings in
    all_written (open_in n o x s (trees c.args.tokens)) (left_of n o x s c.trees.prefix c.trees.rest)
    c.args.builder.now c.trees.builder c.trees.invariant
    (none_left n o x s c.trees.prefix c.trees.rest (sym c.in_default.ensures.value))
