use Rattle.std.proofs.Common.{◌≡◌, ◌-◌, ◌<◌, Some, sym, ap, subst, ◌∙◌, arith}
use Rattle.std.specs.Result.{OnOk}
use Rattle.mbe_tt.specs.Buffers.GroupStack.{put}
use Rattle.mbe_tt.specs.Trees.Tree.{Leaf_tree, Group_tree, append, first, one_leaf}
use Rattle.mbe_tt.specs.Views.Element.{element_tree}
use Rattle.mbe_tt.specs.Views.LeafViews.{leaf_of}
use Rattle.mbe_tt.specs.Views.View.{trees}
use Rattle.mbe_rewriter.specs.declared.whole_fragments.receivers.TreePrefix.TheVariants as prefix
use Rattle.mbe_rewriter.specs.WholeFragments.Receivers.{needs_semicolon, parenthesize_receivers_in, semicolon_if}
use Rattle.mbe_rewriter.proofs.Worded.ReceiverLemmas.{all_left, as_they_are, group_on, held_written, leaf_on, left_of}
use Rattle.mbe_rewriter.proofs.Worded.ReceiverLemmas.{none_left}
use Rattle.mbe_rewriter.proofs.Worded.WordLemmas.{group_written}
use Rattle.mbe_rewriter.proofs.Worded.WrittenLemmas.{Left, all_written, begins}
use Rattle.mbe_rewriter.proofs.whole_fragments.receivers.+write_receivers.Goals as goal

pub returns-then-levels-eq0 : goal.returns-then-levels-eq0
returns-then-levels-eq0 g t c =
    subst (λ f. OnOk c.extend_with_tt.result (c.extend_with_tt.new.self ≡ put f c.args.builder.now))
    (sym (as_they_are c.args.levels c.args.surroundings (trees c.args.tokens) c.if-levels-eq0.true))
    c.extend_with_tt.ensures.ok

pub trees-init : goal.trees-init
trees-init g t c =
    let all = trees c.args.tokens in
    let s = c.args.surroundings in
    let whole = parenthesize_receivers_in c.args.levels s all in
    let not_zero = c.if-levels-eq0.false in
    let some : 0 < c.args.levels = omega (arith, not_zero) in
    subst (λ f. Left whole c.args.builder.now (left_of c.args.levels s prefix.Other f) c.args.builder.now)
    (sym c.iter-rest.ensures)
    (begins whole (left_of c.args.levels s prefix.Other all) c.args.builder.now (all_left c.args.levels s all some))

pub trees-preserved-in-Leaf : goal.trees-preserved-in-Leaf
trees-preserved-in-Leaf g t c =
    let l = leaf_of c.in-Leaf.leaf.now in
    let s = c.args.surroundings in
    let is : first c.trees.rest ≡ Some (Leaf_tree l) =
    sym c.in-Some.ensures.value ∙ ap (λ e. Some (element_tree e)) c.in-Leaf.is in
    leaf_on (parenthesize_receivers_in c.args.levels s (trees c.args.tokens)) c.args.levels s c.trees.prefix
    c.prefix_after-prefix.result c.trees.rest c.next.new.self l
    c.args.builder.now c.trees.builder c.push.new.self c.trees.invariant is c.in-Some.ensures.rest
    c.prefix_after-prefix.ensures
    (c.in_ok-push-in-Leaf.ensures.ok ∙ ap (λ k. put (one_leaf k) c.trees.builder) c.in_ok-copy_of-in-Leaf.ensures)

pub trees-preserved : goal.trees-preserved
trees-preserved g t c =
    let s = c.args.surroundings in
    let d = c.in-Subtree.group.now.delimiter in
    let inside = trees c.remaining-inside.result in
    let bare = c.is_unwrapped-is_bare.result in
    let needed = c.needs_semicolon-is_needed.result in
    let within = c.surroundings_in-within.result in
    let final = c.final_delimiter-delimiter.result in
    let held = append (parenthesize_receivers_in (c.args.levels - 1) within inside) (semicolon_if needed d.opening) in
    let is : first c.trees.rest ≡ Some (Group_tree d inside) =
    sym c.in-Some.ensures.value ∙ ap (λ e. Some (element_tree e)) c.in-Subtree.is
    ∙ ap (λ f. Some (Group_tree d f)) (sym c.remaining-inside.ensures) in
    group_on (parenthesize_receivers_in c.args.levels s (trees c.args.tokens)) c.args.levels s within c.trees.prefix
    bare
    needed c.trees.rest c.next.new.self
    (trees c.remaining.result) inside d final c.args.builder.now c.trees.builder c.close.new.builder
    c.trees.invariant is c.in-Some.ensures.rest c.remaining.ensures c.is_unwrapped-is_bare.ensures
    (c.needs_semicolon-is_needed.ensures
    ∙ ap (needs_semicolon s d inside) (c.remaining-in-Subtree.ensures ∙ sym c.remaining.ensures))
    c.surroundings_in-within.ensures c.final_delimiter-delimiter.ensures
    (group_written bare final held c.trees.builder c.open.new.builder c.write_semicolon.new.builder
    c.close.new.builder c.in_ok-open-in-Subtree.ensures
    (held_written (parenthesize_receivers_in (c.args.levels - 1) within inside) (semicolon_if needed d.opening)
    c.open.new.builder c.write_receivers.new.builder c.write_semicolon.new.builder
    c.in_ok-write_receivers-in-Subtree.ensures c.in_ok-write_semicolon-in-Subtree.ensures)
    c.close.ensures)

pub returns : goal.returns
returns g t c =
    let s = c.args.surroundings in
    all_written (parenthesize_receivers_in c.args.levels s (trees c.args.tokens))
    (left_of c.args.levels s c.trees.prefix c.trees.rest) c.args.builder.now c.trees.builder c.trees.invariant
    (none_left c.args.levels s c.trees.prefix c.trees.rest (sym c.in_default.ensures.value))
