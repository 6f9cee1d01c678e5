use Rattle.std.proofs.Common.{◌≡◌, ◌-◌, ◌<◌, Some, sym, ap, subst, ◌∙◌, arith}
use Rattle.std.specs.Result.{OnOk}
use Rattle.mbe_tt.specs.Buffers.GroupStack.{put}
use Rattle.mbe_tt.specs.Trees.Tree.{Leaf_tree, Group_tree, first, one_leaf}
use Rattle.mbe_tt.specs.Views.Element.{element_tree}
use Rattle.mbe_tt.specs.Views.LeafViews.{leaf_of}
use Rattle.mbe_tt.specs.Views.View.{trees}
use Rattle.mbe_rewriter.specs.declared.whole_fragments.builtin_calls.BuiltinPrefix.TheVariants as before
use Rattle.mbe_rewriter.specs.WholeFragments.BuiltinCalls.{kept, trees_skipped, expand_builtins_in}
use Rattle.mbe_rewriter.proofs.Worded.WordLemmas.{all_left, as_they_are, group_on, group_written, leaf_on, left_of}
use Rattle.mbe_rewriter.proofs.Worded.WordLemmas.{none_left}
use Rattle.mbe_rewriter.proofs.Worded.WrittenLemmas.{Left, all_written, begins}
use Rattle.mbe_rewriter.proofs.whole_fragments.builtin_calls.+write_builtins.Goals as goal

pub returns-then-levels-eq0 : goal.returns-then-levels-eq0
returns-then-levels-eq0 g t c =
    subst (λ f. OnOk c.extend_with_tt.result (c.extend_with_tt.new.self ≡ put f c.args.builder.now))
    (sym (as_they_are c.args.builtins c.args.levels c.args.inside (trees c.args.tokens) c.if-levels-eq0.true))
    c.extend_with_tt.ensures.ok

pub trees-init : goal.trees-init
trees-init g t c =
    let b = c.args.builtins in
    let m = c.args.inside in
    let all = trees c.args.tokens in
    let whole = expand_builtins_in b c.args.levels m all in
    let not_zero = c.if-levels-eq0.false in
    let some : 0 < c.args.levels = omega (arith, not_zero) in
    subst (λ f. Left whole c.args.builder.now (left_of b c.args.levels m 0 before.Other f) c.args.builder.now)
    (sym c.iter-rest.ensures)
    (begins whole (left_of b c.args.levels m 0 before.Other all) c.args.builder.now
    (all_left b c.args.levels m all some))

pub trees-preserved-in-Leaf : goal.trees-preserved-in-Leaf
trees-preserved-in-Leaf g t c =
    let b = c.args.builtins in
    let m = c.args.inside in
    let l = leaf_of c.in-Leaf.leaf.now in
    let is : first c.trees.rest ≡ Some (Leaf_tree l) =
    sym c.in-Some.ensures.value ∙ ap (λ e. Some (element_tree e)) c.in-Leaf.is in
    let not_more = c.if-still_skipped-gt0.false in
    let no_more : c.trees.still_skipped ≡ 0 = omega (arith, not_more) in
    leaf_on b (expand_builtins_in b c.args.levels m (trees c.args.tokens)) c.args.levels m c.trees.still_skipped
    c.trees_skipped-still_skipped.result c.trees.before c.after_leaf-before.result c.trees.rest c.next.new.self
    (trees c.remaining.result) l c.args.builder.now c.trees.builder c.push.new.self c.trees.invariant is no_more
    c.in-Some.ensures.rest c.remaining.ensures
    (c.in_ok-push-in-Leaf.ensures.ok
    ∙ ap (λ k. put (one_leaf k) c.trees.builder)
    (c.in_ok-kept-in-Leaf.ensures ∙ ap (kept l) c.number_at-number.ensures))
    (c.trees_skipped-still_skipped.ensures ∙ ap trees_skipped c.number_at-number.ensures) c.after_leaf-before.ensures

pub trees-preserved : goal.trees-preserved
trees-preserved g t c =
    let b = c.args.builtins in
    let m = c.args.inside in
    let d = c.in-Subtree.group.now.delimiter in
    let bare = c.is_unwrapped-is_bare.result in
    let within = c.in_group-within.result in
    let is : first c.trees.rest ≡ Some (Group_tree d c.in-Subtree.held) =
    sym c.in-Some.ensures.value ∙ ap (λ e. Some (element_tree e)) c.in-Subtree.is in
    let not_more = c.if-still_skipped-gt0.false in
    let no_more : c.trees.still_skipped ≡ 0 = omega (arith, not_more) in
    group_on b (expand_builtins_in b c.args.levels m (trees c.args.tokens)) c.args.levels m within c.trees.still_skipped
    c.trees.before bare c.trees.rest c.next.new.self c.in-Subtree.held d c.args.builder.now c.trees.builder
    c.close.new.builder c.trees.invariant is no_more c.in-Some.ensures.rest c.is_unwrapped-is_bare.ensures
    c.in_group-within.ensures
    (group_written bare d (expand_builtins_in b (c.args.levels - 1) within c.in-Subtree.held) c.trees.builder
    c.open.new.builder
    c.write_builtins.new.builder c.close.new.builder c.in_ok-open-in-Subtree.ensures
    (c.in_ok-write_builtins-in-Subtree.ensures
    ∙ ap (λ f. put (expand_builtins_in b (c.args.levels - 1) within f) c.open.new.builder)
    c.remaining-in-Subtree.ensures)
    c.close.ensures)

pub returns : goal.returns
returns g t c =
    let b = c.args.builtins in
    let m = c.args.inside in
    all_written (expand_builtins_in b c.args.levels m (trees c.args.tokens))
    (left_of b c.args.levels m c.trees.still_skipped c.trees.before c.trees.rest) c.args.builder.now c.trees.builder
    c.trees.invariant
    (none_left b c.args.levels m c.trees.still_skipped c.trees.before c.trees.rest (sym c.in_default.ensures.value))
