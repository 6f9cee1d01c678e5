use Rattle.std.proofs.Common.{◌≡◌, ◌-◌, ◌<◌, Some, false, sym, ap, subst, ◌∙◌, arith}
use Rattle.std.specs.Result.{OnOk}
use Rattle.mbe_tt.specs.Buffers.GroupStack.{put}
use Rattle.mbe_tt.specs.Trees.Tree.{Leaf_tree, Group_tree, first}
use Rattle.mbe_tt.specs.Views.Element.{element_tree}
use Rattle.mbe_tt.specs.Views.LeafViews.{leaf_of}
use Rattle.mbe_tt.specs.Views.View.{trees}
use Rattle.mbe_rewriter.specs.WholeFragments.VariableParentheses.{parenthesized_in}
use Rattle.mbe_rewriter.proofs.Worded.TypeLemmas.{all_left, as_they_are, group_on, leaf_on, left_of, none_left}
use Rattle.mbe_rewriter.proofs.Worded.WrittenLemmas.{Left, all_written, begins, group_written}
use Rattle.mbe_rewriter.proofs.whole_fragments.variable_parentheses.+write_parenthesized.Goals as goal

pub returns-then-levels-eq0 : goal.returns-then-levels-eq0
returns-then-levels-eq0 g t c =
    subst (λ f. OnOk c.extend_with_tt.result (c.extend_with_tt.new.self ≡ put f c.args.builder.now))
    (sym (as_they_are (trees c.args.pattern) c.args.levels (trees c.args.tokens) c.if-levels-eq0.true))
    c.extend_with_tt.ensures.ok

pub trees-init : goal.trees-init
trees-init g t c =
    let pattern = trees c.args.pattern in
    let all = trees c.args.tokens in
    let whole = parenthesized_in pattern c.args.levels all in
    let not_zero = c.if-levels-eq0.false in
    let some : 0 < c.args.levels = omega (arith, not_zero) in
    subst (λ f. Left whole c.args.builder.now (left_of pattern c.args.levels false f) c.args.builder.now)
    (sym c.iter-rest.ensures)
    (begins whole (left_of pattern c.args.levels false all) c.args.builder.now
    (all_left pattern c.args.levels all some))

pub trees-preserved-in-Leaf : goal.trees-preserved-in-Leaf
trees-preserved-in-Leaf g t c =
    let pattern = trees c.args.pattern in
    let l = leaf_of c.in-Leaf.leaf.now in
    let is : first c.trees.rest ≡ Some (Leaf_tree l) =
    sym c.in-Some.ensures.value ∙ ap (λ e. Some (element_tree e)) c.in-Leaf.is in
    leaf_on pattern (parenthesized_in pattern c.args.levels (trees c.args.tokens)) c.args.levels c.trees.is_written
    c.in_ok-is_written-in-Leaf.is_written c.trees.rest c.next.new.self (trees c.remaining.result) l c.args.builder.now
    c.trees.builder c.write_leaf.new.builder c.trees.invariant is c.if-is_written.false c.in-Some.ensures.rest
    c.remaining.ensures c.in_ok-is_written-in-Leaf.ensures.kept c.in_ok-is_written-in-Leaf.ensures.written

pub trees-preserved : goal.trees-preserved
trees-preserved g t c =
    let pattern = trees c.args.pattern in
    let d = c.in-Subtree.group.now.delimiter in
    let is : first c.trees.rest ≡ Some (Group_tree d c.in-Subtree.inside) =
    sym c.in-Some.ensures.value ∙ ap (λ e. Some (element_tree e)) c.in-Subtree.is in
    group_on pattern (parenthesized_in pattern c.args.levels (trees c.args.tokens)) c.args.levels c.trees.is_written
    c.trees.rest c.next.new.self c.in-Subtree.inside d c.args.builder.now c.trees.builder c.close.new.self
    c.trees.invariant is c.if-is_written.false c.in-Some.ensures.rest
    (group_written d (parenthesized_in pattern (c.args.levels - 1) c.in-Subtree.inside) c.trees.builder c.open.new.self
    c.write_parenthesized.new.builder c.close.new.self c.in_ok-open-in-Subtree.ensures.ok
    (c.in_ok-write_parenthesized-in-Subtree.ensures
    ∙ ap (λ f. put (parenthesized_in pattern (c.args.levels - 1) f) c.open.new.self) c.remaining-in-Subtree.ensures)
    c.close.ensures)

pub returns : goal.returns
returns g t c =
    let pattern = trees c.args.pattern in
    all_written (parenthesized_in pattern c.args.levels (trees c.args.tokens))
    (left_of pattern c.args.levels c.trees.is_written c.trees.rest) c.args.builder.now c.trees.builder c.trees.invariant
    (none_left pattern c.args.levels c.trees.is_written c.trees.rest (sym c.in_default.ensures.value))
