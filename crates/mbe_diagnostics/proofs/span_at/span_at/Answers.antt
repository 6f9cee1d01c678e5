use Rattle.std.proofs.Common.{◌≡◌, ◌∙◌, ◌+◌, ◌-◌, ◌<◌, ◌≤◌, Some, sym, ap, arith}
use Rattle.mbe_tt.specs.Trees.Tree.{flat_len, first, rest_of, Leaf_tree, Group_tree}
use Rattle.mbe_tt.specs.Views.Element.{element_tree}
use Rattle.mbe_tt.specs.Views.LeafViews.{leaf_of}
use Rattle.mbe_diagnostics.specs.SpanAt.{span_at}
use Rattle.mbe_diagnostics.proofs.SpanLemmas.{span_none, span_here, span_leaf, span_inside, span_past}
use Rattle.mbe_diagnostics.proofs.span_at.span_at.Goals as goal
use Rattle.mbe_diagnostics.proofs.span_at.span_at.Goals.{After-flat_len-within}

-- in front of a group
module _ (g : _) (c : After-flat_len-within g) where
  is_group : first c.trees.iter ≡ Some (Group_tree c.in-Subtree.group.now.delimiter c.in-Subtree.inside)
  is_group = sym c.in-Some.ensures.value ∙ ap (λ t. Some (element_tree t)) c.in-Subtree.is

  some_left : 0 < c.trees.left
  some_left = let some = c.if-left-eq0.false in omega (arith, some)

  is_len : c.flat_len-within.result ≡ flat_len c.in-Subtree.inside
  is_len = c.flat_len-within.ensures ∙ ap flat_len c.remaining.ensures

pub returns-then-left-eq0 : goal.returns-then-left-eq0
returns-then-left-eq0 g c =
    c.first_span.ensures ∙ sym (span_here c.trees.close c.trees.iter (element_tree c.in-Some.tree) c.trees.left
    (sym c.in-Some.ensures.value) c.if-left-eq0.true) ∙ c.trees.invariant

pub trees-preserved-in_default-tree : goal.trees-preserved-in_default-tree
trees-preserved-in_default-tree g c =
    let l = leaf_of c.in_default-tree.field-0.now in
    let is : first c.trees.iter ≡ Some (Leaf_tree l) =
    sym c.in-Some.ensures.value ∙ ap (λ t. Some (element_tree t)) c.in_default-tree.is in
    let some = c.if-left-eq0.false in
    let left : 0 < c.trees.left = omega (arith, some) in
    ap (λ f. span_at c.trees.close f (c.trees.left - 1)) c.in-Some.ensures.rest
    ∙ sym (span_leaf c.trees.close c.trees.iter l c.trees.left is left) ∙ c.trees.invariant

pub trees-preserved-then-left-within : goal.trees-preserved-then-left-within
trees-preserved-then-left-within g c =
    let here = (goal.at.trees-preserved-then-left-within g c).After-flat_len-within in
    let d = c.in-Subtree.group.now.delimiter in
    let inside = c.in-Subtree.inside in
    let len = is_len g here in
    let test = c.if-left-within.true in
    let within : c.trees.left - 1 ≤ flat_len inside = omega (arith, len, test) in
    sym (span_inside c.trees.close c.trees.iter d inside c.trees.left (is_group g here) (some_left g here) within)
    ∙ c.trees.invariant

pub trees-preserved : goal.trees-preserved
trees-preserved g c =
    let here = (goal.at.trees-preserved g c).After-flat_len-within in
    let d = c.in-Subtree.group.now.delimiter in
    let inside = c.in-Subtree.inside in
    let len = is_len g here in
    let test = c.if-left-within.false in
    let past : flat_len inside < c.trees.left - 1 = omega (arith, len, test) in
    ap (λ f. span_at c.trees.close f (c.trees.left - 1 - (c.flat_len-within.result + 1))) c.in-Some.ensures.rest
    ∙ ap (λ n. span_at c.trees.close (rest_of c.trees.iter) (c.trees.left - 1 - (n + 1))) len
    ∙ sym (span_past c.trees.close c.trees.iter d inside c.trees.left (is_group g here) (some_left g here) past)
    ∙ c.trees.invariant

pub returns : goal.returns
returns g c = sym (span_none c.trees.close c.trees.iter c.trees.left (sym c.in_default.ensures.value))
    ∙ c.trees.invariant
