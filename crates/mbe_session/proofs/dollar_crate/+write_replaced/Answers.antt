use Rattle.std.proofs.Common.{◌≡◌, ◌-◌, ◌<◌, Some, false, length, sym, ap, subst, ◌∙◌, arith}
use Rattle.std.specs.Result.{OnOk}
use Rattle.mbe_tt.specs.Buffers.GroupStack.{put}
use Rattle.mbe_tt.specs.Trees.Tree.{Leaf_tree, Group_tree, first, flat_len}
use Rattle.mbe_tt.specs.Views.Element.{element_tree}
use Rattle.mbe_tt.specs.Views.LeafViews.{leaf_of}
use Rattle.mbe_tt.specs.Views.View.{trees}
use Rattle.mbe_session.specs.DollarCrate.{replaced_in, replaced_leaf}
use Rattle.mbe_tt.proofs.Trees.Firsts.{rest_less}
use Rattle.mbe_session.proofs.NamingLemmas.{Left, all_written, as_they_are, begins, group_on, is_inside, leaf_on}
use Rattle.mbe_session.proofs.dollar_crate.+write_replaced.Goals as goal

pub returns-then-levels-eq0 : goal.returns-then-levels-eq0
returns-then-levels-eq0 t c =
    subst (λ f. OnOk c.extend_with_tt.result (c.extend_with_tt.new.self ≡ put f c.args.builder.now))
    (sym (as_they_are c.args.levels c.args.name.now (trees c.args.tokens) c.if-levels-eq0.true))
    c.extend_with_tt.ensures.ok

pub trees-init : goal.trees-init
trees-init t c =
    let some = c.if-levels-eq0.false in
    let left : 0 < c.args.levels = omega (arith, some) in
    subst (λ f. Left c.args.levels c.args.name.now (trees c.args.tokens) c.args.builder.now false f
    c.args.builder.now)
    (sym c.iter-rest.ensures)
    (begins c.args.levels c.args.name.now (trees c.args.tokens) c.args.builder.now left)

pub write_leaf-requires : goal.write_leaf-requires
write_leaf-requires t c = omega (arith, c.requires, c.trees.invariant.groups)

pub trees-smaller-in-Leaf : goal.trees-smaller-in-Leaf
trees-smaller-in-Leaf t c =
    subst (λ f. flat_len f < flat_len c.trees.rest) (sym c.in-Some.ensures.rest)
    (rest_less c.trees.rest _ (sym c.in-Some.ensures.value))

pub trees-preserved-in-Leaf : goal.trees-preserved-in-Leaf
trees-preserved-in-Leaf t c =
    let l = leaf_of c.in-Leaf.leaf.now in
    let is : first c.trees.rest ≡ Some (Leaf_tree l) =
    sym c.in-Some.ensures.value ∙ ap (λ e. Some (element_tree e)) c.in-Leaf.is in
    subst (λ f. Left c.args.levels c.args.name.now (trees c.args.tokens) c.args.builder.now c.is_dollar-after.result f
    c.write_leaf.new.builder)
    (sym c.in-Some.ensures.rest)
    (leaf_on c.args.levels c.args.name.now (trees c.args.tokens) c.trees.rest c.args.builder.now c.trees.builder
    c.write_leaf.new.builder c.trees.after c.is_dollar-after.result l c.trees.invariant is
    (c.in_ok-write_leaf-in-Leaf.ensures
    ∙ ap (λ f. put (replaced_leaf c.args.name.now c.trees.after l f) c.trees.builder) c.in-Some.ensures.rest)
    c.is_dollar-after.ensures)

pub write_replaced-requires : goal.write_replaced-requires
write_replaced-requires t c = omega (arith, ap length c.in_ok-open-in-Subtree.ensures.ok)

pub close-requires : goal.close-requires
close-requires t c =
    let some : 0 < length c.args.builder.now = omega (arith, c.requires) in
    is_inside _ c.args.builder.now c.trees.builder c.open.new.self c.write_replaced.new.builder _ some
    c.trees.invariant.groups
    c.in_ok-open-in-Subtree.ensures.ok c.in_ok-write_replaced-in-Subtree.ensures

pub trees-smaller : goal.trees-smaller
trees-smaller t c =
    subst (λ f. flat_len f < flat_len c.trees.rest) (sym c.in-Some.ensures.rest)
    (rest_less c.trees.rest _ (sym c.in-Some.ensures.value))

pub trees-preserved : goal.trees-preserved
trees-preserved t c =
    let d = c.in-Subtree.group.now.delimiter in
    let inside = c.in-Subtree.inside in
    let is : first c.trees.rest ≡ Some (Group_tree d inside) =
    sym c.in-Some.ensures.value ∙ ap (λ e. Some (element_tree e)) c.in-Subtree.is in
    subst (λ f. Left c.args.levels c.args.name.now (trees c.args.tokens) c.args.builder.now false f c.close.new.self)
    (sym c.in-Some.ensures.rest)
    (group_on c.args.levels c.args.name.now (trees c.args.tokens) c.trees.rest inside d c.args.builder.now
    c.trees.builder c.open.new.self c.write_replaced.new.builder c.close.new.self c.trees.after c.trees.invariant is
    c.in_ok-open-in-Subtree.ensures.ok
    (c.in_ok-write_replaced-in-Subtree.ensures
    ∙ ap (λ f. put (replaced_in (c.args.levels - 1) c.args.name.now f) c.open.new.self) c.remaining.ensures)
    c.close.ensures)

pub returns : goal.returns
returns t c =
    all_written c.args.levels c.args.name.now (trees c.args.tokens) c.trees.rest c.args.builder.now c.trees.builder
    c.trees.after c.trees.invariant (sym c.in_default.ensures.value)
