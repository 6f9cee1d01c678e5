use Rattle.std.proofs.Common.{◌≡◌, ◌-◌, ◌<◌, Some, length, sym, ap, subst, ◌∙◌, arith}
use Rattle.std.specs.Result.{OnOk}
use Rattle.mbe_tt.specs.Buffers.GroupStack.{put}
use Rattle.mbe_tt.specs.Trees.Tree.{Leaf_tree, Group_tree, first, flat_len, one_leaf}
use Rattle.mbe_tt.specs.Views.Element.{element_tree}
use Rattle.mbe_tt.specs.Views.LeafViews.{leaf_of}
use Rattle.mbe_tt.specs.Views.View.{trees}
use Rattle.mbe_tt.proofs.Trees.Firsts.{rest_less}
use Rattle.mbe_cfg.specs.Crates.ExpansionModules.{at_span}
use Rattle.mbe_cfg.proofs.DeclareLemmas.{SpanLeft, is_inside, span_begins, span_group_on, span_kept, span_leaf_on}
use Rattle.mbe_cfg.proofs.DeclareLemmas.{span_written}
use Rattle.mbe_cfg.proofs.crates.expansion_modules.+write_at.Goals as goal

pub returns-then-levels-eq0 : goal.returns-then-levels-eq0
returns-then-levels-eq0 g t c =
    subst (λ f. OnOk c.extend_with_tt.result (c.extend_with_tt.new.self ≡ put f c.args.builder.now))
    (sym (span_kept c.args.levels c.args.at (trees c.args.tokens) c.if-levels-eq0.true)) c.extend_with_tt.ensures.ok

pub trees-init : goal.trees-init
trees-init g t c =
    let some = c.if-levels-eq0.false in
    let left : 0 < c.args.levels = omega (arith, some) in
    subst (λ f. SpanLeft c.args.levels c.args.at (trees c.args.tokens) c.args.builder.now f c.args.builder.now)
    (sym c.iter-rest.ensures) (span_begins c.args.levels c.args.at (trees c.args.tokens) c.args.builder.now left)

pub trees-smaller-in_ok-push-in-Leaf : goal.trees-smaller-in_ok-push-in-Leaf
trees-smaller-in_ok-push-in-Leaf g t c =
    subst (λ f. flat_len f < flat_len c.trees.rest) (sym c.in-Some.ensures.rest)
    (rest_less c.trees.rest _ (sym c.in-Some.ensures.value))

pub trees-preserved-in_ok-push-in-Leaf : goal.trees-preserved-in_ok-push-in-Leaf
trees-preserved-in_ok-push-in-Leaf g t c =
    let l = leaf_of c.in-Leaf.leaf.now in
    let is : first c.trees.rest ≡ Some (Leaf_tree l) =
    sym c.in-Some.ensures.value ∙ ap (λ e. Some (element_tree e)) c.in-Leaf.is in
    subst (λ f. SpanLeft c.args.levels c.args.at (trees c.args.tokens) c.args.builder.now f c.push.new.self)
    (sym c.in-Some.ensures.rest)
    (span_leaf_on c.args.levels c.args.at (trees c.args.tokens) c.trees.rest c.args.builder.now c.trees.builder
    c.push.new.self l c.trees.invariant is
    (c.in_ok-push-in-Leaf.ensures.ok ∙ ap (λ x. put (one_leaf x) c.trees.builder) c.in_ok-leaf_at-in-Leaf.ensures))

pub close-requires : goal.close-requires
close-requires g t c =
    let some : 0 < length c.args.builder.now = omega (arith, c.requires) in
    is_inside _ c.args.builder.now c.trees.builder c.open.new.self c.write_at.new.builder _ some
    c.trees.invariant.groups
    c.in_ok-open-in-Subtree.ensures.ok c.in_ok-write_at-in-Subtree.ensures

pub trees-smaller : goal.trees-smaller
trees-smaller g t c =
    subst (λ f. flat_len f < flat_len c.trees.rest) (sym c.in-Some.ensures.rest)
    (rest_less c.trees.rest _ (sym c.in-Some.ensures.value))

pub trees-preserved : goal.trees-preserved
trees-preserved g t c =
    let d = c.in-Subtree.group.now.delimiter in
    let inside = c.in-Subtree.inside in
    let is : first c.trees.rest ≡ Some (Group_tree d inside) =
    sym c.in-Some.ensures.value ∙ ap (λ e. Some (element_tree e)) c.in-Subtree.is in
    subst (λ f. SpanLeft c.args.levels c.args.at (trees c.args.tokens) c.args.builder.now f c.close.new.self)
    (sym c.in-Some.ensures.rest)
    (span_group_on c.args.levels c.args.at (trees c.args.tokens) c.trees.rest inside d c.args.builder.now
    c.trees.builder c.open.new.self c.write_at.new.builder c.close.new.self c.trees.invariant is
    c.in_ok-open-in-Subtree.ensures.ok
    (c.in_ok-write_at-in-Subtree.ensures
    ∙ ap (λ f. put (at_span (c.args.levels - 1) c.args.at f) c.open.new.self) c.remaining.ensures)
    c.close.ensures)

pub returns : goal.returns
returns g t c =
    span_written c.args.levels c.args.at (trees c.args.tokens) c.trees.rest c.args.builder.now c.trees.builder
    c.trees.invariant (sym c.in_default.ensures.value)
