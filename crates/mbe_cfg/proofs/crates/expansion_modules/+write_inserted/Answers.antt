use Rattle.std.proofs.Common.{rules, map, ◌≡◌, ◌-◌, ◌<◌, Some, length, sym, ap, subst, ◌∙◌, arith}
use Rattle.std.specs.Result.{OnOk}
use Rattle.mbe_tt.specs.Buffers.GroupStack.{put}
use Rattle.mbe_tt.specs.Trees.Tree.{Leaf_tree, Group_tree, first, flat_len}
use Rattle.mbe_tt.specs.Views.Element.{element_tree}
use Rattle.mbe_tt.specs.Views.LeafViews.{leaf_of}
use Rattle.mbe_tt.specs.Views.View.{trees}
use Rattle.mbe_tt.proofs.Trees.Firsts.{rest_less}
use Rattle.mbe_cfg.specs.Crates.CrateViews.{insertion_shown}
use Rattle.mbe_cfg.specs.Crates.ExpansionModules.{inserted_at, inserted_in}
use Rattle.mbe_cfg.proofs.DeclareLemmas.{InsertionsLeft, insertion_group_on, insertion_leaf_on, insertions_begin}
use Rattle.mbe_cfg.proofs.DeclareLemmas.{insertions_kept, insertions_written, is_inside, still_open}
use Rattle.mbe_cfg.proofs.crates.expansion_modules.+write_inserted.Goals as goal

pub returns-then-levels-eq0 : goal.returns-then-levels-eq0
returns-then-levels-eq0 g t c =
    subst (λ f. OnOk c.extend_with_tt.result (c.extend_with_tt.new.self ≡ put f c.args.builder.now))
    (sym (insertions_kept c.args.levels (map insertion_shown c.args.insertions.now)
    (trees c.args.tokens) c.if-levels-eq0.true)) c.extend_with_tt.ensures.ok

pub trees-init : goal.trees-init
trees-init g t c =
    let some = c.if-levels-eq0.false in
    let left : 0 < c.args.levels = omega (arith, some) in
    subst (λ f. InsertionsLeft c.args.levels (map insertion_shown c.args.insertions.now)
    (trees c.args.tokens) c.args.builder.now f c.args.builder.now)
    (sym c.iter-rest.ensures)
    (insertions_begin c.args.levels (map insertion_shown c.args.insertions.now)
    (trees c.args.tokens) c.args.builder.now left)

pub trees-smaller-in_ok-write_insertions-in-Leaf : goal.trees-smaller-in_ok-write_insertions-in-Leaf
trees-smaller-in_ok-write_insertions-in-Leaf g t c =
    subst (λ f. flat_len f < flat_len c.trees.rest) (sym c.in-Some.ensures.rest)
    (rest_less c.trees.rest _ (sym c.in-Some.ensures.value))

pub write_insertions-requires : goal.write_insertions-requires
write_insertions-requires g t c =
    let some : 0 < length c.args.builder.now = omega (arith, c.requires) in
    record {
      some = still_open c.trees.builder c.push.new.self _ (omega (arith, some, c.trees.invariant.groups))
          c.in_ok-push-in-Leaf.ensures.ok;
    }

pub trees-preserved-in_ok-write_insertions-in-Leaf : goal.trees-preserved-in_ok-write_insertions-in-Leaf
trees-preserved-in_ok-write_insertions-in-Leaf g t c =
    let l = leaf_of c.in-Leaf.leaf.now in
    let is : first c.trees.rest ≡ Some (Leaf_tree l) =
    sym c.in-Some.ensures.value ∙ ap (λ e. Some (element_tree e)) c.in-Leaf.is in
    subst (λ f. InsertionsLeft c.args.levels (map insertion_shown c.args.insertions.now) (trees c.args.tokens)
    c.args.builder.now f c.write_insertions.new.builder)
    (sym c.in-Some.ensures.rest)
    (insertion_leaf_on c.args.levels (map insertion_shown c.args.insertions.now) (trees c.args.tokens) c.trees.rest
    c.args.builder.now c.trees.builder c.push.new.self c.write_insertions.new.builder l c.trees.invariant is
    (search rules)
    (c.in_ok-write_insertions-in-Leaf.ensures
    ∙ ap (λ s. put (inserted_at (map insertion_shown c.args.insertions.now) s.end) c.push.new.self) c.span_of.ensures))

pub close-requires : goal.close-requires
close-requires g t c =
    let some : 0 < length c.args.builder.now = omega (arith, c.requires) in
    is_inside _ c.args.builder.now c.trees.builder c.open.new.self c.write_inserted.new.builder _ some
    c.trees.invariant.groups
    c.in_ok-open-in-Subtree.ensures.ok c.in_ok-write_inserted-in-Subtree.ensures

pub trees-smaller : goal.trees-smaller
trees-smaller g t c =
    subst (λ f. flat_len f < flat_len c.trees.rest) (sym c.in-Some.ensures.rest)
    (rest_less c.trees.rest _ (sym c.in-Some.ensures.value))

pub trees-preserved : goal.trees-preserved
trees-preserved g t c =
    let d = c.in-Subtree.group.now.delimiter in
    let inside = c.in-Subtree.inside in
    let is : first c.trees.rest ≡ Some (Group_tree d inside) =
    sym c.in-Some.ensures.value ∙ ap (λ e. Some (element_tree e)) c.in-Subtree.is in
    subst (λ f. InsertionsLeft c.args.levels (map insertion_shown c.args.insertions.now) (trees c.args.tokens)
    c.args.builder.now f c.write_insertions-in-Subtree.new.builder)
    (sym c.in-Some.ensures.rest)
    (insertion_group_on c.args.levels (map insertion_shown c.args.insertions.now) (trees c.args.tokens) c.trees.rest
    inside d c.args.builder.now c.trees.builder c.open.new.self c.write_inserted.new.builder c.close.new.self
    c.write_insertions-in-Subtree.new.builder c.trees.invariant is c.in_ok-open-in-Subtree.ensures.ok
    (c.in_ok-write_inserted-in-Subtree.ensures
    ∙ ap (λ f. put (inserted_in (c.args.levels - 1) (map insertion_shown c.args.insertions.now) f) c.open.new.self)
    c.remaining.ensures)
    c.close.ensures c.in_ok-write_insertions-in-Subtree.ensures)

pub returns : goal.returns
returns g t c =
    insertions_written c.args.levels (map insertion_shown c.args.insertions.now)
    (trees c.args.tokens) c.trees.rest c.args.builder.now c.trees.builder
    c.trees.invariant (sym c.in_default.ensures.value)
