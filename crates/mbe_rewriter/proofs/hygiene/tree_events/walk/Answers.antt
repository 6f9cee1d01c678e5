use Rattle.std.proofs.Common.{rules, refl, ap, ◌∙◌, map}
use Rattle.mbe_tt.specs.Views.LeafViews.{leaf_of}
use Rattle.mbe_rewriter.specs.declared.hygiene.tree_events.TreeEvent.TheVariants as code
use Rattle.mbe_rewriter.specs.Hygiene.EventViews.{event_of}
use Rattle.mbe_rewriter.specs.Hygiene.ScanState.{after_leaf, after_group, inside_group}
use Rattle.mbe_rewriter.specs.Hygiene.TreeEvents.{token, opening, leaf_role}
use Rattle.mbe_rewriter.proofs.Renaming.WalkLemmas.{begins, one_shown, leaf_on, group_on, pop_on, all_done}
use Rattle.mbe_rewriter.proofs.hygiene.tree_events.walk.Goals as goal

pub tokens-init : goal.tokens-init
tokens-init g c =
    begins _ _ _ _ _ _ (ap (map event_of) c.requires.found) c.requires.open_groups refl
    c.iter-iter.ensures

pub tokens-preserved-in-Some-Leaf : goal.tokens-preserved-in-Some-Leaf
tokens-preserved-in-Some-Leaf g c =
    let l = leaf_of c.in-Some-Leaf.leaf.now in
    let s = c.tokens.scan in
    let role = c.leaf_role.ensures ∙ ap (leaf_role s l) c.remaining-rest.ensures in
    leaf_on (map event_of c.tokens.found.items) (map event_of c.push.new.self.items) _ s c.after_leaf-scan.result
    c.tokens.iter c.next.new.self c.tokens.open_groups.items l c.next.ensures.rest (search rules)
    (one_shown event_of c.tokens.found.items c.push.new.self.items
    (code.Leaf c.in-Some-Leaf.leaf c.leaf_role.result) _ (search rules) (ap (token l) role))
    (c.after_leaf-scan.ensures ∙ ap (after_leaf s l) c.remaining-rest.ensures) c.tokens.invariant

pub tokens-preserved-in-Some-Subtree : goal.tokens-preserved-in-Some-Subtree
tokens-preserved-in-Some-Subtree g c =
    let d = c.in-Some-Subtree.group.now.delimiter in
    let s = c.tokens.scan in
    group_on (map event_of c.tokens.found.items) (map event_of c.push-in-Some-Subtree.new.self.items) _ s
    c.after_group-after.result c.inside_group-scan.result c.tokens.iter c.next.new.self c.in-Some-Subtree.inside
    c.tokens.open_groups.items c.push-in-Some-Subtree-2.new.self.items d c.next.ensures.rest (search rules)
    (one_shown event_of c.tokens.found.items c.push-in-Some-Subtree.new.self.items
    (code.Open d.kind d.opening c.group_role-role.result) _ (search rules)
    (ap (opening d.kind d.opening) c.group_role-role.ensures))
    (c.after_group-after.ensures ∙ ap (after_group s d.kind) c.remaining.ensures) (search rules)
    (c.inside_group-scan.ensures ∙ ap (inside_group s d.kind) c.remaining-in-Some-Subtree.ensures) c.tokens.invariant

pub tokens-preserved : goal.tokens-preserved
tokens-preserved g c =
    pop_on (map event_of c.tokens.found.items) (map event_of c.push-in-Some.new.self.items) _ c.tokens.scan
    c.in-Some.after c.tokens.iter c.in-Some.rest c.tokens.open_groups.items c.pop.new.self.items c.in-Some.close.0
    c.in-Some.close.1 (search rules)
    (one_shown event_of c.tokens.found.items c.push-in-Some.new.self.items
    (code.Close c.in-Some.close.0 c.in-Some.close.1) _ (search rules) refl)
    (search rules) c.tokens.invariant

pub returns-in-None-pop : goal.returns-in-None-pop
returns-in-None-pop g c =
    all_done (map event_of c.tokens.found.items) _ c.tokens.scan c.tokens.iter c.tokens.open_groups.items (search rules)
    (search rules) c.tokens.invariant
