use Rattle.std.proofs.Common.{◌≡◌, Some, None, sym, ap, ◌∙◌}
use Rattle.std.specs.Prelude.{option_map}
use Rattle.mbe_tt.specs.Buffers.GroupStack.{put}
use Rattle.mbe_tt.specs.Trees.Tree.{Leaf_tree, Group_tree, first, one_leaf}
use Rattle.mbe_tt.specs.Views.Element.{element_tree}
use Rattle.mbe_tt.specs.Views.LeafViews.{leaf_of}
use Rattle.mbe_tt.specs.Views.View.{trees}
use Rattle.mbe_rewriter.specs.WholeFragments.VariableParentheses.{pattern_after, rule_group, rules_by}
use Rattle.mbe_rewriter.specs.WholeFragments.VariableParentheses.{parenthesize_rules}
use Rattle.mbe_rewriter.proofs.Worded.TypeLemmas.{no_rule_left, rule_group_on, rule_leaf_on}
use Rattle.mbe_rewriter.proofs.Worded.WrittenLemmas.{all_written}
use Rattle.mbe_rewriter.proofs.whole_fragments.variable_parentheses.write_rules.Goals as goal

pub trees-preserved-in_ok-push-in-Leaf : goal.trees-preserved-in_ok-push-in-Leaf
trees-preserved-in_ok-push-in-Leaf g c =
    let l = leaf_of c.in-Leaf.leaf.now in
    let is : first c.trees.rest ≡ Some (Leaf_tree l) =
    sym c.in-Some.ensures.value ∙ ap (λ e. Some (element_tree e)) c.in-Leaf.is in
    rule_leaf_on (parenthesize_rules (trees c.args.rules)) (option_map trees c.trees.pattern) c.trees.rest
    c.next.new.self l
    c.args.builder.now c.trees.builder c.push.new.self c.trees.invariant is c.in-Some.ensures.rest
    (c.in_ok-push-in-Leaf.ensures.ok ∙ ap (λ k. put (one_leaf k) c.trees.builder) c.in_ok-copy_of-in-Leaf.ensures)

pub trees-preserved-in-None : goal.trees-preserved-in-None
trees-preserved-in-None g c =
    let d = c.in-Subtree.group.now.delimiter in
    let inside = c.in-Subtree.inside in
    let pattern = option_map trees c.trees.pattern in
    let is : first c.trees.rest ≡ Some (Group_tree d inside) =
    sym c.in-Some.ensures.value ∙ ap (λ e. Some (element_tree e)) c.in-Subtree.is in
    rule_group_on (parenthesize_rules (trees c.args.rules)) pattern (Some (trees c.remaining-inside.result))
    c.trees.rest
    c.next.new.self inside d c.args.builder.now c.trees.builder c.write_rule_group.new.builder c.trees.invariant is
    c.in-Some.ensures.rest
    (c.in_ok-write_rule_group-in-Subtree.ensures
    ∙ ap (λ f. put (rule_group pattern d f) c.trees.builder) c.remaining-inside.ensures)
    (ap (λ p. pattern_after (option_map trees p) inside) c.in-None.is ∙ ap Some (sym c.remaining-inside.ensures))

pub trees-preserved : goal.trees-preserved
trees-preserved g c =
    let d = c.in-Subtree.group.now.delimiter in
    let inside = c.in-Subtree.inside in
    let pattern = option_map trees c.trees.pattern in
    let is : first c.trees.rest ≡ Some (Group_tree d inside) =
    sym c.in-Some.ensures.value ∙ ap (λ e. Some (element_tree e)) c.in-Subtree.is in
    rule_group_on (parenthesize_rules (trees c.args.rules)) pattern None c.trees.rest c.next.new.self inside d
    c.args.builder.now c.trees.builder c.write_rule_group.new.builder c.trees.invariant is c.in-Some.ensures.rest
    (c.in_ok-write_rule_group-in-Subtree.ensures
    ∙ ap (λ f. put (rule_group pattern d f) c.trees.builder) c.remaining-inside.ensures)
    (ap (λ p. pattern_after (option_map trees p) inside) c.in-Some-pattern.is)

pub returns : goal.returns
returns g c =
    all_written (parenthesize_rules (trees c.args.rules)) (rules_by (option_map trees c.trees.pattern) c.trees.rest)
    c.args.builder.now c.trees.builder c.trees.invariant
    (no_rule_left (option_map trees c.trees.pattern) c.trees.rest (sym c.in_default.ensures.value))
