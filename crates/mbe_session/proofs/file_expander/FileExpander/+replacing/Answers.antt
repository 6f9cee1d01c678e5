use Rattle.std.proofs.Common.{◌≡◌, rules, map, refl, ap, ◌∙◌}
use Rattle.mbe_tt.specs.Views.Element.{element_tree}
use Rattle.mbe_tt.specs.Views.View.{trees}
use Rattle.mbe_rewriter.specs.ReplacementViews.{part_of}
use Rattle.mbe_rewriter.specs.declared.macro_items.FrontItem.TheVariants as v
use Rattle.mbe_rewriter.specs.MacroItemViews.{call_shown, macro_definition_shown, front_item_shown}
use Rattle.mbe_session.specs.CallReplacements.{PartsWithin, is_used}
use Rattle.mbe_session.specs.SessionViews.{setting_of, state_of}
use Rattle.mbe_session.proofs.AdjustmentLemmas.{call_less}
use Rattle.mbe_session.proofs.FrontLemmas.{ahead_less}
use Rattle.mbe_session.proofs.CfgFrontLemmas.{piece_is, subject_call, subject_definition, subject_end, subject_less}
use Rattle.mbe_session.proofs.ReplaceLemmas.{none_added, definition_added, tree_added, call_added, all_added}
use Rattle.mbe_session.proofs.ReplaceLemmas.{inside_none, left_group, group_added, kept_added, replaced_added, spent_added}
use Rattle.mbe_session.proofs.ReplaceLemmas.{parts_left}
use Rattle.mbe_session.proofs.file_expander.FileExpander.+replacing.Goals as goal

pub replace_in-trees-init : goal.replace_in-trees-init
replace_in-trees-init g t c = (
  none_added (setting_of c.make_items_visible.new.self) c.args.levels (trees c.args.tokens) (trees c.args.tokens)
      (state_of c.make_items_visible.new.self)
      (state_of c.make_items_visible.new.self) (map part_of c.args.replacements.now.items)
      (map part_of c.args.replacements.now.items) refl refl refl,
  refl,
)

pub replace_in-returns-in-End-clause-adds : goal.replace_in-returns-in-End-clause-adds
replace_in-returns-in-End-clause-adds g t c =
    all_added (setting_of c.args.self.now) (setting_of c.make_items_visible.new.self) c.args.levels
    (trees c.args.tokens)
    (trees c.trees.rest)
    (state_of c.args.self.now) (state_of c.make_items_visible.new.self) (state_of c.trees.self)
    (map part_of c.args.replacements.now.items)
    (map part_of c.trees.replacements.items) c.in_ok-make_items_visible.ensures.setting
    c.in_ok-make_items_visible.ensures.shows
    c.trees.invariant.0
    (subject_end (trees c.trees.rest)
    (piece_is front_item_shown _ v.End _ c.front_item_with_attributes.ensures c.in-End.is))

pub replace_in-trees-smaller-in-Definition : goal.replace_in-trees-smaller-in-Definition
replace_in-trees-smaller-in-Definition g t c =
    ahead_less (trees c.trees.rest) _ (subject_definition (trees c.trees.rest)
    (macro_definition_shown c.in-Definition.defined)
    (piece_is front_item_shown _ (v.Definition c.in-Definition.defined) _ c.front_item_with_attributes.ensures
    c.in-Definition.is))

pub replace_in-trees-preserved-in-Definition : goal.replace_in-trees-preserved-in-Definition
replace_in-trees-preserved-in-Definition g t c = (
  definition_added (setting_of c.make_items_visible.new.self) c.args.levels (trees c.args.tokens) (trees c.trees.rest)
      (macro_definition_shown c.in-Definition.defined) (state_of c.make_items_visible.new.self) (state_of c.trees.self)
      (state_of c.make_rules_visible.new.self)
      (map part_of c.args.replacements.now.items) (map part_of c.trees.replacements.items)
      (map part_of c.trees.replacements.items)
      c.trees.invariant.0
      (piece_is front_item_shown _ (v.Definition c.in-Definition.defined) _ c.front_item_with_attributes.ensures
      c.in-Definition.is)
      c.in_ok-make_rules_visible-in-Definition.ensures.shown refl,
  c.in_ok-make_rules_visible-in-Definition.ensures.setting ∙ c.trees.invariant.1,
)

pub replace_in-trees-smaller-in-MacroCall : goal.replace_in-trees-smaller-in-MacroCall
replace_in-trees-smaller-in-MacroCall g t c =
    call_less (trees c.trees.rest) _ (call_shown c.in-MacroCall.call)
    (subject_call (trees c.trees.rest) (call_shown c.in-MacroCall.call)
    (piece_is front_item_shown _ (v.MacroCall c.in-MacroCall.call) _ c.front_item_with_attributes.ensures
    c.in-MacroCall.is))
    (parts_left _ _ _ _ _ _ _ _ c.in_ok-rest-in-MacroCall.ensures.adds.1)

pub replace_in-trees-preserved-in-MacroCall : goal.replace_in-trees-preserved-in-MacroCall
replace_in-trees-preserved-in-MacroCall g t c = (
  call_added (setting_of c.make_items_visible.new.self) (setting_of c.trees.self) c.args.levels (trees c.args.tokens)
      (trees c.trees.rest) _
      (call_shown c.in-MacroCall.call) (state_of c.make_items_visible.new.self) (state_of c.trees.self)
      (state_of c.replace_call.new.self)
      (map part_of c.args.replacements.now.items) (map part_of c.trees.replacements.items)
      (map part_of c.replace_call.new.replacements.items) c.trees.invariant.1 c.trees.invariant.0
      (piece_is front_item_shown _ (v.MacroCall c.in-MacroCall.call) _ c.front_item_with_attributes.ensures
      c.in-MacroCall.is) c.in_ok-rest-in-MacroCall.ensures.adds,
  c.in_ok-rest-in-MacroCall.ensures.setting ∙ c.trees.invariant.1,
)

pub replace_in-trees-smaller : goal.replace_in-trees-smaller
replace_in-trees-smaller g t c =
    subject_less (trees c.trees.rest) (trees c.in-Tree.after) (element_tree c.in-Tree.tree)
    (piece_is front_item_shown _ (v.Tree c.in-Tree.tree c.in-Tree.after) _ c.front_item_with_attributes.ensures
    c.in-Tree.is)

pub replace_in-trees-preserved : goal.replace_in-trees-preserved
replace_in-trees-preserved g t c = (
  tree_added (setting_of c.make_items_visible.new.self) (setting_of c.trees.self) c.args.levels (trees c.args.tokens)
      (trees c.trees.rest)
      (trees c.in-Tree.after) (element_tree c.in-Tree.tree) (state_of c.make_items_visible.new.self)
      (state_of c.trees.self)
      (state_of c.replace_tree.new.self) (map part_of c.args.replacements.now.items)
      (map part_of c.trees.replacements.items)
      (map part_of c.replace_tree.new.replacements.items) c.trees.invariant.1 c.trees.invariant.0
      (piece_is front_item_shown _ (v.Tree c.in-Tree.tree c.in-Tree.after) _ c.front_item_with_attributes.ensures
      c.in-Tree.is) c.in_ok-replace_tree-in-Tree.ensures.adds,
  c.in_ok-replace_tree-in-Tree.ensures.setting ∙ c.trees.invariant.1,
)

pub replace_tree-returns-then-not-is_used-clause-adds : goal.replace_tree-returns-then-not-is_used-clause-adds
replace_tree-returns-then-not-is_used-clause-adds g t c =
    group_added (PartsWithin (setting_of c.args.self.now) c.args.levels) (element_tree c.args.tree)
    c.in-Subtree.group.now.delimiter
    c.in-Subtree.inside (trees c.remaining.result) (state_of c.args.self.now) (state_of c.replace_inside.new.self) _
    (map part_of c.args.replacements.now.items)
    (map part_of c.replace_inside.new.replacements.items) (ap element_tree c.in-Subtree.is) c.remaining.ensures
    c.in_ok-replace_inside.ensures.adds
    (left_group c.in-Subtree.group.now.delimiter.kind c.enter-mark.result (state_of c.args.self.now)
    (state_of c.replace_inside.new.self) _ c.enter-mark.ensures c.leave.ensures.state)

pub replace_tree-returns-else-not-is_used-clause-adds : goal.replace_tree-returns-else-not-is_used-clause-adds
replace_tree-returns-else-not-is_used-clause-adds g t c =
    group_added (PartsWithin (setting_of c.args.self.now) c.args.levels) (element_tree c.args.tree)
    c.in-Subtree.group.now.delimiter
    c.in-Subtree.inside (trees c.remaining.result) (state_of c.args.self.now) (state_of c.replace_inside.new.self)
    (state_of c.replace_inside.new.self)
    (map part_of c.args.replacements.now.items) (map part_of c.replace_inside.new.replacements.items)
    (ap element_tree c.in-Subtree.is)
    c.remaining.ensures c.in_ok-replace_inside.ensures.adds is_used

pub replace_inside-returns-then-levels-eq0-clause-adds : goal.replace_inside-returns-then-levels-eq0-clause-adds
replace_inside-returns-then-levels-eq0-clause-adds g t c =
    let same : state_of c.note_too_deep_in.new.self ≡ state_of c.args.self.now = search rules in
    inside_none (setting_of c.args.self.now) c.args.levels (trees c.args.tokens) (state_of c.args.self.now)
    (state_of c.note_too_deep_in.new.self)
    (map part_of c.args.replacements.now.items) (map part_of c.args.replacements.now.items) (search rules) refl same

pub replace_call-returns-in_ok-push-in-Some-clause-adds : goal.replace_call-returns-in_ok-push-in-Some-clause-adds
replace_call-returns-in_ok-push-in-Some-clause-adds g t c =
    replaced_added part_of (setting_of c.args.self.now) (setting_of c.expansion.new.self) c.args.levels _ _
    (call_shown c.args.call) c.in-Some.tree _
    (state_of c.args.self.now) (state_of c.expansion.new.self) (state_of c.replacement.new.self)
    c.args.replacements.now.items
    c.push_attributes.new.replacements.items c.push.new.self.items _ c.in_ok-tree.ensures.setting (search rules)
    c.in_ok-tree.ensures.tries c.in-Some.is
    c.in_ok-replacement-in-Some.ensures.part (search rules)
    c.in_ok-push_attributes-in-Some.ensures c.in_ok-push-in-Some.ensures.items

pub replace_call-returns-then-is_spent-clause-adds : goal.replace_call-returns-then-is_spent-clause-adds
replace_call-returns-then-is_spent-clause-adds g t c =
    spent_added (setting_of c.args.self.now) (setting_of c.expansion.new.self) c.args.levels _ _
    (call_shown c.args.call) c.in-Some.tree _ _
    (state_of c.args.self.now) (state_of c.expansion.new.self) (state_of c.replacement.new.self) _
    (map part_of c.args.replacements.now.items) (map part_of c.args.replacements.now.items)
    c.in_ok-tree.ensures.setting (search rules) c.in_ok-tree.ensures.tries c.in-Some.is
    c.in_ok-replacement-in-Some.ensures.part (search rules) (search rules) refl

pub replace_call-returns-in_ok-replace_argument-in-None-clause-adds :
    goal.replace_call-returns-in_ok-replace_argument-in-None-clause-adds
replace_call-returns-in_ok-replace_argument-in-None-clause-adds g t c =
    kept_added (setting_of c.args.self.now) (setting_of c.expansion.new.self) c.args.levels (call_shown c.args.call) _
    (state_of c.args.self.now)
    (state_of c.expansion.new.self) (state_of c.replace_argument.new.self) (map part_of c.args.replacements.now.items)
    (map part_of c.replace_argument.new.replacements.items) c.in_ok-tree.ensures.setting c.in_ok-tree.ensures.tries
    c.in-None.is
    c.in_ok-replace_argument-in-None.ensures.adds
