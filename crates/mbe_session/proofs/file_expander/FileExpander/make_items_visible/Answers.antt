use Rattle.std.proofs.Common.{◌∙◌}
use Rattle.mbe_tt.specs.Views.Element.{element_tree}
use Rattle.mbe_tt.specs.Views.View.{trees}
use Rattle.mbe_rewriter.specs.declared.macro_items.FrontItem.TheVariants as v
use Rattle.mbe_rewriter.specs.MacroItemViews.{call_shown, macro_definition_shown, front_item_shown}
use Rattle.mbe_session.specs.SessionViews.{state_of}
use Rattle.mbe_session.proofs.FrontLemmas.{ahead_less, call_ahead, front_definition, front_end, front_is}
use Rattle.mbe_session.proofs.ReplaceLemmas.{definition_shown, call_shown_on, tree_shown_on, all_shown}
use Rattle.mbe_session.proofs.file_expander.FileExpander.make_items_visible.Goals as goal

pub returns-in-End-clause-shows : goal.returns-in-End-clause-shows
returns-in-End-clause-shows g c =
    all_shown (trees c.args.tokens) (trees c.trees.rest) (state_of c.args.self.now) (state_of c.trees.self)
    c.trees.invariant.0
    (front_end (trees c.trees.rest) (front_is front_item_shown c.front_of.result v.End (trees c.trees.rest)
    c.front_of.ensures c.in-End.is))

pub trees-smaller-in-Definition : goal.trees-smaller-in-Definition
trees-smaller-in-Definition g c =
    ahead_less (trees c.trees.rest) _ (front_definition (trees c.trees.rest)
    (macro_definition_shown c.in-Definition.defined)
    (front_is front_item_shown c.front_of.result (v.Definition c.in-Definition.defined) (trees c.trees.rest)
    c.front_of.ensures c.in-Definition.is))

pub trees-preserved-in-Definition : goal.trees-preserved-in-Definition
trees-preserved-in-Definition g c = (
  definition_shown (trees c.args.tokens) (trees c.trees.rest) (macro_definition_shown c.in-Definition.defined)
      (state_of c.args.self.now)
      (state_of c.trees.self) (state_of c.make_item_visible.new.self) c.trees.invariant.0
      (front_is front_item_shown c.front_of.result (v.Definition c.in-Definition.defined) (trees c.trees.rest)
      c.front_of.ensures c.in-Definition.is) c.in_ok-make_item_visible-in-Definition.ensures.shown,
  c.in_ok-make_item_visible-in-Definition.ensures.setting ∙ c.trees.invariant.1,
)

pub trees-smaller-in-MacroCall : goal.trees-smaller-in-MacroCall
trees-smaller-in-MacroCall g c =
    ahead_less (trees c.trees.rest) _ (call_ahead (trees c.trees.rest) (call_shown c.in-MacroCall.call)
    (front_is front_item_shown c.front_of.result (v.MacroCall c.in-MacroCall.call) (trees c.trees.rest)
    c.front_of.ensures
    c.in-MacroCall.is))

pub trees-preserved-in-MacroCall : goal.trees-preserved-in-MacroCall
trees-preserved-in-MacroCall g c = (
  call_shown_on (trees c.args.tokens) (trees c.trees.rest) (call_shown c.in-MacroCall.call) (state_of c.args.self.now)
      (state_of c.trees.self)
      c.trees.invariant.0 (front_is front_item_shown c.front_of.result (v.MacroCall c.in-MacroCall.call)
      (trees c.trees.rest)
      c.front_of.ensures c.in-MacroCall.is),
  c.trees.invariant.1,
)

pub trees-preserved : goal.trees-preserved
trees-preserved g c = (
  tree_shown_on (trees c.args.tokens) (trees c.trees.rest) (trees c.in-Tree.after) (element_tree c.in-Tree.field-0)
      (state_of c.args.self.now)
      (state_of c.trees.self) c.trees.invariant.0
      (front_is front_item_shown c.front_of.result (v.Tree c.in-Tree.field-0 c.in-Tree.after) (trees c.trees.rest)
      c.front_of.ensures c.in-Tree.is),
  c.trees.invariant.1,
)
