use Rattle.std.proofs.Common.{rules, refl, ap, ◌∙◌}
use Rattle.mbe_tt.specs.Views.Element.{element_tree}
use Rattle.mbe_tt.specs.Views.View.{trees}
use Rattle.mbe_rewriter.specs.declared.macro_items.FrontItem.TheVariants as v
use Rattle.mbe_rewriter.specs.MacroItemViews.{call_shown, macro_definition_shown, front_item_shown}
use Rattle.mbe_session.specs.CallExpansion.{Setting}
use Rattle.mbe_session.specs.SessionViews.{module_shown, place_of, scope_of, setting_of}
use Rattle.mbe_session.specs.Imports.{module_at}
use Rattle.mbe_session.proofs.DefineLemmas.{none_defined, definition_defined, call_defined, tree_defined, all_defined}
use Rattle.mbe_session.proofs.DefineLemmas.{module_defined, none_inside, option_is, option_isnt}
use Rattle.mbe_session.proofs.FrontLemmas.{ahead_less, call_ahead, front_definition, front_end, front_is}
use Rattle.mbe_session.proofs.FrontLemmas.{module_ahead}
use Rattle.mbe_session.proofs.file_expander.FileExpander.+defining.Goals as goal

pub define_in-trees-init : goal.define_in-trees-init
define_in-trees-init g t c = (
  none_defined (setting_of c.args.self.now).language c.args.levels (place_of c.args.place) (trees c.args.tokens)
      (scope_of c.args.self.now.scope)
      c.none-attributes.result c.none-attributes.ensures,
  refl,
  refl,
  refl,
  refl,
)

pub define_in-returns-in-End-clause-defines : goal.define_in-returns-in-End-clause-defines
define_in-returns-in-End-clause-defines g t c =
    all_defined (setting_of c.args.self.now).language c.args.levels (place_of c.args.place) (trees c.args.tokens)
    (trees c.trees.rest)
    (scope_of c.args.self.now.scope) (scope_of c.trees.self.scope) c.trees.attributes c.trees.invariant.0
    (front_end (trees c.trees.rest) (front_is front_item_shown c.front_of.result v.End (trees c.trees.rest)
    c.front_of.ensures c.in-End.is))

pub define_in-trees-smaller-in-Definition : goal.define_in-trees-smaller-in-Definition
define_in-trees-smaller-in-Definition g t c =
    ahead_less (trees c.trees.rest) _ (front_definition (trees c.trees.rest)
    (macro_definition_shown c.in-Definition.defined)
    (front_is front_item_shown c.front_of.result (v.Definition c.in-Definition.defined) (trees c.trees.rest)
    c.front_of.ensures c.in-Definition.is))

pub define_in-trees-smaller-in-MacroCall : goal.define_in-trees-smaller-in-MacroCall
define_in-trees-smaller-in-MacroCall g t c =
    ahead_less (trees c.trees.rest) _ (call_ahead (trees c.trees.rest) (call_shown c.in-MacroCall.call)
    (front_is front_item_shown c.front_of.result (v.MacroCall c.in-MacroCall.call) (trees c.trees.rest)
    c.front_of.ensures
    c.in-MacroCall.is))

pub define_in-trees-preserved-in-MacroCall : goal.define_in-trees-preserved-in-MacroCall
define_in-trees-preserved-in-MacroCall g t c = (
  call_defined (setting_of c.args.self.now).language c.args.levels (place_of c.args.place) (trees c.args.tokens)
      (trees c.trees.rest)
      (call_shown c.in-MacroCall.call) (scope_of c.args.self.now.scope) (scope_of c.trees.self.scope) c.trees.attributes
      c.trees.invariant.0
      (front_is front_item_shown c.front_of.result (v.MacroCall c.in-MacroCall.call) (trees c.trees.rest)
      c.front_of.ensures
      c.in-MacroCall.is),
  c.trees.invariant.1,
  c.trees.invariant.2,
  c.trees.invariant.3,
  c.trees.invariant.4,
)

pub define_in-trees-preserved-in-Definition : goal.define_in-trees-preserved-in-Definition
define_in-trees-preserved-in-Definition g t c = (
  definition_defined (setting_of c.args.self.now).language (setting_of c.trees.self).language c.args.levels
      (place_of c.args.place)
      c.visibility.result c.parent.result.now
      (trees c.args.tokens) (trees c.trees.rest) (macro_definition_shown c.in-Definition.defined)
      (scope_of c.args.self.now.scope)
      (scope_of c.trees.self.scope) (scope_of c.read_silently.new.self.scope) c.trees.attributes
      c.after_definition-attributes.result
      (ap (λ (x : Setting). x.language) c.trees.invariant.3) c.trees.invariant.0
      (front_is front_item_shown c.front_of.result (v.Definition c.in-Definition.defined) (trees c.trees.rest)
      c.front_of.ensures c.in-Definition.is)
      c.visibility.ensures c.parent.ensures c.in_ok-_number-in-Definition.ensures.read
      c.after_definition-attributes.ensures,
  c.in_ok-_number-in-Definition.ensures.fuel ∙ c.trees.invariant.1,
  c.in_ok-_number-in-Definition.ensures.contexts ∙ c.trees.invariant.2,
  c.in_ok-_number-in-Definition.ensures.setting ∙ c.trees.invariant.3,
  c.in_ok-_number-in-Definition.ensures.notes ∙ c.trees.invariant.4,
)

pub define_in-trees-smaller-in-Some : goal.define_in-trees-smaller-in-Some
define_in-trees-smaller-in-Some g t c =
    ahead_less (trees c.trees.rest) _ (module_ahead (trees c.trees.rest) (module_shown c.in-Some.item)
    (option_is module_shown c.module_at.result (module_at (trees c.trees.rest)) c.in-Some.item c.module_at.ensures
    c.in-Some.is))

pub define_in-trees-preserved-in-Some : goal.define_in-trees-preserved-in-Some
define_in-trees-preserved-in-Some g t c = (
  module_defined (setting_of c.args.self.now).language (setting_of c.trees.self).language c.args.levels
      (place_of c.args.place)
      (trees c.args.tokens) (trees c.trees.rest) (trees c.in-Tree.after) (element_tree c.in-Tree.tree)
      (module_shown c.in-Some.item)
      (scope_of c.args.self.now.scope)
      (scope_of c.trees.self.scope) (scope_of c.define_module.new.self.scope) c.trees.attributes
      c.none-attributes-in-Some.result
      (ap (λ (x : Setting). x.language) c.trees.invariant.3) c.trees.invariant.0
      (front_is front_item_shown c.front_of.result (v.Tree c.in-Tree.tree c.in-Tree.after) (trees c.trees.rest)
      c.front_of.ensures c.in-Tree.is)
      (option_is module_shown c.module_at.result (module_at (trees c.trees.rest)) c.in-Some.item c.module_at.ensures
      c.in-Some.is)
      c.in_ok-define_module-in-Some.ensures.defines c.none-attributes-in-Some.ensures,
  c.in_ok-define_module-in-Some.ensures.fuel ∙ c.trees.invariant.1,
  c.in_ok-define_module-in-Some.ensures.contexts ∙ c.trees.invariant.2,
  c.in_ok-define_module-in-Some.ensures.setting ∙ c.trees.invariant.3,
  c.in_ok-define_module-in-Some.ensures.notes ∙ c.trees.invariant.4,
)

pub define_in-trees-preserved : goal.define_in-trees-preserved
define_in-trees-preserved g t c = (
  tree_defined (setting_of c.args.self.now).language (setting_of c.trees.self).language c.args.levels
      (place_of c.args.place)
      (trees c.args.tokens) (trees c.trees.rest) (trees c.in-Tree.after) (element_tree c.in-Tree.tree)
      (scope_of c.args.self.now.scope)
      (scope_of c.trees.self.scope) (scope_of c.define_tree.new.self.scope) c.trees.attributes
      c.with_front_attribute.result
      c.after-attributes.result
      (ap (λ (x : Setting). x.language) c.trees.invariant.3) c.trees.invariant.0
      (front_is front_item_shown c.front_of.result (v.Tree c.in-Tree.tree c.in-Tree.after) (trees c.trees.rest)
      c.front_of.ensures c.in-Tree.is)
      (option_isnt module_shown c.module_at.result (module_at (trees c.trees.rest)) c.module_at.ensures c.in-None.is)
      c.with_front_attribute.ensures c.in_ok-define_tree-in-None.ensures.defines
      c.after-attributes.ensures,
  c.in_ok-define_tree-in-None.ensures.fuel ∙ c.trees.invariant.1,
  c.in_ok-define_tree-in-None.ensures.contexts ∙ c.trees.invariant.2,
  c.in_ok-define_tree-in-None.ensures.setting ∙ c.trees.invariant.3,
  c.in_ok-define_tree-in-None.ensures.notes ∙ c.trees.invariant.4,
)

pub define_inside-returns-then-levels-eq0-clause-defines : goal.define_inside-returns-then-levels-eq0-clause-defines
define_inside-returns-then-levels-eq0-clause-defines g t c =
    none_inside (setting_of c.args.self.now).language c.args.levels (place_of c.args.place) (trees c.args.tokens)
    (scope_of c.args.self.now.scope) (search rules)
