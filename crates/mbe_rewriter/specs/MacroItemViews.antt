-- The values of calls, definitions and fronts in the specification, independent of their allocator.
use Rattle.mbe_tt.specs.Views.View.{trees}
use Rattle.mbe_tt.specs.Views.LeafViews.{ident_of}
use Rattle.mbe_tt.specs.Views.Element.{element_tree}
use Rattle.mbe_rewriter.specs.MacroItems as spec
use Rattle.mbe_rewriter.specs.declared.macro_items.Path.{Path}
use Rattle.mbe_rewriter.specs.declared.macro_items.MacroCall.{MacroCall}
use Rattle.mbe_rewriter.specs.declared.macro_items.DefinitionForm.{DefinitionForm}
use Rattle.mbe_rewriter.specs.declared.macro_items.DefinitionForm.TheVariants as f
use Rattle.mbe_rewriter.specs.declared.macro_items.MacroDefinition.{MacroDefinition}
use Rattle.mbe_rewriter.specs.declared.macro_items.FrontItem.{FrontItem}
use Rattle.mbe_rewriter.specs.declared.macro_items.FrontItem.TheVariants as g

abbrev pub path_shown : {A : Type 0} → Path A → spec.Path
path_shown p = record {
  first = ident_of p.first.now;
  name = ident_of p.name.now;
  is_path = p.is_path;
  rest = trees p.rest;
}

abbrev pub call_shown : {A : Type 0} → MacroCall A → spec.MacroCall
call_shown c = record {
  first = ident_of c.first.now;
  name = ident_of c.name.now;
  is_path = c.is_path;
  delimiter = c.group.now.delimiter;
  argument = trees c.argument;
  rest = trees c.rest;
  start = c.start;
  begin = c.begin;
}

abbrev pub definition_form_shown : {A : Type 0} → DefinitionForm A → spec.DefinitionForm
definition_form_shown f.Rules = spec.Rules
definition_form_shown f.Body = spec.Body
definition_form_shown (f.Arguments s pattern) = spec.Arguments s.now.delimiter (trees pattern)

abbrev pub macro_definition_shown : {A : Type 0} → MacroDefinition A → spec.MacroDefinition
macro_definition_shown d = record {
  name = ident_of d.name.now;
  form = definition_form_shown d.form;
  delimiter = d.group.now.delimiter;
  rules = trees d.rules;
  rest = trees d.rest;
}

abbrev pub front_item_shown : {A : Type 0} → FrontItem A → spec.FrontItem
front_item_shown (g.Definition d) = spec.Definition (macro_definition_shown d)
front_item_shown (g.MacroCall c) = spec.CallItem (call_shown c)
front_item_shown (g.Tree t rest) = spec.Other (element_tree t) (trees rest)
front_item_shown g.End = spec.End
