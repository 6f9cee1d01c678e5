-- What scopes and expanders stand for, whatever memory holds them.
use Rattle.std.specs.Prelude.{map, option_map}
use Rattle.std.specs.String.{string_bytes}
use Rattle.mbe.specs.MacroViews.{macro_of}
use Rattle.mbe_grammar.specs.Tables.Lawful.{grammar_of}
use Rattle.mbe_tt.specs.Views.Element.{element_tree}
use Rattle.mbe_tt.specs.Views.LeafViews.{ident_of}
use Rattle.mbe_tt.specs.Views.View.{trees}
use Rattle.mbe_rewriter.specs.MacroItemViews.{call_shown, macro_definition_shown}
use Rattle.mbe_session.specs.CallExpansion as calls
use Rattle.mbe_session.specs.Collector as collector
use Rattle.mbe_session.specs.Imports as imports
use Rattle.mbe_session.specs.CfgFront as pieces
use Rattle.mbe_session.specs.Scopes as spec
use Rattle.mbe_session.specs.declared.cfg_front.CfgFront.{CfgFront}
use Rattle.mbe_session.specs.declared.cfg_front.CfgFront.TheVariants as p
use Rattle.mbe_session.specs.declared.scope.Definition.{Definition}
use Rattle.mbe_session.specs.declared.scope.CrateFilter.{CrateFilter}
use Rattle.mbe_session.specs.declared.scope.CrateFilter.TheVariants as a
use Rattle.mbe_session.specs.declared.scope.CrateDefinitions.{CrateDefinitions}
use Rattle.mbe_session.specs.declared.scope.Scope.{Scope}
use Rattle.mbe_session.specs.declared.scope.resolution.DeclaredName.{DeclaredName}
use Rattle.mbe_session.specs.declared.imports.ModuleItem.{ModuleItem}
use Rattle.mbe_session.specs.declared.imports.UsedPath.{UsedPath}
use Rattle.mbe_session.specs.declared.file_expander.collector.TreePlace.{TreePlace}
use Rattle.mbe_session.specs.declared.file_expander.FileExpander.{FileExpander}

abbrev pub definition_of : {A : Type 0} → Definition A → spec.Definition
definition_of d = record {
  name = string_bytes d.name;
  rules = macro_of d.rules;
  contexts = d.contexts.items;
  visibility = d.visibility;
  parent = string_bytes d.parent;
  place = d.place;
}

abbrev pub declared_name_of : {A : Type 0} → DeclaredName A → spec.DeclaredName
declared_name_of d = record { first = string_bytes d.first; name = string_bytes d.name }

-- The place of trees, and a module.
abbrev pub place_of : TreePlace → collector.TreePlace
place_of p = record {
  parent = p.parent.now;
  is_top = p.is_top;
  is_item = p.is_item;
  is_reached = p.is_reached;
}

abbrev pub module_shown : {A : Type 0} → ModuleItem A → imports.ModuleItem
module_shown m =
    record { name = ident_of m.name.now; inside = trees m.inside; rest = trees m.rest }

abbrev pub used_path_of : UsedPath → imports.UsedPath
used_path_of p =
    record { first = option_map (λ s. s.now) p.first; follows_as = p.follows_as }

abbrev pub crate_definitions_of : {A : Type 0} → CrateDefinitions A → spec.CrateDefinitions
crate_definitions_of c = record { name = string_bytes c.name; first = c.first; count = c.count }

abbrev pub crate_filter_shown : CrateFilter → spec.CrateFilter
crate_filter_shown a.Own = spec.Own
crate_filter_shown (a.OwnExcept n) = spec.OwnExcept n
crate_filter_shown (a.Module name) = spec.Module name.now
crate_filter_shown (a.ModuleExcept name n) = spec.ModuleExcept name.now n
crate_filter_shown (a.OtherFile n) = spec.OtherFile n
crate_filter_shown a.Others = spec.Others
crate_filter_shown (a.Crate name) = spec.Crate name.now
crate_filter_shown (a.ExceptCrateOf n) = spec.ExceptCrateOf n

abbrev pub scope_of : {A : Type 0} → Scope A → spec.Scope
scope_of s = record {
  definitions = map definition_of s.definitions.items;
  visible = s.visible.items;
  crates = map crate_definitions_of s.crates.items;
  declared = map declared_name_of s.declared.items;
}

abbrev pub setting_of : {A : Type 0} → FileExpander A → calls.Setting
setting_of x = record {
  grammar = grammar_of x.grammar;
  conditions = x.conditions;
  language = record { dialect = x.grammar.dialect; edition = x.scope.edition };
  depth = x.settings.depth;
}

-- What the fronts of an expansion stand for.
abbrev pub cfg_front_shown : {A : Type 0} → CfgFront A → pieces.CfgFront
cfg_front_shown (p.Disabled rest) = pieces.disabled (trees rest)
cfg_front_shown (p.Definition d) = pieces.definition (macro_definition_shown d)
cfg_front_shown (p.MacroCall c) = pieces.call (call_shown c)
cfg_front_shown (p.Tree t rest) = pieces.tree (element_tree t) (trees rest)
cfg_front_shown p.End = pieces.end

abbrev pub state_of : {A : Type 0} → FileExpander A → calls.State
state_of x = record { scope = scope_of x.scope; fuel = x.fuel; contexts = x.contexts.items }
