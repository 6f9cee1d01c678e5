-- Collects the definitions of a file, in order, and decides by what each one is found.
use Rattle.std.specs.Prelude.{◌≡◌, ◌==◌, ℕ, zero, suc, Bool, true, false, not, ◌||◌, ◌&&◌}
use Rattle.std.specs.Prelude.{if◌then◌else◌}
use Rattle.std.specs.Prelude.{codes, List, length, Option, Some, None}
use Rattle.mbe_tt.specs.Trees.Leaf.{Leaf, literal, punct, ident, is_text}
use Rattle.mbe_tt.specs.Trees.Tree.{Forest, Tree, Leaf_tree, Group_tree, none}
use Rattle.mbe_tt.specs.declared.tt.DelimiterKind.{DelimiterKind}
use Rattle.mbe_tt.specs.declared.tt.DelimiterKind.TheVariants.{Parenthesis, Brace, Bracket}
use Rattle.mbe_tt.specs.declared.tt.DelimiterKind.TheVariants.{Invisible}
use Rattle.mbe_rewriter.specs.Surroundings.{attribute_of}
use Rattle.mbe_rewriter.specs.MacroItems.{MacroCall, MacroDefinition, Definition, CallItem, Other}
use Rattle.mbe_rewriter.specs.MacroItems.{front, is_item}
use Rattle.mbe_session.specs.Scopes.{Scope, IsReadAs, Language, with_crate}
use Rattle.mbe_session.specs.Resolution.{with_module, with_all_declared, with_first_declared}
use Rattle.mbe_session.specs.Imports.{ModuleItem, is_imported_in, module_at, names_of_use}
use Rattle.mbe_session.specs.declared.file_expander.collector.MacroAttributes.{MacroAttributes}
use Rattle.mbe_session.specs.declared.scope.Visibility.{Visibility}
use Rattle.mbe_session.specs.declared.scope.Visibility.TheVariants.{Text, Files, Paths, Crates}

-- ---- attributes before an item

abbrev pub no_attributes : MacroAttributes
no_attributes = record { is_exported = false; is_used = false; is_builtin = false }

abbrev pub with_attribute : List ℕ → MacroAttributes → MacroAttributes
with_attribute name m =
    if is_text name (codes "macro_export") then record m { is_exported = true }
    else if is_text name (codes "macro_use") then record m { is_used = true }
    else if is_text name (codes "rustc_builtin_macro") then record m { is_builtin = true }
    else m

abbrev pub with_attribute_if : Option (List ℕ) → MacroAttributes → MacroAttributes
with_attribute_if None m = m
with_attribute_if (Some name) m = with_attribute name m

-- With the attribute at the front of these trees, if there is one.
abbrev pub with_front_attribute : Forest → MacroAttributes → MacroAttributes
with_front_attribute f m = with_attribute_if (attribute_of f) m

-- Braces end an item.
abbrev pub after_group : DelimiterKind → MacroAttributes → MacroAttributes
after_group Brace m = no_attributes
after_group Parenthesis m = m
after_group Bracket m = m
after_group Invisible m = m

-- So does a `;`.
abbrev pub after_leaf : Leaf → MacroAttributes → MacroAttributes
after_leaf (punct p) m = if p.char == 59 then no_attributes else m
after_leaf (ident i) m = m
after_leaf (literal l) m = m

abbrev pub after_tree : Tree → MacroAttributes → MacroAttributes
after_tree (Leaf_tree l) m = after_leaf l m
after_tree (Group_tree d inside) m = after_group d.kind m

-- After a definition, which had the export.
abbrev pub after_definition : MacroAttributes → MacroAttributes
after_definition m = record { is_exported = false; is_used = m.is_used; is_builtin = false }

-- ---- places

-- The place of trees. It has the name of the innermost module around them, which is empty at the
-- root of a crate. It says whether the only groups around them are modules under `#[macro_use]`,
-- whether the innermost group is a module or there is none, and whether all groups are modules.
pub record TreePlace : Type 0 where
  pub parent : List ℕ
  pub is_top : Bool
  pub is_item : Bool
  pub is_reached : Bool

abbrev pub root_place : Bool → TreePlace
root_place is_top =
    record { parent = codes ""; is_top = is_top; is_item = true; is_reached = true }

abbrev pub in_group : TreePlace → TreePlace
in_group p = record { parent = p.parent; is_top = false; is_item = false; is_reached = false }

abbrev pub in_module : List ℕ → Bool → TreePlace → TreePlace
in_module name is_used p = record {
  parent = name;
  is_top = p.is_top && is_used;
  is_item = true;
  is_reached = p.is_reached;
}

-- ---- definitions

-- A definition is exported by `#[macro_export]`, and isn't built into the compiler.
abbrev pub exports : MacroAttributes → MacroDefinition → Bool
exports m d = m.is_exported && not m.is_builtin && not (is_item d.form)

-- A `macro` item of a module, or of the root.
abbrev pub is_module_item : TreePlace → MacroAttributes → MacroDefinition → Bool
is_module_item p m d = p.is_item && is_item d.form && not m.is_builtin

-- By what a definition is found. Paths of other crates find what is exported, and `macro` items
-- that are in no other group than modules. Paths also find a `macro` item of a module in another
-- group, and a definition in a module that a `use` after it in its group imports. Names of other
-- files find one in no group.
abbrev pub visibility_of : TreePlace → MacroAttributes → MacroDefinition → Visibility
visibility_of p m d =
    if exports m d || (is_module_item p m d && p.is_reached) then Crates
    else if is_module_item p m d || (p.is_item && is_imported_in d.name.sym d.rest) then Paths
    else if p.is_top then Files else Text

-- The name of the module in which paths find a definition. What is exported is at the root.
abbrev pub parent_of : TreePlace → MacroAttributes → MacroDefinition → List ℕ
parent_of p m d = if exports m d then codes "" else p.parent

-- That trees at a place lead from one scope to another.
abbrev pub Reading : Type 1
Reading = TreePlace → Forest → Scope → Scope → Type 0

-- A module declares its name, and its definitions are read.
abbrev pub DefinesModule : Reading → TreePlace → Bool → ModuleItem → Scope → Scope → Type 0
DefinesModule within p is_used m s t =
    within (in_module m.name.sym is_used p) m.inside (with_module m.name.sym s) t

-- The tree at the front of trees is read. With a leaf, a `use` may begin, which declares names.
abbrev pub DefinesTree : Reading → TreePlace → Forest → Tree → Scope → Scope → Type 0
DefinesTree within p f (Leaf_tree l) s t = t ≡ with_all_declared (names_of_use f) s
DefinesTree within p f (Group_tree d inside) s t = within (in_group p) inside s t

-- One front after another, with the attributes before it.
pub data DefinesAll (language : Language) (within : Reading) (p : TreePlace) : MacroAttributes
    → Forest → Scope → Scope
    → Type 0 where
  ends : (m : MacroAttributes) (s : Scope) → DefinesAll language within p m none s s
  at_definition : (m : MacroAttributes) (f : Forest) (d : MacroDefinition) (s t u : Scope) → front f
      ≡ Definition d
      → IsReadAs language d (visibility_of p m d) (parent_of p m d) s t
      → DefinesAll language within p (after_definition m) d.rest t u
      → DefinesAll language within p m f s u
  at_call : (m : MacroAttributes) (f : Forest) (c : MacroCall) (s t : Scope) → front f ≡ CallItem c
      → DefinesAll language within p m c.rest s t
      → DefinesAll language within p m f s t
  at_module : (m : MacroAttributes) (f rest : Forest) (tree : Tree) (x : ModuleItem)
      (s t u : Scope) → front f ≡ Other tree rest
      → module_at f ≡ Some x
      → DefinesModule within p m.is_used x s t
      → DefinesAll language within p no_attributes x.rest t u
      → DefinesAll language within p m f s u
  at_tree : (m : MacroAttributes) (f rest : Forest) (tree : Tree) (s t u : Scope) → front f
      ≡ Other tree rest
      → module_at f ≡ None
      → DefinesTree within p f tree s t
      → DefinesAll language within p (after_tree tree (with_front_attribute f m)) rest t u
      → DefinesAll language within p m f s u

-- The definitions of trees at a place are read, where groups may still be nested that deep.
unfoldable pub DefinesIn : Language → ℕ → Reading
DefinesIn language zero p f s t = t ≡ s
DefinesIn language (suc levels) p f s t =
    DefinesAll language (DefinesIn language levels) p no_attributes f s t

-- The same for the trees of a root.
abbrev pub Defines : Language → ℕ → Bool → Forest → Scope → Scope → Type 0
Defines language levels is_top = DefinesIn language levels (root_place is_top)

-- The definitions of another crate's trees are read as definitions of that crate. The names that it
-- declares don't count.
abbrev pub DefinesExternCrate : Language → ℕ → List ℕ → Forest → Scope → Scope → Type 0
DefinesExternCrate language levels name f s t =
    (read : Scope) × Defines language levels true f s read
    × (t ≡ with_crate name (length s.definitions)
    (with_first_declared (length s.declared) read))
