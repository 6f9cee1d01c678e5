-- The scope of macros: the definitions that were read, and which of them a call resolves to.
use Rattle.std.specs.Prelude.{◌≡◌, ℕ, zero, suc, Bool, true, false, not, ◌&&◌, ◌==◌, ◌-◌}
use Rattle.std.specs.Prelude.{if◌then◌else◌, nat_le, nat_lt, List, [], ◌∷◌, ◌++◌, length, take}
use Rattle.std.specs.Prelude.{Option, Some, None, option_and_then, codes}
use Rattle.std.specs.List.{list_any, slice_get}
use Rattle.std.specs.Str.{bytes_eq}
use Rattle.mbe_tt.specs.declared.grammar.Dialect.{Dialect}
use Rattle.mbe_tt.specs.declared.grammar.Dialect.TheVariants.{RustAnalyzer, Rustc}
use Rattle.mbe_tt.specs.declared.span.Edition.{Edition}
use Rattle.mbe_tt.specs.declared.span.Span.{Span}
use Rattle.mbe_tt.specs.declared.span.SyntaxContext.{SyntaxContext}
use Rattle.mbe_tt.specs.Trees.Tree.{Forest}
use Rattle.mbe_semantics.specs.Expansion.Macro.{Macro}
use Rattle.mbe_semantics.specs.Expansion.ParsedMacro.{IsParsedRules, IsParsedMacro}
use Rattle.mbe_rewriter.specs.MacroItems.{DefinitionForm, Rules, Body, Arguments}
use Rattle.mbe_rewriter.specs.MacroItems.{MacroDefinition, is_item}
use Rattle.mbe_rewriter.specs.DefiningWords.{defining_words, may_define, may_shadow}
use Rattle.mbe_rewriter.specs.declared.defining_words.DefiningWords.{DefiningWords}
use Rattle.mbe_rewriter.specs.Hygiene.Contexts.{contexts_in}
use Rattle.mbe_rewriter.specs.WholeFragments.VariableParentheses.{parenthesized, parenthesize_rules}
use Rattle.mbe_session.specs.declared.scope.Visibility.{Visibility}
use Rattle.mbe_session.specs.declared.scope.Visibility.TheVariants.{Text, Files, Paths, Crates}

-- A definition has a name with its span, rules, and the contexts of its tokens. It also has what it
-- is found by, and the name of the module in which paths find it. That name is empty for the root.
pub record Definition : Type 0 where
  pub name : List ℕ
  pub rules : Macro
  pub contexts : List ℕ
  pub visibility : Visibility
  pub parent : List ℕ
  pub place : Span

-- Definitions of another crate: the name of the crate, the number of the first definition, and how
-- many follow each other from there on.
pub record CrateDefinitions : Type 0 where
  pub name : List ℕ
  pub first : ℕ
  pub count : ℕ

-- A name that a module or a `use` declares. For a module, `first` is `mod`. For a `use`, it is the
-- first name of the path. It is empty if the name means something else there: after `as`, and for a
-- second module of a name.
--
-- A definition declares `macro_rules` if a call of it may define a macro that is found outside of
-- the call's group. It declares `macro_use` if names after a call, or in its expansion, may mean
-- another macro than the last visible one. Their first name is empty.
pub record DeclaredName : Type 0 where
  pub first : List ℕ
  pub name : List ℕ

-- A scope has the definitions that were read, in order, and the numbers of the ones that are
-- visible at present, the latest last. It also has the definitions of other crates, and the names
-- that modules and `use`s declare.
pub record Scope : Type 0 where
  pub definitions : List Definition
  pub visible : List ℕ
  pub crates : List CrateDefinitions
  pub declared : List DeclaredName

abbrev pub empty_scope : Scope
empty_scope = record { definitions = []; visible = []; crates = []; declared = [] }

-- The definition of that number.
abbrev pub definition_at : Scope → ℕ → Option Definition
definition_at s n = slice_get s.definitions n

-- ---- reading

-- Every context is of that edition.
abbrev pub IsEdition : Edition → SyntaxContext → Edition → Type 0
IsEdition edition context answer = answer ≡ edition

-- The dialect and the edition in which definitions are read.
pub record Language : Type 0 where
  pub dialect : Dialect
  pub edition : Edition

-- The rules of a definition, and a template after its pattern, as they are parsed. In
-- rust-analyzer's dialect, types and receivers are in parentheses where their text would be read
-- otherwise. rustc keeps fragments whole.
abbrev pub rules_in : Dialect → Forest → Forest
rules_in RustAnalyzer rules = parenthesize_rules rules
rules_in Rustc rules = rules

abbrev pub template_in : Dialect → Forest → Forest → Forest
template_in RustAnalyzer pattern template = parenthesized pattern template
template_in Rustc pattern template = template

-- What a definition of a form is read as.
abbrev pub IsReadIn : Language → DefinitionForm → MacroDefinition → Macro → Type 0
IsReadIn l Rules d m = IsParsedRules (IsEdition l.edition) (rules_in l.dialect d.rules) m
IsReadIn l Body d m = IsParsedMacro (IsEdition l.edition) None (rules_in l.dialect d.rules) m
IsReadIn l (Arguments k pattern) d m =
    IsParsedMacro (IsEdition l.edition) (Some pattern) (template_in l.dialect pattern d.rules) m

-- A name that a definition declares, if it does.
abbrev pub declared_if : Bool → List ℕ → List DeclaredName
declared_if true name = (record { first = codes ""; name = name }) ∷ []
declared_if false name = []

-- What a definition with those words declares.
abbrev pub names_of_words : Bool → DefiningWords → List DeclaredName
names_of_words is_macro_item words =
    declared_if (may_define words) (codes "macro_rules")
    ++ declared_if (may_shadow is_macro_item words) (codes "macro_use")

abbrev pub names_of_definition : MacroDefinition → List DeclaredName
names_of_definition d = names_of_words (is_item d.form) (defining_words d.rules)

-- A scope with one definition more, which isn't visible yet, and which paths find in modules of
-- that name. A macro that may define others declares names.
pub record IsReadAs (language : Language) (d : MacroDefinition) (visibility : Visibility)
    (parent : List ℕ) (before after : Scope) : Type 0 where
  pub rules : Macro
  pub read : IsReadIn language d.form d rules
  pub definitions : after.definitions
      ≡ before.definitions ++ (record {
        name = d.name.sym;
        rules = rules;
        contexts = contexts_in d.rules;
        visibility = visibility;
        parent = parent;
        place = d.name.span;
      }) ∷ []
  pub visible : after.visible ≡ before.visible
  pub crates : after.crates ≡ before.crates
  pub declared : after.declared ≡ before.declared ++ names_of_definition d

-- The same for a definition of an expansion, which counts as one of the root.
abbrev pub IsRead : Language → MacroDefinition → Visibility → Scope → Scope → Type 0
IsRead language d visibility before after =
    IsReadAs language d visibility (codes "") before after

-- ---- other crates

abbrev pub is_within : ℕ → CrateDefinitions → Bool
is_within n c = nat_le c.first n && nat_lt (n - c.first) c.count

abbrev pub is_named : List ℕ → ℕ → CrateDefinitions → Bool
is_named name n c = bytes_eq c.name name && is_within n c

abbrev pub contains_both : ℕ → ℕ → CrateDefinitions → Bool
contains_both m n c = is_within m c && is_within n c

-- Whether that definition is another crate's.
abbrev pub is_extern : List CrateDefinitions → ℕ → Bool
is_extern crates n = list_any (is_within n) crates

-- Whether it is one of the crate of that name.
abbrev pub is_in_crate : List ℕ → List CrateDefinitions → ℕ → Bool
is_in_crate crate crates n = list_any (is_named crate n) crates

-- Whether two definitions are of the same other crate.
abbrev pub is_in_same_crate : ℕ → List CrateDefinitions → ℕ → Bool
is_in_same_crate m crates n = list_any (contains_both m n) crates

-- Whether paths find a definition in modules of that name.
abbrev pub is_of_module : List ℕ → Option Definition → Bool
is_of_module parent None = false
is_of_module parent (Some d) = bytes_eq d.parent parent

abbrev pub is_of_file : ℕ → Option Definition → Bool
is_of_file file None = false
is_of_file file (Some d) = d.place.file == file

-- The definitions that a lookup searches.
--
-- - `Own`: the definitions of no other crate. `OwnExcept` leaves out one of them.
-- - `Module`: the own definitions in modules of that name. `ModuleExcept` leaves out one of them.
-- - `OtherFile`: the own definitions in any other file.
-- - `Others`: the definitions of all other crates.
-- - `Crate`: the definitions of the crate of that name.
-- - `ExceptCrateOf`: the definitions of all other crates except the crate of that definition.
pub data CrateFilter : Type 0 where
  Own : CrateFilter
  OwnExcept : ℕ → CrateFilter
  Module : List ℕ → CrateFilter
  ModuleExcept : List ℕ → ℕ → CrateFilter
  OtherFile : ℕ → CrateFilter
  Others : CrateFilter
  Crate : List ℕ → CrateFilter
  ExceptCrateOf : ℕ → CrateFilter

abbrev pub is_own : Scope → ℕ → Bool
is_own s n = not (is_extern s.crates n)

abbrev pub is_admitted : Scope → CrateFilter → ℕ → Bool
is_admitted s Own n = is_own s n
is_admitted s (OwnExcept m) n = is_own s n && not (n == m)
is_admitted s (Module name) n = is_own s n && is_of_module name (definition_at s n)
is_admitted s (ModuleExcept name m) n =
    is_own s n && is_of_module name (definition_at s n) && not (n == m)
is_admitted s (OtherFile file) n = is_own s n && not (is_of_file file (definition_at s n))
is_admitted s Others n = is_extern s.crates n
is_admitted s (Crate name) n = is_in_crate name s.crates n
is_admitted s (ExceptCrateOf m) n = is_extern s.crates n && not (is_in_same_crate m s.crates n)

-- The definitions from the number `first` on belong to the crate of that name.
abbrev pub with_crate : List ℕ → ℕ → Scope → Scope
with_crate name first s = record s {
  crates = s.crates ++ (record {
    name = name;
    first = first;
    count = length s.definitions - first;
  }) ∷ [];
}

-- ---- lookup

-- The last number below `n` that passes the test.
unfoldable pub last_below : (ℕ → Bool) → ℕ → Option ℕ
last_below p zero = None
last_below p (suc n) = if p n then Some n else last_below p n

-- A name that finds no other definition finds one in no group of another file.
abbrev pub is_wide : Visibility → Bool
is_wide Text = false
is_wide Files = true
is_wide Paths = false
is_wide Crates = false

abbrev pub is_public : Visibility → Bool
is_public Text = false
is_public Files = false
is_public Paths = true
is_public Crates = true

-- Other crates find definitions that are exported, and `macro` items.
abbrev pub is_offered : Visibility → Bool
is_offered Text = false
is_offered Files = false
is_offered Paths = false
is_offered Crates = true

-- Whether a lookup of the first kind finds a definition with the second reach.
abbrev pub permits : Visibility → Visibility → Bool
permits Text r = true
permits Files r = is_wide r
permits Paths r = is_public r
permits Crates r = is_offered r

abbrev pub is_public_definition : Option Definition → Bool
is_public_definition None = false
is_public_definition (Some d) = permits Paths d.visibility

-- Whether a definition has that name, and a lookup of the kind `asked` finds it.
abbrev pub is_found : List ℕ → Visibility → Option Definition → Bool
is_found name asked None = false
is_found name asked (Some d) = permits asked d.visibility && bytes_eq d.name name

-- The number of the last definition with that name which the lookup finds.
abbrev pub last_found : CrateFilter → Scope → Visibility → List ℕ → Option ℕ
last_found crate_filter s asked name =
    last_below (λ n. is_admitted s crate_filter n
    && is_found name asked (definition_at s n)) (length s.definitions)

abbrev pub unless_rival : ℕ → Option ℕ → Option ℕ
unless_rival m None = Some m
unless_rival m (Some n) = None

-- The number of the definition that another crate offers by that name, if only one crate does.
abbrev pub unique_extern : Scope → List ℕ → Option ℕ
unique_extern s name =
    option_and_then (λ n. unless_rival n (last_found (ExceptCrateOf n) s Crates name))
    (last_found Others s Crates name)

-- The definition at that index of those that are visible.
abbrev pub visible_at : Scope → ℕ → Option Definition
visible_at s n = option_and_then (definition_at s) (slice_get s.visible n)

-- The number of the last visible definition of that name.
abbrev pub last_visible : Scope → List ℕ → Option ℕ
last_visible s name = option_and_then (slice_get s.visible)
    (last_below (λ n. is_found name Text (visible_at s n)) (length s.visible))

-- ---- spans

-- Whether the name of a definition begins there.
abbrev pub is_placed : Span → Option Definition → Bool
is_placed place None = false
is_placed place (Some d) = d.place.file == place.file && d.place.start == place.start

-- The number of the definition whose name begins there.
abbrev pub placed : Scope → Span → Option ℕ
placed s place = last_below (λ n. is_placed place (definition_at s n)) (length s.definitions)

-- Whether paths find the definition whose name begins there.
abbrev pub is_placed_by_path : Scope → Span → Bool
is_placed_by_path s place =
    is_public_definition (option_and_then (definition_at s) (placed s place))

-- ---- groups

-- That definition is visible from here on.
abbrev pub with_shown : ℕ → Scope → Scope
with_shown n s = record s { visible = s.visible ++ n ∷ [] }

-- Only the first `mark` definitions stay visible: those from before a group.
abbrev pub with_left : ℕ → Scope → Scope
with_left mark s = record s { visible = take mark s.visible }
