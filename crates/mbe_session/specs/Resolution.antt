-- Resolution: which definition a call means. A call resolves to a definition only where no other
-- one can be meant, as far as the names of modules and of `use`s tell.
use Prim.Native.String.{String}
use Rattle.std.specs.Prelude.{ℕ, Bool, not, ◌&&◌, ◌||◌, ◌==◌, ◌-◌, if◌then◌else◌, is_some, codes}
use Rattle.std.specs.Prelude.{nat_le, nat_lt, List, [], ◌∷◌, ◌++◌, map, take}
use Rattle.std.specs.Prelude.{Option, Some, None, option_map, option_and_then}
use Rattle.std.specs.List.{list_any}
use Rattle.std.specs.Option.{option_or}
use Rattle.std.specs.Str.{bytes_eq}
use Rattle.mbe_tt.specs.Trees.Leaf.{is_text}
use Rattle.mbe_semantics.specs.Expansion.Macro.{Macro}
use Rattle.mbe_rewriter.specs.MacroItems.{MacroCall}
use Rattle.mbe_rewriter.specs.Surroundings.{is_standard_macro}
use Rattle.mbe_session.specs.Scopes.{Scope, DeclaredName, definition_at, last_found, last_visible}
use Rattle.mbe_session.specs.Scopes.{unique_extern, unless_rival, Own, OwnExcept, Module}
use Rattle.mbe_session.specs.Scopes.{ModuleExcept, OtherFile, Others, Crate, ExceptCrateOf}
use Rattle.mbe_session.specs.Scopes.{is_in_crate}
use Rattle.mbe_session.specs.declared.scope.Visibility.TheVariants.{Text, Files, Paths, Crates}

-- ---- names that modules and `use`s declare

abbrev pub is_module_name : List ℕ → DeclaredName → Bool
is_module_name name d = is_text d.first (codes "mod") && bytes_eq d.name name

abbrev pub is_used_name : List ℕ → DeclaredName → Bool
is_used_name name d = not (is_text d.first (codes "mod")) && bytes_eq d.name name

-- A `use` whose path doesn't begin with the name declares it.
abbrev pub is_alias_name : List ℕ → DeclaredName → Bool
is_alias_name name d = is_used_name name d && not (bytes_eq d.first name)

abbrev pub has_alias : List DeclaredName → List ℕ → Bool
has_alias ds name = list_any (is_alias_name name) ds

-- A `use` declares the name for something of another name.
abbrev pub is_renamed_name : List ℕ → DeclaredName → Bool
is_renamed_name name d = is_text d.first (codes "") && bytes_eq d.name name

abbrev pub has_use : List DeclaredName → List ℕ → Bool
has_use ds name = list_any (is_used_name name) ds

abbrev pub has_renamed : List DeclaredName → List ℕ → Bool
has_renamed ds name = list_any (is_renamed_name name) ds

abbrev pub has_module : List DeclaredName → List ℕ → Bool
has_module ds name = list_any (is_module_name name) ds

-- A path begins at the module of the call, or at the one around it.
abbrev pub is_relative : List ℕ → Bool
is_relative first = is_text first (codes "self") || is_text first (codes "super")

-- A path begins at the root of its own crate. A template of the crate may name the root `$crate`;
-- templates of external crates have the crate's name in its place.
abbrev pub is_root_name : List ℕ → Bool
is_root_name first = is_text first (codes "crate") || is_text first (codes "$crate")

abbrev pub is_path_keyword : List ℕ → Bool
is_path_keyword first = is_root_name first || is_relative first

-- A path that begins with that name is one of the files' own crate.
abbrev pub is_own_name : List ℕ → List DeclaredName → Bool
is_own_name first ds = is_path_keyword first || has_module ds first

-- A `use` declares the name, as something that may be another crate's.
abbrev pub is_foreign_use : List ℕ → List DeclaredName → DeclaredName → Bool
is_foreign_use name ds d = is_used_name name d && not (is_own_name d.first ds)

abbrev pub is_foreign : List DeclaredName → List ℕ → Bool
is_foreign ds name = list_any (is_foreign_use name ds) ds

abbrev pub with_declared : List ℕ → List ℕ → Scope → Scope
with_declared first name s = record s {
  declared = s.declared ++ (record { first = first; name = name }) ∷ [];
}

-- A module of that name is declared. A second one makes the name doubtful.
abbrev pub with_module : List ℕ → Scope → Scope
with_module name s =
    if has_module s.declared name then with_declared (codes "") name s
    else with_declared (codes "mod") name s

abbrev pub with_all_declared : List DeclaredName → Scope → Scope
with_all_declared ds s = record s { declared = s.declared ++ ds }

abbrev pub with_first_declared : ℕ → Scope → Scope
with_first_declared n s = record s { declared = take n s.declared }

-- ---- macros of the standard library

abbrev pub builtin_macros : List String
builtin_macros =
    "cfg" ∷ "column" ∷ "compile_error" ∷ "concat" ∷ "env" ∷ "file" ∷ "include" ∷ "include_bytes"
    ∷ "include_str" ∷ "is_aarch64_feature_detected" ∷ "is_x86_feature_detected" ∷ "line"
    ∷ "module_path" ∷ "option_env" ∷ "stringify" ∷ "try" ∷ []

abbrev pub is_builtin_macro : List ℕ → Bool
is_builtin_macro name = list_any (is_text name) (map codes builtin_macros)

-- A macro of the standard library has that name without a `use`.
abbrev pub is_prelude_macro : List ℕ → Bool
is_prelude_macro name = is_standard_macro name || is_builtin_macro name

-- ---- names

-- The number of the only definition of that name that paths find.
abbrev pub sole_own : Scope → List ℕ → Option ℕ
sole_own s name =
    option_and_then (λ n. unless_rival n (last_found (OwnExcept n) s Paths name))
    (last_found Own s Paths name)

-- The number of the only one that paths find in modules of that name.
abbrev pub sole_in : Scope → List ℕ → List ℕ → Option ℕ
sole_in s parent name =
    option_and_then (λ n. unless_rival n (last_found (ModuleExcept parent n) s Paths name))
    (last_found (Module parent) s Paths name)

abbrev pub has_own : Scope → List ℕ → Bool
has_own s name = is_some (last_found Own s Paths name)

-- Another crate offers a definition of that name.
abbrev pub is_offered_name : Scope → List ℕ → Bool
is_offered_name s name = is_some (last_found Others s Crates name)

-- A call may define macros that are found outside of its group.
abbrev pub may_define : List DeclaredName → Bool
may_define ds = has_renamed ds (codes "macro_rules")

-- A name that is in no textual scope may be the standard library's or another crate's, or a call may
-- define its macro.
abbrev pub is_doubtful : Scope → List ℕ → Bool
is_doubtful s name =
    is_prelude_macro name || is_foreign s.declared name || is_offered_name s name
    || may_define s.declared

-- The definition of that number is the standard library's.
abbrev pub is_standard : Scope → ℕ → Bool
is_standard s n =
    is_in_crate (codes "std") s.crates n || is_in_crate (codes "core") s.crates n
    || is_in_crate (codes "alloc") s.crates n

-- A name may mean something else than that definition of another crate. A `use` gives it to
-- something of another name, a call may define a macro of that name and no `use` names it, or the
-- standard library has one.
abbrev pub is_other : Scope → List ℕ → ℕ → Bool
is_other s name n =
    has_renamed s.declared name || (may_define s.declared && not (has_use s.declared name))
    || (is_prelude_macro name && not (is_standard s n))

abbrev pub unless_other : Scope → List ℕ → ℕ → Option ℕ
unless_other s name n = if is_other s name n then None else Some n

-- Resolves a name that no definition of the files has, to the one that another crate offers.
abbrev pub resolve_extern : Scope → List ℕ → Option ℕ
resolve_extern s name = option_and_then (unless_other s name) (unique_extern s name)

-- Resolves a name that is in no textual scope, to the only definition that paths find; else to the
-- one that another crate offers.
abbrev pub resolve_import : Scope → List ℕ → Option ℕ
resolve_import s name =
    if has_own s name then (if is_doubtful s name then None else sole_own s name)
    else resolve_extern s name

-- A name may mean another macro than that visible definition. A call may define one that shadows
-- it, or the name may be in the expansion of a `macro` item.
abbrev pub is_shadowed : Scope → List ℕ → ℕ → Bool
is_shadowed s name n =
    has_renamed s.declared (codes "macro_use")
    && (is_prelude_macro name || is_offered_name s name
    || is_some (last_found (OwnExcept n) s Text name))

abbrev pub name_to : Scope → List ℕ → Option ℕ → Option ℕ
name_to s name (Some n) = if is_shadowed s name n then None else Some n
name_to s name None = resolve_import s name

-- Resolves a name, to the last visible definition; else as an import.
abbrev pub resolve_name : Scope → List ℕ → Option ℕ
resolve_name s name = name_to s name (last_visible s name)

-- A definition of the files may have that name where a call is, or a `use` gives it.
abbrev pub is_claimed : Scope → List ℕ → Bool
is_claimed s name =
    is_some (last_visible s name) || has_own s name || has_use s.declared name

-- No definition that was read may have that name where a call is.
abbrev pub is_unclaimed : Scope → List ℕ → Bool
is_unclaimed s name = not (is_claimed s name) && not (is_offered_name s name)

-- Resolves a name that has no other definition, to the last one in no group of another file.
abbrev pub resolve_elsewhere : Scope → ℕ → List ℕ → Option ℕ
resolve_elsewhere s file name =
    if is_prelude_macro name || is_claimed s name then None
    else last_found (OtherFile file) s Files name

-- ---- paths

-- The path begins with `::`.
abbrev pub is_global : MacroCall → Bool
is_global c = not (c.start.start == c.first.span.start)

-- The path is two names, `a::m!(..)`: its tokens follow each other in one file.
abbrev pub is_pair : MacroCall → Bool
is_pair c =
    c.first.span.file == c.name.span.file && c.delimiter.opening.file == c.name.span.file
    && c.name.span.start - c.first.span.end == 2
    && nat_lt c.name.span.end c.delimiter.opening.start
    && nat_le (c.delimiter.opening.start - c.name.span.end) 2

-- Resolves a path of two names by the module that the first one names: the root, or the only module
-- of that name.
abbrev pub resolve_in : Scope → List ℕ → List ℕ → Option ℕ
resolve_in s first name =
    if is_root_name first then sole_in s (codes "") name
    else if has_module s.declared first && not (is_foreign s.declared first) then sole_in s first
    name
    else None

-- Resolves a path by its first and its last name, to the only definition that paths find.
abbrev pub resolve_sole : Scope → List ℕ → List ℕ → Option ℕ
resolve_sole s first name =
    if not (is_own_name first s.declared) || is_foreign s.declared name || is_offered_name s name
    || may_define s.declared
    then None
    else sole_own s name

-- A module may have a macro of that name by a `use` of it, or of `*`.
abbrev pub may_import : List DeclaredName → List ℕ → Bool
may_import ds name = has_use ds name || has_use ds (codes "*")

-- A path may reach the only definition of its last name. A path of two names reaches it by a module
-- of the first name or by a `use`, or if the first name is relative.
abbrev pub may_reach : Scope → Bool → List ℕ → List ℕ → Bool
may_reach s is_pair first name =
    not is_pair || is_relative first || may_import s.declared name
    || is_some (sole_in s first name)

abbrev pub resolve_own : Scope → Bool → List ℕ → List ℕ → Option ℕ
resolve_own s is_pair first name =
    option_or (if is_pair then resolve_in s first name else None)
    (if may_reach s is_pair first name then resolve_sole s first name else None)

-- The first name of a path may be a module of the files, or something that a `use` names, though a
-- crate has that name. A `use` such as `use log::log;` names a macro.
abbrev pub is_hidden : Scope → List ℕ → List ℕ → Bool
is_hidden s first name =
    has_alias s.declared first
    || (has_module s.declared first && (has_own s name || has_use s.declared name))

-- A longer path may reach another macro than that definition of another crate.
abbrev pub has_rival : Scope → List ℕ → ℕ → Bool
has_rival s name n =
    is_prelude_macro name || is_some (last_found (ExceptCrateOf n) s Crates name)

-- A path that begins with a crate's name may mean something else than that definition of the crate.
abbrev pub is_unclear : Scope → MacroCall → ℕ → Bool
is_unclear s c n =
    (not (is_global c) && is_hidden s c.first.sym c.name.sym)
    || (not (is_pair c) && has_rival s c.name.sym n)

abbrev pub path_to : Scope → MacroCall → Option ℕ → Option ℕ
path_to s c (Some n) = if is_unclear s c n then None else Some n
path_to s c None =
    if is_global c then None else resolve_own s (is_pair c) c.first.sym c.name.sym

-- Resolves a path to the last definition of its name that the crate at its start offers, if the
-- path is clear. If the crate offers none and the path doesn't begin with `::`, it resolves to a
-- definition of the files' own crate.
abbrev pub resolve_path : Scope → MacroCall → Option ℕ
resolve_path s c = path_to s c (last_found (Crate c.first.sym) s Crates c.name.sym)

-- ---- calls

-- The number of the definition that a call resolves to.
abbrev pub resolve : Scope → MacroCall → Option ℕ
resolve s c =
    if c.is_path then resolve_path s c
    else option_or (resolve_name s c.name.sym) (resolve_elsewhere s c.name.span.file c.name.sym)

-- The contexts of the tokens of the macro that a call names.
abbrev pub contexts_found : Scope → MacroCall → Option (List ℕ)
contexts_found s c = option_map (λ d. d.contexts) (option_and_then (definition_at s) (resolve s c))

-- The rules of the macro that a call names.
abbrev pub rules_found : Scope → MacroCall → Option Macro
rules_found s c = option_map (λ d. d.rules) (option_and_then (definition_at s) (resolve s c))
