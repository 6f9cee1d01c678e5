-- Re-exports: what crates get of others by their exports, after the definitions of all are read.
use Rattle.std.specs.Prelude.{ℕ, zero, suc, Bool, true, false, if◌then◌else◌, is_some, length, List}
use Rattle.std.specs.Prelude.{[], ◌∷◌, ◌++◌, Option, Some, None, option_map}
use Rattle.std.specs.Str.{bytes_eq}
use Rattle.mbe_cfg.specs.CrateExports.Exports.{Export, ExportedMacros, All, One}
use Rattle.mbe_session.specs.Scopes.{Scope, Definition, Crate, definition_at, is_in_crate}
use Rattle.mbe_session.specs.Scopes.{last_found, with_crate}
use Rattle.mbe_session.specs.declared.scope.Visibility.TheVariants.{Crates}

-- The number of the definition that a crate offers by that name.
abbrev pub offered : Scope → List ℕ → List ℕ → Option ℕ
offered s crate name = last_found (Crate crate) s Crates name

-- The definition of that number is one of the crate's, too.
abbrev pub with_reexport : List ℕ → ℕ → Scope → Scope
with_reexport crate n s = record s {
  crates = s.crates
      ++ (record { name = crate; first = n; count = 1 }) ∷ [];
}

-- A copy of a definition, by another name.
abbrev pub copied : List ℕ → Option Definition → Scope → Scope
copied name None s = s
copied name (Some d) s = record s { definitions = s.definitions ++ (record d { name = name }) ∷ [] }

-- The crate has a copy of the definition, by another name.
abbrev pub with_renamed_reexport : List ℕ → List ℕ → ℕ → Scope → Scope
with_renamed_reexport crate name n s =
    with_crate crate (length s.definitions) (copied name (definition_at s n) s)

abbrev pub with_found : List ℕ → List ℕ → List ℕ → Option ℕ → Scope → Scope
with_found crate item name None s = s
with_found crate item name (Some n) s =
    if bytes_eq item name then with_reexport crate n s else with_renamed_reexport crate name n s

-- The crate gets what another one offers as `item`, by a name by which it doesn't offer anything
-- yet.
abbrev pub with_one : List ℕ → List ℕ → List ℕ → List ℕ → Scope → Scope
with_one crate from item name s =
    if is_some (offered s crate name) then s else with_found crate item name (offered s from item) s

abbrev pub with_named : List ℕ → List ℕ → Option (List ℕ) → Scope → Scope
with_named crate from None s = s
with_named crate from (Some name) s = with_one crate from name name s

abbrev pub name_at : Scope → ℕ → Option (List ℕ)
name_at s n = option_map (λ d. d.name) (definition_at s n)

-- The crate gets what another one offers by the name of that definition, if the definition is one
-- of its own.
abbrev pub with_number : List ℕ → List ℕ → ℕ → Scope → Scope
with_number crate from n s =
    if is_in_crate from s.crates n then with_named crate from (name_at s n) s else s

-- The crate gets what another one offers by the names of the first definitions.
unfoldable pub with_first : List ℕ → List ℕ → ℕ → Scope → Scope
with_first crate from zero s = s
with_first crate from (suc n) s = with_number crate from n (with_first crate from n s)

-- The crate gets all that another one offers.
abbrev pub with_all : List ℕ → List ℕ → Scope → Scope
with_all crate from s = with_first crate from (length s.definitions) s

-- ---- exports

-- What one export means: a glob if the flag is true, else one of a single macro. Other exports
-- change nothing.
abbrev pub exported : Bool → List ℕ → List ℕ → ExportedMacros → Scope → Scope
exported true crate from All s = with_all crate from s
exported true crate from (One item name) s = s
exported false crate from All s = s
exported false crate from (One item name) s = with_one crate from item name s

-- One export after another.
abbrev pub all_exported : Bool → List Export → Scope → Scope
all_exported is_all [] s = s
all_exported is_all (e ∷ es) s =
    all_exported is_all es (exported is_all e.by e.from e.exported_macros s)

-- That many rounds. In each, exports of a single macro come before globs.
unfoldable pub linked : ℕ → List Export → Scope → Scope
linked zero es s = s
linked (suc n) es s = linked n es (all_exported true es (all_exported false es s))
