-- The settings under which the files of a crate are read: an external crate's own edition and
-- features, or the session's.
use Rattle.std.specs.Prelude.{◌-◌, ℕ, List, Option, Some, None, false, map, if◌then◌else◌, nat_lt}
use Rattle.std.specs.List.{slice_get}
use Rattle.mbe_tt.specs.declared.span.Edition.{Edition}
use Rattle.mbe_grammar.specs.declared.tables.peg_table.RuleTable.{RuleTable}
use Rattle.mbe_session.specs.declared.session_options.CrateSettings.{CrateSettings}
use Rattle.mbe_session.specs.declared.source_settings.SourceSettings.{SourceSettings}
use Rattle.mbe_session.specs.Conditions.{Conditions}
use Rattle.mbe_session.specs.SourceSettings.{AreSourceSettings}

-- The edition of a crate. `None` stands for a crate without settings of its own.
abbrev pub edition_in : Edition → Option CrateSettings → Edition
edition_in run None = run
edition_in run (Some own) = own.edition

-- The conditions of a crate. `test` isn't set for a crate with settings of its own.
abbrev pub conditions_in : Conditions → Option CrateSettings → Conditions
conditions_in run None = run
conditions_in run (Some own) = record {
  target = run.target;
  given = run.given;
  features = map (λ f. f.now) own.features.items;
  is_test = false;
}

-- The settings that file `number` is read under are those of its crate, which `own` says, with that
-- table for all crates.
abbrev pub AreFileSettings : RuleTable → Edition → Conditions → (ℕ → Option CrateSettings) → ℕ
    → SourceSettings
    → Type 0
AreFileSettings table edition c own number r =
    AreSourceSettings table (edition_in edition (own number)) (conditions_in c (own number)) r

-- An external crate's own settings, if there is such a crate.
abbrev pub settings_of : Option (Option CrateSettings) → Option CrateSettings
settings_of None = None
settings_of (Some own) = own

-- The settings of the external crate with that root. The first `root_count` files are the roots of
-- the session's own crates; those of external crates follow, in order.
abbrev pub settings_of_root : ℕ → List (Option CrateSettings) → Option ℕ → Option CrateSettings
settings_of_root root_count externs None = None
settings_of_root root_count externs (Some root) =
    if nat_lt root root_count then None else settings_of (slice_get externs (root - root_count))

-- The settings of the external crate that file `number` is of. `roots` has the root of each file.
abbrev pub settings_at : List ℕ → ℕ → List (Option CrateSettings) → ℕ → Option CrateSettings
settings_at roots root_count externs number =
    settings_of_root root_count externs (slice_get roots number)
