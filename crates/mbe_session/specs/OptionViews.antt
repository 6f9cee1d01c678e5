-- What options hold, in any allocator.
use Rattle.std.specs.Prelude.{ℕ, List, Option, length, map}
use Rattle.mbe_session.specs.Conditions.{Conditions}
use Rattle.mbe_session.specs.CrateSettings.{settings_at}
use Rattle.mbe_session.specs.Scopes.{Language}
use Rattle.mbe_session.specs.declared.session_options.CrateSettings.{CrateSettings}
use Rattle.mbe_session.specs.declared.session_options.SessionOptions.{SessionOptions}

abbrev pub conditions_of : {A : Type 0} → SessionOptions A → Conditions
conditions_of o = record {
  target = o.target;
  given = o.given.items;
  features = map (λ f. f.now) o.features.items;
  is_test = o.is_test;
}

-- The dialect, and the edition of the files that have none of their own.
abbrev pub language_of : {A : Type 0} → SessionOptions A → Language
language_of o = record { dialect = o.dialect; edition = o.edition }

-- The names of the external crates.
abbrev pub names_of : {A : Type 0} → SessionOptions A → List (List ℕ)
names_of o = map (λ x. x.name.now) o.externs.items

-- The settings of the external crate that a file is of, by the roots of the files.
abbrev pub own_of : {A : Type 0} → SessionOptions A → List ℕ → ℕ → Option CrateSettings
own_of o roots = settings_at roots (length o.names.items) (map (λ x. x.settings) o.externs.items)
