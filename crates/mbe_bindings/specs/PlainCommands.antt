-- What commands bind that aren't nested and bind a name each.
use Rattle.std.specs.Prelude.{◌≡◌, ℕ, List, [], ◌∷◌, ◌++◌, map, slice_get, Option, Some, None}
use Rattle.std.specs.Str.{bytes_eq}
use Rattle.std.specs.List.{IsDistinct}
use Rattle.mbe_log.specs.declared.log.Command as code
use Rattle.mbe_log.specs.FragmentViews.{fragment_seen}
use Rattle.mbe_semantics.specs.Syntax.Op.{Name}
use Rattle.mbe_semantics.specs.Bindings.Environment.{Environment, fragment, empty, missing}
use Rattle.mbe_semantics.specs.Bindings.Account.{empty_fragment}

-- the bound names, in order
abbrev pub names_of : Environment → List Name
names_of env = map (λ e. e.0) env

module _ {A : Type 0} where
  -- the name that the command binds
  abbrev pub entry_name : code.Command A → Option Name
  entry_name (code.TheVariants.Fragment name x) = Some name
  entry_name (code.TheVariants.Optional name) = Some name
  entry_name (code.TheVariants.Empty name) = Some name
  entry_name (code.TheVariants.Missing name kind) = Some name
  entry_name (code.TheVariants.Nested finished current) = None

  -- the binding that the command makes
  abbrev pub entry_row : code.Command A → Environment
  entry_row (code.TheVariants.Fragment name x) = (name, fragment (fragment_seen x)) ∷ []
  entry_row (code.TheVariants.Optional name) = (name, fragment empty_fragment) ∷ []
  entry_row (code.TheVariants.Empty name) = (name, empty) ∷ []
  entry_row (code.TheVariants.Missing name kind) = (name, missing kind) ∷ []
  entry_row (code.TheVariants.Nested finished current) = []

  abbrev pub entry_rows : List (code.Command A) → Environment
  entry_rows [] = []
  entry_rows (x ∷ xs) = entry_row x ++ entry_rows xs

  -- the command binds the name at the index
  abbrev pub BindsNameAt : code.Command A → List Name → ℕ → Type 0
  BindsNameAt x names index = (name : Name) × (entry_name x ≡ Some name)
      × (slice_get names index ≡ Some name)

  -- each command binds a name, and no two the same one
  abbrev pub BindDistinctNames : List (code.Command A) → Type 0
  BindDistinctNames xs = (names : List Name) × (map entry_name xs ≡ map Some names)
      × IsDistinct bytes_eq names
