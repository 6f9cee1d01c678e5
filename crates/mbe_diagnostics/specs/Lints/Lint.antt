-- The type of a lint: a message about a part of a definition.
use Rattle.std.specs.Prelude.{ℕ, Bool, true, false, List, [], ◌∷◌}
use Rattle.std.specs.String.{string_bytes}
use Rattle.mbe_tt.specs.declared.span.Span.{Span}
use Rattle.mbe_diagnostics.specs.declared.diagnostic.Level.{Level}
use Rattle.mbe_diagnostics.specs.declared.diagnostic.Level.TheVariants as levels
use Rattle.mbe_diagnostics.specs.declared.lints.lint.Lint as code

pub record Lint : Type 0 where
  pub level : Level
  pub place : Span
  pub text : List ℕ

-- Whether a lint of that level is a child: it says more about the last error or warning before it.
abbrev pub is_child_level : Level → Bool
is_child_level levels.Error = false
is_child_level levels.Warning = false
is_child_level levels.Note = true
is_child_level levels.Help = true

-- A list of one lint.
unfoldable pub one_lint : Level → Span → List ℕ → List Lint
one_lint level place text = record { level = level; place = place; text = text } ∷ []

abbrev pub error_at : Span → List ℕ → List Lint
error_at place text = one_lint levels.Error place text

abbrev pub warning_at : Span → List ℕ → List Lint
warning_at place text = one_lint levels.Warning place text

abbrev pub note_at : Span → List ℕ → List Lint
note_at place text = one_lint levels.Note place text

abbrev pub help_at : Span → List ℕ → List Lint
help_at place text = one_lint levels.Help place text

-- The lint that the program's value stands for.
abbrev pub lint_seen : {A : Type 0} → code.Lint A → Lint
lint_seen l = record { level = l.level; place = l.span; text = string_bytes l.message }
