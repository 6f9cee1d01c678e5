-- The lints of the definitions of files.
use Rattle.std.specs.Prelude.{◌≡◌, List, [], ◌∷◌, map, Option, Some}
use Rattle.std.specs.Prelude.{None}
use Rattle.mbe_tt.specs.declared.span.Edition.{Edition}
use Rattle.mbe_tt.specs.Trees.Top.{Top}
use Rattle.mbe_grammar.specs.declared.tables.peg_table.RuleTable.{RuleTable}
use Rattle.mbe_session.specs.Scopes.{IsEdition}
use Rattle.mbe_diagnostics.specs.Lints.Definitions.{definitions}
use Rattle.mbe_diagnostics.specs.Lints.Lint.{Lint}
use Rattle.mbe_diagnostics.specs.Lints.Linter.{AreLinted}
use Rattle.mbe_session.specs.Conditions.{Conditions}
use Rattle.mbe_session.specs.CrateSettings.{AreFileSettings}
use Rattle.mbe_session.specs.SourceSettings.{IsFileTable}
use Rattle.mbe_session.specs.Sources.{Source, Text, AreSources, source_text}

-- The lints of a file's definitions are added. A file that isn't Rust has none.
abbrev pub FileLints : Edition → Option Top → List Lint → List Lint → Type 0
FileLints edition None before after = after ≡ before
FileLints edition (Some tree) before after =
    AreLinted (IsEdition edition) (definitions 1001 tree.1) before after

-- The lints of the definitions of each file are added, in order.
abbrev pub FilesLinted : Edition → List (Option Top) → List Lint → List Lint → Type 0
FilesLinted edition [] before after = after ≡ before
FilesLinted edition (file ∷ files) before after =
    (mid : List Lint) × FileLints edition file before mid × FilesLinted edition files mid after

-- The lints of the definitions of files with these texts. Definitions that a `cfg` disables are
-- left out. One table of Rust's grammar is for all files.
pub record AreTextsLinted (edition : Edition) (c : Conditions) (texts : List Text)
    (files : List Source)
    (lints : List Lint) : Type 0 where
  pub texts_are : map source_text files ≡ texts
  pub table : RuleTable
  pub is_file_table : IsFileTable edition table
  pub are_read : AreSources (AreFileSettings table edition c (λ _. None)) files
  pub linted : FilesLinted edition (map (λ f. f.tree) files) [] lints
