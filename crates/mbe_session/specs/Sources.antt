-- Source files.
use Rattle.std.specs.Prelude.{ℕ, List, [], ◌∷◌, ◌++◌, length, Option}
use Rattle.mbe_tt.specs.Trees.Top.{Top}
use Rattle.mbe_session.specs.declared.source_settings.SourceSettings.{SourceSettings}
use Rattle.mbe_session.specs.CallModules.{CallText, IsWithCalls}
use Rattle.mbe_session.specs.LineEndings.{normalized}
use Rattle.mbe_session.specs.TextTrees.{IsTreeOf}

-- A file before it is lexed: its path, its text, and calls with the texts of their expansions.
pub record Text : Type 0 where
  pub path : List ℕ
  pub text : List ℕ
  pub calls : List CallText

-- A file: its path, its text, calls with the texts of their expansions, and its trees if it is Rust.
-- The trees are without the code that `cfg` disables, and have the modules of the calls.
pub record Source : Type 0 where
  pub path : List ℕ
  pub text : List ℕ
  pub calls : List CallText
  pub tree : Option Top

abbrev pub source_text : Source → Text
source_text s = record { path = s.path; text = s.text; calls = s.calls }

-- The trees of the file of that number: those of its text, in which the modules of its calls follow
-- the calls.
abbrev pub IsFileTree : SourceSettings → ℕ → List ℕ → List CallText → Option Top → Type 0
IsFileTree r file text calls tree =
    (plain : Option Top) × IsTreeOf r file text plain × IsWithCalls r file calls plain tree

abbrev pub IsSource : SourceSettings → ℕ → Source → Type 0
IsSource r file source =
    IsFileTree r file (normalized source.text) source.calls source.tree

-- Files by their numbers, from 0. `Reads` says which settings a file is read under.
pub data AreSources (Reads : ℕ → SourceSettings → Type 0) : List Source → Type 0 where
  no_file : AreSources Reads []
  one_more : (files : List Source) (file : Source) (r : SourceSettings) → AreSources Reads files
      → Reads (length files) r → IsSource r (length files) file
      → AreSources Reads (files ++ file ∷ [])
