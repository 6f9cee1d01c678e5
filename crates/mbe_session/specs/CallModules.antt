-- The modules that calls expand to, in the trees of files.
use Rattle.std.specs.Prelude.{◌≡◌, ⊤, ℕ, Bool, true, false, List, [], ◌∷◌, ◌++◌, Option, Some, None}
use Rattle.mbe_tt.specs.declared.span.Span.{Span}
use Rattle.mbe_tt.specs.Trees.Top.{Top}
use Rattle.mbe_tt.specs.Trees.Tree.{Forest, none}
use Rattle.mbe_cfg.specs.Crates.ExpansionModules.{Insertion, expansion_modules, with_insertions}
use Rattle.mbe_session.specs.declared.source_settings.SourceSettings.{SourceSettings}
use Rattle.mbe_session.specs.TextTrees.{IsTreeOf}

-- A call of a file: where it is, the text that replaces it, and whether the modules of that text are
-- followed.
pub record CallText : Type 0 where
  pub at : Span
  pub text : List ℕ
  pub is_followed : Bool

abbrev pub modules_of : Span → Option Top → Forest
modules_of at None = none
modules_of at (Some tree) = expansion_modules at tree.1

abbrev pub IsModulesIf : SourceSettings → ℕ → CallText → Bool → Forest → Type 0
IsModulesIf r file c false f = f ≡ none
IsModulesIf r file c true f =
    (tree : Option Top) × IsTreeOf r file c.text tree × (f ≡ modules_of c.at tree)

-- The modules and `include!`s of the text that replaces a call, without the code that `cfg`
-- disables. There are none if the text isn't Rust.
abbrev pub IsModules : SourceSettings → ℕ → CallText → Forest → Type 0
IsModules r file c f = IsModulesIf r file c c.is_followed f

-- The modules of each call are put after the call.
pub data AreInsertions (r : SourceSettings) (file : ℕ) : List CallText → List Insertion → Type 0 where
  no_call : AreInsertions r file [] []
  one_more : (calls : List CallText) (insertions : List Insertion) (c : CallText) (f : Forest)
      → AreInsertions r file calls insertions → IsModules r file c f
      → AreInsertions r file (calls ++ c ∷ [])
      (insertions ++ (record { end = c.at.end; trees = f }) ∷ [])

-- Trees of a file with the modules of its calls.
abbrev pub HasModules : SourceSettings → ℕ → List CallText → Top → Top → Type 0
HasModules r file calls plain tree =
    (insertions : List Insertion) × AreInsertions r file calls insertions
    × (tree ≡ with_insertions insertions plain)

abbrev pub HaveModules : SourceSettings → ℕ → List CallText → Option Top → Option Top → Type 0
HaveModules r file calls None None = ⊤
HaveModules r file calls None (Some tree) = ⊥
HaveModules r file calls (Some plain) None = ⊥
HaveModules r file calls (Some plain) (Some tree) = HasModules r file calls plain tree

-- The trees of a file with the modules of its calls. Without a call they are the same.
abbrev pub IsWithCalls : SourceSettings → ℕ → List CallText → Option Top → Option Top → Type 0
IsWithCalls r file [] plain tree = tree ≡ plain
IsWithCalls r file (c ∷ calls) plain tree = HaveModules r file (c ∷ calls) plain tree
