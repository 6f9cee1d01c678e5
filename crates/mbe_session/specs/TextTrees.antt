-- The trees of texts.
use Rattle.std.specs.Prelude.{◌≡◌, ◌⊎◌, ◌≤◌, ◌^◌, ℕ, List, length, Option, Some, None, Ok, IsErr}
use Rattle.mbe_tt.specs.declared.span.Edition.{Edition}
use Rattle.mbe_tt.specs.Trees.Top.{Top}
use Rattle.mbe_text.specs.LexedTrees.{lexed_trees}
use Rattle.mbe_text.specs.declared.dialect.Dialect.TheVariants.{Rust}
use Rattle.mbe_grammar.specs.Tables.Lawful.{grammar_of}
use Rattle.mbe_cfg.specs.CfgStrip.{enabled_tree}
use Rattle.mbe_session.specs.declared.source_settings.SourceSettings.{SourceSettings}

-- A text has no trees if it isn't Rust, or is too long for spans.
abbrev pub IsNoRust : Edition → ℕ → List ℕ → Type 0
IsNoRust edition file text = IsErr (lexed_trees (Rust edition) file text) ⊎ (2 ^ 32 ≤ length text)

-- The trees of a text whose lines end with a line feed alone, without the code that `cfg` disables.
-- So calls in that code are not expanded, and its definitions are not found.
abbrev pub IsTreeOf : SourceSettings → ℕ → List ℕ → Option Top → Type 0
IsTreeOf r file text None = IsNoRust r.edition file text
IsTreeOf r file text (Some tree) =
    (whole : Top) × (lexed_trees (Rust r.edition) file text ≡ Ok whole)
    × (tree ≡ enabled_tree r.conditions (grammar_of r.grammar) whole)
