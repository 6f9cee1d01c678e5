-- The trees that the lexer makes of a text are trees of Rust, and so they come back when they are
-- written.
use Rattle.std.specs.Prelude.{◌≡◌, ℕ, List, Ok}
use Rattle.std.specs.Str.{IsUtf8}
use Rattle.mbe_tt.specs.declared.span.Edition.{Edition}
use Rattle.mbe_tt.specs.Trees.Top.{Top}
use Rattle.mbe_text.specs.declared.dialect.Dialect.TheVariants.{Rust}
use Rattle.mbe_text.specs.LexedTrees.{lexed_trees}
use Rattle.mbe_text.specs.Laws.RoundTrip.{RoundTrips}
use Rattle.mbe_text.specs.Laws.RustTrees.{IsRust}

-- the trees of a text are trees of Rust
abbrev pub LexedAreRust : Type 0
LexedAreRust = (edition : Edition) (file : ℕ) (text : List ℕ) (top : Top) → IsUtf8 text
    → lexed_trees (Rust edition) file text ≡ Ok top → IsRust edition top.1

-- the text that is written for the trees of a text is read as these trees
abbrev pub TextRoundTrips : Type 0
TextRoundTrips = (edition : Edition) (file other depth : ℕ) (text : List ℕ) (top : Top)
    → IsUtf8 text
    → lexed_trees (Rust edition) file text ≡ Ok top → RoundTrips edition other depth top.1
