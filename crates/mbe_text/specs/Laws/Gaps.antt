-- The gap between two tokens that the printer of Rust text writes, as the lexer reads it. The
-- printer asks whether a line begins, whether the tokens must be kept apart, and whether they are
-- adjacent in one file.
use Rattle.std.specs.Prelude.{◌≡◌, ℕ, Bool, true, false, not, ◌&&◌, ◌||◌, List, ◌∷◌, ◌++◌, chars}
use Rattle.std.specs.Prelude.{codes}
use Rattle.std.specs.Char.{char_set_contains}
use Rattle.mbe_text.specs.RustText.Gaps.{gap, gap_text}
use Rattle.mbe_tt.specs.declared.tt.Spacing.TheVariants.{Alone, Joint}
use Rattle.mbe_text.specs.declared.dialect.Dialect.{Dialect}
use Rattle.mbe_text.specs.Whitespace.{begins_comment}
use Rattle.mbe_text.specs.LexedTrees.{next_token}
use Rattle.mbe_text.specs.Punctuation.{spacing_before}

-- the text that the printer puts before a token
abbrev pub before : Bool → Bool → Bool → ℕ → List ℕ
before line apart beside depth = gap_text (gap line apart beside) depth

-- the next token of a text with a gap before it is the next token of that text
abbrev pub GapsAreBlank : Type 0
GapsAreBlank = (dialect : Dialect) (total depth : ℕ) (line apart beside : Bool) (cs : List ℕ)
    → next_token dialect total (before line apart beside depth ++ cs) ≡ next_token dialect total cs

-- the bytes of a gap are its characters
abbrev pub GapsAreInBytes : Type 0
GapsAreInBytes = (depth : ℕ) (line apart beside : Bool) (text : List ℕ)
    → chars (before line apart beside depth ++ text) ≡ before line apart beside depth ++ chars text

-- a punct is alone if a space or a new line follows it
abbrev pub GapsSeparatePuncts : Type 0
GapsSeparatePuncts = (depth : ℕ) (line apart beside : Bool) (cs : List ℕ)
    → (line || (apart && not beside)) ≡ true
    → spacing_before (before line apart beside depth ++ cs) ≡ Alone

abbrev pub is_punct : ℕ → Bool
is_punct c = char_set_contains (codes "=<>!&|~@.,;:#$?+-*/%^") c

-- a punct is joint if another one follows it, unless a comment begins there
abbrev pub PunctsJoin : Type 0
PunctsJoin = (c : ℕ) (cs : List ℕ) → is_punct c ≡ true → begins_comment (c ∷ cs) ≡ false
    → spacing_before (c ∷ cs) ≡ Joint
