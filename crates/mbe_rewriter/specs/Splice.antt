-- A text with some of its parts replaced.
use Rattle.std.specs.Prelude.{◌≡◌, ℕ, Bool, ◌&&◌, ◌||◌, not, if◌then◌else◌, nat_le, List, [], ◌∷◌}
use Rattle.std.specs.Prelude.{◌++◌, length, drop, slice_index, slice_range}

-- The text that replaces the bytes of a file from `start` up to `end`. `file` is the file's number
-- if there are several.
pub record SplicedPart : Type 0 where
  pub file : ℕ
  pub start : ℕ
  pub end : ℕ
  pub text : List ℕ

-- The byte continues a character.
abbrev pub is_continuation_byte : ℕ → Bool
is_continuation_byte byte = nat_le 128 byte && not (nat_le 192 byte)

-- The offset is a boundary between two characters.
unfoldable pub is_boundary : List ℕ → ℕ → Bool
is_boundary text at = nat_le at (length text)
    && (nat_le (length text) at || not (is_continuation_byte (slice_index text at)))

-- The part is replaced after all bytes up to `at` are done: it doesn't begin before, and cuts no
-- character.
unfoldable pub can_replace : List ℕ → ℕ → SplicedPart → Bool
can_replace text at part =
    nat_le at part.start && (nat_le part.start part.end
    && (is_boundary text part.start && is_boundary text part.end))

-- The text from a byte on with these parts replaced.
abbrev pub spliced_from : List ℕ → ℕ → List SplicedPart → List ℕ
spliced_from text at [] = drop at text
spliced_from text at (part ∷ parts) =
    if can_replace text at part then slice_range text at part.start
    ++ (part.text ++ spliced_from text part.end parts)
    else spliced_from text at parts

-- The text with these parts replaced.
abbrev pub spliced : List ℕ → List SplicedPart → List ℕ
spliced text parts = spliced_from text 0 parts

-- With one more part, the result `done` up to `at` becomes the result `more` up to `next`.
unfoldable pub Adds : List ℕ → SplicedPart → ℕ → List ℕ → ℕ → List ℕ → Type 0
Adds text part at done next more =
    (parts : List SplicedPart) → more ++ spliced_from text next parts ≡ done
    ++ spliced_from text at (part ∷ parts)
