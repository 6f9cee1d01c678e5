-- The bytes that an `io::Write` holds after bytes were written to it, if they are known.
use Rattle.std.specs.Prelude.{◌≡◌, ℕ, List, ◌++◌, Option, Result, MatchResult}
use Rattle.std.specs.Io.KnownBytes.{Appends}

-- the writer took a prefix of the bytes, and `left` is the rest of them
pub record WritesPrefix (before after : Option (List ℕ)) (bytes left : List ℕ) : Type 0 where
  pub front : List ℕ
  pub taken : Appends before after front
  pub whole : bytes ≡ front ++ left

-- on success the writer took these bytes, and on an error a prefix of them
abbrev pub Writes : {T E : Type 0} → Option (List ℕ) → Option (List ℕ) → Result T E → List ℕ
    → Type 0
Writes before after result bytes =
    MatchResult result (λ _. Appends before after bytes) (λ _. (left : List ℕ)
    × WritesPrefix before after bytes left)

-- The bytes were added to a line, which is written when it is full. On success the writer took all
-- bytes except those that the line holds now, and on an error a prefix of them.
abbrev pub Holds : {T E : Type 0} → Option (List ℕ) → Option (List ℕ) → Result T E → List ℕ → List ℕ
    → Type 0
Holds before after result bytes held =
    MatchResult result (λ _. WritesPrefix before after bytes held) (λ _. (left : List ℕ)
    × WritesPrefix before after bytes left)
