-- Carriage returns: a text without those before line feeds, and the offsets of its bytes in the
-- original.
use Rattle.std.specs.Prelude.{◌≤◌, ◌<◌, ◌+◌, ◌-◌, ◌^◌, ◌==◌, ◌&&◌, min, nat_lt, ℕ, Bool, false}
use Rattle.std.specs.Prelude.{List, [], ◌∷◌, length, count_by, if◌then◌else◌}
use Rattle.std.specs.List.{slice_index}
use Rattle.mbe_rewriter.specs.Splice.{SplicedPart}
use Rattle.mbe_session.specs.Locations.{is_feed}

-- Whether the bytes begin with a line feed.
abbrev pub begins_with_feed : List ℕ → Bool
begins_with_feed [] = false
begins_with_feed (byte ∷ rest) = is_feed byte

-- Whether the byte is a carriage return, and a line feed comes right after it.
abbrev pub is_crlf : ℕ → List ℕ → Bool
is_crlf byte rest = byte == 13 && begins_with_feed rest

-- The text without such carriage returns.
unfoldable pub normalized : List ℕ → List ℕ
normalized [] = []
normalized (byte ∷ rest) = if is_crlf byte rest then normalized rest else byte ∷ normalized rest

-- The offsets, in the text without carriage returns, of the line feeds that had one. The first byte
-- has the offset `at`.
unfoldable pub returns_from : ℕ → List ℕ → List ℕ
returns_from at [] = []
returns_from at (byte ∷ rest) = if is_crlf byte rest then at
    ∷ returns_from at rest else returns_from (at + 1) rest

abbrev pub returns : List ℕ → List ℕ
returns text = returns_from 0 text

-- The numbers are ascending.
abbrev pub IsAscending : List ℕ → Type 0
IsAscending xs = (i j : ℕ) → i ≤ j → j < length xs → slice_index xs i ≤ slice_index xs j

-- The offset in the original of a byte of the text without carriage returns. It is one more for
-- each earlier line feed that had a carriage return. It is at most the largest number of 64 bits.
abbrev pub original_offset : List ℕ → ℕ → ℕ
original_offset returned at = min (at + count_by (λ feed. nat_lt feed at) returned) (2 ^ 64 - 1)

-- A text with a carriage return before each line feed.
unfoldable pub with_crlf : List ℕ → List ℕ
with_crlf [] = []
with_crlf (byte ∷ rest) = if is_feed byte then 13 ∷ 10 ∷ with_crlf rest else byte ∷ with_crlf rest

-- A text with carriage returns, if the original has one at any of its line feeds.
abbrev pub with_endings_of : List ℕ → List ℕ → List ℕ
with_endings_of [] text = text
with_endings_of (feed ∷ feeds) text = with_crlf text

-- A replacement in the text without carriage returns, as a replacement in the original.
abbrev pub original_part : List ℕ → SplicedPart → SplicedPart
original_part returned part = record {
  file = part.file;
  start = original_offset returned part.start;
  end = original_offset returned part.end;
  text = with_endings_of returned part.text;
}
