-- Lines and columns of a text's bytes.
use Rattle.std.specs.Prelude.{zero, suc, get_or, ◌≡◌, ◌≢◌, ◌⊎◌, ◌≤◌, ◌<◌, ◌+◌, ◌-◌, ◌==◌, nat_lt, ℕ}
use Rattle.std.specs.Prelude.{Bool, not, ◌||◌, List, [], ◌∷◌, length, take, count_by, if◌then◌else◌}
use Rattle.std.specs.List.{slice_index, slice_range}

-- a line feed
abbrev pub is_feed : ℕ → Bool
is_feed byte = byte == 10

-- a byte that begins a character
abbrev pub begins_character : ℕ → Bool
begins_character byte = nat_lt byte 128 || not (nat_lt byte 192)

-- The offsets of the line feeds, in bytes whose first has the offset `at`.
unfoldable pub feeds_from : ℕ → List ℕ → List ℕ
feeds_from at [] = []
feeds_from at (byte ∷ rest) =
    if is_feed byte then at ∷ feeds_from (at + 1) rest else feeds_from (at + 1) rest

-- The start of the line that has so many line feeds before it.
abbrev pub start_of : List ℕ → ℕ → ℕ
start_of feeds zero = 0
start_of feeds (suc n) = slice_index feeds n + 1

-- The end of the line that has so many line feeds before it, in a text of that length.
abbrev pub end_of : List ℕ → ℕ → ℕ → ℕ
end_of feeds n len = get_or feeds n len

-- `count` of the offsets are before `at`: the first `count` of them, and no later one.
pub record AreBefore (places : List ℕ) (at count : ℕ) : Type 0 where
  pub within : count ≤ length places
  pub below : (k : ℕ) → k < count → slice_index places k < at
  pub above : (k : ℕ) → count ≤ k → k < length places → at ≤ slice_index places k

-- The line and the column of a byte. The line reaches from its start to its end, and has no line
-- feed. A line feed precedes it, except at the start of the text, and one follows it, except at the
-- end. The number of a line is 1 plus the line feeds before the byte. The column is 1 plus the
-- characters of the line that begin before the byte.
pub record IsLocation (text : List ℕ) (at line column : ℕ) (shown : List ℕ) : Type 0 where
  pub start : ℕ
  pub end : ℕ
  pub from_start : start ≤ at
  pub to_end : at ≤ end
  pub within : end ≤ length text
  pub begins : (start ≡ 0) ⊎ (slice_index text (start - 1) ≡ 10)
  pub ends : (end ≡ length text) ⊎ (slice_index text end ≡ 10)
  pub is_one : (i : ℕ) → start ≤ i → i < end → slice_index text i ≢ 10
  pub number : line ≡ 1 + count_by is_feed (take at text)
  pub place : column ≡ 1 + count_by begins_character (slice_range text start at)
  pub is_shown : shown ≡ slice_range text start end
