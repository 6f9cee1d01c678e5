-- Lines and columns, as `line!()` and `column!()` count them.
use Rattle.std.specs.Prelude.{ℕ, ◌+◌, ◌-◌, ◌^◌, ◌==◌, Bool, not, ◌||◌, nat_lt, min, if◌then◌else◌}
use Rattle.std.specs.Prelude.{List, [], ◌∷◌, take}
use Rattle.mbe_rewriter.specs.declared.whole_fragments.line_column.LineColumn.{LineColumn}

-- One more, up to the greatest number of 32 bits.
abbrev pub next : ℕ → ℕ
next n = min (n + 1) (2 ^ 32 - 1)

-- The byte begins a character.
abbrev pub begins_character : ℕ → Bool
begins_character byte = nat_lt byte 128 || not (nat_lt byte 192)

-- The line and column after a byte. A line feed begins a line.
abbrev pub after_byte : LineColumn → ℕ → LineColumn
after_byte p byte =
    if byte == 10 then record { line = next p.line; column = 1 }
    else if begins_character byte then record { line = p.line; column = next p.column }
    else p

abbrev pub after_bytes : LineColumn → List ℕ → LineColumn
after_bytes p [] = p
after_bytes p (byte ∷ rest) = after_bytes (after_byte p byte) rest

-- The line and column of the byte `at` of a text, both counted from 1.
abbrev pub line_column_of : List ℕ → ℕ → LineColumn
line_column_of text at = after_bytes (record { line = 1; column = 1 }) (take at text)
