-- Shortens a text to one line.
use Rattle.std.specs.Prelude.{ℕ, ◌-◌, ◌==◌, ◌&&◌, nat_lt, Bool, false, if◌then◌else◌, List, [], ◌∷◌}
use Rattle.std.specs.Prelude.{◌++◌, codes, unwrap_or}
use Rattle.std.specs.Char.{encode_utf8}
use Rattle.unicode_width.specs.Width.{char_width}

-- The columns that a character takes in a terminal. An unprinted character takes none. A line feed
-- takes one, since it becomes a space.
abbrev pub columns : ℕ → ℕ
columns c = if c == 10 then 1 else unwrap_or (char_width false c) 0

-- A line feed becomes a space.
abbrev pub in_line : ℕ → List ℕ
in_line c = if c == 10 then codes " " else encode_utf8 c

-- Whether a space follows a line feed, or other such spaces.
abbrev pub is_indent : Bool → ℕ → Bool
is_indent at_start c = at_start && (c == 32)

-- The characters for which that many columns have room, and `…` if there are more. The spaces after
-- a line feed are left out.
abbrev pub excerpt_in : ℕ → Bool → List ℕ → List ℕ
excerpt_in room at_start [] = []
excerpt_in room at_start (c ∷ cs) =
    if is_indent at_start c then excerpt_in room at_start cs
    else if nat_lt room (columns c) then encode_utf8 8230
    else in_line c ++ excerpt_in (room - columns c) (c == 10) cs

-- The text in one line, of at most 60 columns beside the `…`.
abbrev pub excerpt : List ℕ → List ℕ
excerpt cs = excerpt_in 60 false cs
