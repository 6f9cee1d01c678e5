-- Rests of a text, and what a text begins with.
use Rattle.std.specs.Prelude.{ℕ, ◌≡◌, ◌≤◌, ◌-◌, List, ◌++◌, length, drop, encode_utf8}

-- `rest` is the end of the text
abbrev pub IsRest : List ℕ → List ℕ → Type 0
IsRest text rest = rest ≡ drop (length text - length rest) text

-- `rest` is the end of the text, and no longer than the text
abbrev pub IsEnd : List ℕ → List ℕ → Type 0
IsEnd text rest = (length rest ≤ length text) × IsRest text rest

-- the text begins with that character
abbrev pub Begins : ℕ → List ℕ → Type 0
Begins c text = (rest : List ℕ) × (text ≡ encode_utf8 c ++ rest)
