-- The text of a diagnostic in a limited number of lines.
use Rattle.std.specs.Prelude.{ℕ, ◌==◌, ◌+◌, ◌-◌, ◌^◌, nat_le, nat_lt, min, if◌then◌else◌, Bool}
use Rattle.std.specs.Prelude.{true, List, [], ◌∷◌, ◌++◌, codes, take, drop, Option, Some, None}
use Rattle.std.specs.Fmt.{decimal}
use Rattle.mbe_diagnostics.specs.declared.diagnostic.Diagnostic.{Diagnostic}
use Rattle.mbe_diagnostics.specs.declared.diagnostic.FilePart.{FilePart}
use Rattle.mbe_diagnostics.specs.Diagnostics.{text, text_alone, bar, children_text, width_of}

-- The sum in 64 bits. It stops at the largest number.
abbrev pub plus : ℕ → ℕ → ℕ
plus a b = min (a + b) (2 ^ 64 - 1)

abbrev pub is_line_feed : ℕ → ℕ
is_line_feed c = if c == 10 then 1 else 0

abbrev pub line_feeds : List ℕ → ℕ
line_feeds [] = 0
line_feeds (c ∷ cs) = is_line_feed c + line_feeds cs

-- The line of a message; then its location, and the three lines of its snippet.
abbrev pub lines_of_place : Option FilePart → ℕ
lines_of_place None = 1
lines_of_place (Some p) = 5

-- The number of lines of a diagnostic without its children. A message may have several lines.
abbrev pub lines_of : Diagnostic → ℕ
lines_of d = plus (lines_of_place d.place) (line_feeds d.message.now)

-- A number of lines, and those of these children.
abbrev pub lines_with : ℕ → List Diagnostic → ℕ
lines_with lines [] = lines
lines_with lines (c ∷ cs) = lines_with (plus lines (lines_of c)) cs

-- How many of the first children fit into that many lines, after `lines` others.
abbrev pub fitting : (limit lines : ℕ) → List Diagnostic → ℕ
fitting limit lines [] = 0
fitting limit lines (c ∷ cs) =
    if nat_lt limit (plus lines (lines_of c)) then 0
    else 1 + fitting limit (plus lines (lines_of c)) cs

-- Whether a text is shown whole: if there are no children, or if they fit.
abbrev pub is_whole : (limit lines : ℕ) → List Diagnostic → Bool
is_whole limit lines [] = true
is_whole limit lines (c ∷ cs) = nat_le (lines_with lines (c ∷ cs)) limit

-- The line that says how many lines aren't shown, and the empty line at the end.
abbrev pub cut : ℕ → List ℕ → List ℕ
cut hidden hint =
    codes "... " ++ (decimal hidden ++ (codes " more lines; " ++ (hint ++ codes "\n\n")))

-- A diagnostic with the first of its children that fit into `limit` lines, and the number of lines
-- of the others. The line numbers are as wide as those of the whole text.
abbrev pub shortened : ℕ → List ℕ → ℕ → Diagnostic → List Diagnostic → Bool → List ℕ
shortened limit hint lines d children is_coloured =
    let width = width_of d children in
    let count = fitting limit lines children in
    text_alone width d is_coloured
    ++ (bar width children ++ (children_text width (take count children) is_coloured
    ++ cut (lines_with 0 (drop count children)) hint))

-- The whole text, if there are no children, or if it has at most `limit` lines without the empty
-- line at its end. Else the diagnostic and the first children, and a line about the others, in at
-- most that many lines. The diagnostic itself is whole in any case. One line is between it and its
-- children.
abbrev pub text_within : ℕ → List ℕ → Diagnostic → List Diagnostic → Bool → List ℕ
text_within limit hint d children is_coloured =
    let lines = plus (lines_of d) 1 in
    if is_whole limit lines children then text d children is_coloured
    else shortened (limit - 1) hint lines d children is_coloured
