-- The text of a diagnostic and its children, as rustc renders them.
use Rattle.std.specs.Prelude.{ℕ, ◌==◌, ◌+◌, ◌-◌, ◌&&◌, ◌||◌, nat_le, nat_lt, if◌then◌else◌, Bool}
use Rattle.std.specs.Prelude.{true, false, List, [], ◌∷◌, ◌++◌, codes, chars, length, max, Option}
use Rattle.std.specs.Prelude.{Some, None}
use Rattle.std.specs.List.{repeat}
use Rattle.std.specs.Char.{encode_utf8}
use Rattle.std.specs.Fmt.{decimal}
use Rattle.unicode_width.specs.Width.{str_width}
use Rattle.mbe_diagnostics.specs.declared.diagnostic.Level.{Level}
use Rattle.mbe_diagnostics.specs.declared.diagnostic.Level.TheVariants.{Error, Warning, Note, Help}
use Rattle.mbe_diagnostics.specs.declared.diagnostic.Diagnostic.{Diagnostic}
use Rattle.mbe_diagnostics.specs.declared.diagnostic.FilePart.{FilePart}

abbrev pub word : Level → List ℕ
word Error = codes "error"
word Warning = codes "warning"
word Note = codes "note"
word Help = codes "help"

abbrev pub is_within : ℕ → ℕ → ℕ → Bool
is_within first last c = nat_le first c && nat_le c last

-- Whether a terminal would obey the character: a control beyond ASCII, or one that changes the
-- direction of text.
abbrev pub is_hidden : ℕ → Bool
is_hidden c = is_within 0x80 0x9F c || is_within 0x202A 0x202E c || is_within 0x2066 0x2069 c

-- The character to print. A sign replaces what a terminal would obey: U+2400 and on for the
-- controls of ASCII, U+FFFD for others.
abbrev pub visible : ℕ → ℕ
visible c =
    if c == 9 || c == 10 then c
    else (if nat_lt c 32 then 0x2400 + c
    else (if c == 127 then 0x2421 else (if is_hidden c then 0xFFFD else c)))

-- A tab becomes four spaces, and what a terminal would obey becomes a sign.
abbrev pub sanitized_char : ℕ → List ℕ
sanitized_char c = if c == 9 then codes "    " else encode_utf8 (visible c)

abbrev pub sanitized : List ℕ → List ℕ
sanitized [] = []
sanitized (c ∷ cs) = sanitized_char c ++ sanitized cs

-- Spaces as wide as the text is in a terminal.
abbrev pub margin : List ℕ → List ℕ
margin text = repeat (str_width false (chars (sanitized (chars text)))) (codes " ")

-- Bold, and red, yellow, green or cyan.
abbrev pub colour : Level → List ℕ
colour Error = 27 ∷ codes "[1;31m"
colour Warning = 27 ∷ codes "[1;33m"
colour Note = 27 ∷ codes "[1;32m"
colour Help = 27 ∷ codes "[1;36m"

abbrev pub level_text : Level → Bool → List ℕ
level_text l false = word l
level_text l true = colour l ++ (word l ++ (27 ∷ codes "[0m"))

-- The first line: the level and the message.
abbrev pub head : Diagnostic → Bool → List ℕ
head d is_coloured = level_text d.level is_coloured
    ++ (codes ": " ++ (sanitized (chars d.message.now) ++ codes "\n"))

-- The number of digits of a number.
abbrev pub digits : ℕ → ℕ
digits n = length (decimal n)

abbrev pub digits_of : Option FilePart → ℕ
digits_of None = 0
digits_of (Some p) = digits p.start.line

-- The largest of a number and the numbers of digits of these diagnostics' line numbers.
abbrev pub widest : ℕ → List Diagnostic → ℕ
widest width [] = width
widest width (d ∷ ds) = widest (max width (digits_of d.place)) ds

-- The width of the line numbers of a diagnostic and its children.
abbrev pub width_of : Diagnostic → List Diagnostic → ℕ
width_of d children = widest (digits_of d.place) children

-- One space for each column of a line number.
unfoldable pub gutter : ℕ → List ℕ
gutter width = repeat width (codes " ")

-- A line number, with spaces before it up to that width.
unfoldable pub line_number : ℕ → ℕ → List ℕ
line_number width n = gutter (width - digits n) ++ decimal n

-- The second line: the file, the line and the column.
abbrev pub location : ℕ → FilePart → List ℕ
location width p =
    gutter width ++ (codes "--> " ++ (p.file.now ++ (codes ":" ++ (decimal p.start.line
    ++ (codes ":" ++ (decimal p.start.column ++ codes "\n"))))))

-- One caret for each column of the text in a terminal, and at least one.
abbrev pub carets : List ℕ → List ℕ
carets part = repeat (max 1 (str_width false (chars (sanitized (chars part))))) (codes "^")

-- The line of the file with its number, and the carets below the part.
abbrev pub snippet : ℕ → FilePart → List ℕ
snippet width p =
    gutter width ++ (codes " |\n"
    ++ (line_number width p.start.line ++ (codes " | " ++ (sanitized (chars p.line.now)
    ++ (codes "\n" ++ (gutter width ++ (codes " | "
    ++ (margin p.before.now ++ (carets p.part.now ++ codes "\n")))))))))

-- The location of a part of a file, and its line with carets. There is none without a file.
abbrev pub place_text : ℕ → Option FilePart → List ℕ
place_text width None = []
place_text width (Some p) = location width p ++ snippet width p

-- A diagnostic without its children.
abbrev pub text_alone : ℕ → Diagnostic → Bool → List ℕ
text_alone width d is_coloured = head d is_coloured ++ place_text width d.place

-- The sign before a child that is on no file.
abbrev pub sign : ℕ → Option FilePart → List ℕ
sign width None = gutter width ++ codes " = "
sign width (Some p) = []

abbrev pub child_text : ℕ → Diagnostic → Bool → List ℕ
child_text width c is_coloured = sign width c.place ++ text_alone width c is_coloured

abbrev pub children_text : ℕ → List Diagnostic → Bool → List ℕ
children_text width [] is_coloured = []
children_text width (c ∷ cs) is_coloured =
    child_text width c is_coloured ++ children_text width cs is_coloured

-- The line between a diagnostic and its children, if it has any.
abbrev pub bar : ℕ → List Diagnostic → List ℕ
bar width [] = []
bar width (c ∷ cs) = gutter width ++ codes " |\n"

-- A diagnostic and its children, in line numbers of that width, with an empty line at the end.
abbrev pub text_in : ℕ → Diagnostic → List Diagnostic → Bool → List ℕ
text_in width d children is_coloured =
    text_alone width d is_coloured
    ++ (bar width children ++ (children_text width children is_coloured ++ codes "\n"))

-- The whole text, as people read it.
abbrev pub text : Diagnostic → List Diagnostic → Bool → List ℕ
text d children is_coloured = text_in (width_of d children) d children is_coloured
