-- HTML text: markup is written as it is, and the characters of any other text are escaped.
use Rattle.std.specs.Prelude.{ℕ, ◌==◌, ◌||◌, ◌++◌, if◌then◌else◌, Bool, List, [], ◌∷◌, map, codes, chars}
use Rattle.std.specs.Char.{encode_utf8}
use Rattle.std.specs.Fmt.{decimal}
use Rattle.std.specs.String.{string_bytes}
use Rattle.mbe_markup.specs.declared.html.Html.{Html}
use Rattle.mbe_markup.specs.declared.html.Part.{Part}
use Rattle.mbe_markup.specs.declared.html.Part.TheVariants.{Markup, Text, Number}

-- A character as HTML text. These five have a meaning in markup, or end the value of an attribute.
abbrev pub escaped_char : ℕ → List ℕ
escaped_char c =
    if c == 60 then codes "&lt;"
    else (if c == 62 then codes "&gt;"
    else (if c == 38 then codes "&amp;"
    else (if c == 34 then codes "&quot;"
    else (if c == 39 then codes "&#39;" else encode_utf8 c))))

-- Characters as HTML text.
abbrev pub escaped : List ℕ → List ℕ
escaped [] = []
escaped (c ∷ cs) = escaped_char c ++ escaped cs

-- Whether a byte begins or ends a tag, or ends the value of an attribute: `<`, `>`, `"` or `'`.
abbrev pub is_markup : ℕ → Bool
is_markup b = (b == 60) || ((b == 62) || ((b == 34) || (b == 39)))

-- A part of an HTML text, as it is written.
abbrev pub part_text : Part → List ℕ
part_text (Markup markup) = markup.now
part_text (Text text) = escaped (chars text.now)
part_text (Number number) = decimal number

-- Parts, one after another.
abbrev pub parts_text : List Part → List ℕ
parts_text [] = []
parts_text (p ∷ ps) = part_text p ++ parts_text ps

-- The bytes of an HTML text.
abbrev pub html_bytes : Html → List ℕ
html_bytes html = string_bytes html.text
