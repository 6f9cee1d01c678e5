-- Where the text between quotes ends, whatever is in it, and where a block comment ends.
use Rattle.std.specs.Prelude.{ℕ, ◌+◌, ◌==◌, not, ◌&&◌, ◌||◌, true, false, if◌then◌else◌, Bool}
use Rattle.std.specs.Prelude.{Option, Some, None, List, [], ◌∷◌, length, take, ◌-◌, codes}
use Rattle.std.specs.Char.{char_set_contains}
use Rattle.mbe_text.specs.Characters.{begins_with, apostrophe, backslash, quotation_mark, slash}

-- the part of a text before this end of it
abbrev pub front : List ℕ → List ℕ → List ℕ
front cs end = take (length cs - length end) cs

-- The text from the closing quote of a string on. A `\` takes a `\` or a quote with it; the flag
-- says whether the first character is taken.
abbrev pub from_string_end : Bool → List ℕ → Option (List ℕ)
from_string_end taken [] = None
from_string_end true (c ∷ cs) = from_string_end false cs
from_string_end false (c ∷ cs) =
    if c == quotation_mark then Some (c ∷ cs)
    else from_string_end (c == backslash
    && (begins_with (codes "\\") cs || begins_with (codes "\"") cs)) cs

-- The text from the closing quote of a raw string on. Those `#`s follow the quote.
abbrev pub from_raw_end : List ℕ → List ℕ → Option (List ℕ)
from_raw_end hashes [] = None
from_raw_end hashes (c ∷ cs) =
    if c == quotation_mark && begins_with hashes cs then Some (c ∷ cs) else from_raw_end hashes cs

-- The text from the closing quote of a char on, for one with more or less than one character. A
-- `\` takes the next character with it. None at a `/`, or at a line feed that no quote follows.
abbrev pub from_later_quote : Bool → List ℕ → Option (List ℕ)
from_later_quote taken [] = None
from_later_quote true (c ∷ cs) = from_later_quote false cs
from_later_quote false (c ∷ cs) =
    if c == apostrophe then Some (c ∷ cs)
    else if c == slash || (char_set_contains (codes "\n") c
    && not (begins_with (codes "'") cs)) then None
    else from_later_quote (c == backslash) cs

-- The text from the closing quote of a char on. One character may stand before the quote; a `\`
-- takes more with it.
abbrev pub from_char_end : List ℕ → Option (List ℕ)
from_char_end [] = None
from_char_end (c ∷ cs) =
    if not (c == backslash) && begins_with (codes "'") cs then Some cs else from_later_quote false
    (c ∷ cs)

-- The text from the `*/` on that ends a block comment. `depth` nested comments must end before it.
-- The flag says whether the first character is the second one of a mark.
abbrev pub from_comment_end : Bool → ℕ → List ℕ → Option (List ℕ)
from_comment_end taken depth [] = None
from_comment_end true depth (c ∷ cs) = from_comment_end false depth cs
from_comment_end false depth (c ∷ cs) =
    if begins_with (codes "/*") (c ∷ cs) then from_comment_end true (depth + 1) cs
    else if not (begins_with (codes "*/") (c ∷ cs)) then from_comment_end false depth cs
    else if depth == 0 then Some (c ∷ cs)
    else from_comment_end true (depth - 1) cs
