-- Classes of characters, and what is left of a text after some characters.
use Rattle.std.specs.Prelude.{ℕ, ◌==◌, ◌-◌, nat_lt, Bool, true, false, not, ◌&&◌, ◌||◌}
use Rattle.std.specs.Prelude.{if◌then◌else◌, Option, Some, None, List, [], ◌∷◌, length, take, codes}
use Rattle.std.specs.Prelude.{encode_utf8_all}
use Rattle.std.specs.Char.{is_ascii_digit, is_ascii_hexdigit, char_set_contains}
use Rattle.unicode_ident.specs.Ident.{is_xid_start, is_xid_continue}
use Rattle.mbe_text.specs.declared.characters.CharClass.{CharClass}
use Rattle.mbe_text.specs.declared.characters.CharClass.TheVariants.{Blank, Space, NotLineFeed}
use Rattle.mbe_text.specs.declared.characters.CharClass.TheVariants.{IdentStart, IdentContinue}
use Rattle.mbe_text.specs.declared.characters.CharClass.TheVariants.{Decimal, Digit, HexDigit}
use Rattle.mbe_text.specs.declared.characters.CharClass.TheVariants.{Exponent, Sign, Punct, Hash}

-- the codes of some characters
abbrev pub quotation_mark : ℕ
quotation_mark = 34

abbrev pub exclamation_mark : ℕ
exclamation_mark = 33

abbrev pub number_sign : ℕ
number_sign = 35

abbrev pub apostrophe : ℕ
apostrophe = 39

abbrev pub star : ℕ
star = 42

abbrev pub slash : ℕ
slash = 47

abbrev pub equals_sign : ℕ
equals_sign = 61

abbrev pub backslash : ℕ
backslash = 92

abbrev pub low_line : ℕ
low_line = 95

-- white space of Rust, which is Unicode's `Pattern_White_Space`
abbrev pub is_space : ℕ → Bool
is_space c = char_set_contains (codes " \t\n\r") c
    || char_set_contains (11 ∷ (12 ∷ (133 ∷ (8206 ∷ (8207 ∷ (8232 ∷ (8233 ∷ []))))))) c

-- the character is of that class
abbrev pub has : CharClass → ℕ → Bool
has Blank c = char_set_contains (codes " \t\r\n") c
has Space c = is_space c
has NotLineFeed c = not (char_set_contains (codes "\n") c)
has IdentStart c = is_xid_start c || c == low_line
has IdentContinue c = is_xid_continue c
has Decimal c = is_ascii_digit c
has Digit c = is_ascii_digit c || c == low_line
has HexDigit c = is_ascii_hexdigit c || c == low_line
has Exponent c = char_set_contains (codes "eE") c
has Sign c = char_set_contains (codes "+-") c
has Punct c = char_set_contains (codes "=<>!&|~@.,;:#$?+-*/%^") c
has Hash c = char_set_contains (codes "#") c

-- the first character is of that class
abbrev pub begins : CharClass → List ℕ → Bool
begins k [] = false
begins k (c ∷ cs) = has k c

-- what is left after the characters of that class at the front
abbrev pub past : CharClass → List ℕ → List ℕ
past k [] = []
past k (c ∷ cs) = if has k c then past k cs else c ∷ cs

-- what is left after one character of that class
abbrev pub past_one : CharClass → List ℕ → Option (List ℕ)
past_one k [] = None
past_one k (c ∷ cs) = if has k c then Some cs else None

-- the text begins with those characters
abbrev pub begins_with : List ℕ → List ℕ → Bool
begins_with [] cs = true
begins_with (d ∷ ds) [] = false
begins_with (d ∷ ds) (c ∷ cs) = c == d && begins_with ds cs

-- the bytes of the part of a text before this rest of it
abbrev pub bytes_before : List ℕ → List ℕ → List ℕ
bytes_before cs rest = encode_utf8_all (take (length cs - length rest) cs)

-- the byte offset at which this rest begins, in a text of `total` bytes
abbrev pub offset : ℕ → List ℕ → ℕ
offset total rest = total - length (encode_utf8_all rest)

abbrev pub are_ascii : List ℕ → Bool
are_ascii [] = true
are_ascii (c ∷ cs) = nat_lt c 128 && are_ascii cs
