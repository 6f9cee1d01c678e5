-- The text and the suffix of a literal, the number that it denotes, and how identifiers and
-- literals are written. The rules are the project's own, as the token trees are.
use Rattle.std.specs.Prelude.{ℕ, ◌-◌, ◌^◌, Bool, true, ◌||◌, ◌&&◌, ◌==◌, nat_lt, if◌then◌else◌}
use Rattle.std.specs.Prelude.{List, [], ◌++◌, length, take, drop, replicate, codes, slice_index}
use Rattle.std.specs.Prelude.{Option, Some, None}
use Rattle.std.specs.Str.{all_ascii_digits}
use Rattle.std.specs.Str.Parse.{digits_value, without_leading_plus}
use Rattle.mbe_tt.specs.Trees.Leaf.{Ident, Literal}
use Rattle.mbe_tt.specs.declared.tt.LitKind.{LitKind}
use Rattle.mbe_tt.specs.declared.tt.LitKind.TheVariants.{Byte, Char, Integer, Float, Str, StrRaw}
use Rattle.mbe_tt.specs.declared.tt.LitKind.TheVariants.{ByteStr, ByteStrRaw, CStr, CStrRaw, Err}
use Rattle.mbe_tt.specs.declared.tt.IdentIsRaw.{IdentIsRaw}
use Rattle.mbe_tt.specs.declared.tt.IdentIsRaw.TheVariants.{No, Yes}

-- what is written before an identifier: `r#` if it is raw
abbrev pub raw_prefix : IdentIsRaw → List ℕ
raw_prefix No = []
raw_prefix Yes = codes "r#"

-- how an identifier is written
abbrev pub ident_text : Ident → List ℕ
ident_text i = raw_prefix i.is_raw ++ i.sym

-- the text may be cut before this byte: no char continues there
abbrev pub is_char_boundary : List ℕ → ℕ → Bool
is_char_boundary text n = if nat_lt n (length text) then nat_lt (slice_index text n) 128
    || nat_lt 191 (slice_index text n) else true

-- the length of the text without its suffix; the whole length if there is no valid suffix
abbrev pub text_len : List ℕ → ℕ → ℕ
text_len text suffix =
    if nat_lt (length text) suffix then length text else if is_char_boundary text
    (length text - suffix) then
    length text - suffix else length text

-- the text without its suffix
abbrev pub literal_text : Literal → List ℕ
literal_text l = take (text_len l.text_and_suffix l.suffix_len) l.text_and_suffix

-- the suffix
abbrev pub literal_suffix : Literal → List ℕ
literal_suffix l = drop (text_len l.text_and_suffix l.suffix_len) l.text_and_suffix

-- the letters before the first `#` or quote
abbrev pub prefix : LitKind → List ℕ
prefix Byte = codes "b"
prefix Char = []
prefix Integer = []
prefix Float = []
prefix Str = []
prefix (StrRaw n) = codes "r"
prefix ByteStr = codes "b"
prefix (ByteStrRaw n) = codes "br"
prefix CStr = codes "c"
prefix (CStrRaw n) = codes "cr"
prefix Err = []

-- the number of `#` on each side of the quotes
abbrev pub hashes : LitKind → ℕ
hashes Byte = 0
hashes Char = 0
hashes Integer = 0
hashes Float = 0
hashes Str = 0
hashes (StrRaw n) = n
hashes ByteStr = 0
hashes (ByteStrRaw n) = n
hashes CStr = 0
hashes (CStrRaw n) = n
hashes Err = 0

-- the quote, if the kind has one
abbrev pub quote : LitKind → List ℕ
quote Byte = codes "'"
quote Char = codes "'"
quote Integer = []
quote Float = []
quote Str = codes "\""
quote (StrRaw n) = codes "\""
quote ByteStr = codes "\""
quote (ByteStrRaw n) = codes "\""
quote CStr = codes "\""
quote (CStrRaw n) = codes "\""
quote Err = []

-- so many `#`
abbrev pub hash_text : ℕ → List ℕ
hash_text n = replicate n 35

-- what is written before the text
abbrev pub opening : LitKind → List ℕ
opening k = prefix k ++ (hash_text (hashes k) ++ quote k)

-- what is written between the text and the suffix
abbrev pub closing : LitKind → List ℕ
closing k = quote k ++ hash_text (hashes k)

-- how a literal is written
abbrev pub literal_output : Literal → List ℕ
literal_output l = opening l.kind ++ (literal_text l ++ (closing l.kind ++ literal_suffix l))

-- the literal has no suffix
abbrev pub has_no_suffix : Literal → Bool
has_no_suffix l = text_len l.text_and_suffix l.suffix_len == length l.text_and_suffix

-- the number below 2 ^ 64 that the decimal digits denote, as std parses a `usize`: a plus sign may
-- precede them
abbrev pub decimal_value : List ℕ → Option ℕ
decimal_value text =
    if nat_lt 0 (length (without_leading_plus text)) && all_ascii_digits (without_leading_plus text)
    && nat_lt (digits_value 10 (without_leading_plus text)) (2 ^ 64)
    then Some (digits_value 10 (without_leading_plus text)) else None
