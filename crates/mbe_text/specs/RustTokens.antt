-- The tokens of Rust: which token is at the front of a text, after white space and comments.
use Rattle.std.specs.Borrow.{Bor}
use Rattle.std.specs.Prelude.{chars, ℕ, ◌==◌, not, ◌&&◌, ◌||◌, nat_le, if◌then◌else◌, Bool, true}
use Rattle.std.specs.Prelude.{false, Option, Some, None, List, [], ◌∷◌, ◌++◌, length, drop, codes}
use Rattle.std.specs.Prelude.{bytes_eq, Result, Ok, Err, ◌+◌, unwrap_or}
use Rattle.std.specs.Char.{char_set_contains}
use Rattle.mbe_tt.specs.Trees.Editions.{at_least_2021, at_least_2024}
use Rattle.mbe_tt.specs.declared.span.Edition.{Edition}
use Rattle.mbe_tt.specs.declared.tt.IdentIsRaw.TheVariants as raw
use Rattle.mbe_tt.specs.declared.tt.LitKind.{LitKind}
use Rattle.mbe_tt.specs.declared.tt.LitKind.TheVariants as kinds
use Rattle.mbe_text.specs.declared.characters.CharClass.{CharClass}
use Rattle.mbe_text.specs.declared.characters.CharClass.TheVariants.{IdentStart, Decimal, Digit}
use Rattle.mbe_text.specs.declared.characters.CharClass.TheVariants.{HexDigit, Exponent, Sign, Hash}
use Rattle.mbe_text.specs.declared.characters.CharClass.TheVariants.{NotLineFeed}
use Rattle.mbe_text.specs.declared.escapes.EscapeMode.{EscapeMode}
use Rattle.mbe_text.specs.declared.escapes.EscapeMode.TheVariants.{Char, Byte, Str, ByteStr, CStr}
use Rattle.mbe_text.specs.declared.rust_tokens.Base.{Base}
use Rattle.mbe_text.specs.declared.rust_tokens.Base.TheVariants.{Two, Eight, Ten, Sixteen}
use Rattle.mbe_text.specs.declared.scanner.Lexeme.{Lexeme}
use Rattle.mbe_text.specs.declared.fault_kind.TextFault.{TextFault}
use Rattle.mbe_text.specs.declared.fault_kind.LexFaultKind.{LexFaultKind}
use Rattle.mbe_text.specs.declared.fault_kind.LexFaultKind.TheVariants as fault_kind
use Rattle.mbe_text.specs.Characters.{has, begins, begins_with, past, past_one, bytes_before}
use Rattle.mbe_text.specs.Characters.{low_line}
use Rattle.mbe_text.specs.Escapes.{SeenFault, fault_seen, is_bytes, check_string, check_raw}
use Rattle.mbe_text.specs.Escapes.{check_char}
use Rattle.mbe_text.specs.QuoteEnds.{front, from_string_end, from_raw_end, from_char_end}
use Rattle.mbe_text.specs.QuoteEnds.{from_comment_end}
use Rattle.mbe_text.specs.Shapes.{Shape, identifier, literal_of, lifetime_of, doc_of, shape_of}
use Rattle.mbe_text.specs.Identifiers.{past_identifier}

-- A token and what is left after it; or what is wrong, and the text from there on.
abbrev pub RustTokenResult : Type 0
RustTokenResult = Result (Shape × List ℕ) SeenFault

-- what calls return, with texts as lists of characters
abbrev pub token_seen : Result (Lexeme × Bor (List ℕ)) TextFault → RustTokenResult
token_seen (Ok read) = Ok (shape_of read.0, chars read.1.now)
token_seen (Err fault) = Err (fault_seen fault)

-- the text at which such a call stopped: what is left, or the text from the fault on
abbrev pub read_stop : Result (Lexeme × Bor (List ℕ)) TextFault → List ℕ
read_stop (Ok read) = read.1.now
read_stop (Err fault) = fault.at.now

-- what such a call left, or nothing on a fault
abbrev pub read_left : Result (Lexeme × Bor (List ℕ)) TextFault → List ℕ
read_left (Ok read) = read.1.now
read_left (Err _) = []

abbrev pub seen : Option (Result (Lexeme × Bor (List ℕ)) TextFault) → Option RustTokenResult
seen None = None
seen (Some read) = Some (token_seen read)

abbrev pub maybe_seen : Option (Bor (List ℕ)) → Option (List ℕ)
maybe_seen None = None
maybe_seen (Some rest) = Some (chars rest.now)

abbrev pub passed_seen : Result (Option (Bor (List ℕ))) TextFault
    → Result (Option (List ℕ)) SeenFault
passed_seen (Ok rest) = Ok (maybe_seen rest)
passed_seen (Err fault) = Err (fault_seen fault)

-- the same two for a call that may read nothing, and then leaves that text
abbrev pub passed_stop : List ℕ → Result (Option (Bor (List ℕ))) TextFault → List ℕ
passed_stop text (Ok None) = text
passed_stop text (Ok (Some rest)) = rest.now
passed_stop text (Err fault) = fault.at.now

abbrev pub passed_left : Result (Option (Bor (List ℕ))) TextFault → List ℕ
passed_left (Ok None) = []
passed_left (Ok (Some rest)) = rest.now
passed_left (Err _) = []

-- ---- identifiers and suffixes

-- what is left after a suffix, which may be empty
abbrev pub past_suffix : List ℕ → List ℕ
past_suffix cs = if begins IdentStart cs then past_identifier cs else cs

-- a literal of that text; its suffix is at the front of the rest
abbrev pub literal : LitKind → List ℕ → List ℕ → RustTokenResult
literal kind text cs =
    let rest = past_suffix cs in
    let suffix = bytes_before cs rest in
    if bytes_eq suffix (codes "_") then Err (fault_kind.UnderscoreSuffix, cs)
    else if nat_le (length suffix) 255 then Ok (literal_of text suffix (length suffix) kind, rest)
    else Err (fault_kind.LongSuffix, cs)

abbrev pub may_be_raw : List ℕ → Bool
may_be_raw name = not (bytes_eq name (codes "_") || bytes_eq name (codes "crate")
    || bytes_eq name (codes "self")
    || bytes_eq name (codes "super") || bytes_eq name (codes "Self"))

-- a raw identifier, from its name on; `from` begins with its `r#`
abbrev pub raw_identifier : List ℕ → List ℕ → RustTokenResult
raw_identifier from cs =
    let rest = past_identifier cs in
    let name = bytes_before cs rest in
    if may_be_raw name then Ok (identifier name raw.Yes, rest) else Err
    (fault_kind.InvalidRawIdentifier, from)

abbrev pub begins_reserved : List ℕ → Bool
begins_reserved cs = begins_with (codes "#") cs
    || begins_with (codes "\"") cs || begins_with (codes "'") cs

-- since edition 2021, no identifier may stand right before a `#` or a quote
abbrev pub plain_identifier : Edition → List ℕ → RustTokenResult
plain_identifier edition cs =
    let rest = past_identifier cs in
    if at_least_2021 edition && begins_reserved rest then Err (fault_kind.Prefix, cs)
    else Ok (identifier (bytes_before cs rest) raw.No, rest)

-- ---- quotes

-- the same fault of a text, after which more text follows
abbrev pub within : List ℕ → SeenFault → SeenFault
within end at = (at.0, at.1 ++ end)

-- a string, from its text on; `end` begins with its closing quote
abbrev pub string_until : LitKind → EscapeMode → List ℕ → List ℕ → RustTokenResult
string_until kind q body end = elim (check_string q 0 (front body end)) [
  | Err at ↦ Err (within end at)
  | Ok _ ↦ literal kind (bytes_before body end) (drop 1 end)
]

-- a string, from its opening quote on
abbrev pub string : LitKind → EscapeMode → List ℕ → RustTokenResult
string kind q cs = elim (from_string_end false (drop 1 cs)) [
  | None ↦ Err (fault_kind.UnterminatedString, cs)
  | Some end ↦ string_until kind q (drop 1 cs) end
]

-- the fault of a char or a byte without its closing quote
abbrev pub unterminated_char : EscapeMode → LexFaultKind
unterminated_char q =
    if is_bytes q then fault_kind.UnterminatedByte else fault_kind.UnterminatedChar

-- a char or a byte, from its text on; `end` begins with its closing quote
abbrev pub char_until : LitKind → EscapeMode → List ℕ → List ℕ → List ℕ → RustTokenResult
char_until kind q from body end = elim (check_char q (front body end)) [
  | Err at ↦ Err (within end at)
  | Ok more ↦ elim more [
    | [] ↦ literal kind (bytes_before body end) (drop 1 end)
    | c ∷ cs ↦ Err (fault_kind.MultipleChars, from)
  ]
]

-- a char or a byte, from its opening quote on; `from` begins with its letter
abbrev pub char : LitKind → EscapeMode → List ℕ → List ℕ → RustTokenResult
char kind q from cs = elim (from_char_end (drop 1 cs)) [
  | None ↦ Err (unterminated_char q, cs)
  | Some end ↦ char_until kind q from (drop 1 cs) end
]

abbrev pub raw_kind : EscapeMode → ℕ → LitKind
raw_kind Char n = kinds.StrRaw n
raw_kind Byte n = kinds.StrRaw n
raw_kind Str n = kinds.StrRaw n
raw_kind ByteStr n = kinds.ByteStrRaw n
raw_kind CStr n = kinds.CStrRaw n

-- a raw string, from its text on; `end` begins with its closing quote, and that many `#`s follow
-- the quote
abbrev pub raw_until : EscapeMode → ℕ → List ℕ → List ℕ → RustTokenResult
raw_until q hashes body end = elim (check_raw q (front body end)) [
  | Err at ↦ Err (within end at)
  | Ok _ ↦ literal (raw_kind q hashes) (bytes_before body end) (drop (hashes + 1) end)
]

-- a raw string, from its text on; those `#`s precede its opening quote, and `from` begins with its
-- letters
abbrev pub raw_body : EscapeMode → List ℕ → List ℕ → List ℕ → RustTokenResult
raw_body q from hashes body = elim (from_raw_end hashes body) [
  | None ↦ Err (fault_kind.UnterminatedRawString, from)
  | Some end ↦
      if nat_le (length hashes) 255 then raw_until q (length hashes) body end else Err
      (fault_kind.TooManyHashes, from)
]

-- a raw string, from its `#`s on
abbrev pub raw_string : EscapeMode → List ℕ → List ℕ → RustTokenResult
raw_string q from cs =
    let quote = past Hash cs in
    if begins_with (codes "\"") quote then raw_body q from (bytes_before cs quote) (drop 1 quote)
    else Err (fault_kind.RawStringStart, from)

abbrev pub begins_raw_string : List ℕ → Bool
begins_raw_string cs = begins_with (codes "\"") cs || begins_with (codes "#") cs

-- a token that begins with an `r`
abbrev pub read_r : Edition → List ℕ → RustTokenResult
read_r edition cs =
    if begins_with (codes "r#") cs
    && begins IdentStart (drop 2 cs) then raw_identifier cs (drop 2 cs)
    else if begins_raw_string (drop 1 cs) then raw_string Str cs (drop 1 cs)
    else plain_identifier edition cs

-- a token that begins with a `b`
abbrev pub read_b : Edition → List ℕ → RustTokenResult
read_b edition cs =
    if begins_with (codes "b'") cs then char kinds.Byte Byte cs (drop 1 cs)
    else if begins_with (codes "b\"") cs then string kinds.ByteStr ByteStr (drop 1 cs)
    else if begins_with (codes "br") cs
    && begins_raw_string (drop 2 cs) then raw_string ByteStr cs (drop 2 cs)
    else plain_identifier edition cs

-- a token that begins with a `c`; C strings exist since edition 2021
abbrev pub read_c : Edition → List ℕ → RustTokenResult
read_c edition cs =
    if not (at_least_2021 edition) then plain_identifier edition cs
    else if begins_with (codes "c\"") cs then string kinds.CStr CStr (drop 1 cs)
    else if begins_with (codes "cr") cs
    && begins_raw_string (drop 2 cs) then raw_string CStr cs (drop 2 cs)
    else plain_identifier edition cs

-- ---- lifetimes

-- what follows a `'` belongs to a lifetime, or is meant to, and not to a char
abbrev pub begins_lifetime : List ℕ → Bool
begins_lifetime [] = false
begins_lifetime (c ∷ cs) = (has IdentStart c || has Decimal c) && not (begins_with (codes "'") cs)

-- a lifetime with a `r#`; its name is at the front of the second text
abbrev pub raw_lifetime : List ℕ → List ℕ → RustTokenResult
raw_lifetime from cs =
    let rest = past_identifier cs in
    let name = bytes_before cs rest in
    if begins_with (codes "'") rest then Err (fault_kind.MultipleChars, from)
    else if may_be_raw name then Ok (lifetime_of name raw.Yes, rest)
    else Err (fault_kind.InvalidRawIdentifier, from)

abbrev pub plain_lifetime : Edition → List ℕ → List ℕ → RustTokenResult
plain_lifetime edition from cs =
    let rest = past_identifier cs in
    if begins_with (codes "'") rest then Err (fault_kind.MultipleChars, from)
    else if begins Decimal cs then Err (fault_kind.LifetimeDigit, from)
    else if at_least_2021 edition && begins_with (codes "#") rest then Err (fault_kind.Prefix, from)
    else Ok (lifetime_of (bytes_before cs rest) raw.No, rest)

-- a lifetime; before edition 2021, `'r#a` is the lifetime `'r` and other tokens after it
abbrev pub lifetime : Edition → List ℕ → RustTokenResult
lifetime edition cs =
    if not (begins_with (codes "'r#") cs
    && begins IdentStart (drop 3 cs)) then plain_lifetime edition cs (drop 1 cs)
    else if at_least_2021 edition then raw_lifetime cs (drop 3 cs)
    else Ok (lifetime_of (bytes_before (drop 1 cs) (drop 2 cs)) raw.No, drop 2 cs)

-- a token that begins with a `'`
abbrev pub read_quote : Edition → List ℕ → RustTokenResult
read_quote edition cs =
    if begins_lifetime (drop 1 cs) then lifetime edition cs else char kinds.Char Char cs cs

-- ---- numbers

-- the base of a number, and the text from its digits on
abbrev pub base_of : List ℕ → Base × List ℕ
base_of cs =
    if begins_with (codes "0b") cs then (Two, drop 2 cs)
    else if begins_with (codes "0o") cs then (Eight, drop 2 cs)
    else if begins_with (codes "0x") cs then (Sixteen, drop 2 cs)
    else (Ten, cs)

-- the digits that are read; a digit that is too large for the base is a fault later
abbrev pub digit_of : Base → CharClass
digit_of Two = Digit
digit_of Eight = Digit
digit_of Ten = Digit
digit_of Sixteen = HexDigit

-- a digit is next, after any `_`s
abbrev pub has_digit : Base → List ℕ → Bool
has_digit base [] = false
has_digit base (c ∷ cs) = if c == low_line then has_digit base cs else has (digit_of base) c

-- what is left after an exponent; `from` begins with the number
abbrev pub past_exponent : List ℕ → List ℕ → Result (Option (List ℕ)) SeenFault
past_exponent from cs = elim (past_one Exponent cs) [
  | None ↦ Ok None
  | Some rest ↦ let digits = unwrap_or (past_one Sign rest) rest in
      if has_digit Ten digits then Ok (Some (past Digit digits)) else Err
      (fault_kind.Exponent, from)
]

-- what is left after the digits of a fraction, and after the exponent that may follow
abbrev pub past_digits : List ℕ → List ℕ → Result (Option (List ℕ)) SeenFault
past_digits from cs =
    let rest = past Digit cs in elim (past_exponent from rest) [
      | Err at ↦ Err at
      | Ok after ↦ Ok (Some (unwrap_or after rest))
    ]

-- What is left after a fraction or an exponent. An exponent doesn't stand right after the point.
abbrev pub past_fraction : List ℕ → List ℕ → Result (Option (List ℕ)) SeenFault
past_fraction from cs =
    if not (begins_with (codes ".") cs) then past_exponent from cs
    else if begins_with (codes ".") (drop 1 cs) || begins IdentStart (drop 1 cs) then Ok None
    else if begins Decimal (drop 1 cs) then past_digits from (drop 1 cs)
    else Ok (Some (drop 1 cs))

abbrev pub is_too_large : Base → ℕ → Bool
is_too_large Two c = char_set_contains (codes "23456789") c
is_too_large Eight c = char_set_contains (codes "89") c
is_too_large Ten c = false
is_too_large Sixteen c = false

-- the text from the first digit on that is too large for the base
abbrev pub large_digit : Base → List ℕ → Option (List ℕ)
large_digit base [] = None
large_digit base (c ∷ cs) =
    if is_too_large base c then Some (c ∷ cs) else if has Digit c then large_digit base cs else None

abbrev pub is_ten : Base → Bool
is_ten Two = false
is_ten Eight = false
is_ten Ten = true
is_ten Sixteen = false

-- a float; the second text is what follows its exponent
abbrev pub float : Base → List ℕ → List ℕ → RustTokenResult
float base cs rest =
    if is_ten base then literal kinds.Float (bytes_before cs rest) rest else Err
    (fault_kind.FloatBase, cs)

-- an integer of those digits; the third text is what follows them
abbrev pub integer : Base → List ℕ → List ℕ → List ℕ → RustTokenResult
integer base cs digits rest = elim (large_digit base digits) [
  | Some at ↦ Err (fault_kind.Digit, at)
  | None ↦ literal kinds.Integer (bytes_before cs rest) rest
]

abbrev pub number_of : Base → List ℕ → List ℕ → RustTokenResult
number_of base cs digits =
    let rest = past (digit_of base) (drop 1 digits) in
    if not (has_digit base digits) then Err (fault_kind.NoDigits, cs)
    else elim (past_fraction cs rest) [
      | Err at ↦ Err at
      | Ok after ↦ elim after [ None ↦ integer base cs digits rest | Some end ↦ float base cs end ]
    ]

abbrev pub number : List ℕ → RustTokenResult
number cs = number_of (base_of cs).0 cs (base_of cs).1

-- ---- doc comments

-- a doc comment is next: `///` or `//!`, `/**` or `/*!`. `////`, `/***` and `/**/` don't begin
-- one.
abbrev pub begins_doc : List ℕ → Bool
begins_doc cs =
    (begins_with (codes "///") cs && not (begins_with (codes "////") cs))
    || begins_with (codes "//!") cs
    || (begins_with (codes "/**") cs
    && not (begins_with (codes "/***") cs || begins_with (codes "/**/") cs))
    || begins_with (codes "/*!") cs

abbrev pub is_inner : List ℕ → Bool
is_inner cs = begins_with (codes "//!") cs || begins_with (codes "/*!") cs

-- the text from the first carriage return on
abbrev pub from_carriage_return : List ℕ → Option (List ℕ)
from_carriage_return [] = None
from_carriage_return (c ∷ cs) =
    if char_set_contains (codes "\r") c then Some (c ∷ cs) else from_carriage_return cs

-- the doc comment whose text is `body` up to `end`, and what is left after the comment
abbrev pub doc_until : Bool → List ℕ → List ℕ → List ℕ → RustTokenResult
doc_until inner body end rest = elim (from_carriage_return (front body end)) [
  | Some at ↦ Err (within end (fault_kind.BareCarriageReturn, at))
  | None ↦ Ok (doc_of (bytes_before body end) inner, rest)
]

abbrev pub block_doc : List ℕ → RustTokenResult
block_doc cs = elim (from_comment_end false 0 (drop 3 cs)) [
  | None ↦ Err (fault_kind.UnterminatedComment, cs)
  | Some end ↦ doc_until (is_inner cs) (drop 3 cs) end (drop 2 end)
]

abbrev pub line_doc : List ℕ → RustTokenResult
line_doc cs = let end = past NotLineFeed (drop 3 cs) in doc_until (is_inner cs) (drop 3 cs) end end

abbrev pub doc : List ℕ → RustTokenResult
doc cs = if begins_with (codes "//") cs then line_doc cs else block_doc cs

-- ---- the table

-- a `#` is next, right before another one or right before a string; edition 2024 reserves that
abbrev pub is_guard : Edition → List ℕ → Bool
is_guard edition cs = at_least_2024 edition
    && (begins_with (codes "##") cs || begins_with (codes "#\"") cs)

abbrev pub guard_fault : List ℕ → SeenFault
guard_fault cs =
    let quote = past Hash cs in
    if not (begins_with (codes "\"") quote) then (fault_kind.Hashes, cs)
    else elim (from_string_end false (drop 1 quote))
    [ None ↦ (fault_kind.UnterminatedString, quote) | Some end ↦ (fault_kind.GuardedString, cs) ]

-- The token of Rust at the front of a text. None for a delimiter or a punct, which both dialects
-- read in the same way.
abbrev pub read_rust : Edition → List ℕ → Option RustTokenResult
read_rust edition cs =
    if begins_with (codes "r") cs then Some (read_r edition cs)
    else if begins_with (codes "b") cs then Some (read_b edition cs)
    else if begins_with (codes "c") cs then Some (read_c edition cs)
    else if begins IdentStart cs then Some (plain_identifier edition cs)
    else if begins Decimal cs then Some (number cs)
    else if begins_with (codes "\"") cs then Some (string kinds.Str Str cs)
    else if begins_with (codes "'") cs then Some (read_quote edition cs)
    else if is_guard edition cs then Some (Err (guard_fault cs))
    else if begins_doc cs then Some (doc cs)
    else None
