-- The text between the quotes of Rust's literals: characters and escapes, one after another.
use Rattle.std.specs.Borrow.{Bor}
use Rattle.std.specs.Prelude.{chars, ℕ, zero, suc, ◌==◌, ◌+◌, ◌-◌, ◌*◌, min, nat_lt, not, ◌&&◌}
use Rattle.std.specs.Prelude.{◌||◌, Bool, true, false, if◌then◌else◌, List, [], ◌∷◌, length, codes}
use Rattle.std.specs.Prelude.{Result, Ok, Err}
use Rattle.std.specs.Char.{digit_value, char_set_contains}
use Rattle.mbe_text.specs.declared.characters.CharClass.TheVariants.{Blank}
use Rattle.mbe_text.specs.declared.escapes.EscapeMode.{EscapeMode}
use Rattle.mbe_text.specs.declared.escapes.EscapeMode.TheVariants.{Char, Byte, Str, ByteStr, CStr}
use Rattle.mbe_text.specs.declared.fault_kind.TextFault.{TextFault}
use Rattle.mbe_text.specs.declared.fault_kind.LexFaultKind.{LexFaultKind}
use Rattle.mbe_text.specs.declared.fault_kind.LexFaultKind.TheVariants as fault_kind
use Rattle.mbe_text.specs.Characters.{past, backslash, low_line}

-- A fault: what is wrong, and the text from there on.
abbrev pub SeenFault : Type 0
SeenFault = LexFaultKind × List ℕ

-- what is left after a character or an escape, or the fault
abbrev pub RestResult : Type 0
RestResult = Result (List ℕ) SeenFault

-- whether a text is right, or the fault
abbrev pub CheckResult : Type 0
CheckResult = Result (Unit {0}) SeenFault

-- what calls return, with texts as lists of characters
abbrev pub fault_seen : TextFault → SeenFault
fault_seen fault = (fault.fault_kind, chars fault.at.now)

abbrev pub left_seen : Result (Bor (List ℕ)) TextFault → RestResult
left_seen (Ok rest) = Ok (chars rest.now)
left_seen (Err fault) = Err (fault_seen fault)

abbrev pub checked_seen : Result (Unit {0}) TextFault → CheckResult
checked_seen (Ok _) = Ok tt
checked_seen (Err fault) = Err (fault_seen fault)

-- the text at which such a call stopped: what is left, or the text from the fault on
abbrev pub stop : Result (Bor (List ℕ)) TextFault → List ℕ
stop (Ok rest) = rest.now
stop (Err fault) = fault.at.now

-- what such a call left, or nothing on a fault
abbrev pub left : Result (Bor (List ℕ)) TextFault → List ℕ
left (Ok rest) = rest.now
left (Err _) = []

-- the literal has exactly one character
abbrev pub is_single : EscapeMode → Bool
is_single Char = true
is_single Byte = true
is_single Str = false
is_single ByteStr = false
is_single CStr = false

-- the literal is a byte or a byte string, and has ASCII characters alone
abbrev pub is_bytes : EscapeMode → Bool
is_bytes Char = false
is_bytes Byte = true
is_bytes Str = false
is_bytes ByteStr = true
is_bytes CStr = false

abbrev pub is_c : EscapeMode → Bool
is_c Char = false
is_c Byte = false
is_c Str = false
is_c ByteStr = false
is_c CStr = true

abbrev pub is_hex : ℕ → Bool
is_hex c = nat_lt (digit_value c) 16

-- ---- escapes, each given the text after its letters; `from` begins with its `\`

-- the second digit of a `\x`; `high` is the value of the first one
abbrev pub past_second_digit : EscapeMode → List ℕ → ℕ → List ℕ → RestResult
past_second_digit q from high [] = Err (fault_kind.ShortHexEscape, from)
past_second_digit q from high (c ∷ cs) =
    if not (is_hex c) then Err (fault_kind.HexEscapeDigit, c ∷ cs)
    else if nat_lt 7 high && not (is_bytes q
    || is_c q) then Err (fault_kind.OutOfRangeHexEscape, from)
    else if is_c q && (high == 0 && digit_value c == 0) then Err (fault_kind.Nul, from)
    else Ok cs

-- `\x`, and two digits
abbrev pub past_hex : EscapeMode → List ℕ → List ℕ → RestResult
past_hex q from [] = Err (fault_kind.ShortHexEscape, from)
past_hex q from (c ∷ cs) =
    if is_hex c then past_second_digit q from (digit_value c) cs else Err
    (fault_kind.HexEscapeDigit, c ∷ cs)

-- the number is the code of a character
abbrev pub is_scalar : ℕ → Bool
is_scalar n = nat_lt n 55296 || (nat_lt 57343 n && nat_lt n 1114112)

-- the end of a `\u{..}` with that value and that number of digits
abbrev pub past_value : EscapeMode → List ℕ → ℕ → ℕ → List ℕ → RestResult
past_value q from value count cs =
    if nat_lt 6 count then Err (fault_kind.OverlongUnicodeEscape, from)
    else if is_bytes q then Err (fault_kind.UnicodeEscapeInBytes, from)
    else if not (is_scalar value) then Err (fault_kind.UnicodeEscapeValue, from)
    else if is_c q && value == 0 then Err (fault_kind.Nul, from)
    else Ok cs

-- The digits of a `\u{..}` after the first ones, and its `}`. The first digits have that value and
-- that number. The value stops at the least number that is too large for a character, and the
-- number of digits at seven.
abbrev pub past_digits : EscapeMode → List ℕ → ℕ → ℕ → List ℕ → RestResult
past_digits q from value count [] = Err (fault_kind.UnterminatedUnicodeEscape, from)
past_digits q from value count (c ∷ cs) =
    if char_set_contains (codes "}") c then past_value q from value count cs
    else if c == low_line then past_digits q from value count cs
    else if is_hex c then past_digits q from (min (value * 16 + digit_value c) 1114112)
    (min (count + 1) 7) cs
    else Err (fault_kind.UnicodeEscapeDigit, c ∷ cs)

-- the first digit of a `\u{`
abbrev pub past_braces : EscapeMode → List ℕ → List ℕ → RestResult
past_braces q from [] = Err (fault_kind.UnterminatedUnicodeEscape, from)
past_braces q from (c ∷ cs) =
    if c == low_line then Err (fault_kind.UnicodeEscapeStart, c ∷ cs)
    else if char_set_contains (codes "}") c then Err (fault_kind.EmptyUnicodeEscape, from)
    else if is_hex c then past_digits q from (digit_value c) 1 cs
    else Err (fault_kind.UnicodeEscapeDigit, c ∷ cs)

-- `\u`
abbrev pub past_unicode : EscapeMode → List ℕ → List ℕ → RestResult
past_unicode q from [] = Err (fault_kind.UnicodeEscapeBrace, from)
past_unicode q from (c ∷ cs) =
    if char_set_contains (codes "{") c then past_braces q from cs else Err
    (fault_kind.UnicodeEscapeBrace, from)

-- an escape; a `\` at the end of a line continues a string in the next line
abbrev pub past_escape : EscapeMode → List ℕ → List ℕ → RestResult
past_escape q from [] = Err (fault_kind.Escape, from)
past_escape q from (c ∷ cs) =
    if char_set_contains (codes "nrt\\'\"") c then Ok cs
    else if char_set_contains (codes "0") c
    then (if is_c q then Err (fault_kind.Nul, from) else Ok cs)
    else if char_set_contains (codes "x") c then past_hex q from cs
    else if char_set_contains (codes "u") c then past_unicode q from cs
    else if char_set_contains (codes "\n") c && not (is_single q) then Ok (past Blank cs)
    else Err (fault_kind.Escape, c ∷ cs)

-- ---- characters

-- a character that isn't an escape
abbrev pub past_plain_char : EscapeMode → ℕ → List ℕ → RestResult
past_plain_char q c cs =
    if is_single q && char_set_contains (codes "\n\r\t'") c then Err (
      fault_kind.UnescapedChar,
      c
          ∷ cs,
    )
    else if char_set_contains (codes "\r") c then Err (fault_kind.BareCarriageReturn, c ∷ cs)
    else if is_c q && c == 0 then Err (fault_kind.Nul, c ∷ cs)
    else if is_bytes q && not (nat_lt c 128) then Err (fault_kind.NonAscii, c ∷ cs)
    else Ok cs

abbrev pub past_char_or_escape : EscapeMode → ℕ → List ℕ → RestResult
past_char_or_escape q c cs =
    if c == backslash then past_escape q (c ∷ cs) cs else past_plain_char q c cs

-- Whether a string's text is right, or its first fault. The number says how many characters an
-- escape has taken already.
abbrev pub check_string : EscapeMode → ℕ → List ℕ → CheckResult
check_string q taken [] = Ok tt
check_string q (suc taken) (c ∷ cs) = check_string q taken cs
check_string q zero (c ∷ cs) = elim (past_char_or_escape q c cs)
    [ Err at ↦ Err at | Ok rest ↦ check_string q (length cs - length rest) cs ]

-- whether a raw string's text is right; there a `\` is a character too
abbrev pub check_raw : EscapeMode → List ℕ → CheckResult
check_raw q [] = Ok tt
check_raw q (c ∷ cs) =
    if c == backslash then check_raw q cs else elim (past_plain_char q c cs)
    [ Err at ↦ Err at | Ok rest ↦ check_raw q cs ]

-- what is left of a char's text after its first character, or the fault
abbrev pub check_char : EscapeMode → List ℕ → RestResult
check_char q [] = Err (fault_kind.EmptyChar, [])
check_char q (c ∷ cs) = past_char_or_escape q c cs
