-- The literals and the lifetimes of the sample dialect: numbers, strings and chars.
use Rattle.std.specs.Prelude.{ℕ, ◌==◌, not, ◌&&◌, ◌||◌, if◌then◌else◌, Bool, true, false, is_some}
use Rattle.std.specs.Prelude.{unwrap_or, Option, Some, None, List, [], ◌∷◌, length, drop, codes}
use Rattle.std.specs.Prelude.{option_and_then, Ok, Err}
use Rattle.std.specs.Char.{char_set_contains}
use Rattle.mbe_tt.specs.declared.tt.LitKind.{LitKind}
use Rattle.mbe_tt.specs.declared.tt.LitKind.TheVariants.{Char, Integer, Float}
use Rattle.mbe_tt.specs.declared.tt.Spacing.TheVariants.{Joint}
use Rattle.mbe_text.specs.declared.characters.CharClass.TheVariants.{IdentStart, Decimal, Digit}
use Rattle.mbe_text.specs.declared.characters.CharClass.TheVariants.{HexDigit, Exponent, Sign}
use Rattle.mbe_text.specs.Characters.{begins, begins_with, past, past_one, bytes_before, apostrophe}
use Rattle.mbe_text.specs.Characters.{backslash}
use Rattle.mbe_text.specs.LexFaults.{fault_at}
use Rattle.mbe_text.specs.declared.fault_kind.LexFaultKind.TheVariants as fault_kind
use Rattle.mbe_text.specs.Shapes.{ReadResult, literal_of, punct_of}
use Rattle.mbe_text.specs.Identifiers.{past_suffix}

-- a literal of that text; its suffix and what follows are still to be read
abbrev pub read_literal : ℕ → LitKind → List ℕ → List ℕ → ReadResult
read_literal total kind text cs = elim (past_suffix cs) [
  | Err why ↦ Err (fault_at why total cs)
  | Ok rest ↦ Ok (literal_of text (bytes_before cs rest) (length (bytes_before cs rest)) kind, rest)
]

-- ---- numbers

-- a `.` that belongs neither to a range nor to a field
abbrev pub begins_fraction : List ℕ → Bool
begins_fraction cs =
    begins_with (codes ".") cs && not (begins_with (codes ".") (drop 1 cs))
    && not (begins IdentStart (drop 1 cs))

-- what is left after a fraction
abbrev pub past_fraction : List ℕ → Option (List ℕ)
past_fraction cs = if begins_fraction cs then Some (past Digit (drop 1 cs)) else None

-- what is left after an exponent; its first digit isn't a `_`
abbrev pub past_exponent : List ℕ → Option (List ℕ)
past_exponent cs = option_and_then (λ rest.
    let digits = unwrap_or (past_one Sign rest) rest in
    if begins Decimal digits then Some (past Digit digits) else None) (past_one Exponent cs)

-- the kind of a number in base ten, and what is left after it, given the text after its first
-- digits
abbrev pub past_decimal : List ℕ → LitKind × List ℕ
past_decimal cs =
    let fraction = past_fraction cs in
    let exponent = past_exponent (unwrap_or fraction cs) in (
      if is_some fraction || is_some exponent then Float else Integer,
      unwrap_or exponent
          (unwrap_or fraction cs),
    )

-- the kind of a number in any base, and what is left after it, from its suffix on
abbrev pub past_number : List ℕ → LitKind × List ℕ
past_number cs =
    if begins_with (codes "0x") cs then (Integer, past HexDigit (drop 2 cs))
    else if begins_with (codes "0o") cs
    || begins_with (codes "0b") cs then (Integer, past Digit (drop 2 cs))
    else past_decimal (past Digit (drop 1 cs))

abbrev pub read_number : ℕ → List ℕ → ReadResult
read_number total cs =
    read_literal total (past_number cs).0 (bytes_before cs (past_number cs).1) (past_number cs).1

-- ---- strings and chars

-- The text from the next such quote on. A character after a `\` doesn't count; the flag says
-- whether the first character is after one.
abbrev pub from_quote : ℕ → Bool → List ℕ → Option (List ℕ)
from_quote quote escaped [] = None
from_quote quote true (c ∷ cs) = from_quote quote false cs
from_quote quote false (c ∷ cs) =
    if c == quote then Some (c ∷ cs) else from_quote quote (c == backslash) cs

-- a string, or a char, between two such quotes
abbrev pub read_quoted : ℕ → LitKind → ℕ → List ℕ → ReadResult
read_quoted total kind quote cs = elim (from_quote quote false (drop 1 cs)) [
  | None ↦ Err (fault_at fault_kind.UnterminatedString total cs)
  | Some end ↦ read_literal total kind (bytes_before (drop 1 cs) end) (drop 1 end)
]

-- what follows a `'` is a char: a `\`, or a character and another `'`. That character is neither a
-- `'` nor a line feed.
abbrev pub is_char : List ℕ → Bool
is_char [] = false
is_char (c ∷ cs) = c == backslash
    || (not (char_set_contains (codes "'\n") c) && begins_with (codes "'") cs)

-- the `'` of a lifetime; the lifetime's identifier is the next token
abbrev pub read_lifetime : ℕ → List ℕ → ReadResult
read_lifetime total cs =
    if begins IdentStart (drop 1 cs) then Ok (punct_of apostrophe Joint, drop 1 cs) else Err
    (fault_at fault_kind.Start total cs)

abbrev pub read_quote : ℕ → List ℕ → ReadResult
read_quote total cs =
    if is_char (drop 1 cs) then read_quoted total Char apostrophe cs else read_lifetime total cs
