-- The identifiers of the sample dialect, and the suffixes of its literals.
use Rattle.std.specs.Prelude.{ℕ, not, ◌&&◌, ◌||◌, nat_le, if◌then◌else◌, Bool, List, length, drop}
use Rattle.std.specs.Prelude.{codes, bytes_eq, Result, Ok, Err}
use Rattle.mbe_tt.specs.declared.tt.IdentIsRaw.TheVariants as raw
use Rattle.mbe_text.specs.declared.characters.CharClass.TheVariants.{IdentStart, IdentContinue}
use Rattle.mbe_text.specs.declared.characters.CharClass.TheVariants.{Hash}
use Rattle.mbe_text.specs.Characters.{begins, begins_with, past, bytes_before}
use Rattle.mbe_text.specs.LexFaults.{fault_at}
use Rattle.mbe_text.specs.declared.fault_kind.LexFaultKind.{LexFaultKind}
use Rattle.mbe_text.specs.declared.fault_kind.LexFaultKind.TheVariants as fault_kind
use Rattle.mbe_text.specs.Shapes.{ReadResult, identifier}

-- what is left after an identifier without a `r#`; the first character isn't checked
abbrev pub past_identifier : List ℕ → List ℕ
past_identifier cs = past IdentContinue (drop 1 cs)

-- the rest of a raw string after its letters: `#`s and a quote
abbrev pub begins_hashes : List ℕ → Bool
begins_hashes rest = begins Hash rest && begins_with (codes "\"") (past Hash rest)

-- an identifier, with what follows it, would begin a prefixed string, a raw string, or a byte
abbrev pub begins_literal : List ℕ → List ℕ → Bool
begins_literal name rest =
    begins_with (codes "\"") rest
    || (bytes_eq name (codes "b") && begins_with (codes "'") rest)
    || ((bytes_eq name (codes "r") || bytes_eq name (codes "br") || bytes_eq name (codes "cr"))
    && begins_hashes rest)

-- an identifier without a `r#`
abbrev pub read_plain_identifier : ℕ → List ℕ → ReadResult
read_plain_identifier total cs =
    let rest = past_identifier cs in
    let name = bytes_before cs rest in
    if begins_literal name rest then Err (fault_at fault_kind.Prefix total cs) else Ok
    (identifier name raw.No, rest)

abbrev pub begins_raw : List ℕ → Bool
begins_raw cs = begins_with (codes "r#") cs && begins IdentStart (drop 2 cs)

-- an identifier with its `r#`
abbrev pub read_raw_identifier : ℕ → List ℕ → ReadResult
read_raw_identifier total cs =
    let rest = past_identifier (drop 2 cs) in
    let name = bytes_before (drop 2 cs) rest in
    if begins_with
    (codes "\"") rest then Err (fault_at fault_kind.Prefix total cs) else Ok (identifier name raw.Yes, rest)

abbrev pub read_identifier : ℕ → List ℕ → ReadResult
read_identifier total cs =
    if begins_raw cs then read_raw_identifier total cs else read_plain_identifier total cs

-- What is left after a suffix, which may be empty. A suffix has at most 255 bytes, and must not
-- begin a string.
abbrev pub past_suffix : List ℕ → Result (List ℕ) LexFaultKind
past_suffix cs =
    let rest = past_identifier cs in
    let suffix = bytes_before cs rest in
    if not (begins IdentStart cs) then Ok cs
    else if not (nat_le (length suffix) 255) then Err fault_kind.LongSuffix
    else if begins_literal suffix rest then Err fault_kind.Prefix
    else Ok rest
