-- What a scanner skips: white space and comments before a token, and what may stand before the
-- first token of a file.
use Rattle.std.specs.Prelude.{ℕ, zero, suc, ◌==◌, not, Bool, false, if◌then◌else◌, Some, None, List}
use Rattle.std.specs.Prelude.{[], ◌∷◌, length, drop, codes, ◌≡◌, Result, Ok, Err, MatchResult}
use Rattle.mbe_text.specs.declared.characters.CharClass.TheVariants.{NotLineFeed}
use Rattle.mbe_text.specs.declared.dialect.Dialect.{Dialect}
use Rattle.mbe_text.specs.declared.dialect.Dialect.TheVariants.{Sample, Rust}
use Rattle.mbe_text.specs.declared.scanner.LexFault.{LexFault}
use Rattle.mbe_text.specs.declared.fault_kind.LexFaultKind.TheVariants as fault_kind
use Rattle.mbe_text.specs.Characters.{begins, begins_with, past}
use Rattle.mbe_text.specs.Whitespace.{whitespace_class, past_comments}
use Rattle.mbe_text.specs.LexFaults.{fault_at}
use Rattle.mbe_text.specs.RustTokens.{begins_doc}

-- a comment that is a token is next: a doc comment of the Rust dialect
abbrev pub is_doc : Dialect → List ℕ → Bool
is_doc Sample cs = false
is_doc (Rust edition) cs = begins_doc cs

-- What is left after white space and comments. A block comment without an end is a fault where it
-- begins. The second number bounds the steps: it is at least the number of characters.
abbrev pub past_trivia : Dialect → ℕ → ℕ → List ℕ → Result (List ℕ) LexFault
past_trivia dialect total zero cs = Ok cs
past_trivia dialect total (suc n) cs =
    if begins (whitespace_class dialect) cs then past_trivia dialect total n (drop 1 cs)
    else if is_doc dialect cs then Ok cs
    else if begins_with (codes "//") cs then past_trivia dialect total n
    (past NotLineFeed (drop 2 cs))
    else if not (begins_with (codes "/*") cs) then Ok cs
    else elim (past_comments 1 (drop 2 cs)) [
      | None ↦ Err (fault_at fault_kind.UnterminatedComment total cs)
      | Some rest ↦ past_trivia dialect total n rest
    ]

-- a call returned the result of `past_trivia`, and left that rest
abbrev pub PassesTrivia : Dialect → ℕ → List ℕ → Result (Unit {0}) LexFault → List ℕ → Type 0
PassesTrivia dialect total cs result rest =
    MatchResult result (λ _. past_trivia dialect total (length cs) cs ≡ Ok rest)
    (λ fault. past_trivia dialect total (length cs) cs ≡ Err fault)

-- ---- before the first token

-- what is left after a byte order mark
abbrev pub past_byte_order_mark : List ℕ → List ℕ
past_byte_order_mark [] = []
past_byte_order_mark (c ∷ cs) = if c == 0xFEFF then cs else c ∷ cs

-- the `[` of an attribute follows after white space and comments
abbrev pub is_attribute : Dialect → ℕ → List ℕ → Bool
is_attribute dialect total cs = elim (past_trivia dialect total (length cs) cs) [
  | Err fault ↦ false
  | Ok rest ↦ begins_with (codes "[") rest
]

-- what is left after a first line that begins with `#!`, unless that begins an attribute
abbrev pub past_shebang : Dialect → ℕ → List ℕ → List ℕ
past_shebang dialect total cs =
    if not (begins_with (codes "#!") cs) then cs
    else if is_attribute dialect total (drop 2 cs) then cs
    else past NotLineFeed (drop 2 cs)

-- a file's text without what may stand before its first token
abbrev pub after_preamble : Dialect → ℕ → List ℕ → List ℕ
after_preamble Sample total cs = cs
after_preamble (Rust edition) total cs = past_shebang (Rust edition) total (past_byte_order_mark cs)
