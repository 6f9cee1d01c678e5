-- White space, and the ends of block comments.
use Rattle.std.specs.Prelude.{ℕ, zero, suc, ◌==◌, ◌&&◌, ◌||◌, Bool, if◌then◌else◌, Option, Some}
use Rattle.std.specs.Prelude.{None, List, [], ◌∷◌, drop, codes, ◌≡◌, Result, MatchResult}
use Rattle.mbe_text.specs.declared.characters.CharClass.{CharClass}
use Rattle.mbe_text.specs.declared.characters.CharClass.TheVariants.{Blank, Space}
use Rattle.mbe_text.specs.declared.dialect.Dialect.{Dialect}
use Rattle.mbe_text.specs.declared.dialect.Dialect.TheVariants.{Sample, Rust}
use Rattle.mbe_text.specs.declared.scanner.LexFault.{LexFault}
use Rattle.mbe_text.specs.declared.fault_kind.LexFaultKind.TheVariants as fault_kind
use Rattle.mbe_text.specs.Characters.{begins_with, slash, star}
use Rattle.mbe_text.specs.LexFaults.{fault_at}

-- the class of white space
abbrev pub whitespace_class : Dialect → CharClass
whitespace_class Sample = Blank
whitespace_class (Rust edition) = Space

-- What is left after that many ends of block comments, and one more end for each comment that
-- begins on the way. None if there aren't so many. Two characters begin or end a comment, and no
-- character belongs to two such pairs.
abbrev pub past_comments : ℕ → List ℕ → Option (List ℕ)
past_comments zero cs = Some cs
past_comments (suc depth) [] = None
past_comments (suc depth) (c ∷ []) = None
past_comments (suc depth) (c ∷ (d ∷ cs)) =
    if c == slash && d == star then past_comments (suc (suc depth)) cs
    else if c == star && d == slash then past_comments depth cs
    else past_comments (suc depth) (d ∷ cs)

abbrev pub begins_comment : List ℕ → Bool
begins_comment cs = begins_with (codes "//") cs || begins_with (codes "/*") cs

-- a call skipped the block comment that is next, and left that rest
abbrev pub PassesBlock : ℕ → List ℕ → Result (Unit {0}) LexFault → List ℕ → Type 0
PassesBlock total cs result rest = MatchResult result (λ _. past_comments 1 (drop 2 cs) ≡ Some rest)
    (λ fault. (past_comments 1 (drop 2 cs) ≡ None)
    × (fault ≡ fault_at fault_kind.UnterminatedComment total cs))
