-- Gaps are white space, by one character after another.
use Rattle.std.proofs.Common.{◌≡◌, ℕ, zero, suc, ◌<◌, Bool, true, false, List, [], ◌∷◌, ◌++◌, length, refl, ap, ◌∙◌}
use Rattle.std.proofs.Common.{arith, chars, IsAscii, get_or}
use Rattle.std.proofs.lemmas.Str.{chars-append, chars-IsAscii, IsUtf8-from_ascii}
use Rattle.mbe_text.specs.RustText.Gaps.{indent}
use Rattle.mbe_tt.specs.declared.tt.Spacing.TheVariants.{Alone, Joint}
use Rattle.std.specs.Prelude.{not, ◌&&◌, if◌then◌else◌}
use Rattle.mbe_text.specs.declared.dialect.Dialect.{Dialect}
use Rattle.mbe_text.specs.declared.dialect.Dialect.TheVariants.{Sample, Rust}
use Rattle.mbe_text.specs.Whitespace.{begins_comment, whitespace_class}
use Rattle.mbe_text.specs.Characters.{has}
use Rattle.mbe_text.specs.LexedTrees.{next_token}
use Rattle.mbe_text.specs.Trivia.{past_trivia}
use Rattle.mbe_text.specs.Laws.Gaps.{before, GapsAreBlank, GapsAreInBytes, GapsSeparatePuncts, PunctsJoin}

-- a space and a line feed are white space in each dialect
space_is_blank : (dialect : Dialect) → has (whitespace_class dialect) 32 ≡ true
space_is_blank Sample = refl
space_is_blank (Rust edition) = refl

line_is_blank : (dialect : Dialect) → has (whitespace_class dialect) 10 ≡ true
line_is_blank Sample = refl
line_is_blank (Rust edition) = refl

one_blank : (dialect : Dialect) (total n c : ℕ) (cs : List ℕ) → has (whitespace_class dialect) c ≡ true
    → past_trivia dialect total (suc n) (c ∷ cs) ≡ past_trivia dialect total n cs
one_blank dialect total n c cs h = rw h refl

space : (dialect : Dialect) (total : ℕ) (cs : List ℕ)
    → past_trivia dialect total (length (32 ∷ cs)) (32 ∷ cs) ≡ past_trivia dialect total (length cs) cs
space dialect total cs = one_blank dialect total (length cs) 32 cs (space_is_blank dialect)

four_spaces : (dialect : Dialect) (total : ℕ) (cs : List ℕ)
    → past_trivia dialect total (length (32 ∷ (32 ∷ (32 ∷ (32 ∷ cs))))) (32 ∷ (32 ∷ (32 ∷ (32 ∷ cs))))
    ≡ past_trivia dialect total (length cs) cs
four_spaces dialect total cs =
    space dialect total (32 ∷ (32 ∷ (32 ∷ cs))) ∙ (space dialect total (32 ∷ (32 ∷ cs))
    ∙ (space dialect total (32 ∷ cs) ∙ space dialect total cs))

indented : (dialect : Dialect) (total depth : ℕ) (cs : List ℕ)
    → past_trivia dialect total (length (indent depth ++ cs)) (indent depth ++ cs)
    ≡ past_trivia dialect total (length cs) cs
unfolding indent
indented dialect total zero cs = refl
indented dialect total (suc depth) cs =
    four_spaces dialect total (indent depth ++ cs) ∙ indented dialect total depth cs

passed : (dialect : Dialect) (total depth : ℕ) (line apart beside : Bool) (cs : List ℕ)
    → past_trivia dialect total (length (before line apart beside depth ++ cs)) (before line apart beside depth ++ cs)
    ≡ past_trivia dialect total (length cs) cs
passed dialect total depth true apart beside cs =
    one_blank dialect total (length (indent depth ++ cs)) 10 (indent depth ++ cs) (line_is_blank dialect)
    ∙ indented dialect total depth cs
passed dialect total depth false true true cs = refl
passed dialect total depth false true false cs = space dialect total cs
passed dialect total depth false false beside cs = refl

pub gaps_are_blank : GapsAreBlank
gaps_are_blank dialect total depth line apart beside cs =
    rw (next_token, passed dialect total depth line apart beside cs) refl

-- ---- bytes

pub nothing_is_ascii : IsAscii []
nothing_is_ascii = λ i. omega arith

pub one_more : (c : ℕ) (cs : List ℕ) → c < 128 → IsAscii cs → IsAscii (c ∷ cs)
one_more c cs small h = λ i. elim i as (λ j. get_or (c ∷ cs) j 0 < 128) [ zero ↦ small | suc k ↦ h k ]

one_space : (cs : List ℕ) → IsAscii cs → IsAscii (32 ∷ cs)
one_space cs h = one_more 32 cs (omega arith) h

indent_is_ascii : (depth : ℕ) → IsAscii (indent depth)
unfolding indent
indent_is_ascii zero = nothing_is_ascii
indent_is_ascii (suc depth) =
    let cs = indent depth in
    one_space (32 ∷ (32 ∷ (32 ∷ cs))) (one_space (32 ∷ (32 ∷ cs))
    (one_space (32 ∷ cs) (one_space cs (indent_is_ascii depth))))

pub gap_is_ascii : (depth : ℕ) (line apart beside : Bool) → IsAscii (before line apart beside depth)
gap_is_ascii depth true apart beside = one_more 10 (indent depth) (omega arith) (indent_is_ascii depth)
gap_is_ascii depth false true true = nothing_is_ascii
gap_is_ascii depth false true false = one_space [] nothing_is_ascii
gap_is_ascii depth false false beside = nothing_is_ascii

pub gaps_are_in_bytes : GapsAreInBytes
gaps_are_in_bytes depth line apart beside text =
    let cs = before line apart beside depth in
    let a = gap_is_ascii depth line apart beside in
    chars-append cs text (IsUtf8-from_ascii cs a) ∙ ap (λ (l : List ℕ). l ++ chars text) (chars-IsAscii cs a)

-- ---- puncts

pub gaps_separate_puncts : GapsSeparatePuncts
gaps_separate_puncts depth true apart beside cs h = refl
gaps_separate_puncts depth false true true cs h = cc
gaps_separate_puncts depth false true false cs h = refl
gaps_separate_puncts depth false false beside cs h = cc

pub puncts_join : PunctsJoin
puncts_join c cs h other =
    ap (λ (is : Bool). if is && not (begins_comment (c ∷ cs)) then Joint else Alone) h
    ∙ ap (λ (is : Bool). if true && not is then Joint else Alone) other
