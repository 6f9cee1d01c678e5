-- Characters at the front of texts.
use Rattle.std.proofs.Common.{◌≡◌, ◌≢◌, ℕ, zero, suc, ◌+◌, ◌<◌, ◌≤◌, Bool, true, false, cond, not, eqb, ltb, add-one}
use Rattle.std.proofs.Common.{List, [], ◌∷◌, ◌++◌, length, drop, get_or, Option, Some, None, option_map, MatchOption}
use Rattle.std.proofs.Common.{Bor, refl, sym, ap, ◌∙◌, subst, arith, zero-add, encode_utf8}
use Rattle.std.specs.Char.{len_utf8}
use Rattle.std.specs.List.{position, position_or_len, prefix_len}
use Rattle.std.specs.Prelude.{unwrap_or}
use Rattle.std.specs.Str.{IsUtf8, IsCharBoundary}
use Rattle.std.proofs.lemmas.Bool.Decides.{nat_tests}
use Rattle.std.proofs.lemmas.List.Sums.{prefix_len_passes}
use Rattle.std.proofs.lemmas.Str.{chars-nil, chars_past_char, drop_past_char, IsCharBoundary-start}
use Rattle.std.proofs.lemmas.Str.{IsCharBoundary-after_ascii}
use Rattle.mbe_grammar.specs.Peg.Tokens.{first_char, after_byte, is_of_name, name_len}

-- a text's first character
pub first_char_is : (text rest : List ℕ) (c : ℕ) → IsUtf8 text → text ≡ encode_utf8 c ++ rest
    → Some (c, rest) ≡ first_char text
unfolding first_char
first_char_is text rest c u e =
    let past = chars_past_char text rest c u e in
    let left : drop (len_utf8 c) text ≡ rest = rw zero-add at (drop_past_char text rest 0 c e) in
    rw (past, left) refl

-- none in a text without bytes
pub no_first_char : (text : List ℕ) → length text ≡ 0 → None ≡ first_char text
unfolding first_char
no_first_char [] e = rw chars-nil refl
no_first_char (b ∷ bs) e = absurd (omega (arith, e))

-- ---- names

name_is_ascii : (c : ℕ) → is_of_name c ≡ true → c < 128
name_is_ascii c h = grind (arith, nat_tests)

prefix_len-le : {X : Type 0} (p : X → Bool) (xs : List X) → prefix_len p xs ≤ length xs
prefix_len-le p [] = omega arith
prefix_len-le p (x ∷ xs) =
    elim (p x) as (λ b. cond b (1 + prefix_len p xs) 0 ≤ suc (length xs))
    [ true ↦ omega (arith, prefix_len-le p xs) | false ↦ omega arith ]

not_not : (b : Bool) → not (not b) ≡ b
not_not true = refl
not_not false = refl

passes_name : (text : List ℕ) (n : ℕ) → n < name_len text → is_of_name (get_or text n 0) ≡ true
passes_name text n h =
    sym (not_not (is_of_name (get_or text n 0))) ∙ prefix_len_passes (λ b. not (not (is_of_name b))) text n 0 h

found_or_end : (k n : ℕ) → k ≤ n → unwrap_or (cond (ltb k n) (Some k) None) n ≡ k
found_or_end k n h = grind (arith, nat_tests)

position_end : (p : ℕ → Bool) (xs : List ℕ) → unwrap_or (position p xs) (length xs) ≡ position_or_len p xs
position_end p xs = found_or_end (position_or_len p xs) (length xs) (prefix_len-le (λ x. not (p x)) xs)

-- the place where a name ends
pub name_end : (text : List ℕ) → unwrap_or (position (λ b. not (is_of_name b)) text) (length text) ≡ name_len text
name_end text = position_end (λ b. not (is_of_name b)) text

-- a text may be cut there
cut_after : (text : List ℕ) (n : ℕ) → IsUtf8 text → n ≤ name_len text → n ≤ length text → IsCharBoundary text n
cut_after text zero u h l = IsCharBoundary-start text u
cut_after text (suc n) u h l =
    subst (IsCharBoundary text) (add-one n)
    (IsCharBoundary-after_ascii text n u (omega (arith, l))
    (name_is_ascii (get_or text n 0) (passes_name text n (omega (arith, h)))))

pub name_boundary : (text : List ℕ) → IsUtf8 text → IsCharBoundary text (name_len text)
name_boundary text u =
    cut_after text (name_len text) u (omega arith) (prefix_len-le (λ b. not (not (is_of_name b))) text)

-- ---- a byte at the front

differs : (b c : ℕ) → (b ≡ c → ⊥) → eqb b c ≡ false
differs b c h = grind (arith, nat_tests)

begins_or_not : (c b : ℕ) (bs : List ℕ) → ((rest : List ℕ) → b ∷ bs ≢ c ∷ rest) → None ≡ after_byte c (b ∷ bs)
begins_or_not c b bs h =
    ap (λ t. cond t (Some bs) None) (sym (differs b c (λ e. h bs (ap (λ x. x ∷ bs) e))))

same : (c : ℕ) → eqb c c ≡ true
same c = grind (arith, nat_tests)

pub after_byte_is : (c : ℕ) (bs : List ℕ) (r : Option (Bor (List ℕ)))
    → MatchOption r ((rest : List ℕ) → bs ≢ c ∷ rest) (λ x. bs ≡ c ∷ x.now)
    → option_map (λ t. t.now) r ≡ after_byte c bs
after_byte_is c [] None h = refl
after_byte_is c (b ∷ bs) None h = begins_or_not c b bs h
after_byte_is c bs (Some x) h = rw h (ap (λ t. cond t (Some x.now) None) (sym (same c)))
