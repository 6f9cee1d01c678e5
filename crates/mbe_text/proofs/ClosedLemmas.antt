-- One character more of a block comment's text.
use Rattle.std.proofs.Common.{◌≡◌, ℕ, suc, ◌==◌, ◌+◌, ◌-◌, ◌<◌, ◌≤◌, not, ◌&&◌, Bool, true, false, List, [], ◌∷◌, ◌++◌}
use Rattle.std.proofs.Common.{length, drop, get_or, refl, sym, ap, ◌∙◌, arith, chars, IsUtf8}
use Rattle.std.proofs.lemmas.Bool.Decides.{nat_tests}
use Rattle.std.proofs.lemmas.List.{at_drop_more, at_drop_all, length_push}
use Rattle.std.proofs.lemmas.Str.{encodes-chars, length-le-encodes}
use Rattle.mbe_text.specs.RustText.DocComments.{is_closed, opens_comment, closes_comment}

-- the next character, and what is after it
pub step : (last depth n c : ℕ) (cs : List ℕ) → (n < length cs) × (c ≡ get_or cs n c)
    → is_closed last depth (drop n cs) ≡ is_closed last depth (c ∷ drop (n + 1) cs)
step last depth n c cs h =
    at_drop_more (is_closed last depth) cs n c h.0
    ∙ ap (λ (x : ℕ). is_closed last depth (x ∷ drop (n + 1) cs)) (sym h.1)

-- as many are yielded
pub pushed : (last depth : ℕ) (cs yielded : List ℕ) (c : ℕ)
    → is_closed last depth (drop (length (yielded ++ (c ∷ []))) cs)
    ≡ is_closed last depth (drop (length yielded + 1) cs)
pushed last depth cs yielded c = ap (λ (k : ℕ). is_closed last depth (drop k cs)) (length_push yielded c)

is_not : (c d : ℕ) → (c ≡ d → ⊥) → (c == d) ≡ false
is_not c d n = by (c == d) refl
  where
    by : (b : Bool) → (c == d) ≡ b → (c == d) ≡ false
    by false e = e
    by true e = let same : c ≡ d = grind (arith, nat_tests, e) in absurd (n same)

is_it : (c d : ℕ) → c ≡ d → (c == d) ≡ true
is_it c d h = grind (arith, nat_tests, h)

pub returned : (last depth c : ℕ) (cs : List ℕ) → c ≡ 13 → is_closed last depth (c ∷ cs) ≡ false
returned last depth c cs h = let r = is_it c 13 h in rw (is_closed, r) refl

pub opened : (last depth c : ℕ) (cs : List ℕ) → (c ≡ 13 → ⊥) → opens_comment last c ≡ true
    → is_closed last depth (c ∷ cs) ≡ is_closed 0 (suc depth) cs
opened last depth c cs n o = let r = is_not c 13 n in rw (is_closed, r, o) refl

closed : (last depth c : ℕ) (cs : List ℕ) → (c ≡ 13 → ⊥) → opens_comment last c ≡ false
    → closes_comment last c ≡ true
    → is_closed last depth (c ∷ cs) ≡ (not (depth == 0) && is_closed 0 (depth - 1) cs)
closed last depth c cs n o l = let r = is_not c 13 n in rw (is_closed, r, o, l) refl

pub closed_early : (last depth c : ℕ) (cs : List ℕ) → (c ≡ 13 → ⊥) → opens_comment last c ≡ false
    → closes_comment last c ≡ true → depth ≡ 0 → is_closed last depth (c ∷ cs) ≡ false
closed_early last depth c cs n o l z =
    closed last depth c cs n o l ∙ ap (λ (b : Bool). not b && is_closed 0 (depth - 1) cs) (is_it depth 0 z)

pub closed_one : (last depth c : ℕ) (cs : List ℕ) → (c ≡ 13 → ⊥) → opens_comment last c ≡ false
    → closes_comment last c ≡ true → (depth ≡ 0 → ⊥)
    → is_closed last depth (c ∷ cs) ≡ is_closed 0 (depth - 1) cs
closed_one last depth c cs n o l z =
    closed last depth c cs n o l ∙ ap (λ (b : Bool). not b && is_closed 0 (depth - 1) cs) (is_not depth 0 z)

pub passed : (last depth c : ℕ) (cs : List ℕ) → (c ≡ 13 → ⊥) → opens_comment last c ≡ false
    → closes_comment last c ≡ false → is_closed last depth (c ∷ cs) ≡ is_closed c depth cs
passed last depth c cs n o l = let r = is_not c 13 n in rw (is_closed, r, o, l) refl

at_end : (last depth n : ℕ) (cs : List ℕ) → length cs ≤ n
    → is_closed last depth (drop n cs) ≡ (depth == 0 && not (last == 47))
at_end last depth n cs le = at_drop_all (is_closed last depth) cs n le

pub ended : (last depth n : ℕ) (cs : List ℕ) → length cs ≤ n → depth ≡ 0
    → is_closed last depth (drop n cs) ≡ not (last == 47)
ended last depth n cs le z = at_end last depth n cs le ∙ ap (λ (b : Bool). b && not (last == 47)) (is_it depth 0 z)

pub ended_open : (last depth n : ℕ) (cs : List ℕ) → length cs ≤ n → (depth ≡ 0 → ⊥)
    → is_closed last depth (drop n cs) ≡ (depth == 0)
ended_open last depth n cs le z =
    at_end last depth n cs le
    ∙ (ap (λ (b : Bool). b && not (last == 47)) (is_not depth 0 z) ∙ sym (is_not depth 0 z))

-- a text has no more characters than bytes
pub chars_short : (text : List ℕ) → IsUtf8 text → length (chars text) ≤ length text
chars_short text u =
    let same = ap (λ (x : List ℕ). length x) (encodes-chars text u) in
    let le = length-le-encodes (chars text) in omega (arith, same, le)
