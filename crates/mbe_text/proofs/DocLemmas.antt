-- The texts of doc comments that have no `"`, and no carriage return.
use Rattle.std.proofs.Common.{◌≡◌, ℕ, ◌+◌, ◌==◌, ◌&&◌, ◌||◌, nat_lt, max, min, Bool, true, false, if◌then◌else◌, List}
use Rattle.std.proofs.Common.{[], ◌∷◌, None, refl, sym, ap, ◌∙◌, arith, chars, lit<, encode_utf8, encode_utf8_all}
use Rattle.std.proofs.Common.{IsUtf8}
use Rattle.std.proofs.lemmas.Str.{encode_ascii, encodes-chars}
use Rattle.std.proofs.lemmas.Bool.{false≢true}
use Rattle.std.proofs.lemmas.Bool.Decides.{nat_tests}
use Rattle.std.proofs.lemmas.List.Folds.{list_any-append}
use Rattle.std.specs.List.{list_any}
use Rattle.mbe_text.specs.Tokens.{guards_after, most_guards}
use Rattle.mbe_text.specs.RustTokens.{from_carriage_return}

neither : (x y : Bool) → (x || y) ≡ false → (x ≡ false) × (y ≡ false)
neither true y h = absurd (cc)
neither false y h = (refl, h)

no_mark : (m : Bool) → (if m && nat_lt 0 0 then min (0 + 1) 255 else 0) ≡ 0
no_mark true = refl
no_mark false = refl

pub no_quotes : (text : List ℕ) → list_any (λ (y : ℕ). y == 34) text ≡ false → most_guards 0 text ≡ 0
no_quotes [] h = refl
no_quotes (b ∷ bs) h =
    let w : ((b == 34) ≡ false) × (list_any (λ (y : ℕ). y == 34) bs ≡ false) =
    neither (b == 34) (list_any (λ (y : ℕ). y == 34) bs) h in
    let other : (b == 34) ≡ false = w.0 in
    let none : guards_after 0 b ≡ 0 = rw other (no_mark (b == 35)) in
    let later : most_guards 0 bs ≡ 0 = no_quotes bs w.1 in
    ap (λ (k : ℕ). max k (most_guards k bs)) none ∙ omega (arith, later)

not_true : (b : Bool) → (b ≡ true → ⊥) → b ≡ false
not_true true h = absurd (h refl)
not_true false h = refl

no_return_first : (c : ℕ) → list_any (λ (y : ℕ). y == 13) (encode_utf8 c) ≡ false → (13 == c) ≡ false
no_return_first c h = not_true (13 == c) (λ e.
    let s : c ≡ 13 = grind (arith, nat_tests) in
    let k : list_any (λ (y : ℕ). y == 13) (encode_utf8 13) ≡ false =
    ap (λ (n : ℕ). list_any (λ (y : ℕ). y == 13) (encode_utf8 n)) (sym s) ∙ h in
    false≢true (sym k ∙ ap (list_any (λ (y : ℕ). y == 13)) (encode_ascii 13 (lit< tt))))

no_return_in : (cs : List ℕ) → list_any (λ (y : ℕ). y == 13) (encode_utf8_all cs) ≡ false → from_carriage_return cs
    ≡ None
no_return_in [] h = refl
no_return_in (c ∷ cs) h =
    let w : (list_any (λ (y : ℕ). y == 13) (encode_utf8 c) ≡ false)
    × (list_any (λ (y : ℕ). y == 13) (encode_utf8_all cs) ≡ false) =
    neither (list_any (λ (y : ℕ). y == 13) (encode_utf8 c)) (list_any (λ (y : ℕ). y == 13) (encode_utf8_all cs))
    (sym (list_any-append (λ (y : ℕ). y == 13) (encode_utf8 c) (encode_utf8_all cs)) ∙ h) in
    let other : (13 == c) ≡ false = no_return_first c w.0 in
    rw other (no_return_in cs w.1)

pub no_return : (text : List ℕ) → IsUtf8 text → list_any (λ (y : ℕ). y == 13) text ≡ false
    → None ≡ from_carriage_return (chars text)
no_return text u h =
    sym (no_return_in (chars text) (ap (list_any (λ (y : ℕ). y == 13)) (encodes-chars text u) ∙ h))
