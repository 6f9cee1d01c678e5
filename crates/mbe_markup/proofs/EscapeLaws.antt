-- An escaped text has no byte that begins or ends a tag, or ends the value of an attribute.
use Rattle.std.proofs.Common.{◌≡◌, ◌∙◌, ℕ, suc, ◌==◌, ◌+◌, ◌<◌, ◌||◌, if◌then◌else◌, Bool, true, false, List, [], ◌∷◌}
use Rattle.std.proofs.Common.{◌++◌, length, get_or, refl, sym, ap, arith, codes, encode_utf8_all}
use Rattle.std.specs.Char.{encode_utf8}
use Rattle.std.specs.List.{list_any}
use Rattle.std.proofs.lemmas.Bool.Decides.{nat_tests}
use Rattle.std.proofs.lemmas.List.{append-nil}
use Rattle.std.proofs.lemmas.List.Folds.{list_any-append}
use Rattle.std.proofs.lemmas.Str.{NoCharPasses-byte}
use Rattle.mbe_markup.specs.Escapes.{escaped, escaped_char, is_markup}

record PassesAt (p : ℕ → Bool) (xs : List ℕ) : Type 0 where
  index : ℕ
  within : index < length xs
  passes : p (get_or xs index 0) ≡ true

any_at : (p : ℕ → Bool) (x : ℕ) (xs : List ℕ) (b : Bool) → p x ≡ b → (b || list_any p xs) ≡ true
    → (list_any p xs ≡ true → PassesAt p xs) → PassesAt p (x ∷ xs)
any_at p x xs true e h go = record { index = 0; within = omega arith; passes = e }
any_at p x xs false e h go =
    let k = go h in record { index = suc k.index; within = omega (arith, k.within); passes = k.passes }

any_passes : (p : ℕ → Bool) (xs : List ℕ) → list_any p xs ≡ true → PassesAt p xs
any_passes p [] h = absurd (cc)
any_passes p (x ∷ xs) h = any_at p x xs (p x) refl h (λ k. any_passes p xs k)

markup_small : (c : ℕ) → is_markup c ≡ true → c < 128
markup_small c h = grind (arith, nat_tests, h)

not_markup : (c : ℕ) → (c == 60) ≡ false → (c == 62) ≡ false → (c == 34) ≡ false → (c == 39) ≡ false
    → is_markup c ≡ false
not_markup c l g q a = grind (arith, nat_tests, l, g, q, a)

-- the bytes of another character
plain : (c : ℕ) → is_markup c ≡ false → list_any is_markup (encode_utf8 c) ≡ false
plain c outside = by (list_any is_markup (encode_utf8 c)) refl
  where
    by : (b : Bool) → list_any is_markup (encode_utf8 c) ≡ b → list_any is_markup (encode_utf8 c) ≡ false
    by false e = e
    by true e = absurd (
        let k = any_passes is_markup (encode_utf8 c) e in
        let neither = NoCharPasses-byte is_markup (encode_utf8 c) k.index
        (c ∷ [], append-nil (encode_utf8 c), (outside, tt)) k.within
        (markup_small (get_or (encode_utf8 c) k.index 0) k.passes) in
        let z : true ≡ false = sym k.passes ∙ neither in cc)

-- what is written of a character, by which of the five it is
abbrev choice : Bool → Bool → Bool → Bool → Bool → List ℕ → List ℕ
choice l g m q a xs =
    if l then codes "&lt;"
    else (if g then codes "&gt;"
    else (if m then codes "&amp;"
    else (if q then codes "&quot;"
    else (if a then codes "&#39;" else xs))))

choice_safe : (l g m q a : Bool) (xs : List ℕ)
    → (l ≡ false → g ≡ false → q ≡ false → a ≡ false → list_any is_markup xs ≡ false)
    → list_any is_markup (choice l g m q a xs) ≡ false
choice_safe true g m q a xs h = refl
choice_safe false true m q a xs h = refl
choice_safe false false true q a xs h = refl
choice_safe false false false true a xs h = refl
choice_safe false false false false true xs h = refl
choice_safe false false false false false xs h = h refl refl refl refl

char_safe : (c : ℕ) → list_any is_markup (escaped_char c) ≡ false
char_safe c =
    choice_safe (c == 60) (c == 62) (c == 38) (c == 34) (c == 39) (encode_utf8 c)
    (λ l g q a. plain c (not_markup c l g q a))

-- no byte of an escaped text is `<`, `>`, `"` or `'`
pub escaped_is_text : (cs : List ℕ) → list_any is_markup (escaped cs) ≡ false
escaped_is_text [] = refl
escaped_is_text (c ∷ cs) =
    list_any-append is_markup (escaped_char c) (escaped cs)
    ∙ (ap (λ b. b || list_any is_markup (escaped cs)) (char_safe c) ∙ escaped_is_text cs)
