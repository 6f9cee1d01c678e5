-- A doc comment of one line, before the line feed that ends it.
use Rattle.std.proofs.Common.{◌≡◌, ℕ, ◌==◌, ◌-◌, ◌||◌, Bool, true, false, List, [], ◌∷◌, ◌++◌, length, take, refl, ap}
use Rattle.std.proofs.Common.{◌∙◌, arith, codes, None, Ok, length-append, encode_utf8_all}
use Rattle.std.proofs.lemmas.Bool.Decides.{nat_tests}
use Rattle.std.proofs.Math.Seq.{take-append_seam}
use Rattle.std.specs.Char.{char_set_contains}
use Rattle.std.specs.List.{list_any}
use Rattle.mbe_text.specs.declared.characters.CharClass.TheVariants.{NotLineFeed}
use Rattle.mbe_text.specs.Characters.{has, past, bytes_before}
use Rattle.mbe_text.specs.QuoteEnds.{front}
use Rattle.mbe_text.specs.RustTokens.{doc, doc_until, from_carriage_return}
use Rattle.mbe_text.specs.Shapes.{doc_of}

-- a line feed or a carriage return is in it
abbrev pub has_line_end : List ℕ → Bool
has_line_end cs = list_any (λ c. c == 10 || c == 13) cs

neither : (x y : Bool) → (x || y) ≡ false → (x ≡ false) × (y ≡ false)
neither true y h = absurd (cc)
neither false y h = (refl, h)

in_line : (c : ℕ) → (c == 10) ≡ false → has NotLineFeed c ≡ true
in_line c h = grind (arith, nat_tests, h)

past_line : (cs tail : List ℕ) → has_line_end cs ≡ false → past NotLineFeed (cs ++ (10 ∷ tail)) ≡ 10 ∷ tail
past_line [] tail h = refl
past_line (c ∷ cs) tail h =
    let t = neither (c == 10 || c == 13) (has_line_end cs) h in
    rw (in_line c (neither (c == 10) (c == 13) t.0).0) (past_line cs tail t.1)

no_carriage : (c : ℕ) → (c == 13) ≡ false → char_set_contains (codes "\r") c ≡ false
no_carriage c h = grind (arith, nat_tests, h)

no_return : (cs : List ℕ) → has_line_end cs ≡ false → from_carriage_return cs ≡ None
no_return [] h = refl
no_return (c ∷ cs) h =
    let t = neither (c == 10 || c == 13) (has_line_end cs) h in
    rw (no_carriage c (neither (c == 10) (c == 13) t.0).1) (no_return cs t.1)

before_end : (cs end : List ℕ) → length (cs ++ end) - length end ≡ length cs
before_end cs end = omega (arith, length-append cs end)

front_is : (cs end : List ℕ) → front (cs ++ end) end ≡ cs
front_is cs end = ap (λ (k : ℕ). take k (cs ++ end)) (before_end cs end) ∙ take-append_seam cs end

bytes_are : (cs end : List ℕ) → bytes_before (cs ++ end) end ≡ encode_utf8_all cs
bytes_are cs end = ap encode_utf8_all (front_is cs end)

-- the third character of its mark
abbrev pub last_mark : Bool → ℕ
last_mark false = 47
last_mark true = 33

until_is : (is_inner : Bool) (cs end : List ℕ) → has_line_end cs ≡ false
    → doc_until is_inner (cs ++ end) end end ≡ Ok (doc_of (encode_utf8_all cs) is_inner, end)
until_is is_inner cs end h = rw (doc_until, front_is cs end, no_return cs h, bytes_are cs end) refl

pub line_doc_is : (is_inner : Bool) (cs tail : List ℕ) → has_line_end cs ≡ false
    → doc (47 ∷ (47 ∷ (last_mark is_inner ∷ (cs ++ (10 ∷ tail)))))
    ≡ Ok (doc_of (encode_utf8_all cs) is_inner, 10 ∷ tail)
line_doc_is true cs tail h =
    ap (λ (end : List ℕ). doc_until true (cs ++ (10 ∷ tail)) end end) (past_line cs tail h)
    ∙ until_is true cs (10 ∷ tail) h
line_doc_is false cs tail h =
    ap (λ (end : List ℕ). doc_until false (cs ++ (10 ∷ tail)) end end) (past_line cs tail h)
    ∙ until_is false cs (10 ∷ tail) h
