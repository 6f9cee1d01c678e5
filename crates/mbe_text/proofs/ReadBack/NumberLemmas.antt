-- A number that is read by itself is read before whatever doesn't go on with it.
use Rattle.std.proofs.Common.{◌≡◌, ℕ, ◌==◌, ◌-◌, ◌<◌, ◌&&◌, ◌||◌, if◌then◌else◌, Bool, true, false, List, [], ◌∷◌, ◌++◌}
use Rattle.std.proofs.Common.{length, take, refl, sym, ap, ◌∙◌, arith, codes, Option, Some, None, Result, Ok, Err}
use Rattle.std.proofs.Common.{append-nil, length-append, encode_utf8_all, chars}
use Rattle.std.specs.Prelude.{unwrap_or}
use Rattle.std.specs.Char.{is_ascii_digit, is_ascii_hexdigit, char_set_contains}
use Rattle.std.proofs.lemmas.Bool.Decides.{nat_tests}
use Rattle.std.proofs.lemmas.List.{take-append-le}
use Rattle.unicode_ident.specs.Ident.{is_xid_continue}
use Rattle.unicode_ident.proofs.IdentLemmas.{is_xid_start-ascii, is_xid_continue-ascii}
use Rattle.mbe_tt.specs.Trees.Leaf.{Literal}
use Rattle.mbe_tt.specs.Trees.Literals.{literal_output}
use Rattle.mbe_tt.specs.declared.span.Edition.{Edition}
use Rattle.mbe_tt.specs.declared.tt.LitKind.TheVariants as kinds
use Rattle.mbe_text.specs.declared.fault_kind.LexFaultKind.TheVariants as fault_kind
use Rattle.mbe_text.specs.Characters.{has, begins, begins_with, past, bytes_before}
use Rattle.mbe_text.specs.Escapes.{SeenFault}
use Rattle.mbe_text.specs.RustTokens.{RustTokenResult, read_rust, literal, base_of, digit_of, has_digit, past_exponent}
use Rattle.mbe_text.specs.RustTokens.{past_digits, past_fraction, large_digit, is_too_large, is_ten, float, integer}
use Rattle.mbe_text.specs.RustTokens.{number_of, number}
use Rattle.mbe_text.specs.Shapes.{Shape, literal_of}
use Rattle.mbe_text.specs.Laws.RoundTrip.{NumbersAreRead, ends_with_dot, is_bare_integer}
use Rattle.mbe_text.specs.Laws.RustTrees.{is_start, continues_word, begins_word, begins_number, begins_literal}
use Rattle.mbe_text.specs.Laws.RustTrees.{begins_field, ends_literal, IsReadBefore}
use Rattle.mbe_text.proofs.ReadBack.QuoteLemmas.{literal_on, ended, field_ended, dot_ended, not_start_of, token_of}
use Rattle.mbe_text.proofs.ReadBack.QuoteLemmas.{shape_of}

-- ---- what goes on with no word

hex_of : (c : ℕ) (b : Bool) → (is_ascii_hexdigit c || c == 95) ≡ b → is_xid_continue c ≡ false
    → (is_ascii_hexdigit c || c == 95) ≡ false
hex_of c false e h = e
hex_of c true e h =
    let small : c < 128 = grind (arith, nat_tests, e) in
    let a = is_xid_continue-ascii c small in grind (arith, nat_tests, a, e, h)

digit_of_other : (c : ℕ) (b : Bool) → (is_ascii_digit c || c == 95) ≡ b → is_xid_continue c ≡ false
    → (is_ascii_digit c || c == 95) ≡ false
digit_of_other c false e h = e
digit_of_other c true e h =
    let small : c < 128 = grind (arith, nat_tests, e) in
    let a = is_xid_continue-ascii c small in grind (arith, nat_tests, a, e, h)

is_not : (c d : ℕ) → is_xid_continue d ≡ true → is_xid_continue c ≡ false → (c == d) ≡ false
is_not c d in_it out = grind (arith, nat_tests, out, in_it)

letter_continues : (d : ℕ) → (d == 95 || (d == 98 || (d == 111 || (d == 120 || (d == 101 || d == 69))))) ≡ true
    → is_xid_continue d ≡ true
letter_continues d h =
    let small : d < 128 = grind (arith, nat_tests, h) in
    let a = is_xid_continue-ascii d small in grind (arith, nat_tests, a, h)

-- A number's base is written as that of a text that begins with it: `0b`, `0o`, `0x`, or nothing.

abbrev pub has_ten : List ℕ → Bool
has_ten cs = has_digit (base_of []).0 cs

abbrev pub past_ten : List ℕ → List ℕ
past_ten cs = past (digit_of (base_of []).0) cs

abbrev begins_exponent : List ℕ → Bool
begins_exponent [] = false
begins_exponent (c ∷ cs) = char_set_contains (codes "eE") c

-- no part of a number of that base begins there
record BaseEnds (base : _) (rest : List ℕ) : Type 0 where
  digits : has_digit base rest ≡ false
  class : begins (digit_of base) rest ≡ false
  large : large_digit base rest ≡ None

-- nor an exponent, nor a base
record Ends (rest : List ℕ) : Type 0 where
  two : BaseEnds (base_of (codes "0b")).0 rest
  eight : BaseEnds (base_of (codes "0o")).0 rest
  ten : BaseEnds (base_of []).0 rest
  sixteen : BaseEnds (base_of (codes "0x")).0 rest
  exponent : begins_exponent rest ≡ false
  b : begins_with (codes "b") rest ≡ false
  o : begins_with (codes "o") rest ≡ false
  x : begins_with (codes "x") rest ≡ false

nothing_ends : Ends []
nothing_ends = record {
  two = record { digits = refl; class = refl; large = refl };
  eight = record { digits = refl; class = refl; large = refl };
  ten = record { digits = refl; class = refl; large = refl };
  sixteen = record { digits = refl; class = refl; large = refl };
  exponent = refl;
  b = refl;
  o = refl;
  x = refl;
}

low_line_not : (c : ℕ) → is_xid_continue c ≡ false → (c == 95) ≡ false
low_line_not c h = is_not c 95 (letter_continues 95 refl) h

exponent_of : (c : ℕ) → is_xid_continue c ≡ false → char_set_contains (codes "eE") c ≡ false
exponent_of c h =
    let a = is_not c 101 (letter_continues 101 refl) h in
    let b = is_not c 69 (letter_continues 69 refl) h in grind (arith, nat_tests, a, b)

two_not_large : (c : ℕ) → (is_ascii_digit c || c == 95) ≡ false → char_set_contains (codes "23456789") c ≡ false
two_not_large c h = grind (arith, nat_tests, h)

eight_not_large : (c : ℕ) → (is_ascii_digit c || c == 95) ≡ false → char_set_contains (codes "89") c ≡ false
eight_not_large c h = grind (arith, nat_tests, h)

no_decimal : (c : ℕ) → (is_ascii_digit c || c == 95) ≡ false → is_ascii_digit c ≡ false
no_decimal c h = grind (arith, nat_tests, h)

no_hex : (c : ℕ) → (is_ascii_hexdigit c || c == 95) ≡ false → is_ascii_hexdigit c ≡ false
no_hex c h = grind (arith, nat_tests, h)

ends : (rest : List ℕ) → continues_word rest ≡ false → Ends rest
ends [] h = nothing_ends
ends (c ∷ cs) h =
    let low = low_line_not c h in
    let digit = digit_of_other c (is_ascii_digit c || c == 95) refl h in
    let decimal = no_decimal c digit in
    let hex = hex_of c (is_ascii_hexdigit c || c == 95) refl h in record {
      two = record { digits = rw (low, decimal) refl; class = digit; large = rw (two_not_large c digit, digit) refl };
      eight = record {
        digits = rw (low, decimal) refl;
        class = digit;
        large = rw
            (eight_not_large c digit, digit) refl;
      };
      ten = record { digits = rw (low, decimal) refl; class = digit; large = rw digit refl };
      sixteen = record { digits = rw (low, no_hex c hex) refl; class = hex; large = rw digit refl };
      exponent = exponent_of c h;
      b = rw (is_not c 98 (letter_continues 98 refl) h) refl;
      o = rw (is_not c 111 (letter_continues 111 refl) h) refl;
      x = rw (is_not c 120 (letter_continues 120 refl) h) refl;
    }

-- ---- digits

past_if : (b : Bool) (k : _) (d : ℕ) (ds rest : List ℕ) → past k (ds ++ rest) ≡ past k ds ++ rest
    → (if b then past k (ds ++ rest) else d ∷ (ds ++ rest)) ≡ (if b then past k ds else d ∷ ds) ++ rest
past_if true k d ds rest h = h
past_if false k d ds rest h = refl

pub past_on : (k : _) (ds rest : List ℕ) → begins k rest ≡ false → past k (ds ++ rest) ≡ past k ds ++ rest
past_on k [] [] h = refl
past_on k [] (c ∷ cs) h = rw h refl
past_on k (d ∷ ds) rest h = past_if (has k d) k d ds rest (past_on k ds rest h)

pub has_digit_on : (base : _) (ds rest : List ℕ) → has_digit base rest ≡ false
    → has_digit base (ds ++ rest) ≡ has_digit base ds
has_digit_on base [] rest h = h
has_digit_on base (d ∷ ds) rest h =
    ap (λ (x : Bool). if d == 95 then x else has (digit_of base) d) (has_digit_on base ds rest h)

large_if : (large digit : Bool) (at : List ℕ) (more less : Option (List ℕ)) → (less ≡ None → more ≡ None)
    → (if large then Some at else if digit then less else None) ≡ None
    → (other : List ℕ) → (if large then Some other else if digit then more else None) ≡ None
large_if true digit at more less go h other = absurd (cc)
large_if false true at more less go h other = go h
large_if false false at more less go h other = refl

large_on : (base : _) (ds rest : List ℕ) → large_digit base rest ≡ None → large_digit base ds ≡ None
    → large_digit base (ds ++ rest) ≡ None
large_on base [] rest e h = e
large_on base (d ∷ ds) rest e h =
    large_if (is_too_large base d) (is_ascii_digit d || d == 95) (d ∷ ds) (large_digit base (ds ++ rest))
    (large_digit base ds) (large_on base ds rest e) h (d ∷ (ds ++ rest))

-- ---- exponents

-- the same with more after it
abbrev more : List ℕ → Option (List ℕ) → Option (List ℕ)
more rest None = None
more rest (Some cs) = Some (cs ++ rest)

abbrev pub Passed : Type 0
Passed = Result (Option (List ℕ)) SeenFault

ok_same : (x y : Option (List ℕ)) → (let a : Passed = Ok x in a) ≡ Ok y → x ≡ y
ok_same x y h = cc

to_more : (x y : Option (List ℕ)) (rest : List ℕ) (p : Passed) → p ≡ Ok (more rest x)
    → (let a : Passed = Ok x in a) ≡ Ok y
    → p ≡ Ok (more rest y)
to_more x y rest p h k = h ∙ ap (λ (z : Option (List ℕ)). Ok (more rest z)) (ok_same x y k)

pub no_exponent : (other rest : List ℕ) → begins_exponent rest ≡ false → past_exponent other rest ≡ Ok None
no_exponent other [] h = refl
no_exponent other (c ∷ cs) h = rw (past_exponent, h) refl

abbrev pub past_sign : List ℕ → List ℕ
past_sign [] = []
past_sign (d ∷ ds) = unwrap_or (if char_set_contains (codes "+-") d then Some ds else None) (d ∷ ds)

sign_if : (b : Bool) (d : ℕ) (ds rest : List ℕ)
    → unwrap_or (if b then Some (ds ++ rest) else None) (d ∷ (ds ++ rest))
    ≡ unwrap_or (if b then Some ds else None) (d ∷ ds) ++ rest
sign_if true d ds rest = refl
sign_if false d ds rest = refl

abbrev pub signed : Bool → List ℕ → List ℕ → Passed
signed b from digits = if b then Ok (Some (past_ten digits)) else Err (fault_kind.Exponent, from)

signed_on : (from other digits rest : List ℕ) (o : Option (List ℕ)) (b : Bool) → has_ten digits ≡ b → Ends rest
    → signed b from digits ≡ Ok o
    → signed (has_ten (digits ++ rest)) other (digits ++ rest) ≡ Ok (more rest o)
signed_on from other digits rest o false e n h = absurd (cc)
signed_on from other digits rest o true e n h =
    to_more (Some (past_ten digits)) o rest (signed (has_ten (digits ++ rest)) other (digits ++ rest))
    (ap (λ (b : Bool). signed b other (digits ++ rest)) (has_digit_on (base_of []).0 digits rest n.ten.digits ∙ e)
    ∙ ap (λ (x : List ℕ). Ok (Some x)) (past_on (digit_of (base_of []).0) digits rest n.ten.class)) h

exponent_at : (from other : List ℕ) (c : ℕ) (ds rest : List ℕ) (o : Option (List ℕ)) (b : Bool)
    → char_set_contains (codes "eE") c ≡ b
    → Ends rest → past_exponent from (c ∷ ds) ≡ Ok o → past_exponent other (c ∷ (ds ++ rest)) ≡ Ok (more rest o)
exponent_at from other c ds rest o false e n h =
    to_more None o rest (past_exponent other (c ∷ (ds ++ rest))) (rw (past_exponent, e) refl)
    (sym (no_exponent from (c ∷ ds) e) ∙ h)
exponent_at from other c [] rest o true e n h =
    absurd (let k : past_exponent from (c ∷ []) ≡ Err (fault_kind.Exponent, from) = rw (past_exponent, e) refl in
    let z : Err (fault_kind.Exponent, from) ≡ Ok o = sym k ∙ h in cc)
exponent_at from other c (d ∷ ds) rest o true e n h =
    let was : past_exponent from (c ∷ (d ∷ ds)) ≡ signed (has_ten (past_sign (d ∷ ds))) from
    (past_sign (d ∷ ds)) = rw (past_exponent, e) refl in
    let is : past_exponent other (c ∷ (d ∷ (ds ++ rest))) ≡ signed (has_ten (past_sign (d ∷ (ds ++ rest)))) other
    (past_sign (d ∷ (ds ++ rest))) = rw (past_exponent, e) refl in
    is ∙ (ap (λ (x : List ℕ). signed (has_ten x) other x) (sign_if (char_set_contains (codes "+-") d) d ds rest)
    ∙ signed_on from other (past_sign (d ∷ ds)) rest o (has_ten (past_sign (d ∷ ds))) refl n (sym was ∙ h))

exponent_on : (from other cs rest : List ℕ) (o : Option (List ℕ)) → Ends rest → past_exponent from cs ≡ Ok o
    → past_exponent other (cs ++ rest) ≡ Ok (more rest o)
exponent_on from other [] rest o n h =
    to_more None o rest (past_exponent other rest) (no_exponent other rest n.exponent) h
exponent_on from other (c ∷ cs) rest o n h = exponent_at from other c cs rest o (char_set_contains
    (codes "eE") c) refl n h

-- ---- fractions

or_more : (a : Option (List ℕ)) (x rest : List ℕ) → unwrap_or (more rest a) (x ++ rest) ≡ unwrap_or a x ++ rest
or_more None x rest = refl
or_more (Some y) x rest = refl

digits_on : (from other cs rest : List ℕ) (o : Option (List ℕ)) (r : Passed) → past_exponent from (past_ten cs) ≡ r
    → Ends rest → past_digits from cs ≡ Ok o → past_digits other (cs ++ rest) ≡ Ok (more rest o)
digits_on from other cs rest o (Err at) e n h =
    absurd (let k : past_digits from cs ≡ Err at = rw (past_digits, e) refl in let z : Err at ≡ Ok o = sym k ∙ h in cc)
digits_on from other cs rest o (Ok a) e n h =
    let was : past_digits from cs ≡ Ok (Some (unwrap_or a (past_ten cs))) = rw (past_digits, e) refl in
    let p = past_on (digit_of (base_of []).0) cs rest n.ten.class in
    let k = exponent_on from other (past_ten cs) rest a n e in
    let is : past_digits other (cs ++ rest) ≡ Ok (Some (unwrap_or (more rest a) (past_ten cs ++ rest))) =
    rw (past_digits, p, k) (ap (λ (x : List ℕ). let q : Passed = Ok (Some (unwrap_or (more rest a) x)) in q) p) in
    to_more (Some (unwrap_or a (past_ten cs))) o rest (past_digits other (cs ++ rest))
    (is ∙ ap (λ (x : List ℕ). Ok (Some x)) (or_more a (past_ten cs) rest)) (sym was ∙ h)

-- what a rest after a number, and after its point, begins
abbrev NoFraction : List ℕ → Type 0
NoFraction rest = (from : List ℕ) → past_fraction from rest ≡ Ok None

abbrev IsPoint : List ℕ → Type 0
IsPoint rest = (from : List ℕ) → past_fraction from (46 ∷ rest) ≡ Ok (Some rest)

pub no_point : (from : List ℕ) (c : ℕ) (cs : List ℕ) → (c == 46) ≡ false
    → past_fraction from (c ∷ cs) ≡ past_exponent from (c ∷ cs)
no_point from c cs h = rw h refl

point_at : (from other : List ℕ) (d : ℕ) (ds rest : List ℕ) (o : Option (List ℕ)) (goes digit : Bool)
    → (begins_with (codes ".") (d ∷ ds) || is_start d) ≡ goes → is_ascii_digit d ≡ digit → Ends rest
    → past_fraction from (46 ∷ (d ∷ ds)) ≡ Ok o → past_fraction other (46 ∷ (d ∷ (ds ++ rest))) ≡ Ok (more rest o)
point_at from other d ds rest o true digit g e n h =
    let was : past_fraction from (46 ∷ (d ∷ ds)) ≡ Ok None = rw g refl in
    to_more None o rest (past_fraction other (46 ∷ (d ∷ (ds ++ rest)))) (rw g refl) (sym was ∙ h)
point_at from other d ds rest o false true g e n h =
    let was : past_fraction from (46 ∷ (d ∷ ds)) ≡ past_digits from (d ∷ ds) = rw (g, e) refl in
    let is : past_fraction other (46 ∷ (d ∷ (ds ++ rest))) ≡ past_digits other (d ∷ (ds ++ rest)) = rw (g, e) refl in
    is ∙ digits_on from other (d ∷ ds) rest o (past_exponent from (past_ten (d ∷ ds))) refl n (sym was ∙ h)
point_at from other d ds rest o false false g e n h =
    let was : past_fraction from (46 ∷ (d ∷ ds)) ≡ Ok (Some (d ∷ ds)) = rw (g, e) refl in
    to_more (Some (d ∷ ds)) o rest (past_fraction other (46 ∷ (d ∷ (ds ++ rest)))) (rw (g, e) refl) (sym was ∙ h)

point_is : (c : ℕ) → (c == 46) ≡ true → c ≡ 46
point_is c h = grind (arith, nat_tests, h)

fraction_one : (from other : List ℕ) (c : ℕ) (rest : List ℕ) (o : Option (List ℕ)) (b : Bool) → (c == 46) ≡ b
    → Ends rest → (c ∷ [] ≡ 46 ∷ [] → IsPoint rest) → past_fraction from (c ∷ []) ≡ Ok o
    → past_fraction other (c ∷ rest) ≡ Ok (more rest o)
fraction_one from other c rest o false e n p h =
    no_point other c rest e ∙ exponent_on from other (c ∷ []) rest o n (sym (no_point from c [] e) ∙ h)
fraction_one from other c rest o true e n p h =
    let is46 = point_is c e in
    let was : past_fraction from (c ∷ []) ≡ Ok (Some []) = ap (λ (x : ℕ). past_fraction from (x ∷ [])) is46 in
    to_more (Some []) o rest (past_fraction other (c ∷ rest))
    (ap (λ (x : ℕ). past_fraction other (x ∷ rest)) is46 ∙ p (ap (λ (x : ℕ). x ∷ []) is46) other) (sym was ∙ h)

fraction_two : (from other : List ℕ) (c d : ℕ) (ds rest : List ℕ) (o : Option (List ℕ)) (b : Bool) → (c == 46) ≡ b
    → Ends rest → past_fraction from (c ∷ (d ∷ ds)) ≡ Ok o
    → past_fraction other (c ∷ (d ∷ (ds ++ rest))) ≡ Ok (more rest o)
fraction_two from other c d ds rest o false e n h =
    no_point other c (d ∷ (ds ++ rest)) e
    ∙ exponent_on from other (c ∷ (d ∷ ds)) rest o n (sym (no_point from c (d ∷ ds) e) ∙ h)
fraction_two from other c d ds rest o true e n h =
    let is46 = point_is c e in
    ap (λ (x : ℕ). past_fraction other (x ∷ (d ∷ (ds ++ rest)))) is46
    ∙ point_at from other d ds rest o (begins_with (codes ".") (d ∷ ds) || is_start d) (is_ascii_digit d)
    refl refl n (sym (ap (λ (x : ℕ). past_fraction from (x ∷ (d ∷ ds))) is46) ∙ h)

fraction_on : (from other cs rest : List ℕ) (o : Option (List ℕ)) → Ends rest → (cs ≡ [] → NoFraction rest)
    → (cs ≡ 46 ∷ [] → IsPoint rest) → past_fraction from cs ≡ Ok o
    → past_fraction other (cs ++ rest) ≡ Ok (more rest o)
fraction_on from other [] rest o n f p h = to_more None o rest (past_fraction other rest) (f refl other) h
fraction_on from other (c ∷ []) rest o n f p h = fraction_one from other c rest o (c == 46) refl n p h
fraction_on from other (c ∷ (d ∷ ds)) rest o n f p h = fraction_two from other c d ds rest o (c == 46) refl n h

-- ---- numbers

bytes_same : (cs r rest : List ℕ) → bytes_before (cs ++ rest) (r ++ rest) ≡ bytes_before cs r
bytes_same cs r rest =
    let n : length (cs ++ rest) - length (r ++ rest) ≡ length cs - length r =
    omega (arith, length-append cs rest, length-append r rest) in
    ap encode_utf8_all (ap (λ (k : ℕ). take k (cs ++ rest)) n
    ∙ take-append-le (length cs - length r) cs rest (omega arith))

integer_on : (base : _) (cs digits r rest : List ℕ) (shape : Shape) (l : Option (List ℕ))
    → large_digit base digits ≡ l → BaseEnds base rest → continues_word rest ≡ false
    → integer base cs digits r ≡ Ok (shape, []) → integer base (cs ++ rest) (digits ++ rest) (r ++ rest) ≡ Ok
    (shape, rest)
integer_on base cs digits r rest shape (Some at) e n k h =
    absurd (let w : integer base cs digits r ≡ Err (fault_kind.Digit, at) = rw (integer, e) refl in
    let z : Err (fault_kind.Digit, at) ≡ Ok (shape, []) = sym w ∙ h in cc)
integer_on base cs digits r rest shape None e n k h =
    let was : integer base cs digits r ≡ literal kinds.Integer (bytes_before cs r) r = rw (integer, e) refl in
    let large = large_on base digits rest n.large e in
    let is : integer base (cs ++ rest) (digits ++ rest) (r ++ rest)
    ≡ literal kinds.Integer (bytes_before (cs ++ rest) (r ++ rest)) (r ++ rest) = rw (integer, large) refl in
    is ∙ (ap (λ (x : List ℕ). literal kinds.Integer x (r ++ rest)) (bytes_same cs r rest)
    ∙ literal_on kinds.Integer (bytes_before cs r) r rest shape (sym was ∙ h) k)

float_on : (base : _) (cs end rest : List ℕ) (shape : Shape) (b : Bool) → is_ten base ≡ b
    → continues_word rest ≡ false → float base cs end ≡ Ok (shape, [])
    → float base (cs ++ rest) (end ++ rest) ≡ Ok (shape, rest)
float_on base cs end rest shape false e k h =
    absurd (let w : float base cs end ≡ Err (fault_kind.FloatBase, cs) = rw e refl in
    let z : Err (fault_kind.FloatBase, cs) ≡ Ok (shape, []) = sym w ∙ h in cc)
float_on base cs end rest shape true e k h =
    let was : float base cs end ≡ literal kinds.Float (bytes_before cs end) end = rw e refl in
    let is : float base (cs ++ rest) (end ++ rest)
    ≡ literal kinds.Float (bytes_before (cs ++ rest) (end ++ rest)) (end ++ rest) = rw e refl in
    is ∙ (ap (λ (x : List ℕ). literal kinds.Float x (end ++ rest)) (bytes_same cs end rest)
    ∙ literal_on kinds.Float (bytes_before cs end) end rest shape (sym was ∙ h) k)

-- a number whose fraction and exponent are passed
abbrev pub finish : RustTokenResult → (List ℕ → RustTokenResult) → Passed → RustTokenResult
finish integer float (Err at) = Err at
finish integer float (Ok None) = integer
finish integer float (Ok (Some end)) = float end

finish_on : (base : _) (cs digits r rest : List ℕ) (shape : Shape) (o : Option (List ℕ)) → BaseEnds base rest
    → continues_word rest ≡ false → finish (integer base cs digits r) (float base cs) (Ok o) ≡ Ok (shape, [])
    → finish (integer base (cs ++ rest) (digits ++ rest) (r ++ rest)) (float base (cs ++ rest)) (Ok (more rest o))
    ≡ Ok (shape, rest)
finish_on base cs digits r rest shape None n k h =
    integer_on base cs digits r rest shape (large_digit base digits) refl n k h
finish_on base cs digits r rest shape (Some end) n k h = float_on base cs end rest shape (is_ten base) refl k h

pub number_is : (base : _) (cs : List ℕ) (d : ℕ) (ds : List ℕ) (f : Passed) → has_digit base (d ∷ ds) ≡ true
    → past_fraction cs (past (digit_of base) ds) ≡ f
    → number_of base cs (d ∷ ds)
    ≡ finish (integer base cs (d ∷ ds) (past (digit_of base) ds)) (float base cs) f
number_is base cs d ds (Err at) e g = rw (number_of, e, g) refl
number_is base cs d ds (Ok None) e g = rw (number_of, e, g) refl
number_is base cs d ds (Ok (Some end)) e g = rw (number_of, e, g) refl

dot_later : (c : ℕ) (cs : List ℕ) → ends_with_dot cs ≡ true → ends_with_dot (c ∷ cs) ≡ true
dot_later c [] h = absurd (cc)
dot_later c (d ∷ ds) h = h

last_if : (b : Bool) (k : _) (d : ℕ) (ds : List ℕ) → has k d ≡ b
    → (past k ds ≡ 46 ∷ [] → ends_with_dot ds ≡ true) → past k (d ∷ ds) ≡ 46 ∷ [] → ends_with_dot (d ∷ ds) ≡ true
last_if true k d ds e go h =
    let was : past k (d ∷ ds) ≡ past k ds = rw (past, e) refl in dot_later d ds (go (sym was ∙ h))
last_if false k d ds e go h =
    let was : past k (d ∷ ds) ≡ d ∷ ds = rw (past, e) refl in ap ends_with_dot (sym was ∙ h)

last_past : (k : _) (ds : List ℕ) → past k ds ≡ 46 ∷ [] → ends_with_dot ds ≡ true
last_past k [] h = absurd (cc)
last_past k (d ∷ ds) h = last_if (has k d) k d ds refl (last_past k ds) h

-- an integer without a suffix
abbrev pub is_bare : Shape → Bool
is_bare (literal_of text suffix n kind) = is_bare_integer kind n
is_bare _ = false

-- where nothing follows its digits it is one
bare_of : (base : _) (cs : List ℕ) (d : ℕ) (ds : List ℕ) (shape : Shape) (l : Option (List ℕ))
    → has_digit base (d ∷ ds) ≡ true → large_digit base (d ∷ ds) ≡ l → past (digit_of base) ds ≡ []
    → number_of base cs (d ∷ ds) ≡ Ok (shape, []) → is_bare shape ≡ true
bare_of base cs d ds shape l e g q h =
    let is = number_is base cs d ds (Ok None) e (ap (past_fraction cs) q) ∙ ap (integer base cs (d ∷ ds)) q in
    by l g (sym is ∙ h)
  where
    by : (o : Option (List ℕ)) → large_digit base (d ∷ ds) ≡ o → integer base cs (d ∷ ds) [] ≡ Ok (shape, [])
        → is_bare shape ≡ true
    by (Some at) k z =
        absurd (let w : integer base cs (d ∷ ds) [] ≡ Err (fault_kind.Digit, at) = rw (integer, k) refl in
        let y : Err (fault_kind.Digit, at) ≡ Ok (shape, []) = sym w ∙ z in cc)
    by None k z =
        let w : integer base cs (d ∷ ds) [] ≡ Ok (literal_of (bytes_before cs []) [] 0 kinds.Integer, []) =
        rw (integer, k) refl in
        ap is_bare (sym (ap (shape_of shape) (sym w ∙ z)))

number_at : (base : _) (cs : List ℕ) (d : ℕ) (ds rest : List ℕ) (shape : Shape) (f : Passed)
    → has_digit base (d ∷ ds) ≡ true → past_fraction cs (past (digit_of base) ds) ≡ f → BaseEnds base rest → Ends rest
    → (is_bare shape ≡ true → NoFraction rest) → (ends_with_dot ds ≡ true → IsPoint rest) → continues_word rest ≡ false
    → number_of base cs (d ∷ ds) ≡ Ok (shape, [])
    → number_of base (cs ++ rest) (d ∷ (ds ++ rest)) ≡ Ok (shape, rest)
number_at base cs d ds rest shape (Err at) e g m n f p k h =
    absurd (let z : Err at ≡ Ok (shape, []) = sym (number_is base cs d ds (Err at) e g) ∙ h in cc)
number_at base cs d ds rest shape (Ok o) e g m n f p k h =
    let r : List ℕ = past (digit_of base) ds in
    let left : past (digit_of base) (ds ++ rest) ≡ r ++ rest = past_on (digit_of base) ds rest m.class in
    let fraction : past_fraction (cs ++ rest) (past (digit_of base) (ds ++ rest)) ≡ Ok (more rest o) =
    ap (past_fraction (cs ++ rest)) left
    ∙ fraction_on cs (cs ++ rest) r rest o n
    (λ q. f (bare_of base cs d ds shape (large_digit base (d ∷ ds)) e refl q h)) (λ q. p (last_past
    (digit_of base) ds q)) g in
    number_is base (cs ++ rest) d (ds ++ rest) (Ok (more rest o)) (has_digit_on base (d ∷ ds) rest m.digits
    ∙ e) fraction
    ∙ (ap (λ (x : List ℕ). finish (integer base (cs ++ rest) (d ∷ (ds ++ rest)) x) (float base (cs ++ rest)) (Ok
    (more rest o))) left
    ∙ finish_on base cs (d ∷ ds) r rest shape o m k (sym (number_is base cs d ds (Ok o) e g) ∙ h))

number_if : (base : _) (cs : List ℕ) (d : ℕ) (ds rest : List ℕ) (shape : Shape) (b : Bool)
    → has_digit base (d ∷ ds) ≡ b → BaseEnds base rest → Ends rest → (is_bare shape ≡ true → NoFraction rest)
    → (ends_with_dot ds ≡ true → IsPoint rest) → continues_word rest ≡ false
    → number_of base cs (d ∷ ds) ≡ Ok (shape, [])
    → number_of base (cs ++ rest) (d ∷ (ds ++ rest)) ≡ Ok (shape, rest)
number_if base cs d ds rest shape false e m n f p k h =
    absurd (let w : number_of base cs (d ∷ ds) ≡ Err (fault_kind.NoDigits, cs) = rw (number_of, e) refl in
    let z : Err (fault_kind.NoDigits, cs) ≡ Ok (shape, []) = sym w ∙ h in cc)
number_if base cs d ds rest shape true e m n f p k h =
    number_at base cs d ds rest shape (past_fraction cs (past (digit_of base) ds)) e refl m n f p k h

number_on : (base : _) (cs digits rest : List ℕ) (shape : Shape) → BaseEnds base rest → Ends rest
    → (is_bare shape ≡ true → NoFraction rest)
    → (ends_with_dot digits ≡ true → IsPoint rest) → continues_word rest ≡ false
    → number_of base cs digits ≡ Ok (shape, []) → number_of base (cs ++ rest) (digits ++ rest) ≡ Ok (shape, rest)
number_on base cs [] rest shape m n f p k h = absurd (cc)
number_on base cs (d ∷ ds) rest shape m n f p k h =
    number_if base cs d ds rest shape (has_digit base (d ∷ ds)) refl m n f (λ q. p (dot_later d ds q)) k h

-- ---- the base

and_no : (b : Bool) → (b && false) ≡ false
and_no true = refl
and_no false = refl

number_same : (a b : _) (cs xs ys : List ℕ) → a ≡ b → xs ≡ ys → number_of a cs xs ≡ number_of b cs ys
number_same a b cs xs ys e f = ap (λ k. number_of k cs xs) e ∙ ap (number_of b cs) f

pub number_one : (c : ℕ) → number (c ∷ []) ≡ number_of (base_of []).0 (c ∷ []) (c ∷ [])
number_one c =
    number_same (base_of (c ∷ [])).0 (base_of []).0 (c ∷ []) (base_of (c ∷ [])).1 (c ∷ [])
    (rw (base_of, and_no (c == 48)) refl) (rw (base_of, and_no (c == 48)) refl)

number_before_one : (c : ℕ) (rest : List ℕ) → Ends rest
    → number (c ∷ rest) ≡ number_of (base_of []).0 (c ∷ rest) (c ∷ rest)
number_before_one c rest n =
    number_same (base_of (c ∷ rest)).0 (base_of []).0 (c ∷ rest) (base_of (c ∷ rest)).1 (c ∷ rest)
    (rw (base_of, n.b, n.o, n.x, and_no (c == 48)) refl) (rw (base_of, n.b, n.o, n.x, and_no (c == 48)) refl)

abbrev pub is_two : ℕ → ℕ → Bool
is_two c d = c == 48 && (d == 98 && true)

abbrev pub is_eight : ℕ → ℕ → Bool
is_eight c d = c == 48 && (d == 111 && true)

abbrev pub is_sixteen : ℕ → ℕ → Bool
is_sixteen c d = c == 48 && (d == 120 && true)

pub in_two : (c d : ℕ) (ds : List ℕ) → is_two c d ≡ true
    → number (c ∷ (d ∷ ds)) ≡ number_of (base_of (codes "0b")).0 (c ∷ (d ∷ ds)) ds
in_two c d ds i =
    number_same (base_of (c ∷ (d ∷ ds))).0 (base_of (codes "0b")).0 (c ∷ (d ∷ ds)) (base_of (c ∷ (d ∷ ds))).1 ds
    (rw (base_of, i) refl) (rw (base_of, i) refl)

pub in_eight : (c d : ℕ) (ds : List ℕ) → is_two c d ≡ false → is_eight c d ≡ true
    → number (c ∷ (d ∷ ds)) ≡ number_of (base_of (codes "0o")).0 (c ∷ (d ∷ ds)) ds
in_eight c d ds i j =
    number_same (base_of (c ∷ (d ∷ ds))).0 (base_of (codes "0o")).0 (c ∷ (d ∷ ds)) (base_of (c ∷ (d ∷ ds))).1 ds
    (rw (base_of, i, j) refl) (rw (base_of, i, j) refl)

pub in_sixteen : (c d : ℕ) (ds : List ℕ) → is_two c d ≡ false → is_eight c d ≡ false → is_sixteen c d ≡ true
    → number (c ∷ (d ∷ ds)) ≡ number_of (base_of (codes "0x")).0 (c ∷ (d ∷ ds)) ds
in_sixteen c d ds i j l =
    number_same (base_of (c ∷ (d ∷ ds))).0 (base_of (codes "0x")).0 (c ∷ (d ∷ ds)) (base_of (c ∷ (d ∷ ds))).1 ds
    (rw (base_of, i, j, l) refl) (rw (base_of, i, j, l) refl)

pub in_ten : (c d : ℕ) (ds : List ℕ) → is_two c d ≡ false → is_eight c d ≡ false → is_sixteen c d ≡ false
    → number (c ∷ (d ∷ ds)) ≡ number_of (base_of []).0 (c ∷ (d ∷ ds)) (c ∷ (d ∷ ds))
in_ten c d ds i j l =
    number_same (base_of (c ∷ (d ∷ ds))).0 (base_of []).0 (c ∷ (d ∷ ds)) (base_of (c ∷ (d ∷ ds))).1 (c ∷ (d ∷ ds))
    (rw (base_of, i, j, l) refl) (rw (base_of, i, j, l) refl)

number_two : (c d : ℕ) (ds rest : List ℕ) (shape : Shape) (two eight sixteen : Bool)
    → is_two c d ≡ two → is_eight c d ≡ eight → is_sixteen c d ≡ sixteen → Ends rest → (is_bare shape ≡ true
    → NoFraction rest)
    → (ends_with_dot (d ∷ ds) ≡ true → IsPoint rest) → continues_word rest ≡ false
    → number (c ∷ (d ∷ ds)) ≡ Ok (shape, []) → number (c ∷ (d ∷ (ds ++ rest))) ≡ Ok (shape, rest)
number_two c d ds rest shape true eight sixteen i j l n f p k h =
    in_two c d (ds ++ rest) i
    ∙ number_on (base_of (codes "0b")).0 (c ∷ (d ∷ ds)) ds rest shape n.two n f (λ q. p (dot_later d ds q)) k
    (sym (in_two c d ds i) ∙ h)
number_two c d ds rest shape false true sixteen i j l n f p k h =
    in_eight c d (ds ++ rest) i j
    ∙ number_on (base_of (codes "0o")).0 (c ∷ (d ∷ ds)) ds rest shape n.eight n f (λ q. p (dot_later d ds q)) k
    (sym (in_eight c d ds i j) ∙ h)
number_two c d ds rest shape false false true i j l n f p k h =
    in_sixteen c d (ds ++ rest) i j l
    ∙ number_on (base_of (codes "0x")).0 (c ∷ (d ∷ ds)) ds rest shape n.sixteen n f (λ q. p (dot_later d ds q)) k
    (sym (in_sixteen c d ds i j l) ∙ h)
number_two c d ds rest shape false false false i j l n f p k h =
    in_ten c d (ds ++ rest) i j l
    ∙ number_on (base_of []).0 (c ∷ (d ∷ ds)) (c ∷ (d ∷ ds)) rest shape n.ten n f p k (sym (in_ten c d ds i j l) ∙ h)

number_whole : (c : ℕ) (cs rest : List ℕ) (shape : Shape) → Ends rest → (is_bare shape ≡ true → NoFraction rest)
    → (ends_with_dot (c ∷ cs) ≡ true → IsPoint rest) → continues_word rest ≡ false
    → number (c ∷ cs) ≡ Ok (shape, []) → number (c ∷ (cs ++ rest)) ≡ Ok (shape, rest)
number_whole c [] rest shape n f p k h =
    number_before_one c rest n
    ∙ number_on (base_of []).0 (c ∷ []) (c ∷ []) rest shape n.ten n f p k (sym (number_one c) ∙ h)
number_whole c (d ∷ ds) rest shape n f p k h =
    number_two c d ds rest shape (is_two c d) (is_eight c d) (is_sixteen c d) refl refl refl n f p k h

-- ---- literals

digit_not_start : (c : ℕ) → is_ascii_digit c ≡ true → is_start c ≡ false
digit_not_start c h =
    let small : c < 128 = grind (arith, nat_tests, h) in
    let a = is_xid_start-ascii c small in grind (arith, nat_tests, a, h)

pub digit_read : (e : Edition) (c : ℕ) (cs : List ℕ) → is_ascii_digit c ≡ true
    → read_rust e (c ∷ cs) ≡ Some (number (c ∷ cs))
digit_read e c cs h =
    let r : (c == 114) ≡ false = grind (arith, nat_tests, h) in
    let b : (c == 98) ≡ false = grind (arith, nat_tests, h) in
    let d : (c == 99) ≡ false = grind (arith, nat_tests, h) in
    rw (read_rust, r, b, d, digit_not_start c h, h) refl

read_on : (e : Edition) (cs rest : List ℕ) (shape : Shape) → begins_number cs ≡ true → Ends rest
    → (is_bare shape ≡ true → NoFraction rest)
    → (ends_with_dot cs ≡ true → IsPoint rest) → continues_word rest ≡ false
    → read_rust e cs ≡ Some (Ok (shape, [])) → read_rust e (cs ++ rest) ≡ Some (Ok (shape, rest))
read_on e [] rest shape d n f p k h = absurd (cc)
read_on e (c ∷ cs) rest shape d n f p k h =
    digit_read e c (cs ++ rest) d
    ∙ ap Some (number_whole c cs rest shape n f p k (ap (token_of (Ok (shape, []))) (sym (digit_read e c cs d) ∙ h)))

number_before : (e : Edition) (l : Literal) (rest : List ℕ) → begins_number (chars (literal_output l)) ≡ true
    → (is_bare_integer l.kind l.suffix_len ≡ true → NoFraction rest)
    → (ends_with_dot (chars (literal_output l)) ≡ true → IsPoint rest) → continues_word rest ≡ false
    → IsReadBefore e l [] → IsReadBefore e l rest
number_before e l rest d f p k b = record {
  text = b.text;
  suffix = b.suffix;
  parts = b.parts;
  read = read_on e (chars (literal_output l)) rest (literal_of b.text b.suffix l.suffix_len l.kind) d
      (ends rest k) f p k
      (sym (ap (read_rust e) (append-nil (chars (literal_output l)))) ∙ b.read);
}

no_dot : (c : ℕ) (cs : List ℕ) → ends_literal (c ∷ cs) ≡ true → (c == 46) ≡ false
no_dot c cs h = grind (arith, nat_tests, h)

ended_fraction : (rest : List ℕ) → ends_literal rest ≡ true → NoFraction rest
ended_fraction [] h = λ from. refl
ended_fraction (c ∷ cs) h =
    λ from. no_point from c cs (no_dot c cs h) ∙ no_exponent from (c ∷ cs) (ends (c ∷ cs) (ended (c ∷ cs) h)).exponent

ended_point : (rest : List ℕ) → ends_literal rest ≡ true → IsPoint rest
ended_point [] h = λ from. refl
ended_point (c ∷ cs) h =
    let k = ended (c ∷ cs) h in
    let d = no_dot c cs h in
    let s : is_start c ≡ false = not_start_of c (is_start c) refl k in
    let g = no_decimal c (ends (c ∷ cs) k).ten.class in
    λ from. rw (d, s, g) refl

field_is : (a b : Bool) → ((a && true) && b) ≡ true → (a ≡ true) × (b ≡ true)
field_is true b h = (refl, h)
field_is false b h = absurd (cc)

word_goes : (from : List ℕ) (cs : List ℕ) → (begins_with (codes ".") cs || begins_word cs) ≡ true
    → past_fraction from (46 ∷ cs) ≡ Ok None
word_goes from [] h = absurd (cc)
word_goes from (c ∷ cs) h = rw h refl

field_fraction : (rest : List ℕ) → begins_field rest ≡ true → NoFraction rest
field_fraction [] h = absurd (cc)
field_fraction (c ∷ cs) h =
    let two = field_is (c == 46) (begins_with (codes ".") cs || begins_word cs) h in
    λ from. ap (λ (x : ℕ). past_fraction from (x ∷ cs)) (point_is c two.0) ∙ word_goes from cs two.1

number_front : (cs : List ℕ) → begins_number cs ≡ true → begins_literal cs ≡ true
number_front [] h = absurd (cc)
number_front (c ∷ cs) h = let d : is_ascii_digit c ≡ true = h in rw (digit_not_start c d, d) refl

pub numbers_are_read : NumbersAreRead
numbers_are_read e l d u b = (
  record {
    utf8 = u;
    front = number_front (chars (literal_output l)) d;
    whole = λ rest h.
        number_before e l rest d (λ q. ended_fraction rest h) (λ q. ended_point rest h) (ended rest h) b;
  },
  λ no. (
    λ rest h. number_before e l rest d (λ q. field_fraction rest h)
        (λ q. absurd (let z : true ≡ false = sym q ∙ no in cc)) (field_ended rest h) b,
    λ more rest h. number_before e l rest d (λ q. absurd (let z : true ≡ false = sym q ∙ more in cc))
        (λ q. absurd (let z : true ≡ false = sym q ∙ no in cc)) (dot_ended rest h) b,
  ),
)
