-- A number that is read before a rest is read by itself.
use Rattle.std.proofs.Common.{◌≡◌, ℕ, ◌==◌, ◌<◌, ◌⊎◌, inl, inr, ◌&&◌, ◌||◌, if◌then◌else◌, Bool, true, false, List, []}
use Rattle.std.proofs.Common.{◌∷◌, ◌++◌, length, refl, sym, ap, ◌∙◌, arith, codes, Option, Some, None, Ok, Err}
use Rattle.std.proofs.Common.{append_assoc, append-nil, encode_utf8_all}
use Rattle.std.specs.Char.{is_ascii_digit, char_set_contains}
use Rattle.std.proofs.lemmas.Bool.Decides.{nat_tests}
use Rattle.std.proofs.lemmas.Str.{length-le-encodes}
use Rattle.unicode_ident.specs.Ident.{is_xid_continue}
use Rattle.unicode_ident.proofs.IdentLemmas.{is_xid_continue-ascii}
use Rattle.unicode_ident.proofs.Computing.{unicode_ident}
use Rattle.mbe_tt.specs.Trees.Literals as marks
use Rattle.mbe_tt.specs.declared.tt.LitKind.{LitKind}
use Rattle.mbe_tt.specs.declared.tt.LitKind.TheVariants as kinds
use Rattle.mbe_text.specs.declared.fault_kind.LexFaultKind.TheVariants as fault_kind
use Rattle.mbe_text.specs.Characters.{has, begins, begins_with, past, bytes_before}
use Rattle.mbe_text.specs.RustTokens.{literal, base_of, digit_of, has_digit, past_exponent, past_digits, past_fraction}
use Rattle.mbe_text.specs.RustTokens.{large_digit, is_too_large, is_ten, float, integer, number_of, number}
use Rattle.mbe_text.specs.Shapes.{Shape, literal_of}
use Rattle.mbe_text.specs.Identifiers.{past_identifier}
use Rattle.mbe_text.specs.Laws.RoundTrip.{ends_with_dot}
use Rattle.mbe_text.specs.Laws.RustTrees.{is_start, begins_field}
use Rattle.mbe_text.proofs.ReadBack.EndLemmas.{is_not}
use Rattle.mbe_text.proofs.ReadBack.StepLemmas.{or_left, or_right, all_continue, bytes_front}
use Rattle.mbe_text.proofs.ReadBack.QuoteLemmas.{same_char}
use Rattle.mbe_text.proofs.ReadBack.PartLemmas.{Run, run, is_suffix, literal_cut}
use Rattle.mbe_text.proofs.ReadBack.NumberLemmas.{has_ten, past_ten, past_on, has_digit_on, Passed, no_exponent}
use Rattle.mbe_text.proofs.ReadBack.NumberLemmas.{past_sign, signed, no_point, number_is, is_bare, number_one, is_two}
use Rattle.mbe_text.proofs.ReadBack.NumberLemmas.{is_eight, is_sixteen, in_two, in_eight, in_sixteen, in_ten}

-- ---- what ends with no `.`

other_than : (k : _) (c : ℕ) (b : Bool) → (c == 46) ≡ b → has k c ≡ true → has k 46 ≡ false → (c == 46) ≡ false
other_than k c false e h n = e
other_than k c true e h n =
    absurd (let z : true ≡ false = sym h ∙ (ap (has k) (same_char c 46 e) ∙ n) in cc)

no_dot_at : (k : _) (c : ℕ) (cs : List ℕ) (b : Bool) → has k c ≡ b → has k 46 ≡ false → past k (c ∷ cs) ≡ []
    → (past k cs ≡ [] → ends_with_dot cs ≡ false) → ends_with_dot (c ∷ cs) ≡ false
no_dot_at k c cs false e n h go =
    absurd (let w : past k (c ∷ cs) ≡ c ∷ cs = rw (past, e) refl in let z : c ∷ cs ≡ [] = sym w ∙ h in cc)
no_dot_at k c [] true e n h go = other_than k c (c == 46) refl e n
no_dot_at k c (d ∷ ds) true e n h go =
    let w : past k (c ∷ (d ∷ ds)) ≡ past k (d ∷ ds) = rw (past, e) refl in go (sym w ∙ h)

no_dot_in : (k : _) (w : List ℕ) → has k 46 ≡ false → past k w ≡ [] → ends_with_dot w ≡ false
no_dot_in k [] n h = refl
no_dot_in k (c ∷ cs) n h = no_dot_at k c cs (has k c) refl n h (no_dot_in k cs n)

first_no_dot : (k : _) (c : ℕ) (w : List ℕ) → has k 46 ≡ false → (c == 46) ≡ false → past k w ≡ []
    → ends_with_dot (c ∷ w) ≡ false
first_no_dot k c [] n e h = e
first_no_dot k c (d ∷ ds) n e h = no_dot_in k (d ∷ ds) n h

dot_last : (a : List ℕ) (c : ℕ) (b : List ℕ) → ends_with_dot (a ++ (c ∷ b)) ≡ ends_with_dot (c ∷ b)
dot_last [] c b = refl
dot_last (x ∷ []) c b = refl
dot_last (x ∷ (y ∷ ys)) c b = dot_last (y ∷ ys) c b

dot_not_start : is_start 46 ≡ false
unfolding unicode_ident
dot_not_start = refl

start_not_dot : (c : ℕ) → is_start c ≡ true → (c == 46) ≡ false
start_not_dot c h = is_not c 46 dot_not_start h

continue_no_dot : (c : ℕ) (b : Bool) → (c == 46) ≡ b → is_xid_continue c ≡ true → (c == 46) ≡ false
continue_no_dot c false e h = e
continue_no_dot c true e h =
    absurd (let n = is_xid_continue-ascii 46 (omega arith) in
    let z : true ≡ false = sym h ∙ (ap is_xid_continue (same_char c 46 e) ∙ n) in cc)

word_no_dot : (w : List ℕ) → past_identifier (0 ∷ w) ≡ [] → ends_with_dot w ≡ false
word_no_dot [] h = refl
word_no_dot (c ∷ []) h = continue_no_dot c (c == 46) refl (all_continue c [] (is_xid_continue c) refl h).0
word_no_dot (c ∷ (d ∷ ds)) h = word_no_dot (d ∷ ds) (all_continue c (d ∷ ds) (is_xid_continue c) refl h).1

start_word_no_dot : (c : ℕ) (w : List ℕ) → is_start c ≡ true → past_identifier (0 ∷ w) ≡ [] → ends_with_dot (c ∷ w)
    ≡ false
start_word_no_dot c [] s h = start_not_dot c s
start_word_no_dot c (d ∷ ds) s h = word_no_dot (d ∷ ds) h

-- with a suffix
suffix_no_dot : (a s : List ℕ) → is_suffix s ≡ true → past_identifier s ≡ [] → (s ≡ [] → ends_with_dot a ≡ false)
    → ends_with_dot (a ++ s) ≡ false
suffix_no_dot a [] f w go = ap ends_with_dot (append-nil a) ∙ go refl
suffix_no_dot a (c ∷ cs) f w go = dot_last a c cs ∙ start_word_no_dot c cs f w

-- ---- digits

record Digits (base : _) : Type 0 where
  low : has (digit_of base) 95 ≡ true
  dot : has (digit_of base) 46 ≡ false

ten_digits : Digits (base_of []).0
ten_digits = record { low = refl; dot = refl }

past_stops : (k : _) (own rest : List ℕ) → past k own ≡ [] → begins k rest ≡ false → past k (own ++ rest) ≡ rest
past_stops k own rest h n = past_on k own rest n ∙ ap (λ (x : List ℕ). x ++ rest) h

begins_front : (k : _) (own rest cs : List ℕ) → cs ≡ own ++ rest → begins k cs ≡ false → begins k own ≡ false
begins_front k [] rest cs e h = refl
begins_front k (c ∷ own) rest cs e h = sym (ap (begins k) e) ∙ h

no_digit_at : (base : _) (c : ℕ) (cs : List ℕ) (b : Bool) → (c == 95) ≡ b → Digits base → has (digit_of base) c ≡ false
    → has_digit base (c ∷ cs) ≡ false
no_digit_at base c cs true e d h =
    absurd (let z : true ≡ false = sym d.low ∙ (ap (has (digit_of base)) (sym (same_char c 95 e)) ∙ h) in cc)
no_digit_at base c cs false e d h =
    ap (λ (b : Bool). if b then has_digit base cs else has (digit_of base) c) e ∙ h

no_digit : (base : _) (cs : List ℕ) → Digits base → begins (digit_of base) cs ≡ false → has_digit base cs ≡ false
no_digit base [] d h = refl
no_digit base (c ∷ cs) d h = no_digit_at base c cs (c == 95) refl d h

-- whether a digit is there depends on no more than the digits
digit_same : (base : _) (own x y : List ℕ) → Digits base → begins (digit_of base) x ≡ false
    → begins (digit_of base) y ≡ false → has_digit base (own ++ x) ≡ has_digit base (own ++ y)
digit_same base own x y d h k =
    has_digit_on base own x (no_digit base x d h) ∙ sym (has_digit_on base own y (no_digit base y d k))

digit_no_dot : (base : _) (c : ℕ) (cs : List ℕ) (b : Bool) → (c == 46) ≡ b → Digits base
    → has_digit base (c ∷ cs) ≡ true → (c == 46) ≡ false
digit_no_dot base c cs false e d h = e
digit_no_dot base c cs true e d h =
    absurd (let z : true ≡ false = sym h ∙ (ap (λ (x : ℕ). has_digit base (x ∷ cs)) (same_char c 46 e) ∙ d.dot) in cc)

large_front_at : (large digit : Bool) (at other : List ℕ) (more less : Option (List ℕ)) → (more ≡ None → less ≡ None)
    → (if large then Some at else if digit then more else None) ≡ None
    → (if large then Some other else if digit then less else None) ≡ None
large_front_at true digit at other more less go h = absurd (cc)
large_front_at false true at other more less go h = go h
large_front_at false false at other more less go h = refl

large_front : (base : _) (own rest : List ℕ) → large_digit base (own ++ rest) ≡ None → large_digit base own ≡ None
large_front base [] rest h = refl
large_front base (d ∷ ds) rest h =
    large_front_at (is_too_large base d) (is_ascii_digit d || d == 95) (d ∷ (ds ++ rest)) (d ∷ ds)
    (large_digit base (ds ++ rest)) (large_digit base ds) (large_front base ds rest) h

-- ---- exponents

signed_some : (from digits : List ℕ) (b : Bool) (o : Option (List ℕ)) → signed b from digits ≡ Ok o
    → (b ≡ true) × (o ≡ Some (past_ten digits))
signed_some from digits true o h = (refl, let z : Some (past_ten digits) ≡ o = cc in sym z)
signed_some from digits false o h = absurd (cc)

exponent_opens : (from : List ℕ) (c d : ℕ) (ds : List ℕ) → char_set_contains (codes "eE") c ≡ true
    → past_exponent from (c ∷ (d ∷ ds)) ≡ signed (has_ten (past_sign (d ∷ ds))) from (past_sign (d ∷ ds))
exponent_opens from c d ds e = rw (past_exponent, e) refl

exponent_short : (from : List ℕ) (c : ℕ) → char_set_contains (codes "eE") c ≡ true
    → past_exponent from (c ∷ []) ≡ Err (fault_kind.Exponent, from)
exponent_short from c e = rw (past_exponent, e) refl

-- where no exponent is, none is in less
exponent_none_at : (from other : List ℕ) (c : ℕ) (more less : List ℕ) (b : Bool) → char_set_contains (codes "eE") c ≡ b
    → past_exponent from (c ∷ more) ≡ Ok None → past_exponent other (c ∷ less) ≡ Ok None
exponent_none_at from other c more less false e h = no_exponent other (c ∷ less) e
exponent_none_at from other c [] less true e h =
    absurd (let z : Err (fault_kind.Exponent, from) ≡ Ok None = sym (exponent_short from c e) ∙ h in cc)
exponent_none_at from other c (d ∷ ds) less true e h =
    let s = signed_some from (past_sign (d ∷ ds)) (has_ten (past_sign (d ∷ ds))) None
    (sym (exponent_opens from c d ds e) ∙ h) in absurd (let z : None ≡ Some (past_ten (past_sign (d ∷ ds))) = s.1 in cc)

exponent_none : (from other own rest : List ℕ) → past_exponent from (own ++ rest) ≡ Ok None
    → past_exponent other own ≡ Ok None
exponent_none from other [] rest h = refl
exponent_none from other (c ∷ cs) rest h =
    exponent_none_at from other c (cs ++ rest) cs (char_set_contains (codes "eE") c) refl h

-- an exponent, and that it is read before whatever doesn't go on with it
record ExponentOwn (cs end : List ℕ) : Type 0 where
  first : ℕ
  more : List ℕ
  is : cs ≡ (first ∷ more) ++ end
  letter : (first == 46) ≡ false
  ends : begins (digit_of (base_of []).0) end ≡ false
  at : (other s : List ℕ) → begins (digit_of (base_of []).0) s ≡ false
      → past_exponent other ((first ∷ more) ++ s) ≡ Ok (Some s)
  last : ends_with_dot (first ∷ more) ≡ false

letter_no_dot : (c : ℕ) → char_set_contains (codes "eE") c ≡ true → (c == 46) ≡ false
letter_no_dot c h = grind (arith, nat_tests, h)

sign_no_dot : (c : ℕ) → char_set_contains (codes "+-") c ≡ true → (c == 46) ≡ false
sign_no_dot c h = grind (arith, nat_tests, h)

sign_is : (d : ℕ) (ds : List ℕ) → char_set_contains (codes "+-") d ≡ true → past_sign (d ∷ ds) ≡ ds
sign_is d ds e = rw e refl

no_sign_is : (d : ℕ) (ds : List ℕ) → char_set_contains (codes "+-") d ≡ false → past_sign (d ∷ ds) ≡ d ∷ ds
no_sign_is d ds e = rw e refl

signed_is : (other own s : List ℕ) → past (digit_of (base_of []).0) own ≡ [] → has_ten own ≡ true
    → begins (digit_of (base_of []).0) s ≡ false
    → signed (has_ten (own ++ s)) other (own ++ s) ≡ Ok (Some s)
signed_is other own s all e n =
    ap (λ (b : Bool). signed b other (own ++ s)) (has_digit_on (base_of []).0 own s (no_digit (base_of []).0 s
    ten_digits n) ∙ e)
    ∙ ap (λ (x : List ℕ). Ok (Some x)) (past_stops (digit_of (base_of []).0) own s all n)

-- its digits by themselves have one
has_own : (cs : List ℕ) (r : Run (digit_of (base_of []).0) cs) → has_ten cs ≡ true → has_ten r.own ≡ true
has_own cs r h =
    sym (ap has_ten r.is ∙ has_digit_on (base_of []).0 r.own (past_ten cs) (no_digit (base_of []).0 (past_ten cs)
    ten_digits r.ends)) ∙ h

some_same : (x y : List ℕ) → (let a : Option (List ℕ) = Some x in a) ≡ Some y → x ≡ y
some_same x y h = cc

exponent_with : (from : List ℕ) (c d : ℕ) (ds end : List ℕ) → char_set_contains (codes "eE") c ≡ true
    → char_set_contains (codes "+-") d ≡ true → past_exponent from (c ∷ (d ∷ ds)) ≡ Ok (Some end)
    → ExponentOwn (c ∷ (d ∷ ds)) end
exponent_with from c d ds end e p h =
    let s = signed_some from ds (has_ten ds) (Some end)
    (sym (exponent_opens from c d ds e ∙ ap (λ (x : List ℕ). signed (has_ten x) from x) (sign_is d ds p)) ∙ h) in
    let left : end ≡ past_ten ds = some_same end (past_ten ds) s.1 in
    let r = run (digit_of (base_of []).0) ds in record {
      first = c;
      more = d ∷ r.own;
      is = ap (λ (x : List ℕ). c ∷ (d ∷ x)) (r.is ∙ ap (λ (x : List ℕ). r.own ++ x) (sym left));
      letter = letter_no_dot c e;
      ends = ap (begins (digit_of (base_of []).0)) left ∙ r.ends;
      at = λ other x n. exponent_opens other c d (r.own ++ x) e
          ∙ (ap (λ (y : List ℕ). signed (has_ten y) other y) (sign_is d (r.own ++ x) p)
          ∙ signed_is other r.own x r.all (has_own ds r s.0) n);
      last = first_no_dot (digit_of (base_of []).0) d r.own refl (sign_no_dot d p) r.all;
    }

exponent_digits : (from : List ℕ) (c d : ℕ) (ds own end : List ℕ) → char_set_contains (codes "eE") c ≡ true
    → char_set_contains (codes "+-") d ≡ false → past (digit_of (base_of []).0) own ≡ [] → has_ten own ≡ true
    → begins (digit_of (base_of []).0) end ≡ false → d ∷ ds ≡ own ++ end → ExponentOwn (c ∷ (d ∷ ds)) end
exponent_digits from c d ds [] end e p a t n i = absurd (cc)
exponent_digits from c d ds (y ∷ ys) end e p a t n i =
    let same : d ≡ y = cc in
    let q : char_set_contains (codes "+-") y ≡ false = ap (char_set_contains (codes "+-")) (sym same) ∙ p in record {
      first = c;
      more = y ∷ ys;
      is = ap (λ (x : List ℕ). c ∷ x) i;
      letter = letter_no_dot c e;
      ends = n;
      at = λ other x k. exponent_opens other c y (ys ++ x) e
          ∙ (ap (λ (z : List ℕ). signed (has_ten z) other z) (no_sign_is y (ys ++ x) q)
          ∙ signed_is other (y ∷ ys) x a t k);
      last = no_dot_in (digit_of (base_of []).0) (y ∷ ys) refl a;
    }

exponent_without : (from : List ℕ) (c d : ℕ) (ds end : List ℕ) → char_set_contains (codes "eE") c ≡ true
    → char_set_contains (codes "+-") d ≡ false → past_exponent from (c ∷ (d ∷ ds)) ≡ Ok (Some end)
    → ExponentOwn (c ∷ (d ∷ ds)) end
exponent_without from c d ds end e p h =
    let s = signed_some from (d ∷ ds) (has_ten (d ∷ ds)) (Some end)
    (sym (exponent_opens from c d ds e ∙ ap (λ (x : List ℕ). signed (has_ten x) from x) (no_sign_is d ds p)) ∙ h) in
    let left : end ≡ past_ten (d ∷ ds) = some_same end (past_ten (d ∷ ds)) s.1 in
    let r = run (digit_of (base_of []).0) (d ∷ ds) in
    exponent_digits from c d ds r.own end e p r.all (has_own (d ∷ ds) r s.0)
    (ap (begins (digit_of (base_of []).0)) left ∙ r.ends) (r.is ∙ ap (λ (x : List ℕ). r.own ++ x) (sym left))

exponent_at : (from : List ℕ) (c : ℕ) (cs end : List ℕ) (letter sign : Bool) → char_set_contains (codes "eE") c ≡ letter
    → ((d : ℕ) (ds : List ℕ) → cs ≡ d ∷ ds → char_set_contains (codes "+-") d ≡ sign)
    → past_exponent from (c ∷ cs) ≡ Ok (Some end) → ExponentOwn (c ∷ cs) end
exponent_at from c cs end false sign e p h =
    absurd (let z : Ok None ≡ Ok (Some end) = sym (no_exponent from (c ∷ cs) e) ∙ h in cc)
exponent_at from c [] end true sign e p h =
    absurd (let z : Err (fault_kind.Exponent, from) ≡ Ok (Some end) = sym (exponent_short from c e) ∙ h in cc)
exponent_at from c (d ∷ ds) end true true e p h = exponent_with from c d ds end e (p d ds refl) h
exponent_at from c (d ∷ ds) end true false e p h = exponent_without from c d ds end e (p d ds refl) h

exponent_cut : (from cs end : List ℕ) → past_exponent from cs ≡ Ok (Some end) → ExponentOwn cs end
exponent_cut from [] end h = absurd (cc)
exponent_cut from (c ∷ []) end h =
    exponent_at from c [] end (char_set_contains (codes "eE") c) true refl (λ d ds i. absurd (cc)) h
exponent_cut from (c ∷ (d ∷ ds)) end h =
    exponent_at from c (d ∷ ds) end (char_set_contains (codes "eE") c) (char_set_contains (codes "+-") d) refl
    (λ x xs i. let same : x ≡ d = cc in ap (char_set_contains (codes "+-")) same) h

-- ---- fractions

-- a fraction or an exponent, and that it is read before its suffix alone
record FractionOwn (cs end : List ℕ) : Type 0 where
  first : ℕ
  more : List ℕ
  is : cs ≡ (first ∷ more) ++ end
  at : (other s rest : List ℕ) → end ≡ s ++ rest → is_suffix s ≡ true
      → past_fraction other ((first ∷ more) ++ s) ≡ Ok (Some s)
  last : (ends_with_dot (first ∷ more) ≡ false) ⊎ (begins_with (codes ".") end ≡ false)

by_exponent : (from : List ℕ) (c : ℕ) (cs end : List ℕ) → (c == 46) ≡ false
    → past_fraction from (c ∷ cs) ≡ Ok (Some end) → FractionOwn (c ∷ cs) end
by_exponent from c cs end e h =
    let x = exponent_cut from (c ∷ cs) end (sym (no_point from c cs e) ∙ h) in record {
      first = x.first;
      more = x.more;
      is = x.is;
      at = λ other s rest i f. no_point other x.first (x.more ++ s) x.letter
          ∙ x.at other s (begins_front (digit_of (base_of []).0) s rest end i x.ends);
      last = inl x.last;
    }

-- a point alone
point_alone : (cs end : List ℕ) → end ≡ cs → begins_with (codes ".") cs ≡ false
    → ((c : ℕ) (more : List ℕ) → cs ≡ c ∷ more → is_start c ≡ false) → FractionOwn (46 ∷ cs) end
point_alone cs end i n w = record {
  first = 46;
  more = [];
  is = ap (λ (x : List ℕ). 46 ∷ x) (sym i);
  at = λ other s rest e f. alone other s rest (sym i ∙ e) f;
  last = inr (ap (begins_with (codes ".")) i ∙ n);
}
  where
    alone : (other s rest : List ℕ) → cs ≡ s ++ rest → is_suffix s ≡ true → past_fraction other (46 ∷ s) ≡ Ok (Some s)
    alone other [] rest e f = refl
    alone other (x ∷ xs) rest e f = absurd (let z : true ≡ false = sym f ∙ w x (xs ++ rest) e in cc)

-- a point before a digit
point_digit : (other : List ℕ) (d : ℕ) (ds : List ℕ) → (begins_with (codes ".") (d ∷ ds) || is_start d) ≡ false
    → is_ascii_digit d ≡ true → past_fraction other (46 ∷ (d ∷ ds)) ≡ past_digits other (d ∷ ds)
point_digit other d ds g e = rw (g, e) refl

digits_none : (other cs s : List ℕ) → past_ten cs ≡ s → past_exponent other s ≡ Ok None
    → past_digits other cs ≡ Ok (Some s)
digits_none other cs s p k =
    rw (past_digits, p, k) (ap (λ (x : List ℕ). let q : Passed = Ok (Some x) in q) p)

digits_some : (other cs mid s : List ℕ) → past_ten cs ≡ mid → past_exponent other mid ≡ Ok (Some s)
    → past_digits other cs ≡ Ok (Some s)
digits_some other cs mid s p k = rw (past_digits, p, k) refl

digits_wrong : (other cs : List ℕ) (at : _) → past_exponent other (past_ten cs) ≡ Err at → past_digits other cs ≡ Err at
digits_wrong other cs at k = rw (past_digits, k) refl

decimal_goes : (d : ℕ) → is_ascii_digit d ≡ true → (is_ascii_digit d || d == 95) ≡ true
decimal_goes d h = rw h refl

decimal_no_dot : (d : ℕ) → is_ascii_digit d ≡ true → (d == 46) ≡ false
decimal_no_dot d h = grind (arith, nat_tests, h)

ten_more : (d : ℕ) (ds : List ℕ) → is_ascii_digit d ≡ true → past_ten (d ∷ ds) ≡ past_ten ds
ten_more d ds e = let b = decimal_goes d e in rw (past, b) refl

by_digits : (from : List ℕ) (d : ℕ) (ds end : List ℕ) (o : Passed)
    → (begins_with (codes ".") (d ∷ ds) || is_start d) ≡ false
    → is_ascii_digit d ≡ true → past_exponent from (past_ten (d ∷ ds)) ≡ o
    → past_digits from (d ∷ ds) ≡ Ok (Some end) → FractionOwn (46 ∷ (d ∷ ds)) end
by_digits from d ds end (Err at) g e k h =
    absurd (let z : Err at ≡ Ok (Some end) = sym (digits_wrong from (d ∷ ds) at k) ∙ h in cc)
by_digits from d ds end (Ok None) g e k h =
    let r = run (digit_of (base_of []).0) ds in
    let ten = ten_more d ds e in
    let left : end ≡ past_ten ds = sym (some_same (past_ten ds) end
    (let z : Ok (Some (past_ten ds)) ≡ Ok (Some end) = sym (digits_none from (d ∷ ds) (past_ten ds) ten
    (ap (past_exponent from) (sym ten) ∙ k)) ∙ h in cc)) in record {
      first = 46;
      more = d ∷ r.own;
      is = ap (λ (x : List ℕ). 46 ∷ (d ∷ x)) (r.is ∙ ap (λ (x : List ℕ). r.own ++ x) (sym left));
      at = λ other s rest i f.
          let n : begins (digit_of (base_of []).0) s ≡ false =
          begins_front (digit_of (base_of []).0) s rest (past_ten ds) (sym left ∙ i) r.ends in
          point_digit other d (r.own ++ s) g e
          ∙ digits_none other (d ∷ (r.own ++ s)) s (ten_more d (r.own ++ s) e ∙ past_stops
          (digit_of (base_of []).0) r.own s r.all n)
          (exponent_none from other s rest (ap (past_exponent from) (sym i ∙ (left ∙ sym ten)) ∙ k));
      last = inl (first_no_dot (digit_of (base_of []).0) d r.own refl (decimal_no_dot d e) r.all);
    }
by_digits from d ds end (Ok (Some rest2)) g e k h =
    let r = run (digit_of (base_of []).0) ds in
    let ten = ten_more d ds e in
    let x = exponent_cut from (past_ten ds) rest2 (ap (past_exponent from) (sym ten) ∙ k) in
    let left : end ≡ rest2 = sym (some_same rest2 end
    (let z : Ok (Some rest2) ≡ Ok (Some end) = sym (digits_some from (d ∷ ds) (past_ten ds) rest2 ten
    (ap (past_exponent from) (sym ten) ∙ k)) ∙ h in cc)) in
    let own : List ℕ = x.first ∷ x.more in record {
      first = 46;
      more = d ∷ (r.own ++ own);
      is = ap (λ (y : List ℕ). 46 ∷ (d ∷ y)) (r.is ∙ (ap (λ (y : List ℕ). r.own ++ y) (x.is
          ∙ ap (λ (y : List ℕ). own ++ y) (sym left)) ∙ sym (append_assoc r.own own end)));
      at = λ other s rest i f.
          let n : begins (digit_of (base_of []).0) s ≡ false =
          begins_front (digit_of (base_of []).0) s rest rest2 (sym left ∙ i) x.ends in
          let stops : begins (digit_of (base_of []).0) (own ++ s) ≡ false =
          sym (ap (begins (digit_of (base_of []).0)) x.is) ∙ r.ends in
          point_digit other d ((r.own ++ own) ++ s) g e
          ∙ digits_some other (d ∷ ((r.own ++ own) ++ s)) (own ++ s) s (ten_more d ((r.own ++ own) ++ s) e
          ∙ (ap past_ten (append_assoc r.own own s)
          ∙ past_stops (digit_of (base_of []).0) r.own (own ++ s) r.all stops))
          (x.at other s n);
      last = inl (dot_last (46 ∷ (d ∷ r.own)) x.first x.more ∙ x.last);
    }

ok_some : (x y : List ℕ) → (let a : Passed = Ok (Some x) in a) ≡ Ok (Some y) → x ≡ y
ok_some x y h = cc

by_point : (from : List ℕ) (d : ℕ) (ds end : List ℕ) (goes digit : Bool)
    → (begins_with (codes ".") (d ∷ ds) || is_start d) ≡ goes → is_ascii_digit d ≡ digit
    → past_fraction from (46 ∷ (d ∷ ds)) ≡ Ok (Some end) → FractionOwn (46 ∷ (d ∷ ds)) end
by_point from d ds end true digit g e h =
    absurd (let w : past_fraction from (46 ∷ (d ∷ ds)) ≡ Ok None = rw g refl in
    let z : Ok None ≡ Ok (Some end) = sym w ∙ h in cc)
by_point from d ds end false true g e h =
    by_digits from d ds end (past_exponent from (past_ten (d ∷ ds))) g e refl (sym (point_digit from d ds g e) ∙ h)
by_point from d ds end false false g e h =
    let w : past_fraction from (46 ∷ (d ∷ ds)) ≡ Ok (Some (d ∷ ds)) = rw (g, e) refl in
    point_alone (d ∷ ds) end (sym (ok_some (d ∷ ds) end (sym w ∙ h)))
    (or_left (begins_with (codes ".") (d ∷ ds)) (is_start d) g)
    (λ c more i. let same : c ≡ d = cc in ap is_start same ∙ or_right (begins_with (codes ".") (d ∷ ds)) (is_start d) g)

fraction_at : (from : List ℕ) (cs end : List ℕ) → past_fraction from (46 ∷ cs) ≡ Ok (Some end)
    → FractionOwn (46 ∷ cs) end
fraction_at from [] end h =
    let w : past_fraction from (46 ∷ []) ≡ Ok (Some []) = refl in
    point_alone [] end (sym (ok_some [] end (sym w ∙ h))) refl (λ c more i. absurd (cc))
fraction_at from (d ∷ ds) end h =
    by_point from d ds end (begins_with (codes ".") (d ∷ ds) || is_start d) (is_ascii_digit d) refl refl h

fraction_of : (from : List ℕ) (c : ℕ) (cs end : List ℕ) (b : Bool) → (c == 46) ≡ b
    → past_fraction from (c ∷ cs) ≡ Ok (Some end) → FractionOwn (c ∷ cs) end
fraction_of from c cs end false e h = by_exponent from c cs end e h
fraction_of from c cs end true e h =
    let is46 = same_char c 46 e in
    let f = fraction_at from cs end (ap (λ (x : ℕ). past_fraction from (x ∷ cs)) (sym is46) ∙ h) in record {
      first = f.first;
      more = f.more;
      is = ap (λ (x : ℕ). x ∷ cs) is46 ∙ f.is;
      at = f.at;
      last = f.last;
    }

fraction_cut : (from cs end : List ℕ) → past_fraction from cs ≡ Ok (Some end) → FractionOwn cs end
fraction_cut from [] end h = absurd (cc)
fraction_cut from (c ∷ cs) end h = fraction_of from c cs end (c == 46) refl h

-- where none is, none is in the suffix
fraction_none : (from other s rest : List ℕ) → past_fraction from (s ++ rest) ≡ Ok None → is_suffix s ≡ true
    → past_fraction other s ≡ Ok None
fraction_none from other [] rest h f = refl
fraction_none from other (c ∷ cs) rest h f =
    let n = start_not_dot c f in
    no_point other c cs n
    ∙ exponent_none from other (c ∷ cs) rest (sym (no_point from c (cs ++ rest) n) ∙ h)

-- a `.` that no fraction begins is a field's or a range's
no_fraction_at : (from : List ℕ) (d : ℕ) (ds : List ℕ) (goes digit : Bool)
    → (begins_with (codes ".") (d ∷ ds) || is_start d) ≡ goes → is_ascii_digit d ≡ digit
    → past_fraction from (46 ∷ (d ∷ ds)) ≡ Ok None → (begins_with (codes ".") (d ∷ ds) || is_start d) ≡ true
no_fraction_at from d ds true digit g e h = g
no_fraction_at from d ds false true g e h =
    absurd (no_none (past_exponent from (past_ten (d ∷ ds))) refl (sym (point_digit from d ds g e) ∙ h))
  where
    no_none : (o : Passed) → past_exponent from (past_ten (d ∷ ds)) ≡ o → past_digits from (d ∷ ds) ≡ Ok None → ⊥
    no_none (Err at) k z =
        let y : Err at ≡ Ok None = sym (digits_wrong from (d ∷ ds) at k) ∙ z in absurd (cc)
    no_none (Ok None) k z =
        let y : Ok (Some (past_ten (d ∷ ds))) ≡ Ok None =
        sym (digits_none from (d ∷ ds) (past_ten (d ∷ ds)) refl k) ∙ z in absurd (cc)
    no_none (Ok (Some end)) k z =
        let y : Ok (Some end) ≡ Ok None =
        sym (digits_some from (d ∷ ds) (past_ten (d ∷ ds)) end refl k) ∙ z in absurd (cc)
no_fraction_at from d ds false false g e h =
    absurd (let w : past_fraction from (46 ∷ (d ∷ ds)) ≡ Ok (Some (d ∷ ds)) = rw (g, e) refl in
    let z : Ok (Some (d ∷ ds)) ≡ Ok None = sym w ∙ h in cc)

field_after : (from : List ℕ) (cs : List ℕ) → past_fraction from (46 ∷ cs) ≡ Ok None → begins_field (46 ∷ cs) ≡ true
field_after from [] h = absurd (cc)
field_after from (d ∷ ds) h =
    no_fraction_at from d ds (begins_with (codes ".") (d ∷ ds) || is_start d) (is_ascii_digit d) refl refl h

dot_first : (b : Bool) → (b && true) ≡ true → b ≡ true
dot_first true h = refl
dot_first false h = absurd (cc)

field_of : (from rest : List ℕ) → past_fraction from rest ≡ Ok None → begins_with (codes ".") rest ≡ true
    → begins_field rest ≡ true
field_of from [] h d = absurd (cc)
field_of from (c ∷ cs) h d =
    let is46 = same_char c 46 (dot_first (c == 46) d) in
    ap (λ (x : ℕ). begins_field (x ∷ cs)) is46
    ∙ field_after from cs (ap (λ (x : ℕ). past_fraction from (x ∷ cs)) (sym is46) ∙ h)

-- ---- numbers

-- A number from its first digit on, which these characters precede, and that it is read by itself. Before a `.` it
-- ends with none, and a bare integer has there the `.` of a field or a range.
pub record DigitsOwn (base : _) (before : List ℕ) (d : ℕ) (ds rest : List ℕ) (shape : Shape) : Type 0 where
  pub front : List ℕ
  pub suffix : List ℕ
  pub is : ds ≡ (front ++ suffix) ++ rest
  pub alone : number_of base (before ++ (d ∷ (front ++ suffix))) (d ∷ (front ++ suffix)) ≡ Ok (shape, [])
  pub kind : LitKind
  pub opens : marks.opening kind ≡ []
  pub closes : marks.closing kind ≡ []
  pub shaped : shape ≡ literal_of (encode_utf8_all (before ++ (d ∷ front))) (encode_utf8_all suffix)
      (length (encode_utf8_all suffix)) kind
  pub dot : begins_with (codes ".") rest ≡ true → ends_with_dot (d ∷ (front ++ suffix)) ≡ false
  pub bare : is_bare shape ≡ true → begins_with (codes ".") rest ≡ true → begins_field rest ≡ true

-- the bytes of a number without its suffix
bytes_of_front : (before : List ℕ) (d : ℕ) (own rest : List ℕ)
    → bytes_before (before ++ (d ∷ (own ++ rest))) rest ≡ encode_utf8_all (before ++ (d ∷ own))
bytes_of_front before d own rest =
    ap (λ (x : List ℕ). bytes_before x rest) (sym (append_assoc before (d ∷ own) rest))
    ∙ bytes_front (before ++ (d ∷ own)) rest

-- an integer without a suffix is at the rest
bare_case : (from text own rest cs : List ℕ) → cs ≡ own ++ rest → past_fraction from cs ≡ Ok None
    → is_bare (literal_of text (encode_utf8_all own) (length (encode_utf8_all own)) kinds.Integer) ≡ true
    → begins_with (codes ".") rest ≡ true → begins_field rest ≡ true
bare_case from text [] rest cs e h b d = field_of from rest (ap (past_fraction from) (sym e) ∙ h) d
bare_case from text (c ∷ own) rest cs e h b d =
    let some : 0 < length (encode_utf8_all (c ∷ own)) = omega (arith, length-le-encodes (c ∷ own)) in
    absurd (let z : true ≡ false = sym b ∙ no (length (encode_utf8_all (c ∷ own))) some in cc)
  where
    no : (n : ℕ) → 0 < n → is_bare (literal_of text (encode_utf8_all (c ∷ own)) n kinds.Integer) ≡ false
    no n h = grind (arith, nat_tests, h)

integer_own : (base : _) (before : List ℕ) (d : ℕ) (ds rest : List ℕ) (shape : Shape) (l : Option (List ℕ))
    → Digits base → has_digit base (d ∷ ds) ≡ true → large_digit base (d ∷ ds) ≡ l
    → past_fraction (before ++ (d ∷ ds)) (past (digit_of base) ds) ≡ Ok None
    → integer base (before ++ (d ∷ ds)) (d ∷ ds) (past (digit_of base) ds) ≡ Ok (shape, rest)
    → DigitsOwn base before d ds rest shape
integer_own base before d ds rest shape (Some at) dg e l g h =
    absurd (let w : integer base (before ++ (d ∷ ds)) (d ∷ ds) (past (digit_of base) ds) ≡ Err (fault_kind.Digit, at) =
    rw (integer, l) refl in
    let z : Err (fault_kind.Digit, at) ≡ Ok (shape, rest) = sym w ∙ h in cc)
integer_own base before d ds rest shape None dg e l g h =
    let k = digit_of base in
    let cs : List ℕ = before ++ (d ∷ ds) in
    let after : List ℕ = past k ds in
    let r = run k ds in
    let was : integer base cs (d ∷ ds) after ≡ literal kinds.Integer (bytes_before cs after) after =
    rw (integer, l) refl in
    let s = literal_cut kinds.Integer (bytes_before cs after) after rest shape (sym was ∙ h) in
    let own : List ℕ = r.own ++ s.own in
    let all : List ℕ = before ++ (d ∷ own) in
    let text : bytes_before cs after ≡ encode_utf8_all (before ++ (d ∷ r.own)) =
    ap (λ (x : List ℕ). bytes_before (before ++ (d ∷ x)) after) r.is ∙ bytes_of_front before d r.own after in
    let same : bytes_before all s.own ≡ bytes_before cs after = bytes_of_front before d r.own s.own ∙ sym text in
    let is : ds ≡ own ++ rest =
    r.is ∙ (ap (λ (x : List ℕ). r.own ++ x) s.is ∙ sym (append_assoc r.own s.own rest)) in
    let stops : begins k s.own ≡ false = begins_front k s.own rest after s.is r.ends in
    let left : past k own ≡ s.own = past_stops k r.own s.own r.all stops in
    let digit : has_digit base (d ∷ own) ≡ true =
    digit_same base (d ∷ r.own) s.own after dg stops r.ends
    ∙ (ap (λ (x : List ℕ). has_digit base (d ∷ x)) (sym r.is) ∙ e) in
    let large : large_digit base (d ∷ own) ≡ None =
    large_front base (d ∷ own) rest (ap (λ (x : List ℕ). large_digit base (d ∷ x)) (sym is) ∙ l) in
    let fraction : past_fraction all (past k own) ≡ Ok None =
    ap (past_fraction all) left
    ∙ fraction_none cs all s.own rest (ap (past_fraction cs) (sym s.is) ∙ g) s.front in
    let now : integer base all (d ∷ own) s.own ≡ literal kinds.Integer (bytes_before all s.own) s.own =
    rw (integer, large) refl in record {
      front = r.own;
      suffix = s.own;
      is = is;
      alone = number_is base all d own (Ok None) digit fraction
          ∙ (ap (integer base all (d ∷ own)) left
          ∙ (now ∙ (ap (λ (x : List ℕ). literal kinds.Integer x s.own) same ∙ s.alone)));
      kind = kinds.Integer;
      opens = refl;
      closes = refl;
      shaped = s.shaped ∙ ap (λ (x : List ℕ). literal_of x (encode_utf8_all s.own) (length (encode_utf8_all s.own))
          kinds.Integer) text;
      dot = λ q. suffix_no_dot (d ∷ r.own) s.own s.front s.all
          (λ z. first_no_dot k d r.own dg.dot (digit_no_dot base d ds (d == 46) refl dg e) r.all);
      bare = λ b q. bare_case cs (bytes_before cs after) s.own rest after s.is g (ap is_bare (sym s.shaped) ∙ b) q;
    }

float_is : (base : _) (cs end : List ℕ) → is_ten base ≡ true
    → float base cs end ≡ literal kinds.Float (bytes_before cs end) end
float_is base cs end t = rw t refl

float_own : (base : _) (before : List ℕ) (d : ℕ) (ds end rest : List ℕ) (shape : Shape) (b : Bool)
    → Digits base → has_digit base (d ∷ ds) ≡ true → is_ten base ≡ b
    → past_fraction (before ++ (d ∷ ds)) (past (digit_of base) ds) ≡ Ok (Some end)
    → float base (before ++ (d ∷ ds)) end ≡ Ok (shape, rest)
    → DigitsOwn base before d ds rest shape
float_own base before d ds end rest shape false dg e t g h =
    absurd (let w : float base (before ++ (d ∷ ds)) end ≡ Err (fault_kind.FloatBase, before ++ (d ∷ ds)) = rw t refl in
    let z : Err (fault_kind.FloatBase, before ++ (d ∷ ds)) ≡ Ok (shape, rest) = sym w ∙ h in cc)
float_own base before d ds end rest shape true dg e t g h =
    let k = digit_of base in
    let cs : List ℕ = before ++ (d ∷ ds) in
    let after : List ℕ = past k ds in
    let r = run k ds in
    let f = fraction_cut cs after end g in
    let own : List ℕ = f.first ∷ f.more in
    let was = float_is base cs end t in
    let s = literal_cut kinds.Float (bytes_before cs end) end rest shape (sym was ∙ h) in
    let front : List ℕ = r.own ++ own in
    let whole : List ℕ = front ++ s.own in
    let all : List ℕ = before ++ (d ∷ whole) in
    let up_to : ds ≡ front ++ end =
    r.is ∙ (ap (λ (x : List ℕ). r.own ++ x) f.is ∙ sym (append_assoc r.own own end)) in
    let text : bytes_before cs end ≡ encode_utf8_all (before ++ (d ∷ front)) =
    ap (λ (x : List ℕ). bytes_before (before ++ (d ∷ x)) end) up_to ∙ bytes_of_front before d front end in
    let same : bytes_before all s.own ≡ bytes_before cs end = bytes_of_front before d front s.own ∙ sym text in
    let stops : begins k (own ++ s.own) ≡ false = sym (ap (begins k) f.is) ∙ r.ends in
    let left : past k whole ≡ own ++ s.own =
    ap (past k) (append_assoc r.own own s.own) ∙ past_stops k r.own (own ++ s.own) r.all stops in
    let digit : has_digit base (d ∷ whole) ≡ true =
    ap (λ (x : List ℕ). has_digit base (d ∷ x)) (append_assoc r.own own s.own)
    ∙ (digit_same base (d ∷ r.own) (own ++ s.own) after dg stops r.ends
    ∙ (ap (λ (x : List ℕ). has_digit base (d ∷ x)) (sym r.is) ∙ e)) in
    let fraction : past_fraction all (past k whole) ≡ Ok (Some s.own) =
    ap (past_fraction all) left ∙ f.at all s.own rest s.is s.front in
    let now = float_is base all s.own t in record {
      front = front;
      suffix = s.own;
      is = up_to ∙ (ap (λ (x : List ℕ). front ++ x) s.is ∙ sym (append_assoc front s.own rest));
      alone = number_is base all d whole (Ok (Some s.own)) digit fraction
          ∙ (now ∙ (ap (λ (x : List ℕ). literal kinds.Float x s.own) same ∙ s.alone));
      kind = kinds.Float;
      opens = refl;
      closes = refl;
      shaped = s.shaped ∙ ap (λ (x : List ℕ). literal_of x (encode_utf8_all s.own) (length (encode_utf8_all s.own))
          kinds.Float) text;
      dot = λ q. suffix_no_dot (d ∷ front) s.own s.front s.all
          (λ z. last_case r.own f.first f.more end rest s.own f.last s.is z q);
      bare = λ b q. absurd (let z : true ≡ false = sym b ∙ ap is_bare s.shaped in cc);
    }
  where
    last_case : (digits : List ℕ) (first : ℕ) (more end rest s : List ℕ)
        → (ends_with_dot (first ∷ more) ≡ false) ⊎ (begins_with (codes ".") end ≡ false) → end ≡ s ++ rest → s ≡ []
        → begins_with (codes ".") rest ≡ true → ends_with_dot (d ∷ (digits ++ (first ∷ more))) ≡ false
    last_case digits first more end rest s (inl n) i z q = dot_last (d ∷ digits) first more ∙ n
    last_case digits first more end rest s (inr n) i z q =
        absurd (let same : end ≡ rest = i ∙ ap (λ (x : List ℕ). x ++ rest) z in
        let y : true ≡ false = sym q ∙ (ap (begins_with (codes ".")) (sym same) ∙ n) in cc)

digits_own_of : (base : _) (before : List ℕ) (d : ℕ) (ds rest : List ℕ) (shape : Shape) (f : Passed)
    → Digits base → has_digit base (d ∷ ds) ≡ true
    → past_fraction (before ++ (d ∷ ds)) (past (digit_of base) ds) ≡ f
    → number_of base (before ++ (d ∷ ds)) (d ∷ ds) ≡ Ok (shape, rest)
    → DigitsOwn base before d ds rest shape
digits_own_of base before d ds rest shape (Err at) dg e g h =
    absurd (let z : Err at ≡ Ok (shape, rest) = sym (number_is base (before ++ (d ∷ ds)) d ds (Err at) e g) ∙ h in cc)
digits_own_of base before d ds rest shape (Ok None) dg e g h =
    integer_own base before d ds rest shape (large_digit base (d ∷ ds)) dg e refl g
    (sym (number_is base (before ++ (d ∷ ds)) d ds (Ok None) e g) ∙ h)
digits_own_of base before d ds rest shape (Ok (Some end)) dg e g h =
    float_own base before d ds end rest shape (is_ten base) dg e refl g
    (sym (number_is base (before ++ (d ∷ ds)) d ds (Ok (Some end)) e g) ∙ h)

digits_own_if : (base : _) (before : List ℕ) (d : ℕ) (ds rest : List ℕ) (shape : Shape) (b : Bool)
    → Digits base → has_digit base (d ∷ ds) ≡ b → number_of base (before ++ (d ∷ ds)) (d ∷ ds) ≡ Ok (shape, rest)
    → DigitsOwn base before d ds rest shape
digits_own_if base before d ds rest shape false dg e h =
    absurd (let w : number_of base (before ++ (d ∷ ds)) (d ∷ ds) ≡ Err (fault_kind.NoDigits, before ++ (d ∷ ds)) =
    rw (number_of, e) refl in
    let z : Err (fault_kind.NoDigits, before ++ (d ∷ ds)) ≡ Ok (shape, rest) = sym w ∙ h in cc)
digits_own_if base before d ds rest shape true dg e h =
    digits_own_of base before d ds rest shape (past_fraction (before ++ (d ∷ ds)) (past (digit_of base) ds)) dg e refl h

digits_own : (base : _) (before : List ℕ) (d : ℕ) (ds rest : List ℕ) (shape : Shape) → Digits base
    → number_of base (before ++ (d ∷ ds)) (d ∷ ds) ≡ Ok (shape, rest) → DigitsOwn base before d ds rest shape
digits_own base before d ds rest shape dg h =
    digits_own_if base before d ds rest shape (has_digit base (d ∷ ds)) dg refl h

-- a number of any base
pub record NumberOwn (c : ℕ) (cs rest : List ℕ) (shape : Shape) : Type 0 where
  pub front : List ℕ
  pub suffix : List ℕ
  pub is : cs ≡ (front ++ suffix) ++ rest
  pub alone : number (c ∷ (front ++ suffix)) ≡ Ok (shape, [])
  pub kind : LitKind
  pub opens : marks.opening kind ≡ []
  pub closes : marks.closing kind ≡ []
  pub shaped : shape ≡ literal_of (encode_utf8_all (c ∷ front)) (encode_utf8_all suffix)
      (length (encode_utf8_all suffix)) kind
  pub dot : begins_with (codes ".") rest ≡ true → ends_with_dot (c ∷ (front ++ suffix)) ≡ false
  pub bare : is_bare shape ≡ true → begins_with (codes ".") rest ≡ true → begins_field rest ≡ true

-- after the two letters of its base
based : (base : _) (c d x : ℕ) (xs rest : List ℕ) (shape : Shape)
    → ((ys : List ℕ) → number (c ∷ (d ∷ ys)) ≡ number_of base (c ∷ (d ∷ ys)) ys)
    → DigitsOwn base (c ∷ (d ∷ [])) x xs rest shape → NumberOwn c (d ∷ (x ∷ xs)) rest shape
based base c d x xs rest shape is o = record {
  front = d ∷ (x ∷ o.front);
  suffix = o.suffix;
  is = ap (λ (y : List ℕ). d ∷ (x ∷ y)) o.is;
  alone = is (x ∷ (o.front ++ o.suffix)) ∙ o.alone;
  kind = o.kind;
  opens = o.opens;
  closes = o.closes;
  shaped = o.shaped;
  dot = o.dot;
  bare = o.bare;
}

based_number : (base : _) (c d : ℕ) (ds rest : List ℕ) (shape : Shape) → Digits base
    → ((ys : List ℕ) → number (c ∷ (d ∷ ys)) ≡ number_of base (c ∷ (d ∷ ys)) ys)
    → number (c ∷ (d ∷ ds)) ≡ Ok (shape, rest) → NumberOwn c (d ∷ ds) rest shape
based_number base c d [] rest shape dg is h =
    absurd (let w : number_of base (c ∷ (d ∷ [])) [] ≡ Err (fault_kind.NoDigits, c ∷ (d ∷ [])) = refl in
    let z : Err (fault_kind.NoDigits, c ∷ (d ∷ [])) ≡ Ok (shape, rest) = sym (is [] ∙ w) ∙ h in cc)
based_number base c d (x ∷ xs) rest shape dg is h =
    based base c d x xs rest shape is
    (digits_own base (c ∷ (d ∷ [])) x xs rest shape dg (sym (is (x ∷ xs)) ∙ h))

-- in base ten, where that is what the first two characters say
ten_alone : (c : ℕ) (own rest ds : List ℕ) → ds ≡ own ++ rest
    → ((d : ℕ) (more : List ℕ) → ds ≡ d ∷ more
    → (is_two c d ≡ false) × (is_eight c d ≡ false) × (is_sixteen c d ≡ false))
    → number (c ∷ own) ≡ number_of (base_of []).0 (c ∷ own) (c ∷ own)
ten_alone c [] rest ds e ten = number_one c
ten_alone c (d ∷ own) rest ds e ten =
    let n = ten d (own ++ rest) e in in_ten c d own n.0 n.1 n.2

ten_number : (c : ℕ) (ds rest : List ℕ) (shape : Shape)
    → ((d : ℕ) (more : List ℕ) → ds ≡ d ∷ more
    → (is_two c d ≡ false) × (is_eight c d ≡ false) × (is_sixteen c d ≡ false))
    → number (c ∷ ds) ≡ Ok (shape, rest) → NumberOwn c ds rest shape
ten_number c ds rest shape ten h =
    let o = digits_own (base_of []).0 [] c ds rest shape ten_digits
    (sym (ten_alone c ds [] ds (sym (append-nil ds)) ten) ∙ h) in record {
      front = o.front;
      suffix = o.suffix;
      is = o.is;
      alone = ten_alone c (o.front ++ o.suffix) rest ds o.is ten ∙ o.alone;
      kind = o.kind;
      opens = o.opens;
      closes = o.closes;
      shaped = o.shaped;
      dot = o.dot;
      bare = o.bare;
    }

number_by : (c d : ℕ) (ds rest : List ℕ) (shape : Shape) (two eight sixteen : Bool)
    → is_two c d ≡ two → is_eight c d ≡ eight → is_sixteen c d ≡ sixteen
    → number (c ∷ (d ∷ ds)) ≡ Ok (shape, rest) → NumberOwn c (d ∷ ds) rest shape
number_by c d ds rest shape true eight sixteen i j l h =
    based_number (base_of (codes "0b")).0 c d ds rest shape (record { low = refl; dot = refl })
    (λ ys. in_two c d ys i) h
number_by c d ds rest shape false true sixteen i j l h =
    based_number (base_of (codes "0o")).0 c d ds rest shape (record { low = refl; dot = refl })
    (λ ys. in_eight c d ys i j) h
number_by c d ds rest shape false false true i j l h =
    based_number (base_of (codes "0x")).0 c d ds rest shape (record { low = refl; dot = refl })
    (λ ys. in_sixteen c d ys i j l) h
number_by c d ds rest shape false false false i j l h =
    ten_number c (d ∷ ds) rest shape
    (λ x more e. let same : x ≡ d = cc in (
      ap (is_two c) same ∙ i,
      ap (is_eight c) same ∙ j,
      ap (is_sixteen c) same ∙ l,
    )) h

pub number_cut : (c : ℕ) (cs rest : List ℕ) (shape : Shape) → number (c ∷ cs) ≡ Ok (shape, rest)
    → NumberOwn c cs rest shape
number_cut c [] rest shape h = ten_number c [] rest shape (λ d more e. absurd (cc)) h
number_cut c (d ∷ ds) rest shape h =
    number_by c d ds rest shape (is_two c d) (is_eight c d) (is_sixteen c d) refl refl refl h
