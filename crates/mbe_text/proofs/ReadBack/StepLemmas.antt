-- One token is read at the front of a text.
use Rattle.std.proofs.Common.{◌≡◌, ℕ, ◌==◌, ◌-◌, not, ◌&&◌, ◌||◌, if◌then◌else◌, Bool, true, false, List, [], ◌∷◌, ◌++◌}
use Rattle.std.proofs.Common.{length, take, drop, refl, sym, ap, ◌∙◌, arith, codes, Some, None, Ok, length-append}
use Rattle.std.proofs.Common.{encode_utf8_all}
use Rattle.std.proofs.lemmas.Bool.Decides.{nat_tests}
use Rattle.std.proofs.Math.Seq.{take-append_seam}
use Rattle.std.specs.Char.{is_ascii_digit}
use Rattle.unicode_ident.specs.Ident.{is_xid_continue}
use Rattle.mbe_tt.specs.declared.span.Edition.{Edition}
use Rattle.mbe_tt.specs.declared.tt.IdentIsRaw.TheVariants.{Yes, No}
use Rattle.mbe_tt.specs.Trees.Editions.{at_least_2021}
use Rattle.mbe_text.specs.declared.dialect.Dialect.TheVariants.{Rust}
use Rattle.mbe_text.specs.Characters.{begins_with, is_space, bytes_before}
use Rattle.mbe_text.specs.Whitespace.{begins_comment}
use Rattle.mbe_text.specs.Dialect.{read_shape}
use Rattle.mbe_text.specs.LexedTrees.{next_token, ScannedToken}
use Rattle.mbe_text.specs.RustTokens.{read_rust, read_r, read_b, read_c, plain_identifier, begins_reserved}
use Rattle.mbe_text.specs.RustTokens.{begins_raw_string, begins_doc, is_guard, may_be_raw}
use Rattle.mbe_text.specs.Shapes.{Shape, identifier, lifetime_of}
use Rattle.mbe_text.specs.Trivia.{past_trivia}
use Rattle.mbe_text.specs.Identifiers.{past_identifier}
use Rattle.mbe_text.specs.Laws.RustTrees.{is_start, continues_word}
use Rattle.mbe_text.proofs.ReadBack.EndLemmas.{ends_word, continue_not_reserved, r_is_start, quote_not_start}
use Rattle.mbe_text.proofs.ReadBack.EndLemmas.{start_not_digit, not_r}

abbrev pub taken : Shape → List ℕ → List ℕ → ScannedToken
taken shape from rest = record { shape = shape; from = from; rest = rest }

-- ---- after white space

pub read_here : (e : Edition) (total c : ℕ) (cs rest : List ℕ) (shape : Shape)
    → past_trivia (Rust e) total (length (c ∷ cs)) (c ∷ cs) ≡ Ok (c ∷ cs)
    → read_shape (Rust e) total (c ∷ cs) ≡ Ok (shape, rest)
    → next_token (Rust e) total (c ∷ cs) ≡ Ok (Some (taken shape (c ∷ cs) rest))
read_here e total c cs rest shape b r = rw (next_token, b, r) refl

pub no_blank : (e : Edition) (total c : ℕ) (cs : List ℕ) → is_space c ≡ false → (c == 47) ≡ false
    → past_trivia (Rust e) total (length (c ∷ cs)) (c ∷ cs) ≡ Ok (c ∷ cs)
no_blank e total c cs a b = rw (a, b) refl

pub or_left : (x y : Bool) → (x || y) ≡ false → x ≡ false
or_left true y h = h
or_left false y h = refl

pub or_right : (x y : Bool) → (x || y) ≡ false → y ≡ false
or_right true y h = absurd (cc)
or_right false y h = h

no_comment_of : (e : Edition) (total c : ℕ) (cs : List ℕ) → is_space c ≡ false
    → begins_with (codes "//") (c ∷ cs) ≡ false
    → begins_with (codes "/*") (c ∷ cs) ≡ false → begins_doc (c ∷ cs) ≡ false
    → past_trivia (Rust e) total (length (c ∷ cs)) (c ∷ cs) ≡ Ok (c ∷ cs)
no_comment_of e total c cs a l b d = rw (a, d, l, b) refl

pub no_comment : (e : Edition) (total c : ℕ) (cs : List ℕ) → is_space c ≡ false → begins_comment (c ∷ cs) ≡ false
    → begins_doc (c ∷ cs) ≡ false
    → past_trivia (Rust e) total (length (c ∷ cs)) (c ∷ cs) ≡ Ok (c ∷ cs)
no_comment e total c cs a b d = no_comment_of e total c cs a (or_left _ _ b) (or_right _ _ b) d

-- ---- words

abbrev past_if : Bool → ℕ → List ℕ → List ℕ
past_if b x xs = if b then past_identifier (0 ∷ xs) else x ∷ xs

-- a word's characters go on with it
pub all_continue : (x : ℕ) (xs : List ℕ) (b : Bool) → is_xid_continue x ≡ b → past_identifier (0 ∷ (x ∷ xs)) ≡ []
    → (is_xid_continue x ≡ true) × (past_identifier (0 ∷ xs) ≡ [])
all_continue x xs true e p = (e, sym (ap (λ (b : Bool). past_if b x xs) e) ∙ p)
all_continue x xs false e p = absurd (let z : x ∷ xs ≡ [] = sym (ap (λ (b : Bool). past_if b x xs) e) ∙ p in cc)

pub past_all : (w rest : List ℕ) → past_identifier (0 ∷ w) ≡ [] → continues_word rest ≡ false
    → past_identifier (0 ∷ (w ++ rest)) ≡ rest
past_all [] [] p h = refl
past_all [] (c ∷ cs) p h = rw h refl
past_all (x ∷ xs) rest p h =
    let k = all_continue x xs (is_xid_continue x) refl p in rw (k.0) (past_all xs rest k.1 h)

pub bytes_front : (w rest : List ℕ) → bytes_before (w ++ rest) rest ≡ encode_utf8_all w
bytes_front w rest =
    let n : length (w ++ rest) - length rest ≡ length w = omega (arith, length-append w rest) in
    ap encode_utf8_all (ap (λ (k : ℕ). take k (w ++ rest)) n ∙ take-append_seam w rest)

-- what a word is before is no quote, and no `#`
pub not_reserved : (w rest : List ℕ) → past_identifier (0 ∷ w) ≡ [] → ends_word rest ≡ true
    → begins_reserved (w ++ rest) ≡ false
not_reserved [] [] p h = refl
not_reserved [] (c ∷ cs) p h = grind (arith, nat_tests, h)
not_reserved (x ∷ xs) rest p h =
    let k = all_continue x xs (is_xid_continue x) refl p in
    let n = continue_not_reserved x k.0 in grind (arith, nat_tests, n)

pub not_continued : (rest : List ℕ) → ends_word rest ≡ true → continues_word rest ≡ false
not_continued [] h = refl
not_continued (c ∷ cs) h = grind (arith, nat_tests, h)

raw_of : (cs : List ℕ) → begins_reserved cs ≡ false → begins_raw_string cs ≡ false
raw_of [] h = refl
raw_of (c ∷ cs) h = grind (arith, nat_tests, h)

-- nor a raw string after an `r`
not_r_string : (w rest : List ℕ) → past_identifier (0 ∷ w) ≡ [] → ends_word rest ≡ true
    → (begins_with (codes "r") (w ++ rest) && begins_raw_string (drop 1 (w ++ rest))) ≡ false
not_r_string [] [] p h = refl
not_r_string [] (c ∷ cs) p h = let n = not_r c (not_continued (c ∷ cs) h) in rw n refl
not_r_string (x ∷ xs) rest p h =
    let k = all_continue x xs (is_xid_continue x) refl p in
    let n = raw_of (xs ++ rest) (not_reserved xs rest k.1 h) in grind (arith, nat_tests, n)

-- the three things that may not be right after a word
pub record Plain (cs : List ℕ) : Type 0 where
  pub hash : begins_with (codes "#") cs ≡ false
  pub quotes : begins_with (codes "\"") cs ≡ false
  pub tick : begins_with (codes "'") cs ≡ false

pub plain_of : (cs : List ℕ) → begins_reserved cs ≡ false → Plain cs
plain_of cs h =
    let two = begins_with (codes "#") cs || begins_with (codes "\"") cs in
    let first : two ≡ false = or_left two (begins_with (codes "'") cs) h in record {
      hash = or_left (begins_with (codes "#") cs) (begins_with (codes "\"") cs) first;
      quotes = or_right (begins_with (codes "#") cs) (begins_with (codes "\"") cs) first;
      tick = or_right two (begins_with (codes "'") cs) h;
    }

and_false : (b : Bool) → (b && false) ≡ false
and_false true = refl
and_false false = refl

and_three : (a b d : Bool) → (b && d) ≡ false → ((a && b) && d) ≡ false
and_three true b d h = h
and_three false b d h = refl

r_is_plain : (e : Edition) (c : ℕ) (cs : List ℕ) → Plain cs → read_r e (c ∷ cs) ≡ plain_identifier e (c ∷ cs)
r_is_plain e c cs p = rw (p.hash, p.quotes, and_false (c == 114)) refl

b_is_plain : (e : Edition) (c : ℕ) (cs : List ℕ) → Plain cs → (begins_with (codes "r") cs && begins_raw_string
    (drop 1 cs)) ≡ false
    → read_b e (c ∷ cs) ≡ plain_identifier e (c ∷ cs)
b_is_plain e c cs p r =
    let three = and_three (c == 98) (begins_with (codes "r") cs) (begins_raw_string (drop 1 cs)) r in
    rw (p.tick, p.quotes, and_false (c == 98), three) refl

if_same : {A : Type 0} (b : Bool) (x : A) → (if b then x else x) ≡ x
if_same true x = refl
if_same false x = refl

c_is_plain : (e : Edition) (c : ℕ) (cs : List ℕ) → Plain cs → (begins_with (codes "r") cs && begins_raw_string
    (drop 1 cs)) ≡ false
    → read_c e (c ∷ cs) ≡ plain_identifier e (c ∷ cs)
c_is_plain e c cs p r =
    let three = and_three (c == 99) (begins_with (codes "r") cs) (begins_raw_string (drop 1 cs)) r in
    rw (p.quotes, and_false (c == 99), three) (if_same (not (at_least_2021 e)) (plain_identifier e (c ∷ cs)))

any_same : {A : Type 0} (a b d : Bool) (x : A) → (if a then x else if b then x else if d then x else x) ≡ x
any_same true b d x = refl
any_same false true d x = refl
any_same false false true x = refl
any_same false false false x = refl

word_case : (e : Edition) (c : ℕ) (cs : List ℕ) → is_start c ≡ true → Plain cs
    → (begins_with (codes "r") cs && begins_raw_string (drop 1 cs)) ≡ false
    → read_rust e (c ∷ cs) ≡ Some (plain_identifier e (c ∷ cs))
word_case e c cs s p r =
    rw (s, r_is_plain e c cs p, b_is_plain e c cs p r, c_is_plain e c cs p r)
    (any_same (begins_with (codes "r") (c ∷ cs)) (begins_with (codes "b") (c ∷ cs)) (begins_with (codes "c")
    (c ∷ cs)) (Some (plain_identifier e (c ∷ cs))))

or_false : (b : Bool) → (b && false) ≡ false
or_false b = and_false b

-- an identifier
pub word_read : (e : Edition) (c : ℕ) (w rest : List ℕ) → is_start c ≡ true → past_identifier (0 ∷ w) ≡ []
    → ends_word rest ≡ true
    → read_rust e (c ∷ (w ++ rest)) ≡ Some (Ok (identifier (encode_utf8_all (c ∷ w)) No, rest))
word_read e c w rest s p h =
    let plain = plain_of (w ++ rest) (not_reserved w rest p h) in
    let left : past_identifier (c ∷ (w ++ rest)) ≡ rest = past_all w rest p (not_continued rest h) in
    let after : begins_reserved rest ≡ false = not_reserved [] rest refl h in
    word_case e c (w ++ rest) s plain (not_r_string w rest p h)
    ∙ rw (left, after, and_false (at_least_2021 e), bytes_front (c ∷ w) rest) refl

-- a raw one
pub raw_read : (e : Edition) (c : ℕ) (w rest : List ℕ) → is_start c ≡ true → past_identifier (0 ∷ w) ≡ []
    → ends_word rest ≡ true
    → may_be_raw (encode_utf8_all (c ∷ w)) ≡ true
    → read_rust e (114 ∷ (35 ∷ (c ∷ (w ++ rest)))) ≡ Some (Ok (identifier (encode_utf8_all (c ∷ w)) Yes, rest))
raw_read e c w rest s p h m =
    let left : past_identifier (c ∷ (w ++ rest)) ≡ rest = past_all w rest p (not_continued rest h) in
    rw (s, left, bytes_front (c ∷ w) rest, m) refl

-- a lifetime
pub lifetime_read : (e : Edition) (c : ℕ) (w rest : List ℕ) → is_start c ≡ true → past_identifier (0 ∷ w) ≡ []
    → ends_word rest ≡ true
    → read_rust e (39 ∷ (c ∷ (w ++ rest))) ≡ Some (Ok (lifetime_of (encode_utf8_all (c ∷ w)) No, rest))
lifetime_read e c w rest s p h =
    let plain = plain_of (w ++ rest) (not_reserved w rest p h) in
    let after = plain_of rest (not_reserved [] rest refl h) in
    let left : past_identifier (c ∷ (w ++ rest)) ≡ rest = past_all w rest p (not_continued rest h) in
    rw (
      quote_not_start,
      s,
      plain.tick,
      plain.hash,
      and_false (c == 114),
      start_not_digit c s,
      left,
      after.tick,
      after.hash,
      and_false (at_least_2021 e),
      bytes_front (c ∷ w) rest,
    ) refl

-- a raw one
pub raw_lifetime_read : (e : Edition) (c : ℕ) (w rest : List ℕ) → is_start c ≡ true → past_identifier (0 ∷ w) ≡ []
    → ends_word rest ≡ true
    → may_be_raw (encode_utf8_all (c ∷ w)) ≡ true → at_least_2021 e ≡ true
    → read_rust e (39 ∷ (114 ∷ (35 ∷ (c ∷ (w ++ rest))))) ≡ Some (Ok (lifetime_of (encode_utf8_all (c ∷ w)) Yes, rest))
raw_lifetime_read e c w rest s p h m is_new =
    let after = plain_of rest (not_reserved [] rest refl h) in
    let left : past_identifier (c ∷ (w ++ rest)) ≡ rest = past_all w rest p (not_continued rest h) in
    rw (quote_not_start, r_is_start, s, is_new, left, after.tick, bytes_front (c ∷ w) rest, m) refl

-- ---- puncts, and the sides of groups

pub sign_read : (e : Edition) (c : ℕ) (rest : List ℕ) → is_start c ≡ false → (c == 114) ≡ false → (c == 98) ≡ false
    → (c == 99) ≡ false
    → is_ascii_digit c ≡ false → (c == 34) ≡ false → (c == 39) ≡ false → is_guard e (c ∷ rest) ≡ false
    → begins_doc (c ∷ rest) ≡ false
    → read_rust e (c ∷ rest) ≡ None
sign_read e c rest s r b d n q t g o = rw (r, b, d, s, n, q, t, g, o) refl

-- a `/` that neither begins nor ends a comment
pub no_doc : (c : ℕ) (rest : List ℕ) → begins_comment (c ∷ rest) ≡ false → begins_doc (c ∷ rest) ≡ false
no_doc c [] h = no_doc_short (c == 47)
  where
    no_doc_short : (b : Bool) → ((b && false) && not (b && false) || b && false || (b && false) && not
        (b && false || b && false) || b && false) ≡ false
    no_doc_short true = refl
    no_doc_short false = refl
no_doc c (d ∷ cs) h = grind (arith, nat_tests, h)
