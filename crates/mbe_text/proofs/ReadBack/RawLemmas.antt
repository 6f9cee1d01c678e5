-- A raw string that is read by itself is read before whatever doesn't go on with its suffix.
use Rattle.std.proofs.Common.{◌≡◌, ℕ, zero, suc, ◌==◌, ◌+◌, ◌&&◌, if◌then◌else◌, Bool, true, false, List, [], ◌∷◌, ◌++◌}
use Rattle.std.proofs.Common.{length, drop, refl, sym, ap, ◌∙◌, arith, codes, Option, Some, None, Ok, Err, append_assoc}
use Rattle.std.proofs.Common.{encode_utf8_all, chars}
use Rattle.std.specs.Prelude.{nat_le, replicate}
use Rattle.std.proofs.Math.Seq.{drop-append_seam}
use Rattle.std.proofs.lemmas.Str.{encode_ascii}
use Rattle.unicode_ident.proofs.Computing.{unicode_ident}
use Rattle.mbe_tt.specs.Trees.Literals as marks
use Rattle.mbe_tt.specs.declared.span.Edition.{Edition}
use Rattle.mbe_tt.specs.declared.span.Edition.TheVariants.{Edition2015, Edition2018, Edition2021, Edition2024}
use Rattle.mbe_tt.specs.declared.tt.LitKind.{LitKind}
use Rattle.mbe_tt.specs.declared.tt.LitKind.TheVariants as kinds
use Rattle.mbe_text.specs.Characters.{begins_with, bytes_before, has, past}
use Rattle.mbe_text.specs.declared.fault_kind.LexFaultKind.TheVariants as fault_kind
use Rattle.mbe_text.specs.Escapes.{CheckResult, check_raw}
use Rattle.mbe_text.specs.QuoteEnds.{front, from_raw_end}
use Rattle.mbe_text.specs.RustTokens.{RustTokenResult, read_rust, literal, raw_kind, raw_until, raw_body, raw_string}
use Rattle.mbe_text.specs.Shapes.{Shape, literal_of}
use Rattle.mbe_text.specs.Laws.RoundTrip.{RawStringsAreRead, is_raw}
use Rattle.mbe_text.specs.Laws.RustTrees.{continues_word}
use Rattle.mbe_text.proofs.ReadBack.EndLemmas.{r_is_start}
use Rattle.mbe_text.proofs.ReadBack.StepLemmas.{bytes_front}
use Rattle.mbe_text.proofs.ReadBack.QuoteLemmas.{same_char, Parts, parts_on, front_of, token_of, checked, checked_is}
use Rattle.mbe_text.proofs.ReadBack.QuoteLemmas.{is_identifier, extends, one_char, two_chars, letter_begins, b_is_start}
use Rattle.mbe_text.proofs.ReadBack.QuoteLemmas.{c_is_start, AllExtend, all_are_read}

-- so many `#`
abbrev pub marked : ℕ → List ℕ
marked n = replicate n 35

pub length_marked : (n : ℕ) → length (marked n) ≡ n
length_marked zero = refl
length_marked (suc n) = omega (arith, length_marked n)

-- ---- the quote that ends a raw string

pub and_both : (a b : Bool) → (a && b) ≡ true → (a ≡ true) × (b ≡ true)
and_both true b h = (refl, h)
and_both false b h = absurd (cc)

pub raw_later : (hs cs : List ℕ) (c : ℕ) → (c == 34 && begins_with hs cs) ≡ false
    → from_raw_end hs (c ∷ cs) ≡ from_raw_end hs cs
raw_later hs cs c h = rw (from_raw_end, h) refl

-- so many `#` that a text begins with
marks_of : (n : ℕ) (xs : List ℕ) → begins_with (marked n) xs ≡ true → (more : List ℕ) × (xs ≡ marked n ++ more)
marks_of zero xs h = (xs, refl)
marks_of (suc n) [] h = absurd (cc)
marks_of (suc n) (c ∷ xs) h =
    let two = and_both (c == 35) (begins_with (marked n) xs) h in
    let m = marks_of n xs two.1 in
    (m.0, ap (λ (x : ℕ). x ∷ xs) (same_char c 35 two.0) ∙ ap (λ (x : List ℕ). 35 ∷ x) m.1)

begins_marked : (n : ℕ) (m : List ℕ) → begins_with (marked n) (marked n ++ m) ≡ true
begins_marked zero m = refl
begins_marked (suc n) m = begins_marked n m

-- what follows a quote has no part in the `#` before it
pub marks_same : (n : ℕ) (own m more : List ℕ)
    → begins_with (marked n) (own ++ (34 ∷ m)) ≡ begins_with (marked n) (own ++ (34 ∷ more))
marks_same zero own m more = refl
marks_same (suc n) [] m more = refl
marks_same (suc n) (o ∷ os) m more = ap (λ (b : Bool). o == 35 && b) (marks_same n os m more)

-- the quote that ends a raw string, and its `#`, are found before whatever follows them
record RawFound (n : ℕ) (cs end : List ℕ) : Type 0 where
  own : List ℕ
  more : List ℕ
  ends : end ≡ 34 ∷ (marked n ++ more)
  is : cs ≡ own ++ (34 ∷ (marked n ++ more))
  at : (m : List ℕ) → from_raw_end (marked n) (own ++ (34 ∷ (marked n ++ m))) ≡ Some (34 ∷ (marked n ++ m))

raw_found_at : (b : Bool) (n c : ℕ) (cs end : List ℕ) → (c == 34 && begins_with (marked n) cs) ≡ b
    → (from_raw_end (marked n) cs ≡ Some end → RawFound n cs end)
    → from_raw_end (marked n) (c ∷ cs) ≡ Some end → RawFound n (c ∷ cs) end
raw_found_at true n c cs end e go h =
    let two = and_both (c == 34) (begins_with (marked n) cs) e in
    let after = marks_of n cs two.1 in
    let w : from_raw_end (marked n) (c ∷ cs) ≡ Some (c ∷ cs) = rw (from_raw_end, e) refl in
    let z : c ∷ cs ≡ end = let y : Some (c ∷ cs) ≡ Some end = sym w ∙ h in cc in
    let is : c ∷ cs ≡ 34 ∷ (marked n ++ after.0) =
    ap (λ (x : ℕ). x ∷ cs) (same_char c 34 two.0) ∙ ap (λ (x : List ℕ). 34 ∷ x) after.1 in record {
      own = [];
      more = after.0;
      ends = sym z ∙ is;
      is = is;
      at = λ m. let k = begins_marked n m in rw (from_raw_end, k) refl;
    }
raw_found_at false n c cs end e go h =
    let f = go (sym (raw_later (marked n) cs c e) ∙ h) in record {
      own = c ∷ f.own;
      more = f.more;
      ends = f.ends;
      is = ap (λ (x : List ℕ). c ∷ x) f.is;
      at = λ m. raw_later (marked n) (f.own ++ (34 ∷ (marked n ++ m))) c
          (ap (λ (b : Bool). c == 34 && b) (marks_same n f.own (marked n ++ m) (marked n ++ f.more)
          ∙ ap (begins_with (marked n)) (sym f.is)) ∙ e) ∙ f.at m;
    }

raw_found : (n : ℕ) (cs end : List ℕ) → from_raw_end (marked n) cs ≡ Some end → RawFound n cs end
raw_found n [] end h = absurd (cc)
raw_found n (c ∷ cs) end h =
    raw_found_at (c == 34 && begins_with (marked n) cs) n c cs end refl (raw_found n cs end) h

-- ---- the string

until_of : (q : _) (n : ℕ) (body end : List ℕ) (x : CheckResult) → check_raw q (front body end) ≡ x
    → raw_until q n body end ≡ checked x end (literal (raw_kind q n) (bytes_before body end) (drop (n + 1) end))
until_of q n body end (Ok u) e = rw (raw_until, e) refl
until_of q n body end (Err at) e = rw (raw_until, e) refl

pub until_is : (q : _) (n : ℕ) (own : List ℕ) (c : ℕ) (more : List ℕ)
    → raw_until q n (own ++ (c ∷ more)) (c ∷ more)
    ≡ checked (check_raw q own) (c ∷ more) (literal (raw_kind q n) (encode_utf8_all own) (drop (n + 1) (c ∷ more)))
until_is q n own c more =
    until_of q n (own ++ (c ∷ more)) (c ∷ more) (check_raw q own) (ap (check_raw q) (front_of own (c ∷ more)))
    ∙ ap (λ (x : List ℕ). checked (check_raw q own) (c ∷ more) (literal (raw_kind q n) x (drop (n + 1) (c ∷ more))))
    (bytes_front own (c ∷ more))

pub past_end : (n : ℕ) (m : List ℕ) → drop (length (marked n) + 1) (34 ∷ (marked n ++ m)) ≡ m
past_end n m =
    let k : length (marked n) + 1 ≡ suc (length (marked n)) = omega arith in
    ap (λ (j : ℕ). drop j (34 ∷ (marked n ++ m))) k ∙ drop-append_seam (marked n) m

pub body_parts : (q : _) (from : List ℕ) (n : ℕ) (cs : List ℕ) (r : Shape × List ℕ) (o : Option (List ℕ)) (b : Bool)
    → from_raw_end (marked n) cs ≡ o → nat_le (length (marked n)) 255 ≡ b
    → raw_body q from (marked n) cs ≡ Ok r
    → Parts (λ other y. raw_body q other (marked n) y) (34 ∷ marked n) (raw_kind q (length (marked n))) cs r
body_parts q from n cs r None b e le h =
    absurd (let w : raw_body q from (marked n) cs
    ≡ Err (fault_kind.UnterminatedRawString, from) = rw (raw_body, e) refl in
    let z : Err (fault_kind.UnterminatedRawString, from) ≡ Ok r = sym w ∙ h in cc)
body_parts q from n cs r (Some end) false e le h =
    absurd (let w : raw_body q from (marked n) cs ≡ Err (fault_kind.TooManyHashes, from) = rw (raw_body, e, le) refl in
    let z : Err (fault_kind.TooManyHashes, from) ≡ Ok r = sym w ∙ h in cc)
body_parts q from n cs r (Some end) true e le h =
    let m : ℕ = length (marked n) in
    let f = raw_found n cs end e in
    let kind = raw_kind q m in
    let tail : List ℕ = marked n ++ f.more in
    let before : raw_body q from (marked n) cs ≡ raw_until q m cs end = rw (raw_body, e, le) refl in
    let ends : raw_until q m cs end ≡ raw_until q m (f.own ++ (34 ∷ tail)) (34 ∷ tail) =
    ap (raw_until q m cs) f.ends ∙ ap (λ (y : List ℕ). raw_until q m y (34 ∷ tail)) f.is in
    let was : checked (check_raw q f.own) (34 ∷ tail) (literal kind (encode_utf8_all f.own) (drop (m + 1) (34 ∷ tail)))
    ≡ Ok r = sym (before ∙ (ends ∙ until_is q m f.own 34 tail)) ∙ h in
    let is = checked_is (check_raw q f.own) (34 ∷ tail)
    (literal kind (encode_utf8_all f.own) (drop (m + 1) (34 ∷ tail))) r was in record {
      body = f.own;
      more = f.more;
      is = f.is;
      at = λ other y. let on = f.at y in
          let after : raw_body q other (marked n) (f.own ++ (34 ∷ (marked n ++ y)))
          ≡ raw_until q m (f.own ++ (34 ∷ (marked n ++ y))) (34 ∷ (marked n ++ y)) = rw (raw_body, on, le) refl in
          after ∙ (until_is q m f.own 34 (marked n ++ y)
          ∙ (is.1 (34 ∷ (marked n ++ y)) (literal kind (encode_utf8_all f.own) (drop (m + 1) (34 ∷ (marked n ++ y))))
          ∙ ap (literal kind (encode_utf8_all f.own)) (past_end n y)));
      was = sym (ap (literal kind (encode_utf8_all f.own)) (past_end n f.more)) ∙ is.0;
    }

body_on : (q : _) (from other : List ℕ) (n : ℕ) (cs rest : List ℕ) (shape : Shape)
    → raw_body q from (marked n) cs ≡ Ok (shape, []) → continues_word rest ≡ false
    → raw_body q other (marked n) (cs ++ rest) ≡ Ok (shape, rest)
body_on q from other n cs rest shape h k =
    parts_on (λ o y. raw_body q o (marked n) y) (34 ∷ marked n) (raw_kind q (length (marked n))) cs rest shape
    (body_parts q from n cs (shape, []) (from_raw_end (marked n) cs) (nat_le (length (marked n)) 255) refl refl h)
    other k

-- ---- from its first `#` on

past_marks : (k : _) (n : ℕ) (cs : List ℕ) → has k 35 ≡ true → has k 34 ≡ false
    → past k (marked n ++ (34 ∷ cs)) ≡ 34 ∷ cs
past_marks k zero cs h o = rw (past, o) refl
past_marks k (suc n) cs h o = rw (past, h) (past_marks k n cs h o)

pub marks_are : (n : ℕ) → encode_utf8_all (marked n) ≡ marked n
marks_are zero = refl
marks_are (suc n) =
    ap (λ (x : List ℕ). x ++ encode_utf8_all (marked n)) (encode_ascii 35 (omega arith))
    ∙ ap (λ (x : List ℕ). 35 ∷ x) (marks_are n)

-- a raw string, where that passes its `#`
abbrev pub raw_from : List ℕ → (List ℕ → List ℕ → RustTokenResult) → List ℕ → List ℕ → RustTokenResult
raw_from from body cs quote =
    if begins_with (codes "\"") quote then body (bytes_before cs quote) (drop 1 quote) else Err
    (fault_kind.RawStringStart, from)

raw_is : (from : List ℕ) (body : List ℕ → List ℕ → RustTokenResult) (n : ℕ) (cs : List ℕ) (quote : List ℕ) → quote ≡ 34
    ∷ cs
    → raw_from from body (marked n ++ (34 ∷ cs)) quote ≡ body (marked n) cs
raw_is from body n cs quote e =
    ap (raw_from from body (marked n ++ (34 ∷ cs))) e
    ∙ ap (λ (x : List ℕ). body x cs) (bytes_front (marked n) (34 ∷ cs) ∙ marks_are n)

string_of : (k q : _) (from : List ℕ) (n : ℕ) (cs : List ℕ) → has k 35 ≡ true → has k 34 ≡ false
    → raw_from from (raw_body q from) (marked n ++ (34 ∷ cs)) (past k (marked n ++ (34 ∷ cs)))
    ≡ raw_body q from (marked n) cs
string_of k q from n cs h o = raw_is from (raw_body q from) n cs (past k (marked n ++ (34 ∷ cs)))
    (past_marks k n cs h o)

pub string_is : (q : _) (from : List ℕ) (n : ℕ) (cs : List ℕ)
    → raw_string q from (marked n ++ (34 ∷ cs)) ≡ raw_body q from (marked n) cs
string_is q from n cs = search string_of

raw_some : (q : _) (from other : List ℕ) (n : ℕ) (cs rest : List ℕ) (shape : Shape)
    → Some (raw_string q from (marked n ++ (34 ∷ cs))) ≡ Some (Ok (shape, [])) → continues_word rest ≡ false
    → Some (raw_string q other (marked n ++ (34 ∷ (cs ++ rest)))) ≡ Some (Ok (shape, rest))
raw_some q from other n cs rest shape h k =
    ap Some (string_is q other n (cs ++ rest)
    ∙ body_on q from other n cs rest shape
    (sym (string_is q from n cs) ∙ ap (token_of (Ok (shape, []))) h) k)

raw_none : (cs rest : List ℕ) (shape : Shape) (from other : List ℕ) (q : _)
    → Some (raw_string q from (34 ∷ cs)) ≡ Some (Ok (shape, [])) → continues_word rest ≡ false
    → Some (raw_string q other (34 ∷ (cs ++ rest))) ≡ Some (Ok (shape, rest))
raw_none cs rest shape from other q h k = raw_some q from other 0 cs rest shape h k

raw_one : (cs rest : List ℕ) (shape : Shape) (from other : List ℕ) (q : _)
    → Some (raw_string q from (35 ∷ (34 ∷ cs))) ≡ Some (Ok (shape, [])) → continues_word rest ≡ false
    → Some (raw_string q other (35 ∷ (34 ∷ (cs ++ rest)))) ≡ Some (Ok (shape, rest))
raw_one cs rest shape from other q h k = raw_some q from other 1 cs rest shape h k

raw_more : (n : ℕ) (cs rest : List ℕ) (shape : Shape) (from other : List ℕ) (q : _)
    → Some (raw_string q from (35 ∷ (marked n ++ (34 ∷ cs)))) ≡ Some (Ok (shape, [])) → continues_word rest ≡ false
    → Some (raw_string q other (35 ∷ (marked n ++ (34 ∷ (cs ++ rest))))) ≡ Some (Ok (shape, rest))
raw_more n cs rest shape from other q h k = raw_some q from other (suc n) cs rest shape h k

raw_two : (n : ℕ) (cs rest : List ℕ) (shape : Shape) (from other : List ℕ) (q : _)
    → Some (raw_string q from (35 ∷ (35 ∷ (marked n ++ (34 ∷ cs))))) ≡ Some (Ok (shape, []))
    → continues_word rest ≡ false
    → Some (raw_string q other (35 ∷ (35 ∷ (marked n ++ (34 ∷ (cs ++ rest)))))) ≡ Some (Ok (shape, rest))
raw_two n cs rest shape from other q h k = raw_some q from other (suc (suc n)) cs rest shape h k

r_case : (e : Edition) (n : ℕ) (cs rest : List ℕ) (shape : Shape)
    → read_rust e (114 ∷ (marked n ++ (34 ∷ cs))) ≡ Some (Ok (shape, [])) → continues_word rest ≡ false
    → read_rust e (114 ∷ (marked n ++ (34 ∷ (cs ++ rest)))) ≡ Some (Ok (shape, rest))
unfolding unicode_ident
r_case e zero cs rest shape h k = search (raw_none cs rest shape, h, k)
r_case e (suc zero) cs rest shape h k = search (raw_one cs rest shape, h, k)
r_case e (suc (suc n)) cs rest shape h k =
    search (
      raw_two n cs rest shape (114 ∷ (35 ∷ (35 ∷ (marked n ++ (34 ∷ cs)))))
          (114 ∷ (35 ∷ (35 ∷ (marked n ++ (34 ∷ (cs ++ rest)))))),
      h,
      k,
    )

b_case : (e : Edition) (n : ℕ) (cs rest : List ℕ) (shape : Shape)
    → read_rust e (98 ∷ (114 ∷ (marked n ++ (34 ∷ cs)))) ≡ Some (Ok (shape, [])) → continues_word rest ≡ false
    → read_rust e (98 ∷ (114 ∷ (marked n ++ (34 ∷ (cs ++ rest))))) ≡ Some (Ok (shape, rest))
b_case e zero cs rest shape h k = search (raw_none cs rest shape, h, k)
b_case e (suc n) cs rest shape h k =
    search (
      raw_more n cs rest shape (98 ∷ (114 ∷ (35 ∷ (marked n ++ (34 ∷ cs)))))
          (98 ∷ (114 ∷ (35 ∷ (marked n ++ (34 ∷ (cs ++ rest)))))),
      h,
      k,
    )

-- before 2021 a `c` is an identifier's
c_case : (e : Edition) (n : ℕ) (cs rest : List ℕ) (text suffix : List ℕ) (len : ℕ) (kind : LitKind)
    → read_rust e (99 ∷ (114 ∷ (marked n ++ (34 ∷ cs)))) ≡ Some (Ok (literal_of text suffix len kind, []))
    → continues_word rest ≡ false
    → read_rust e (99 ∷ (114 ∷ (marked n ++ (34 ∷ (cs ++ rest))))) ≡ Some (Ok (literal_of text suffix len kind, rest))
c_case Edition2015 n cs rest text suffix len kind h k =
    absurd (let z : true ≡ false = ap (λ (o : Option RustTokenResult). is_identifier (token_of (Err
    (fault_kind.UnterminatedString, [])) o)) h in cc)
c_case Edition2018 n cs rest text suffix len kind h k =
    absurd (let z : true ≡ false = ap (λ (o : Option RustTokenResult). is_identifier (token_of (Err
    (fault_kind.UnterminatedString, [])) o)) h in cc)
c_case Edition2021 zero cs rest text suffix len kind h k =
    search (raw_none cs rest (literal_of text suffix len kind), h, k)
c_case Edition2021 (suc n) cs rest text suffix len kind h k =
    search (
      raw_more n cs rest (literal_of text suffix len kind) (99 ∷ (114 ∷ (35 ∷ (marked n ++ (34 ∷ cs)))))
          (99 ∷ (114 ∷ (35 ∷ (marked n ++ (34 ∷ (cs ++ rest)))))),
      h,
      k,
    )
c_case Edition2024 zero cs rest text suffix len kind h k =
    search (raw_none cs rest (literal_of text suffix len kind), h, k)
c_case Edition2024 (suc n) cs rest text suffix len kind h k =
    search (
      raw_more n cs rest (literal_of text suffix len kind) (99 ∷ (114 ∷ (35 ∷ (marked n ++ (34 ∷ cs)))))
          (99 ∷ (114 ∷ (35 ∷ (marked n ++ (34 ∷ (cs ++ rest)))))),
      h,
      k,
    )

-- ---- literals

pub marked_chars : (n : ℕ) (b : List ℕ) → chars ((marked n ++ (34 ∷ [])) ++ b) ≡ marked n ++ (34 ∷ chars b)
marked_chars zero b = one_char 34 b (omega arith)
marked_chars (suc n) b =
    one_char 35 ((marked n ++ (34 ∷ [])) ++ b) (omega arith) ∙ ap (λ (x : List ℕ). 35 ∷ x) (marked_chars n b)

raw_extends : AllExtend is_raw
raw_extends e (kinds.StrRaw m) b rest text suffix n kind i k h =
    let body : List ℕ = (marked m ++ (34 ∷ [])) ++ b in
    let cs : List ℕ = marked m ++ (34 ∷ chars b) in
    extends e (114 ∷ body) (114 ∷ cs) rest (literal_of text suffix n kind)
    (one_char 114 body (omega arith) ∙ ap (λ (x : List ℕ). 114 ∷ x) (marked_chars m b))
    (letter_begins 114 cs r_is_start)
    (λ r. ap (λ (x : List ℕ). read_rust e (114 ∷ x)) (append_assoc (marked m) (34 ∷ chars b) rest)
    ∙ r_case e m (chars b) rest (literal_of text suffix n kind) r k) h
raw_extends e (kinds.ByteStrRaw m) b rest text suffix n kind i k h =
    let body : List ℕ = (marked m ++ (34 ∷ [])) ++ b in
    let cs : List ℕ = marked m ++ (34 ∷ chars b) in
    extends e (98 ∷ (114 ∷ body)) (98 ∷ (114 ∷ cs)) rest (literal_of text suffix n kind)
    (two_chars 98 114 body (omega arith) (omega arith) ∙ ap (λ (x : List ℕ). 98 ∷ (114 ∷ x)) (marked_chars m b))
    (letter_begins 98 (114 ∷ cs) b_is_start)
    (λ r. ap (λ (x : List ℕ). read_rust e (98 ∷ (114 ∷ x))) (append_assoc (marked m) (34 ∷ chars b) rest)
    ∙ b_case e m (chars b) rest (literal_of text suffix n kind) r k) h
raw_extends e (kinds.CStrRaw m) b rest text suffix n kind i k h =
    let body : List ℕ = (marked m ++ (34 ∷ [])) ++ b in
    let cs : List ℕ = marked m ++ (34 ∷ chars b) in
    extends e (99 ∷ (114 ∷ body)) (99 ∷ (114 ∷ cs)) rest (literal_of text suffix n kind)
    (two_chars 99 114 body (omega arith) (omega arith) ∙ ap (λ (x : List ℕ). 99 ∷ (114 ∷ x)) (marked_chars m b))
    (letter_begins 99 (114 ∷ cs) c_is_start)
    (λ r. ap (λ (x : List ℕ). read_rust e (99 ∷ (114 ∷ x))) (append_assoc (marked m) (34 ∷ chars b) rest)
    ∙ c_case e m (chars b) rest text suffix n kind r k) h
raw_extends e k b rest text suffix n kind i p h = absurd (cc)

pub raw_strings_are_read : RawStringsAreRead
raw_strings_are_read = all_are_read is_raw raw_extends
