-- A char or a byte that is read by itself is read before whatever doesn't go on with its suffix.
use Rattle.std.proofs.Common.{◌≡◌, ℕ, ◌⊎◌, inl, inr, ◌==◌, not, ◌&&◌, ◌||◌, if◌then◌else◌, Bool, true, false, List, []}
use Rattle.std.proofs.Common.{◌∷◌, ◌++◌, drop, refl, sym, ap, ◌∙◌, arith, codes, Option, Some, None, Ok, Err}
use Rattle.std.proofs.Common.{encode_utf8_all, chars}
use Rattle.std.specs.Char.{char_set_contains, is_ascii_digit}
use Rattle.unicode_ident.proofs.Computing.{unicode_ident}
use Rattle.mbe_tt.specs.Trees.Literals as marks
use Rattle.mbe_tt.specs.Trees.Editions.{at_least_2021}
use Rattle.mbe_tt.specs.declared.span.Edition.{Edition}
use Rattle.mbe_tt.specs.declared.tt.IdentIsRaw.TheVariants as raw
use Rattle.mbe_tt.specs.declared.tt.LitKind.{LitKind}
use Rattle.mbe_tt.specs.declared.tt.LitKind.TheVariants as kinds
use Rattle.mbe_text.specs.Characters.{begins_with, bytes_before}
use Rattle.mbe_text.specs.declared.fault_kind.LexFaultKind.TheVariants as fault_kind
use Rattle.mbe_text.specs.Escapes.{RestResult, check_char}
use Rattle.mbe_text.specs.QuoteEnds.{front, from_later_quote, from_char_end}
use Rattle.mbe_text.specs.RustTokens.{RustTokenResult, read_rust, literal, char, char_until, unterminated_char, within}
use Rattle.mbe_text.specs.RustTokens.{lifetime, plain_lifetime, raw_lifetime, begins_lifetime, may_be_raw}
use Rattle.mbe_text.specs.Shapes.{Shape, literal_of, lifetime_of}
use Rattle.mbe_text.specs.Identifiers.{past_identifier}
use Rattle.mbe_text.specs.Laws.RoundTrip.{CharsAreRead, is_char}
use Rattle.mbe_text.specs.Laws.RustTrees.{is_start, continues_word, begins_literal}
use Rattle.mbe_text.proofs.ReadBack.StepLemmas.{bytes_front}
use Rattle.mbe_text.proofs.ReadBack.QuoteLemmas.{Found, found_more, same_char, Parts, parts_on, front_of, token_of}
use Rattle.mbe_text.proofs.ReadBack.QuoteLemmas.{extends, one_char, two_chars, letter_begins, b_is_start, AllExtend}
use Rattle.mbe_text.proofs.ReadBack.QuoteLemmas.{all_are_read}

-- ---- the quote that ends a char

-- a char doesn't go on there
abbrev stops : ℕ → List ℕ → Bool
stops c cs = c == 47 || (char_set_contains (codes "\n") c && not (begins_with (codes "'") cs))

no_more : (taken : Bool) → from_later_quote taken [] ≡ None
no_more true = refl
no_more false = refl

stops_same : (c quote : ℕ) (own m more : List ℕ) → stops c (own ++ (quote ∷ m)) ≡ stops c (own ++ (quote ∷ more))
stops_same c quote [] m more = refl
stops_same c quote (o ∷ os) m more = refl

later_step : (c : ℕ) (cs : List ℕ) → (c == 39) ≡ false → stops c cs ≡ false
    → from_later_quote false (c ∷ cs) ≡ from_later_quote (c == 92) cs
later_step c cs e s = rw (from_later_quote, e, s) refl

quote_at : (b stop : Bool) (c : ℕ) (cs end : List ℕ) → (c == 39) ≡ b → stops c cs ≡ stop
    → ((taken : Bool) → from_later_quote taken cs ≡ Some end → Found 39 (from_later_quote taken) cs end)
    → from_later_quote false (c ∷ cs) ≡ Some end → Found 39 (from_later_quote false) (c ∷ cs) end
quote_at true stop c cs end e s go h =
    let w : from_later_quote false (c ∷ cs) ≡ Some (c ∷ cs) = rw (from_later_quote, e) refl in
    let z : c ∷ cs ≡ end = let y : Some (c ∷ cs) ≡ Some end = sym w ∙ h in cc in
    let is : c ∷ cs ≡ 39 ∷ cs = ap (λ (x : ℕ). x ∷ cs) (same_char c 39 e) in record {
      own = [];
      more = cs;
      ends = sym z ∙ is;
      is = is;
      at = λ m. refl;
    }
quote_at false true c cs end e s go h =
    absurd (let w : from_later_quote false (c ∷ cs) ≡ None = rw (from_later_quote, e, s) refl in
    let z : None ≡ Some end = sym w ∙ h in cc)
quote_at false false c [] end e s go h =
    absurd (let w : from_later_quote false (c ∷ []) ≡ from_later_quote (c == 92) [] = rw
    (from_later_quote, e, s) refl in
    let z : None ≡ Some end = sym (w ∙ no_more (c == 92)) ∙ h in cc)
quote_at false false c (d ∷ ds) end e s go h =
    let f = go (c == 92) (sym (later_step c (d ∷ ds) e s) ∙ h) in
    found_more 39 (from_later_quote false) (from_later_quote (c == 92)) c (d ∷ ds) end f
    (λ m. later_step c (f.own ++ (39 ∷ m)) e (stops_same c 39 f.own m f.more ∙ (ap (stops c) (sym f.is) ∙ s)))

later_found : (cs end : List ℕ) (taken : Bool) → from_later_quote taken cs ≡ Some end
    → Found 39 (from_later_quote taken) cs end
later_found [] end true h = absurd (cc)
later_found [] end false h = absurd (cc)
later_found (c ∷ cs) end true h =
    found_more 39 (from_later_quote true) (from_later_quote false) c cs end (later_found cs end false h) (λ m. refl)
later_found (c ∷ cs) end false h = quote_at (c == 39) (stops c cs) c cs end refl refl (later_found cs end) h

-- a char of one character ends there
abbrev closes : List ℕ → Bool
closes [] = false
closes (c ∷ cs) = not (c == 92) && begins_with (codes "'") cs

first_same : (c quote : ℕ) (own m more : List ℕ)
    → begins_with (c ∷ []) (own ++ (quote ∷ m)) ≡ begins_with (c ∷ []) (own ++ (quote ∷ more))
first_same c quote [] m more = refl
first_same c quote (o ∷ os) m more = refl

-- where a longer one ends, or one of no character
later_end : (own more cs end : List ℕ) → end ≡ 39 ∷ more → cs ≡ own ++ (39 ∷ more)
    → ((m : List ℕ) → from_later_quote false (own ++ (39 ∷ m)) ≡ Some (39 ∷ m)) → closes cs ≡ false
    → (end ≡ cs) ⊎ Found 39 from_char_end cs end
later_end [] more cs end e i a n = inl (e ∙ sym i)
later_end (o ∷ os) more cs end e i a n = inr (record {
  own = o ∷ os;
  more = more;
  ends = e;
  is = i;
  at = λ m. let no : closes (o ∷ (os ++ (39 ∷ m))) ≡ false =
      ap (λ (b : Bool). not (o == 92) && b) (first_same 39 39 os m more) ∙ (ap closes (sym i) ∙ n) in
      let w : from_char_end (o ∷ (os ++ (39 ∷ m))) ≡ from_later_quote false (o ∷ (os ++ (39 ∷ m))) =
      rw (from_char_end, no) refl in w ∙ a m;
})

char_found : (c d : ℕ) (ds end : List ℕ) (b : Bool) → closes (c ∷ (d ∷ ds)) ≡ b
    → from_char_end (c ∷ (d ∷ ds)) ≡ Some end
    → (end ≡ c ∷ (d ∷ ds)) ⊎ Found 39 from_char_end (c ∷ (d ∷ ds)) end
char_found c d ds end true e h =
    let w : from_char_end (c ∷ (d ∷ ds)) ≡ Some (d ∷ ds) = rw (from_char_end, e) refl in
    let z : d ∷ ds ≡ end = let y : Some (d ∷ ds) ≡ Some end = sym w ∙ h in cc in
    let is39 : d ≡ 39 = same_char d 39 (last_of (not (c == 92)) (d == 39) e) in
    let plain : closes (c ∷ (39 ∷ [])) ≡ true = ap (λ (x : ℕ). closes (c ∷ (x ∷ []))) (sym is39) ∙ e in inr (record {
      own = c ∷ [];
      more = ds;
      ends = sym z ∙ ap (λ (x : ℕ). x ∷ ds) is39;
      is = ap (λ (x : ℕ). c ∷ (x ∷ ds)) is39;
      at = λ m. rw (from_char_end, plain) refl;
    })
  where
    last_of : (a b : Bool) → (a && (b && true)) ≡ true → b ≡ true
    last_of true true k = refl
    last_of true false k = absurd (cc)
    last_of false b k = absurd (cc)
char_found c d ds end false e h =
    let w : from_char_end (c ∷ (d ∷ ds)) ≡ from_later_quote false (c ∷ (d ∷ ds)) = rw (from_char_end, e) refl in
    let f = later_found (c ∷ (d ∷ ds)) end false (sym w ∙ h) in
    later_end f.own f.more (c ∷ (d ∷ ds)) end f.ends f.is f.at e

-- ---- the char

-- where one character is there, the literal
abbrev one_checked : RestResult → List ℕ → List ℕ → RustTokenResult → RustTokenResult
one_checked (Err at) end from t = Err (within end at)
one_checked (Ok []) end from t = t
one_checked (Ok (c ∷ cs)) end from t = Err (fault_kind.MultipleChars, from)

one_is : (x : RestResult) (end from : List ℕ) (t : RustTokenResult) (r : Shape × List ℕ) → one_checked x end from t
    ≡ Ok r
    → (t ≡ Ok r) × ((d g : List ℕ) (u : RustTokenResult) → one_checked x d g u ≡ u)
one_is (Err at) end from t r h = absurd (cc)
one_is (Ok []) end from t r h = (h, λ d g u. refl)
one_is (Ok (c ∷ cs)) end from t r h = absurd (cc)

until_of : (kind : LitKind) (q : _) (from body end : List ℕ) (x : RestResult) → check_char q (front body end) ≡ x
    → char_until kind q from body end ≡ one_checked x end from (literal kind (bytes_before body end) (drop 1 end))
until_of kind q from body end (Err at) e = rw (char_until, e) refl
until_of kind q from body end (Ok []) e = rw (char_until, e) refl
until_of kind q from body end (Ok (c ∷ cs)) e = rw (char_until, e) refl

until_is : (kind : LitKind) (q : _) (from own : List ℕ) (c : ℕ) (more : List ℕ)
    → char_until kind q from (own ++ (c ∷ more)) (c ∷ more)
    ≡ one_checked (check_char q own) (c ∷ more) from (literal kind (encode_utf8_all own) more)
until_is kind q from own c more =
    until_of kind q from (own ++ (c ∷ more)) (c ∷ more) (check_char q own)
    (ap (check_char q) (front_of own (c ∷ more)))
    ∙ ap (λ (x : List ℕ). one_checked (check_char q own) (c ∷ more) from (literal kind x more))
    (bytes_front own (c ∷ more))

unended : (kind : LitKind) (q : _) (from : List ℕ) (c : ℕ) (cs : List ℕ) → from_char_end cs ≡ None
    → char kind q from (c ∷ cs) ≡ Err (unterminated_char q, c ∷ cs)
unended kind q from c cs e = rw (char, e) refl

-- where the quote is the first character, there is none
no_char : (kind : LitKind) (q : _) (from : List ℕ) (c : ℕ) (cs : List ℕ) (r : Shape × List ℕ)
    → char_until kind q from (c ∷ cs) (c ∷ cs) ≡ Ok r → ⊥
no_char kind q from c cs r h =
    let fault : RustTokenResult = Err (within (c ∷ cs) (fault_kind.EmptyChar, [])) in
    let w : char_until kind q from (c ∷ cs) (c ∷ cs) ≡ fault = until_is kind q from [] c cs in
    let z : fault ≡ Ok r = sym w ∙ h in absurd (cc)

char_parts_at : (kind : LitKind) (q : _) (from : List ℕ) (x c d : ℕ) (ds : List ℕ) (r : Shape × List ℕ)
    (o : Option (List ℕ)) → from_char_end (c ∷ (d ∷ ds)) ≡ o
    → char kind q from (x ∷ (c ∷ (d ∷ ds))) ≡ Ok r
    → Parts (λ other y. char kind q other (x ∷ y)) (39 ∷ []) kind (c ∷ (d ∷ ds)) r
char_parts_at kind q from x c d ds r None e h =
    absurd (let z : Err (unterminated_char q, x ∷ (c ∷ (d ∷ ds))) ≡ Ok r =
    sym (unended kind q from x (c ∷ (d ∷ ds)) e) ∙ h in cc)
char_parts_at kind q from x c d ds r (Some end) e h =
    by (char_found c d ds end (closes (c ∷ (d ∷ ds))) refl e)
  where
    cs : List ℕ
    cs = c ∷ (d ∷ ds)

    before : char kind q from (x ∷ (c ∷ (d ∷ ds))) ≡ char_until kind q from (c ∷ (d ∷ ds)) end
    before = rw (char, e) refl

    by : (end ≡ c ∷ (d ∷ ds)) ⊎ Found 39 from_char_end (c ∷ (d ∷ ds)) end
        → Parts (λ other y. char kind q other (x ∷ y)) (39 ∷ []) kind (c ∷ (d ∷ ds)) r
    by (inl all) =
        absurd (no_char kind q from c (d ∷ ds) r
        (sym (before ∙ ap (char_until kind q from (c ∷ (d ∷ ds))) all) ∙ h))
    by (inr f) =
        let ends : char_until kind q from (c ∷ (d ∷ ds)) end
        ≡ char_until kind q from (f.own ++ (39 ∷ f.more)) (39 ∷ f.more) =
        ap (char_until kind q from (c ∷ (d ∷ ds))) f.ends
        ∙ ap (λ (y : List ℕ). char_until kind q from y (39 ∷ f.more)) f.is in
        let was : one_checked (check_char q f.own) (39 ∷ f.more) from (literal kind (encode_utf8_all f.own) f.more)
        ≡ Ok r = sym (before ∙ (ends ∙ until_is kind q from f.own 39 f.more)) ∙ h in
        let is = one_is (check_char q f.own) (39 ∷ f.more) from (literal kind (encode_utf8_all f.own) f.more) r was in
        record {
          body = f.own;
          more = f.more;
          is = f.is;
          at = λ other m. let on = f.at m in
              let after : char kind q other (x ∷ (f.own ++ (39 ∷ m)))
              ≡ char_until kind q other (f.own ++ (39 ∷ m)) (39 ∷ m) = rw (char, on) refl in
              after ∙ (until_is kind q other f.own 39 m
              ∙ is.1 (39 ∷ m) other (literal kind (encode_utf8_all f.own) m));
          was = is.0;
        }

-- `''` is no char
and_no : (b : Bool) → (b && false) ≡ false
and_no true = refl
and_no false = refl

single_end : (c : ℕ) (end : List ℕ) (b stop : Bool) → (c == 39) ≡ b → stops c [] ≡ stop
    → from_later_quote false (c ∷ []) ≡ Some end → end ≡ c ∷ []
single_end c end true stop e s h =
    let w : from_later_quote false (c ∷ []) ≡ Some (c ∷ []) = rw (from_later_quote, e) refl in
    let z : Some (c ∷ []) ≡ Some end = sym w ∙ h in cc
single_end c end false true e s h =
    absurd (let w : from_later_quote false (c ∷ []) ≡ None = rw (from_later_quote, e, s) refl in
    let z : None ≡ Some end = sym w ∙ h in cc)
single_end c end false false e s h =
    absurd (let w : from_later_quote false (c ∷ []) ≡ from_later_quote (c == 92) [] = rw
    (from_later_quote, e, s) refl in
    let z : None ≡ Some end = sym (w ∙ no_more (c == 92)) ∙ h in cc)

pub single_at : (kind : LitKind) (q : _) (from : List ℕ) (x c : ℕ) (r : Shape × List ℕ) (o : Option (List ℕ))
    → from_char_end (c ∷ []) ≡ o → char kind q from (x ∷ (c ∷ [])) ≡ Ok r → ⊥
single_at kind q from x c r None e h =
    let fault : RustTokenResult = Err (unterminated_char q, x ∷ (c ∷ [])) in
    let z : fault ≡ Ok r = sym (unended kind q from x (c ∷ []) e) ∙ h in absurd (cc)
single_at kind q from x c r (Some end) e h =
    let no = and_no (not (c == 92)) in
    let w : from_char_end (c ∷ []) ≡ from_later_quote false (c ∷ []) = rw (from_char_end, no) refl in
    let is = single_end c end (c == 39) (stops c []) refl refl (sym w ∙ e) in
    let before : char kind q from (x ∷ (c ∷ [])) ≡ char_until kind q from (c ∷ []) end =
    rw (char, e) refl in
    let fails : char_until kind q from (c ∷ []) (c ∷ []) ≡ Err (fault_kind.EmptyChar, c ∷ []) = refl in
    let fault : RustTokenResult = Err (fault_kind.EmptyChar, c ∷ []) in
    let z : fault ≡ Ok r = sym (before ∙ (ap (char_until kind q from (c ∷ [])) is ∙ fails)) ∙ h in absurd (cc)

pub char_parts : (kind : LitKind) (q : _) (from : List ℕ) (x : ℕ) (cs : List ℕ) (r : Shape × List ℕ)
    → char kind q from (x ∷ cs) ≡ Ok r → Parts (λ other y. char kind q other (x ∷ y)) (39 ∷ []) kind cs r
char_parts kind q from x [] r h = absurd (cc)
char_parts kind q from x (c ∷ []) r h = absurd (single_at kind q from x c r (from_char_end (c ∷ [])) refl h)
char_parts kind q from x (c ∷ (d ∷ ds)) r h =
    char_parts_at kind q from x c d ds r (from_char_end (c ∷ (d ∷ ds))) refl h

char_on : (kind : LitKind) (q : _) (from other : List ℕ) (x : ℕ) (cs rest : List ℕ) (shape : Shape)
    → char kind q from (x ∷ cs) ≡ Ok (shape, []) → continues_word rest ≡ false
    → char kind q other (x ∷ (cs ++ rest)) ≡ Ok (shape, rest)
char_on kind q from other x cs rest shape h k =
    parts_on (λ o y. char kind q o (x ∷ y)) (39 ∷ []) kind cs rest shape
    (char_parts kind q from x cs (shape, []) h) other k

-- ---- what a char begins with

char_some : (kind : LitKind) (q : _) (from other : List ℕ) (x : ℕ) (cs rest : List ℕ) (shape : Shape)
    → Some (char kind q from (x ∷ cs)) ≡ Some (Ok (shape, [])) → continues_word rest ≡ false
    → Some (char kind q other (x ∷ (cs ++ rest))) ≡ Some (Ok (shape, rest))
char_some kind q from other x cs rest shape h k =
    ap Some (char_on kind q from other x cs rest shape (ap (token_of (Ok (shape, []))) h) k)

byte_case : (e : Edition) (cs rest : List ℕ) (shape : Shape) → read_rust e (98 ∷ (39 ∷ cs)) ≡ Some (Ok (shape, []))
    → continues_word rest ≡ false → read_rust e (98 ∷ (39 ∷ (cs ++ rest))) ≡ Some (Ok (shape, rest))
byte_case e cs rest shape h k =
    search (char_some, h, k)

-- a lifetime is no literal
abbrev is_literal : Shape → Bool
is_literal (literal_of text suffix n kind) = true
is_literal _ = false

abbrev reads_literal : RustTokenResult → Bool
reads_literal (Ok r) = is_literal r.0
reads_literal (Err at) = false

if_no : (b : Bool) (x y : RustTokenResult) → reads_literal x ≡ false → reads_literal y ≡ false
    → reads_literal (if b then x else y) ≡ false
if_no true x y h k = h
if_no false x y h k = k

-- each of its ends is another token, or a fault
plain_ends : (e : Edition) (from cs rest : List ℕ) (digit : Bool)
    → reads_literal (if begins_with (codes "'") rest then Err (fault_kind.MultipleChars, from)
    else if digit then Err (fault_kind.LifetimeDigit, from)
    else if at_least_2021 e && begins_with (codes "#") rest then Err (fault_kind.Prefix, from)
    else Ok (lifetime_of (bytes_before cs rest) raw.No, rest)) ≡ false
plain_ends e from cs rest digit =
    let name : RustTokenResult = Ok (lifetime_of (bytes_before cs rest) raw.No, rest) in
    let last : RustTokenResult = if at_least_2021 e
    && begins_with (codes "#") rest then Err (fault_kind.Prefix, from) else name in
    let more : RustTokenResult = if digit then Err (fault_kind.LifetimeDigit, from) else last in
    if_no (begins_with (codes "'") rest) (Err (fault_kind.MultipleChars, from)) more refl
    (if_no digit (Err (fault_kind.LifetimeDigit, from)) last refl
    (if_no (at_least_2021 e && begins_with (codes "#") rest) (Err (fault_kind.Prefix, from)) name refl refl))

plain_no : (e : Edition) (from cs : List ℕ) → reads_literal (plain_lifetime e from cs) ≡ false
plain_no e from [] = plain_ends e from [] (past_identifier []) false
plain_no e from (c ∷ cs) = plain_ends e from (c ∷ cs) (past_identifier (c ∷ cs)) (is_ascii_digit c)

raw_no : (from cs : List ℕ) → reads_literal (raw_lifetime from cs) ≡ false
raw_no from cs =
    let rest : List ℕ = past_identifier cs in
    let name : RustTokenResult = Ok (lifetime_of (bytes_before cs rest) raw.Yes, rest) in
    let wrong_name : RustTokenResult = Err (fault_kind.InvalidRawIdentifier, from) in
    let last : RustTokenResult = if may_be_raw (bytes_before cs rest) then name else wrong_name in
    if_no (begins_with (codes "'") rest) (Err (fault_kind.MultipleChars, from)) last refl
    (if_no (may_be_raw (bytes_before cs rest)) name wrong_name refl refl)

lifetime_ends : (plain : Bool) (e : Edition) (cs : List ℕ)
    → reads_literal (if plain then plain_lifetime e cs (drop 1 cs)
    else if at_least_2021 e then raw_lifetime cs (drop 3 cs)
    else Ok (lifetime_of (bytes_before (drop 1 cs) (drop 2 cs)) raw.No, drop 2 cs)) ≡ false
lifetime_ends plain e cs =
    let short : RustTokenResult = Ok (lifetime_of (bytes_before (drop 1 cs) (drop 2 cs)) raw.No, drop 2 cs) in
    let last : RustTokenResult = if at_least_2021 e then raw_lifetime cs (drop 3 cs) else short in
    if_no plain (plain_lifetime e cs (drop 1 cs)) last (plain_no e cs (drop 1 cs))
    (if_no (at_least_2021 e) (raw_lifetime cs (drop 3 cs)) short (raw_no cs (drop 3 cs)) refl)

lifetime_no : (e : Edition) (cs : List ℕ) → reads_literal (lifetime e cs) ≡ false
lifetime_no e [] = lifetime_ends (not (begins_with (codes "'r#") [] && false)) e []
lifetime_no e (a ∷ []) = lifetime_ends (not (begins_with (codes "'r#") (a ∷ []) && false)) e (a ∷ [])
lifetime_no e (a ∷ (b ∷ [])) = lifetime_ends (not (begins_with (codes "'r#") (a ∷ (b ∷ [])) && false)) e (a ∷ (b ∷ []))
lifetime_no e (a ∷ (b ∷ (c ∷ []))) = lifetime_ends (not (begins_with (codes "'r#") (a ∷ (b ∷ (c ∷ []))) && false)) e
    (a ∷ (b ∷ (c ∷ [])))
lifetime_no e (a ∷ (b ∷ (c ∷ (d ∷ cs)))) =
    lifetime_ends (not (begins_with (codes "'r#") (a ∷ (b ∷ (c ∷ (d ∷ cs)))) && is_start d)) e (a ∷ (b ∷ (c ∷
    (d ∷ cs))))

no_literal : (t : RustTokenResult) (text suffix : List ℕ) (n : ℕ) (kind : LitKind) (rest : List ℕ) → reads_literal t
    ≡ false
    → t ≡ Ok (literal_of text suffix n kind, rest) → ⊥
no_literal t text suffix n kind rest h e = let z : true ≡ false = sym (ap reads_literal e) ∙ h in absurd (cc)

quote_if : (b : Bool) (q : _) (e : Edition) (cs rest : List ℕ) (text suffix : List ℕ) (n : ℕ) (kind : LitKind)
    → (if b then lifetime e (39 ∷ cs) else char kinds.Char q (39 ∷ cs) (39 ∷ cs)) ≡ Ok
    (literal_of text suffix n kind, [])
    → continues_word rest ≡ false
    → (if b then lifetime e (39 ∷ (cs ++ rest)) else char kinds.Char q (39 ∷ (cs ++ rest)) (39 ∷ (cs ++ rest)))
    ≡ Ok (literal_of text suffix n kind, rest)
quote_if true q e cs rest text suffix n kind h k =
    absurd (no_literal (lifetime e (39 ∷ cs)) text suffix n kind [] (lifetime_no e (39 ∷ cs)) h)
quote_if false q e cs rest text suffix n kind h k =
    char_on kinds.Char q (39 ∷ cs) (39 ∷ (cs ++ rest)) 39 cs rest (literal_of text suffix n kind) h k

quote_one : (b : Bool) (q : _) (e : Edition) (c : ℕ) (text suffix : List ℕ) (n : ℕ) (kind : LitKind)
    → (if b then lifetime e (39 ∷ (c ∷ [])) else char kinds.Char q (39 ∷ (c ∷ [])) (39 ∷ (c ∷ [])))
    ≡ Ok (literal_of text suffix n kind, []) → ⊥
quote_one true q e c text suffix n kind h =
    no_literal (lifetime e (39 ∷ (c ∷ []))) text suffix n kind [] (lifetime_no e (39 ∷ (c ∷ []))) h
quote_one false q e c text suffix n kind h =
    single_at kinds.Char q (39 ∷ (c ∷ [])) 39 c (literal_of text suffix n kind, []) (from_char_end (c ∷ [])) refl h

quote_some : (e : Edition) (c d : ℕ) (ds rest : List ℕ) (text suffix : List ℕ) (n : ℕ) (kind : LitKind) (q : _)
    → Some (if begins_lifetime (c ∷ (d ∷ ds)) then lifetime e (39 ∷ (c ∷ (d ∷ ds)))
    else char kinds.Char q (39 ∷ (c ∷ (d ∷ ds))) (39 ∷ (c ∷ (d ∷ ds)))) ≡ Some (Ok (literal_of text suffix n kind, []))
    → continues_word rest ≡ false
    → Some (if begins_lifetime (c ∷ (d ∷ (ds ++ rest))) then lifetime e (39 ∷ (c ∷ (d ∷ (ds ++ rest))))
    else char kinds.Char q (39 ∷ (c ∷ (d ∷ (ds ++ rest)))) (39 ∷ (c ∷ (d ∷ (ds ++ rest)))))
    ≡ Some (Ok (literal_of text suffix n kind, rest))
quote_some e c d ds rest text suffix n kind q h k =
    ap Some (quote_if (begins_lifetime (c ∷ (d ∷ ds))) q e (c ∷ (d ∷ ds)) rest text suffix n kind
    (ap (token_of (Ok (literal_of text suffix n kind, []))) h) k)

quote_none : (q : _) (e : Edition) (c : ℕ) (rest : List ℕ) (text suffix : List ℕ) (n : ℕ) (kind : LitKind)
    → Some (if begins_lifetime (c ∷ []) then lifetime e (39 ∷ (c ∷ []))
    else char kinds.Char q (39 ∷ (c ∷ [])) (39 ∷ (c ∷ []))) ≡ Some (Ok (literal_of text suffix n kind, []))
    → read_rust e (39 ∷ (c ∷ rest)) ≡ Some (Ok (literal_of text suffix n kind, rest))
quote_none q e c rest text suffix n kind h =
    absurd (quote_one (begins_lifetime (c ∷ [])) q e c text suffix n kind
    (ap (token_of (Ok (literal_of text suffix n kind, []))) h))

char_case : (e : Edition) (cs rest : List ℕ) (text suffix : List ℕ) (n : ℕ) (kind : LitKind)
    → read_rust e (39 ∷ cs) ≡ Some (Ok (literal_of text suffix n kind, [])) → continues_word rest ≡ false
    → read_rust e (39 ∷ (cs ++ rest)) ≡ Some (Ok (literal_of text suffix n kind, rest))
unfolding unicode_ident
char_case e [] rest text suffix n kind h k = absurd (cc)
char_case e (c ∷ []) rest text suffix n kind h k = search (quote_none, h)
char_case e (c ∷ (d ∷ ds)) rest text suffix n kind h k = search (quote_some e c d ds rest text suffix n kind, h, k)

-- ---- literals

tick_begins : (cs : List ℕ) → begins_literal (39 ∷ cs) ≡ true
unfolding unicode_ident
tick_begins cs = refl

char_extends : AllExtend is_char
char_extends e kinds.Char b rest text suffix n kind i k h =
    extends e (39 ∷ b) (39 ∷ chars b) rest (literal_of text suffix n kind) (one_char 39 b (omega arith))
    (tick_begins (chars b)) (λ r. char_case e (chars b) rest text suffix n kind r k) h
char_extends e kinds.Byte b rest text suffix n kind i k h =
    extends e (98 ∷ (39 ∷ b)) (98 ∷ (39 ∷ chars b)) rest (literal_of text suffix n kind) (two_chars 98 39 b
    (omega arith) (omega arith))
    (letter_begins 98 (39 ∷ chars b) b_is_start) (λ r. byte_case e (chars b) rest (literal_of text suffix n kind) r k) h
char_extends e k b rest text suffix n kind i p h = absurd (cc)

pub chars_are_read : CharsAreRead
chars_are_read = all_are_read is_char char_extends
