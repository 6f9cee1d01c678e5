-- A literal in quotes that is read by itself is read before whatever doesn't go on with its suffix.
use Rattle.std.proofs.Common.{◌≡◌, ℕ, ◌==◌, ◌-◌, ◌<◌, ◌&&◌, ◌||◌, if◌then◌else◌, Bool, true, false, List, [], ◌∷◌, ◌++◌}
use Rattle.std.proofs.Common.{length, take, refl, sym, ap, ◌∙◌, arith, codes, Option, Some, None, Ok, Err, append_assoc}
use Rattle.std.proofs.Common.{append-nil, length-append, encode_utf8_all}
use Rattle.std.specs.Prelude.{nat_le, bytes_eq}
use Rattle.std.specs.Str.{IsUtf8}
use Rattle.std.proofs.lemmas.Bool.Decides.{nat_tests}
use Rattle.std.proofs.Math.Seq.{take-append_seam}
use Rattle.unicode_ident.specs.Ident.{is_xid_start, is_xid_continue}
use Rattle.unicode_ident.proofs.IdentLemmas.{is_xid_start-is_xid_continue, is_xid_continue-ascii}
use Rattle.unicode_ident.proofs.Computing.{unicode_ident}
use Rattle.std.proofs.Common.{chars}
use Rattle.std.proofs.lemmas.Str.{chars-append}
use Rattle.mbe_tt.specs.Trees.Leaf.{Literal}
use Rattle.mbe_tt.specs.Trees.Literals as marks
use Rattle.mbe_tt.specs.declared.span.Edition.{Edition}
use Rattle.mbe_tt.specs.declared.span.Edition.TheVariants.{Edition2015, Edition2018, Edition2021, Edition2024}
use Rattle.mbe_tt.specs.declared.tt.LitKind.{LitKind}
use Rattle.mbe_tt.specs.declared.tt.LitKind.TheVariants as kinds
use Rattle.mbe_text.specs.Characters.{begins_with, bytes_before}
use Rattle.mbe_text.specs.declared.fault_kind.LexFaultKind.TheVariants as fault_kind
use Rattle.mbe_text.specs.Escapes.{SeenFault, CheckResult, check_string}
use Rattle.mbe_text.specs.QuoteEnds.{front, from_string_end}
use Rattle.mbe_text.specs.RustTokens.{RustTokenResult, read_rust, literal, past_suffix, string, string_until, within}
use Rattle.mbe_text.specs.Shapes.{Shape, identifier, literal_of, punct_of, lifetime_of, doc_of, opening, closing}
use Rattle.mbe_text.specs.Identifiers.{past_identifier}
use Rattle.mbe_text.specs.Laws.RoundTrip.{StringsAreRead, is_string}
use Rattle.mbe_text.specs.Laws.RustTrees.{is_start, continues_word, begins_literal, begins_field, ends_literal}
use Rattle.mbe_text.specs.Laws.RustTrees.{IsReadBefore, IsLiteral, MayPrecedeDots}
use Rattle.mbe_text.proofs.ReadBack.TextLemmas.{ascii_utf8, ascii_chars}
use Rattle.mbe_text.proofs.ReadBack.StepLemmas.{past_all, bytes_front}

-- ---- suffixes

start_continues : (c : ℕ) (b : Bool) → is_xid_start c ≡ b → is_start c ≡ true → is_xid_continue c ≡ true
start_continues c true e h = is_xid_start-is_xid_continue c e
start_continues c false e h =
    let low : c < 128 = grind (arith, nat_tests, e, h) in
    let a = is_xid_continue-ascii c low in grind (arith, nat_tests, a, e, h)

pub not_start_of : (c : ℕ) (b : Bool) → is_start c ≡ b → is_xid_continue c ≡ false → is_start c ≡ false
not_start_of c false e h = e
not_start_of c true e h = absurd (let z : true ≡ false = sym (start_continues c (is_xid_start c) refl e) ∙ h in cc)

suffix_of : (d : ℕ) (ds rest : List ℕ) (b : Bool) → is_start d ≡ b → past_suffix (d ∷ ds) ≡ []
    → continues_word rest ≡ false
    → past_suffix (d ∷ (ds ++ rest)) ≡ rest
suffix_of d ds rest true e p h =
    let q : past_identifier (0 ∷ ds) ≡ [] = sym (ap (λ (b : Bool). if b then past_identifier (0 ∷ ds) else d ∷ ds) e)
    ∙ p in rw e (past_all ds rest q h)
suffix_of d ds rest false e p h =
    absurd (let z : d ∷ ds ≡ [] = sym (ap (λ (b : Bool). if b then past_identifier (0 ∷ ds) else d ∷ ds) e) ∙ p in cc)

suffix_on : (ds rest : List ℕ) → past_suffix ds ≡ [] → continues_word rest ≡ false → past_suffix (ds ++ rest) ≡ rest
suffix_on [] [] p h = refl
suffix_on [] (c ∷ cs) p h = rw (not_start_of c (is_start c) refl h) refl
suffix_on (d ∷ ds) rest p h = suffix_of d ds rest (is_start d) refl p h

-- a token where neither is wrong
abbrev pub pick : Bool → Bool → SeenFault → RustTokenResult → SeenFault → RustTokenResult
pick low fits x t y = if low then Err x else if fits then t else Err y

pub picked : (low fits : Bool) (x y : SeenFault) (t : RustTokenResult) (r : Shape × List ℕ) → pick low fits x t y ≡ Ok r
    → (low ≡ false) × (fits ≡ true) × (t ≡ Ok r)
picked true fits x y t r h = absurd (cc)
picked false true x y t r h = (refl, refl, h)
picked false false x y t r h = absurd (cc)

abbrev pub left_of : RustTokenResult → List ℕ
left_of (Ok r) = r.1
left_of (Err at) = []

abbrev pub shape_of : Shape → RustTokenResult → Shape
shape_of s (Ok r) = r.0
shape_of s (Err at) = s

pub literal_on : (kind : LitKind) (text ds rest : List ℕ) (shape : Shape) → literal kind text ds ≡ Ok (shape, [])
    → continues_word rest ≡ false
    → literal kind text (ds ++ rest) ≡ Ok (shape, rest)
literal_on kind text ds rest shape h k =
    let suffix = bytes_before ds (past_suffix ds) in
    let s = picked (bytes_eq suffix (codes "_")) (nat_le (length suffix) 255) (fault_kind.UnderscoreSuffix, ds)
    (fault_kind.LongSuffix, ds)
    (Ok (literal_of text suffix (length suffix) kind, past_suffix ds)) (shape, []) h in
    let none : past_suffix ds ≡ [] = ap left_of s.2 in
    let shaped : literal_of text suffix (length suffix) kind ≡ shape = ap (shape_of shape) s.2 in
    let left : past_suffix (ds ++ rest) ≡ rest = suffix_on ds rest none k in
    let same : bytes_before (ds ++ rest) rest ≡ suffix =
    bytes_front ds rest ∙ sym (ap (bytes_before ds) none ∙ (ap (λ (x : List ℕ). bytes_before x []) (sym
    (append-nil ds)) ∙ bytes_front ds [])) in
    rw (literal, left, same, s.0, s.1) (ap (λ (x : Shape). Ok (x, rest)) shaped)

-- ---- what is between quotes

-- A text between quotes, whose second quote is that end, is the same literal before each suffix.
pub record Parts (read : List ℕ → List ℕ → RustTokenResult) (end : List ℕ) (kind : LitKind) (cs : List ℕ)
    (r : Shape × List ℕ) : Type 0 where
  pub body : List ℕ
  pub more : List ℕ
  pub is : cs ≡ body ++ (end ++ more)
  pub at : (from m : List ℕ) → read from (body ++ (end ++ m)) ≡ literal kind (encode_utf8_all body) m
  pub was : literal kind (encode_utf8_all body) more ≡ Ok r

pub parts_on : (read : List ℕ → List ℕ → RustTokenResult) (end : List ℕ) (kind : LitKind) (cs rest : List ℕ)
    (shape : Shape)
    → Parts read end kind cs (shape, []) → (from : List ℕ) → continues_word rest ≡ false
    → read from (cs ++ rest) ≡ Ok (shape, rest)
parts_on read end kind cs rest shape p from k =
    let whole : cs ++ rest ≡ p.body ++ (end ++ (p.more ++ rest)) =
    ap (λ (x : List ℕ). x ++ rest) p.is ∙ (append_assoc p.body (end ++ p.more) rest
    ∙ ap (λ (x : List ℕ). p.body ++ x) (append_assoc end p.more rest)) in
    ap (read from) whole
    ∙ (p.at from (p.more ++ rest) ∙ literal_on kind (encode_utf8_all p.body) p.more rest shape p.was k)

-- ---- strings

-- The quote that ends a text is found before whatever follows it.
pub record Found (quote : ℕ) (find : List ℕ → Option (List ℕ)) (cs end : List ℕ) : Type 0 where
  pub own : List ℕ
  pub more : List ℕ
  pub ends : end ≡ quote ∷ more
  pub is : cs ≡ own ++ (quote ∷ more)
  pub at : (m : List ℕ) → find (own ++ (quote ∷ m)) ≡ Some (quote ∷ m)

pub found_more : (quote : ℕ) (find later : List ℕ → Option (List ℕ)) (c : ℕ) (cs end : List ℕ)
    → (f : Found quote later cs end)
    → ((m : List ℕ) → find (c ∷ (f.own ++ (quote ∷ m))) ≡ later (f.own ++ (quote ∷ m)))
    → Found quote find (c ∷ cs) end
found_more quote find later c cs end f same = record {
  own = c ∷ f.own;
  more = f.more;
  ends = f.ends;
  is = ap (λ (x : List ℕ). c ∷ x) f.is;
  at = λ m. same m ∙ f.at m;
}

pub same_char : (c d : ℕ) → (c == d) ≡ true → c ≡ d
same_char c d h = grind (arith, nat_tests, h)

abbrev takes : ℕ → List ℕ → Bool
takes c cs = c == 92 && (begins_with (codes "\\") cs || begins_with (codes "\"") cs)

takes_same : (c quote : ℕ) (own m more : List ℕ) → takes c (own ++ (quote ∷ m)) ≡ takes c (own ++ (quote ∷ more))
takes_same c quote [] m more = refl
takes_same c quote (o ∷ os) m more = refl

string_found_at : (b : Bool) (c : ℕ) (cs end : List ℕ) → (c == 34) ≡ b
    → ((taken : Bool) → from_string_end taken cs ≡ Some end → Found 34 (from_string_end taken) cs end)
    → from_string_end false (c ∷ cs) ≡ Some end → Found 34 (from_string_end false) (c ∷ cs) end
string_found_at true c cs end e go h =
    let is34 = same_char c 34 e in
    let w : from_string_end false (c ∷ cs) ≡ Some (c ∷ cs) =
    ap (λ (b : Bool). if b then Some (c ∷ cs) else from_string_end (takes c cs) cs) e in
    let z : c ∷ cs ≡ end = let y : Some (c ∷ cs) ≡ Some end = sym w ∙ h in cc in
    let is : c ∷ cs ≡ 34 ∷ cs = ap (λ (x : ℕ). x ∷ cs) is34 in record {
      own = [];
      more = cs;
      ends = sym z ∙ is;
      is = is;
      at = λ m. refl;
    }
string_found_at false c [] end e go h =
    absurd (let z : None ≡ Some end = sym (ap (λ (b : Bool). if b then Some (c ∷ []) else from_string_end
    (takes c []) []) e ∙ no_more (takes c [])) ∙ h in cc)
  where
    no_more : (t : Bool) → from_string_end t [] ≡ None
    no_more true = refl
    no_more false = refl
string_found_at false c (d ∷ ds) end e go h =
    let f = go (takes c (d ∷ ds)) (sym (ap (λ (b : Bool). if b then Some (c ∷ (d ∷ ds)) else from_string_end (takes c
    (d ∷ ds)) (d ∷ ds)) e) ∙ h) in
    found_more 34 (from_string_end false) (from_string_end (takes c (d ∷ ds))) c (d ∷ ds) end f
    (λ m. let xs : List ℕ = f.own ++ (34 ∷ m) in
    ap (λ (b : Bool). if b then Some (c ∷ xs) else from_string_end (takes c xs) xs) e
    ∙ ap (λ (t : Bool). from_string_end t xs) (takes_same c 34 f.own m f.more ∙ ap (takes c) (sym f.is)))

string_found : (cs end : List ℕ) (taken : Bool) → from_string_end taken cs ≡ Some end
    → Found 34 (from_string_end taken) cs end
string_found [] end true h = absurd (cc)
string_found [] end false h = absurd (cc)
string_found (c ∷ cs) end true h =
    found_more 34 (from_string_end true) (from_string_end false) c cs end (string_found cs end false h) (λ m. refl)
string_found (c ∷ cs) end false h = string_found_at (c == 34) c cs end refl (string_found cs end) h

-- what a check finds is the same, and then the literal
abbrev pub checked : CheckResult → List ℕ → RustTokenResult → RustTokenResult
checked (Ok u) end t = t
checked (Err at) end t = Err (within end at)

pub checked_is : (c : CheckResult) (end : List ℕ) (t : RustTokenResult) (r : Shape × List ℕ) → checked c end t ≡ Ok r
    → (t ≡ Ok r) × ((d : List ℕ) (u : RustTokenResult) → checked c d u ≡ u)
checked_is (Ok u) end t r h = (h, λ d v. refl)
checked_is (Err at) end t r h = absurd (cc)

pub front_of : (own end : List ℕ) → front (own ++ end) end ≡ own
front_of own end =
    let n : length (own ++ end) - length end ≡ length own = omega (arith, length-append own end) in
    ap (λ (k : ℕ). take k (own ++ end)) n ∙ take-append_seam own end

until_same : (x : CheckResult) (end : List ℕ) (t : RustTokenResult) → (elim x as (λ y. RustTokenResult) [
  | Ok u ↦ t
  | Err at ↦ Err
      (within end at)
]) ≡ checked x end t
until_same (Ok u) end t = refl
until_same (Err at) end t = refl

until_is : (kind : LitKind) (q : _) (own : List ℕ) (c : ℕ) (more : List ℕ)
    → string_until kind q (own ++ (c ∷ more)) (c ∷ more) ≡ checked (check_string q 0 own) (c ∷ more) (literal kind
    (encode_utf8_all own) more)
until_is kind q own c more =
    until_same (check_string q 0 (front (own ++ (c ∷ more)) (c ∷ more))) (c ∷ more) (literal kind (bytes_before
    (own ++ (c ∷ more)) (c ∷ more)) more)
    ∙ (ap (λ (x : List ℕ). checked (check_string q 0 x) (c ∷ more) (literal kind (bytes_before (own ++ (c ∷ more))
    (c ∷ more)) more)) (front_of own (c ∷ more))
    ∙ ap (λ (x : List ℕ). checked (check_string q 0 own) (c ∷ more) (literal kind x more)) (bytes_front own (c ∷ more)))

unended : (kind : LitKind) (q : _) (c : ℕ) (cs : List ℕ) → from_string_end false cs ≡ None
    → string kind q (c ∷ cs) ≡ Err (fault_kind.UnterminatedString, c ∷ cs)
unended kind q c cs e = rw (string, e) refl

pub string_parts : (kind : LitKind) (q : _) (c : ℕ) (cs : List ℕ) (r : Shape × List ℕ) (o : Option (List ℕ))
    → from_string_end false cs ≡ o → string kind q (c ∷ cs) ≡ Ok r
    → Parts (λ from y. string kind q (c ∷ y)) (34 ∷ []) kind cs r
string_parts kind q c cs r None e h =
    absurd (let z : Err (fault_kind.UnterminatedString, c ∷ cs) ≡ Ok r = sym (unended kind q c cs e) ∙ h in cc)
string_parts kind q c cs r (Some end) e h =
    let f = string_found cs end false e in
    let before : string kind q (c ∷ cs) ≡ string_until kind q cs end = rw (string, e) refl in
    let ends : string_until kind q cs end ≡ string_until kind q (f.own ++ (34 ∷ f.more)) (34 ∷ f.more) =
    ap (string_until kind q cs) f.ends ∙ ap (λ (x : List ℕ). string_until kind q x (34 ∷ f.more)) f.is in
    let was : checked (check_string q 0 f.own) (34 ∷ f.more) (literal kind (encode_utf8_all f.own) f.more) ≡ Ok r =
    sym (before ∙ (ends ∙ until_is kind q f.own 34 f.more)) ∙ h in
    let is = checked_is (check_string q 0 f.own) (34 ∷ f.more) (literal kind (encode_utf8_all f.own) f.more) r was in
    record {
      body = f.own;
      more = f.more;
      is = f.is;
      at = λ from m. let on = f.at m in
          let after : string kind q (c ∷ (f.own ++ (34 ∷ m)))
          ≡ string_until kind q (f.own ++ (34 ∷ m)) (34 ∷ m) = rw (string, on) refl in
          after ∙ (until_is kind q f.own 34 m
          ∙ is.1 (34 ∷ m) (literal kind (encode_utf8_all f.own) m));
      was = is.0;
    }

pub string_on : (kind : LitKind) (q : _) (c : ℕ) (cs rest : List ℕ) (shape : Shape)
    → string kind q (c ∷ cs) ≡ Ok (shape, [])
    → continues_word rest ≡ false → string kind q (c ∷ (cs ++ rest)) ≡ Ok (shape, rest)
string_on kind q c cs rest shape h k =
    parts_on (λ from y. string kind q (c ∷ y)) (34 ∷ []) kind cs rest shape
    (string_parts kind q c cs (shape, []) (from_string_end false cs) refl h) [] k

-- ---- what a string begins with

abbrev pub token_of : RustTokenResult → Option RustTokenResult → RustTokenResult
token_of other (Some t) = t
token_of other None = other

string_some : (kind : LitKind) (q : _) (c : ℕ) (cs rest : List ℕ) (shape : Shape)
    → Some (string kind q (c ∷ cs)) ≡ Some (Ok (shape, []))
    → continues_word rest ≡ false → Some (string kind q (c ∷ (cs ++ rest))) ≡ Some (Ok (shape, rest))
string_some kind q c cs rest shape h k = ap Some (string_on kind q c cs rest shape (ap (token_of (Ok (shape, []))) h) k)

str_case : (e : Edition) (cs rest : List ℕ) (shape : Shape) → read_rust e (34 ∷ cs) ≡ Some (Ok (shape, []))
    → continues_word rest ≡ false
    → read_rust e (34 ∷ (cs ++ rest)) ≡ Some (Ok (shape, rest))
unfolding unicode_ident
str_case e cs rest shape h k = search (string_some, h, k)

byte_case : (e : Edition) (cs rest : List ℕ) (shape : Shape) → read_rust e (98 ∷ (34 ∷ cs)) ≡ Some (Ok (shape, []))
    → continues_word rest ≡ false
    → read_rust e (98 ∷ (34 ∷ (cs ++ rest))) ≡ Some (Ok (shape, rest))
byte_case e cs rest shape h k = search (string_some, h, k)

-- before 2021 a `c` before a quote is an identifier
abbrev pub is_name : Shape → Bool
is_name (identifier name raw) = true
is_name (literal_of text suffix n kind) = false
is_name (punct_of c sp) = false
is_name (lifetime_of name raw) = false
is_name (doc_of text inner) = false
is_name (opening k) = false
is_name (closing k) = false

abbrev pub is_identifier : RustTokenResult → Bool
is_identifier (Ok r) = is_name r.0
is_identifier (Err at) = false

c_case : (e : Edition) (cs rest : List ℕ) (text suffix : List ℕ) (n : ℕ) (kind : LitKind)
    → read_rust e (99 ∷ (34 ∷ cs)) ≡ Some (Ok (literal_of text suffix n kind, [])) → continues_word rest ≡ false
    → read_rust e (99 ∷ (34 ∷ (cs ++ rest))) ≡ Some (Ok (literal_of text suffix n kind, rest))
c_case Edition2015 cs rest text suffix n kind h k =
    absurd (let z : true ≡ false = ap (λ (o : Option RustTokenResult). is_identifier (token_of (Err
    (fault_kind.UnterminatedString, [])) o)) h in cc)
c_case Edition2018 cs rest text suffix n kind h k =
    absurd (let z : true ≡ false = ap (λ (o : Option RustTokenResult). is_identifier (token_of (Err
    (fault_kind.UnterminatedString, [])) o)) h in cc)
c_case Edition2021 cs rest text suffix n kind h k = search (string_some, h, k)
c_case Edition2024 cs rest text suffix n kind h k = search (string_some, h, k)

-- ---- literals

pub one_char : (c : ℕ) (b : List ℕ) → c < 128 → chars (c ∷ b) ≡ c ∷ chars b
one_char c b small = chars-append (c ∷ []) b (ascii_utf8 c small)
    ∙ ap (λ (x : List ℕ). x ++ chars b) (ascii_chars c small)

pub two_chars : (c d : ℕ) (b : List ℕ) → c < 128 → d < 128 → chars (c ∷ (d ∷ b)) ≡ c ∷ (d ∷ chars b)
two_chars c d b m n = one_char c (d ∷ b) m ∙ ap (λ (x : List ℕ). c ∷ x) (one_char d b n)

-- a text that is read by itself is read before that rest, and begins as literals do
pub record Extends (e : Edition) (text rest : List ℕ) (shape : Shape) : Type 0 where
  pub begun : begins_literal (chars text) ≡ true
  pub read : read_rust e (chars text ++ rest) ≡ Some (Ok (shape, rest))

pub extends : (e : Edition) (text cs rest : List ℕ) (shape : Shape) → chars text ≡ cs → begins_literal cs ≡ true
    → (read_rust e cs ≡ Some (Ok (shape, [])) → read_rust e (cs ++ rest) ≡ Some (Ok (shape, rest)))
    → read_rust e (chars text ++ []) ≡ Some (Ok (shape, [])) → Extends e text rest shape
extends e text cs rest shape is f go h = record {
  begun = ap begins_literal is ∙ f;
  read = ap (λ (x : List ℕ). read_rust e (x ++ rest)) is
      ∙ go (sym (ap (read_rust e) (append-nil (chars text) ∙ is)) ∙ h);
}

pub letter_begins : (c : ℕ) (cs : List ℕ) → is_start c ≡ true → begins_literal (c ∷ cs) ≡ true
letter_begins c cs h = rw h refl

pub b_is_start : is_start 98 ≡ true
unfolding unicode_ident
b_is_start = refl

pub c_is_start : is_start 99 ≡ true
unfolding unicode_ident
c_is_start = refl

quote_begins : (cs : List ℕ) → begins_literal (34 ∷ cs) ≡ true
unfolding unicode_ident
quote_begins cs = refl

-- the literals of those kinds do, before whatever doesn't go on with their suffixes
abbrev pub AllExtend : (LitKind → Bool) → Type 0
AllExtend are_those = (e : Edition) (k : LitKind) (b rest text suffix : List ℕ) (n : ℕ) (kind : LitKind)
    → are_those k ≡ true → continues_word rest ≡ false
    → read_rust e (chars (marks.opening k ++ b) ++ []) ≡ Some (Ok (literal_of text suffix n kind, []))
    → Extends e (marks.opening k ++ b) rest (literal_of text suffix n kind)

string_extends : AllExtend is_string
string_extends e kinds.Str b rest text suffix n kind i k h =
    extends e (34 ∷ b) (34 ∷ chars b) rest (literal_of text suffix n kind) (one_char 34 b (omega arith))
    (quote_begins (chars b))
    (λ r. str_case e (chars b) rest (literal_of text suffix n kind) r k) h
string_extends e kinds.ByteStr b rest text suffix n kind i k h =
    extends e (98 ∷ (34 ∷ b)) (98 ∷ (34 ∷ chars b)) rest (literal_of text suffix n kind) (two_chars 98 34 b
    (omega arith) (omega arith))
    (letter_begins 98 (34 ∷ chars b) b_is_start) (λ r. byte_case e (chars b) rest (literal_of text suffix n kind) r k) h
string_extends e kinds.CStr b rest text suffix n kind i k h =
    extends e (99 ∷ (34 ∷ b)) (99 ∷ (34 ∷ chars b)) rest (literal_of text suffix n kind) (two_chars 99 34 b
    (omega arith) (omega arith))
    (letter_begins 99 (34 ∷ chars b) c_is_start) (λ r. c_case e (chars b) rest text suffix n kind r k) h
string_extends e k b rest text suffix n kind i p h = absurd (cc)

pub ended : (rest : List ℕ) → ends_literal rest ≡ true → continues_word rest ≡ false
ended [] h = refl
ended (c ∷ cs) h = grind (arith, nat_tests, h)

pub field_ended : (rest : List ℕ) → begins_field rest ≡ true → continues_word rest ≡ false
field_ended [] h = refl
field_ended (c ∷ cs) h =
    let dot : c ≡ 46 = grind (arith, nat_tests, h) in
    ap is_xid_continue dot ∙ is_xid_continue-ascii 46 (omega arith)

pub dot_ended : (rest : List ℕ) → begins_with (codes ".") rest ≡ true → continues_word rest ≡ false
dot_ended [] h = refl
dot_ended (c ∷ cs) h =
    let dot : c ≡ 46 = grind (arith, nat_tests, h) in
    ap is_xid_continue dot ∙ is_xid_continue-ascii 46 (omega arith)

-- what is written of a literal after its opening
abbrev opened_text : Literal → List ℕ
opened_text l = marks.literal_text l ++ (marks.closing l.kind ++ marks.literal_suffix l)

-- so each of them stays what it is
pub all_are_read : (are_those : LitKind → Bool) → AllExtend are_those → (e : Edition) (l : Literal)
    → are_those l.kind ≡ true → IsUtf8 (marks.literal_output l) → IsReadBefore e l []
    → IsLiteral e l × MayPrecedeDots e l
all_are_read are_those all e l i u b = (
  record { utf8 = u; front = (extended [] refl).begun; whole = λ rest h. before rest (ended rest h) },
  λ rest h. before rest (dot_ended rest h),
)
  where
    extended : (rest : List ℕ) → continues_word rest ≡ false
        → Extends e (marks.opening l.kind ++ opened_text l) rest (literal_of b.text b.suffix l.suffix_len l.kind)
    extended rest k = all e l.kind (opened_text l) rest b.text b.suffix l.suffix_len l.kind i k b.read

    before : (rest : List ℕ) → continues_word rest ≡ false → IsReadBefore e l rest
    before rest k = record { text = b.text; suffix = b.suffix; parts = b.parts; read = (extended rest k).read }

pub strings_are_read : StringsAreRead
strings_are_read = all_are_read is_string string_extends
