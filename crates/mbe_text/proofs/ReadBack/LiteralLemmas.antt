-- The literals that the lexer makes: each is read by itself.
use Rattle.std.proofs.Common.{◌≡◌, ℕ, suc, ◌==◌, ◌<◌, ◌⊎◌, inl, inr, ◌&&◌, if◌then◌else◌, Bool, true, false, List, []}
use Rattle.std.proofs.Common.{◌∷◌, ◌++◌, length, refl, sym, ap, ◌∙◌, arith, codes, Option, Some, Ok, Err, append_assoc}
use Rattle.std.proofs.Common.{append-nil, length-append, encode_utf8_all, chars, IsUtf8, subst}
use Rattle.std.specs.Char.{is_ascii_digit}
use Rattle.std.specs.Prelude.{nat_le}
use Rattle.std.proofs.Math.Utf8.{scalars}
use Rattle.std.proofs.lemmas.Str.{encode_ascii, encodes-append, chars-encodes}
use Rattle.mbe_tt.specs.Trees.Leaf.{Literal}
use Rattle.mbe_tt.specs.Trees.Literals as marks
use Rattle.mbe_tt.specs.declared.span.Edition.{Edition}
use Rattle.mbe_tt.specs.declared.span.Span.{Span}
use Rattle.mbe_tt.specs.declared.tt.LitKind.{LitKind}
use Rattle.mbe_tt.specs.declared.tt.LitKind.TheVariants as kinds
use Rattle.mbe_text.specs.declared.fault_kind.LexFaultKind.TheVariants as fault_kind
use Rattle.mbe_text.specs.Characters.{has, past, begins_with}
use Rattle.mbe_text.specs.QuoteEnds.{from_string_end, from_char_end, from_raw_end}
use Rattle.mbe_text.specs.RustTokens.{RustTokenResult, read_rust, string, char, number, raw_kind, raw_body, raw_string}
use Rattle.mbe_text.specs.RustTokens.{begins_lifetime, lifetime}
use Rattle.mbe_text.specs.Shapes.{Shape, literal_of}
use Rattle.mbe_text.proofs.Reading.{literal_written}
use Rattle.mbe_text.specs.Laws.RoundTrip.{is_string, is_char, is_raw, is_bare_integer, ends_with_dot}
use Rattle.mbe_text.specs.Laws.RustTrees.{begins_number, begins_field, IsLiteral, IsReadBefore, MayHaveFields}
use Rattle.mbe_text.specs.Laws.RustTrees.{MayPrecedeDots}
use Rattle.mbe_text.proofs.ReadBack.QuoteLemmas.{same_char, string_parts, strings_are_read}
use Rattle.mbe_text.proofs.ReadBack.CharLemmas.{single_at, char_parts, chars_are_read}
use Rattle.mbe_text.proofs.ReadBack.RawLemmas.{marked, marks_are, raw_from, string_is, body_parts, raw_strings_are_read}
use Rattle.mbe_text.proofs.ReadBack.RawLemmas.{length_marked}
use Rattle.mbe_text.proofs.ReadBack.NumberLemmas.{is_bare, digit_read, numbers_are_read}
use Rattle.mbe_text.proofs.ReadBack.PartLemmas.{Own, parts_cut}
use Rattle.mbe_text.proofs.ReadBack.NumberPartLemmas.{number_cut}

-- ---- how a literal is written

abbrev pub the_literal : List ℕ → List ℕ → ℕ → LitKind → Span → Literal
the_literal text suffix n kind span = record {
  text_and_suffix = text ++ suffix;
  suffix_len = n;
  kind = kind;
  span = span;
}

-- characters of a text
pub scalars_parts : (a b : List ℕ) → scalars (a ++ b) ≡ true → (scalars a ≡ true) × (scalars b ≡ true)
scalars_parts [] b h = (refl, h)
scalars_parts (c ∷ a) b h =
    let two = and_parts _ _ h in
    let more = scalars_parts a b two.1 in (and_made _ _ two.0 more.0, more.1)
  where
    and_parts : (x y : Bool) → (x && y) ≡ true → (x ≡ true) × (y ≡ true)
    and_parts true y k = (refl, k)
    and_parts false y k = absurd (cc)

    and_made : (x y : Bool) → x ≡ true → y ≡ true → (x && y) ≡ true
    and_made true y k l = l
    and_made false y k l = absurd (cc)

record Spelled (bytes cs : List ℕ) : Type 0 where
  are : chars bytes ≡ cs
  utf8 : IsUtf8 bytes

spelled_as : (first body end suffix : List ℕ) → encode_utf8_all first ≡ first → encode_utf8_all end ≡ end
    → scalars (first ++ (body ++ (end ++ suffix))) ≡ true
    → Spelled (first ++ (encode_utf8_all body ++ (end ++ encode_utf8_all suffix))) (first ++ (body ++ (end ++ suffix)))
spelled_as first body end suffix f e s =
    let all : List ℕ = first ++ (body ++ (end ++ suffix)) in
    let is : encode_utf8_all all ≡ first ++ (encode_utf8_all body ++ (end ++ encode_utf8_all suffix)) =
    encodes-append first (body ++ (end ++ suffix))
    ∙ (ap (λ (x : List ℕ). x ++ encode_utf8_all (body ++ (end ++ suffix))) f
    ∙ ap (λ (x : List ℕ). first ++ x) (encodes-append body (end ++ suffix)
    ∙ ap (λ (x : List ℕ). encode_utf8_all body ++ x) (encodes-append end suffix
    ∙ ap (λ (x : List ℕ). x ++ encode_utf8_all suffix) e))) in
    record { are = ap chars (sym is) ∙ chars-encodes all s; utf8 = (all, (s, is)) }

-- a literal of a text that is passed, before a rest
pub record LexedLiteral (e : Edition) (text suffix : List ℕ) (n : ℕ) (kind : LitKind) (from rest : List ℕ)
    : Type 0 where
  pub own : List ℕ
  pub is : from ≡ own ++ rest
  pub some : 0 < length own
  pub spelled : (span : Span) → chars (marks.literal_output (the_literal text suffix n kind span)) ≡ own
  pub right : (span : Span) → IsLiteral e (the_literal text suffix n kind span)
  pub dots : (span : Span) → begins_with (codes ".") rest ≡ true
      → MayPrecedeDots e (the_literal text suffix n kind span)
      ⊎ (MayHaveFields e (the_literal text suffix n kind span) × (begins_field rest ≡ true))

-- a literal of these characters, which is read by itself
pub record LiteralAlone (e : Edition) (own : List ℕ) (shape : Shape) : Type 0 where
  first : List ℕ
  body : List ℕ
  end : List ℕ
  suffix : List ℕ
  kind : LitKind
  is : own ≡ first ++ (body ++ (end ++ suffix))
  opens : marks.opening kind ≡ first
  closes : marks.closing kind ≡ end
  first_bytes : encode_utf8_all first ≡ first
  end_bytes : encode_utf8_all end ≡ end
  shaped : shape ≡ literal_of (encode_utf8_all body) (encode_utf8_all suffix) (length (encode_utf8_all suffix)) kind
  read : read_rust e own ≡ Some (Ok (shape, []))

abbrev alone_literal : (e : Edition) (own : List ℕ) (shape : Shape) → LiteralAlone e own shape → Span → Literal
alone_literal e own shape a span =
    the_literal (encode_utf8_all a.body) (encode_utf8_all a.suffix) (length (encode_utf8_all a.suffix)) a.kind span

spelled_alone : (e : Edition) (own : List ℕ) (shape : Shape) (a : LiteralAlone e own shape) (span : Span)
    → scalars own ≡ true → Spelled (marks.literal_output (alone_literal e own shape a span)) own
spelled_alone e own shape a span u =
    let body = encode_utf8_all a.body in
    let suffix = encode_utf8_all a.suffix in
    let s = spelled_as a.first a.body a.end a.suffix a.first_bytes a.end_bytes (ap scalars (sym a.is) ∙ u) in
    let last = scalars_parts a.end a.suffix (scalars_parts a.body (a.end ++ a.suffix) (scalars_parts a.first
    (a.body ++ (a.end ++ a.suffix)) (ap scalars (sym a.is) ∙ u)).1).1 in
    let output : marks.literal_output (alone_literal e own shape a span)
    ≡ a.first ++ (body ++ (a.end ++ suffix)) =
    literal_written body suffix (length suffix) a.kind span refl (a.suffix, (last.1, refl))
    ∙ (ap (λ (x : List ℕ). x ++ (body ++ (marks.closing a.kind ++ suffix))) a.opens
    ∙ ap (λ (x : List ℕ). a.first ++ (body ++ (x ++ suffix))) a.closes) in record {
      are = ap chars output ∙ (s.are ∙ sym a.is);
      utf8 = subst IsUtf8 (sym output) s.utf8;
    }

before_alone : (e : Edition) (own : List ℕ) (shape : Shape) (a : LiteralAlone e own shape) (span : Span)
    → scalars own ≡ true → IsReadBefore e (alone_literal e own shape a span) []
before_alone e own shape a span u =
    let l = alone_literal e own shape a span in
    let s = spelled_alone e own shape a span u in record {
      text = encode_utf8_all a.body;
      suffix = encode_utf8_all a.suffix;
      parts = refl;
      read = ap (read_rust e) (append-nil (chars (marks.literal_output l)) ∙ s.are)
          ∙ (a.read ∙ ap (λ (x : Shape). Some (Ok (x, []))) a.shaped);
    }

-- ---- what the lexer returned

pub record LexedAs (e : Edition) (from rest : List ℕ) (shape : Shape) : Type 0 where
  pub text : List ℕ
  pub suffix : List ℕ
  pub kind : LitKind
  pub shaped : shape ≡ literal_of text suffix (length suffix) kind
  pub lexed : LexedLiteral e text suffix (length suffix) kind from rest

abbrev Law : Edition → LitKind → Type 0
Law e kind = (l : Literal) → l.kind ≡ kind → IsUtf8 (marks.literal_output l) → IsReadBefore e l []
    → IsLiteral e l × MayPrecedeDots e l

-- in quotes
quoted : (e : Edition) (from own rest : List ℕ) (shape : Shape) (a : LiteralAlone e own shape) → from ≡ own ++ rest
    → 0 < length own → scalars from ≡ true → Law e a.kind → LexedAs e from rest shape
quoted e from own rest shape a is some u law =
    let s = (scalars_parts own rest (ap scalars (sym is) ∙ u)).0 in record {
      text = encode_utf8_all a.body;
      suffix = encode_utf8_all a.suffix;
      kind = a.kind;
      shaped = a.shaped;
      lexed = record {
        own = own;
        is = is;
        some = some;
        spelled = λ span. (spelled_alone e own shape a span s).are;
        right = λ span. (law (alone_literal e own shape a span) refl (spelled_alone e own shape a span s).utf8
            (before_alone e own shape a span s)).0;
        dots = λ span d. inl (law (alone_literal e own shape a span) refl (spelled_alone e own shape a span s).utf8
            (before_alone e own shape a span s)).1;
      };
    }

string_law : (e : Edition) (kind : LitKind) → is_string kind ≡ true → Law e kind
string_law e kind h l k u b = strings_are_read e l (ap is_string k ∙ h) u b

char_law : (e : Edition) (kind : LitKind) → is_char kind ≡ true → Law e kind
char_law e kind h l k u b = chars_are_read e l (ap is_char k ∙ h) u b

raw_law : (e : Edition) (kind : LitKind) → is_raw kind ≡ true → Law e kind
raw_law e kind h l k u b = raw_strings_are_read e l (ap is_raw k ∙ h) u b

-- what is in quotes, which these characters precede
gap_between : (e : Edition) (first end : List ℕ) (kind : LitKind) (read : List ℕ → List ℕ
    → RustTokenResult) (cs rest : List ℕ)
    (shape : Shape) → (o : Own read end kind cs rest shape) → marks.opening kind ≡ first → marks.closing kind ≡ end
    → encode_utf8_all first ≡ first → encode_utf8_all end ≡ end → 0 < length first → scalars (first ++ cs) ≡ true
    → Law e kind
    → read_rust e (first ++ (o.body ++ (end ++ o.suffix))) ≡ Some (Ok (shape, []))
    → LexedAs e (first ++ cs) rest shape
gap_between e first end kind read cs rest shape o opens closes f n some u law is =
    let content : List ℕ = o.body ++ (end ++ o.suffix) in
    quoted e (first ++ cs) (first ++ content) rest shape
    (record {
      first = first;
      body = o.body;
      end = end;
      suffix = o.suffix;
      kind = kind;
      is = refl;
      opens = opens;
      closes = closes;
      first_bytes = f;
      end_bytes = n;
      shaped = o.shaped;
      read = is;
    })
    (ap (λ (x : List ℕ). first ++ x) o.is ∙ sym (append_assoc first content rest))
    (omega (arith, length-append first content, some)) u law

pub one_byte : (c : ℕ) (cs : List ℕ) → c < 128 → encode_utf8_all cs ≡ cs → encode_utf8_all (c ∷ cs) ≡ c ∷ cs
one_byte c cs small h =
    ap (λ (x : List ℕ). x ++ encode_utf8_all cs) (encode_ascii c small) ∙ ap (λ (x : List ℕ). c ∷ x) h

pub some_token : (a b : RustTokenResult) → (let x : Option RustTokenResult = Some a in x) ≡ Some b → a ≡ b
some_token a b h = cc

-- A string, from its quote on. What kind of quotes it has is last, since that type is the lexer's own.
pub lexed_string : (e : Edition) (kind : LitKind) (first cs rest : List ℕ) (shape : Shape)
    → is_string kind ≡ true → marks.opening kind ≡ first
    → marks.closing kind ≡ 34 ∷ [] → encode_utf8_all first ≡ first → 0 < length first → scalars (first ++ cs) ≡ true
    → (q : _) → Some (string kind q (34 ∷ cs)) ≡ Some (Ok (shape, rest))
    → ((y : List ℕ) → read_rust e (first ++ y) ≡ Some (string kind q (34 ∷ y)))
    → LexedAs e (first ++ cs) rest shape
lexed_string e kind first cs rest shape k opens closes f some u q h reads =
    let read : List ℕ → List ℕ → RustTokenResult = λ from y. string kind q (34 ∷ y) in
    let o = parts_cut read (34 ∷ []) kind cs rest shape
    (string_parts kind q 34 cs (shape, rest) (from_string_end false cs) refl (some_token _ _ h)) in
    gap_between e first (34 ∷ []) kind read cs rest shape o opens closes f (one_byte 34 [] (omega arith) refl) some u
    (string_law e kind k) (reads (o.body ++ ((34 ∷ []) ++ o.suffix)) ∙ ap Some (o.alone []))

-- a lifetime begins in the same way before whatever follows a quote
lifetime_same : (body m more : List ℕ) → (body ≡ [] → ⊥)
    → begins_lifetime (body ++ (39 ∷ m)) ≡ begins_lifetime (body ++ (39 ∷ more))
lifetime_same [] m more n = absurd (n refl)
lifetime_same (b ∷ []) m more n = refl
lifetime_same (b ∷ (c ∷ bs)) m more n = refl

-- `''` is no char
some_char : (kind : LitKind) (q : _) (cs rest : List ℕ) (shape : Shape)
    → (o : Own (λ other y. char kind q other (39 ∷ y)) (39 ∷ []) kind cs rest shape) → o.body ≡ [] → ⊥
some_char kind q cs rest shape o none =
    let at : char kind q [] (39 ∷ (39 ∷ [])) ≡ Ok (literal_of [] [] 0 kind, []) =
    sym (ap (λ (x : List ℕ). char kind q [] (39 ∷ (x ++ (39 ∷ [])))) none)
    ∙ (o.at [] [] ∙ ap (λ (x : List ℕ). Ok (literal_of (encode_utf8_all x) [] 0 kind, [])) none) in
    single_at kind q [] 39 39 (literal_of [] [] 0 kind, []) (from_char_end (39 ∷ [])) refl at

-- a char or a byte, from its quote on
pub lexed_char : (e : Edition) (kind : LitKind) (first from cs rest : List ℕ) (shape : Shape)
    → is_char kind ≡ true → marks.opening kind ≡ first
    → marks.closing kind ≡ 39 ∷ [] → encode_utf8_all first ≡ first → 0 < length first → scalars (first ++ cs) ≡ true
    → (q : _) → Some (char kind q from (39 ∷ cs)) ≡ Some (Ok (shape, rest))
    → ((y : List ℕ) → begins_lifetime y ≡ begins_lifetime cs
    → read_rust e (first ++ y) ≡ Some (char kind q (first ++ y) (39 ∷ y)))
    → LexedAs e (first ++ cs) rest shape
lexed_char e kind first from cs rest shape k opens closes f some u q h reads =
    let read : List ℕ → List ℕ → RustTokenResult = λ other y. char kind q other (39 ∷ y) in
    let o = parts_cut read (39 ∷ []) kind cs rest shape (char_parts kind q from 39 cs (shape, rest)
    (some_token _ _ h)) in
    let content : List ℕ = o.body ++ ((39 ∷ []) ++ o.suffix) in
    let same : begins_lifetime content ≡ begins_lifetime cs =
    lifetime_same o.body o.suffix (o.suffix ++ rest) (some_char kind q cs rest shape o)
    ∙ sym (ap begins_lifetime (o.is ∙ append_assoc o.body (39 ∷ o.suffix) rest)) in
    gap_between e first (39 ∷ []) kind read cs rest shape o opens closes f (one_byte 39 [] (omega arith) refl) some u
    (char_law e kind k) (reads content same ∙ ap Some (o.alone (first ++ content)))

-- the char of a `'` that begins no lifetime
pub lexed_quote : (e : Edition) (cs rest : List ℕ) (shape : Shape) → scalars (39 ∷ cs) ≡ true
    → begins_lifetime cs ≡ false
    → (q : _) → Some (char kinds.Char q (39 ∷ cs) (39 ∷ cs)) ≡ Some (Ok (shape, rest))
    → ((y : List ℕ) → read_rust e (39 ∷ y) ≡ Some (if begins_lifetime y then lifetime e (39 ∷ y) else char kinds.Char
    q (39 ∷ y) (39 ∷ y)))
    → LexedAs e (39 ∷ cs) rest shape
lexed_quote e cs rest shape u b q h reads =
    lexed_char e kinds.Char (39 ∷ []) (39 ∷ cs) cs rest shape refl refl refl (one_byte 39 [] (omega arith) refl)
    (omega arith) u q h
    (λ y same. reads y ∙ ap (λ (x : Bool). Some (if x then lifetime e (39 ∷ y) else char kinds.Char q (39 ∷ y)
    (39 ∷ y))) (same ∙ b))

-- ---- raw strings

-- a raw string begins with `#` and a quote
pub record Opened (cs : List ℕ) : Type 0 where
  pub n : ℕ
  pub body : List ℕ
  pub is : cs ≡ marked n ++ (34 ∷ body)

hashes_if : (k : _) (c : ℕ) (cs : List ℕ) (b : Bool) → has k c ≡ b → (has k c ≡ true → c ≡ 35)
    → (n : ℕ) × (cs ≡ marked n ++ past k cs) → (n : ℕ) × (c ∷ cs ≡ marked n ++ past k (c ∷ cs))
hashes_if k c cs true e is m =
    let left : past k (c ∷ cs) ≡ past k cs = rw (past, e) refl in (
      suc m.0,
      ap (λ (x : ℕ). x ∷ cs) (is e)
          ∙ ap (λ (x : List ℕ). 35 ∷ x) (m.1 ∙ ap (λ (x : List ℕ). marked m.0 ++ x) (sym left)),
    )
hashes_if k c cs false e is m =
    let left : past k (c ∷ cs) ≡ c ∷ cs = rw (past, e) refl in (0, sym left)

hashes_of : (k : _) (cs : List ℕ) → ((c : ℕ) → has k c ≡ true → c ≡ 35) → (n : ℕ) × (cs ≡ marked n ++ past k cs)
hashes_of k [] is = (0, refl)
hashes_of k (c ∷ cs) is = hashes_if k c cs (has k c) refl (is c) (hashes_of k cs is)

quote_after : (from : List ℕ) (body : List ℕ → List ℕ → RustTokenResult) (cs quote : List ℕ) (r : Shape × List ℕ)
    → raw_from from body cs quote ≡ Ok r → (more : List ℕ) × (quote ≡ 34 ∷ more)
quote_after from body cs [] r h = absurd (cc)
quote_after from body cs (c ∷ more) r h = by (c == 34) refl
  where
    by : (b : Bool) → (c == 34) ≡ b → (left : List ℕ) × (c ∷ more ≡ 34 ∷ left)
    by true e = (more, ap (λ (x : ℕ). x ∷ more) (same_char c 34 e))
    by false e =
        absurd (let w : raw_from from body cs (c ∷ more) ≡ Err (fault_kind.RawStringStart, from) = rw e refl in
        let z : Err (fault_kind.RawStringStart, from) ≡ Ok r = sym w ∙ h in cc)

pub raw_opened : (cs : List ℕ) (r : Shape × List ℕ) (k q : _) (from : List ℕ)
    → raw_from from (raw_body q from) cs (past k cs) ≡ Ok r → ((c : ℕ) → has k c ≡ true → c ≡ 35) → Opened cs
raw_opened cs r k q from h is =
    let n = hashes_of k cs is in
    let m = quote_after from (raw_body q from) cs (past k cs) r h in
    record { n = n.0; body = m.0; is = n.1 ∙ ap (λ (x : List ℕ). marked n.0 ++ x) m.1 }

-- a raw string, from its `#` on
pub lexed_raw : (e : Edition) (before : List ℕ) (n : ℕ) (cs rest : List ℕ) (shape : Shape)
    → encode_utf8_all before ≡ before → scalars (before ++ (marked n ++ (34 ∷ cs))) ≡ true
    → (q : _) (from : List ℕ) → Some (raw_string q from (marked n ++ (34 ∷ cs))) ≡ Some (Ok (shape, rest))
    → ((m : ℕ) → marks.opening (raw_kind q m) ≡ before ++ (marked m ++ (34 ∷ [])))
    → ((m : ℕ) → marks.closing (raw_kind q m) ≡ 34 ∷ marked m) → ((m : ℕ) → is_raw (raw_kind q m) ≡ true)
    → ((y : List ℕ) → read_rust e (before ++ (marked n ++ (34 ∷ y)))
    ≡ Some (raw_string q (before ++ (marked n ++ (34 ∷ y))) (marked n ++ (34 ∷ y))))
    → LexedAs e (before ++ (marked n ++ (34 ∷ cs))) rest shape
lexed_raw e before n cs rest shape b u q from h opens closes raw reads =
    let size : ℕ = length (marked n) in
    let kind = raw_kind q size in
    let read : List ℕ → List ℕ → RustTokenResult = λ other y. raw_body q other (marked n) y in
    let first : List ℕ = before ++ (marked n ++ (34 ∷ [])) in
    let end : List ℕ = 34 ∷ marked n in
    let first_is = λ (y : List ℕ). append_assoc before (marked n ++ (34 ∷ [])) y
    ∙ ap (λ (x : List ℕ). before ++ x) (append_assoc (marked n) (34 ∷ []) y) in
    let body : raw_body q from (marked n) cs ≡ Ok (shape, rest) =
    sym (string_is q from n cs) ∙ some_token _ _ h in
    let o = parts_cut read end kind cs rest shape (body_parts q from n cs (shape, rest) (from_raw_end (marked n) cs)
    (nat_le (length (marked n)) 255) refl refl body) in
    let content : List ℕ = o.body ++ (end ++ o.suffix) in
    let other : List ℕ = before ++ (marked n ++ (34 ∷ content)) in
    let bytes : encode_utf8_all first ≡ first =
    encodes-append before (marked n ++ (34 ∷ []))
    ∙ (ap (λ (x : List ℕ). x ++ encode_utf8_all (marked n ++ (34 ∷ []))) b
    ∙ ap (λ (x : List ℕ). before ++ x) (encodes-append (marked n) (34 ∷ [])
    ∙ (ap (λ (x : List ℕ). x ++ encode_utf8_all (34 ∷ [])) (marks_are n)
    ∙ ap (λ (x : List ℕ). marked n ++ x) (one_byte 34 [] (omega arith) refl)))) in
    let some : 0 < length first =
    omega (arith, length-append before (marked n ++ (34 ∷ [])), length-append (marked n) (34 ∷ [])) in
    subst (λ (x : List ℕ). LexedAs e x rest shape) (first_is cs)
    (gap_between e first end kind read cs rest shape o
    (opens size ∙ ap (λ (m : ℕ). before ++ (marked m ++ (34 ∷ []))) (length_marked n))
    (closes size ∙ ap (λ (m : ℕ). 34 ∷ marked m) (length_marked n))
    bytes (one_byte 34 (marked n) (omega arith) (marks_are n)) some (ap scalars (first_is cs) ∙ u)
    (raw_law e kind (raw size))
    (ap (read_rust e) (first_is content) ∙ (reads content ∙ ap Some (string_is q other n content ∙ o.alone other))))

-- ---- numbers

pub lexed_number : (e : Edition) (c : ℕ) (cs rest : List ℕ) (shape : Shape) → is_ascii_digit c ≡ true
    → number (c ∷ cs) ≡ Ok (shape, rest) → scalars (c ∷ cs) ≡ true → LexedAs e (c ∷ cs) rest shape
lexed_number e c cs rest shape d h u =
    let o = number_cut c cs rest shape h in
    let own : List ℕ = c ∷ (o.front ++ o.suffix) in
    let is : c ∷ cs ≡ own ++ rest = ap (λ (x : List ℕ). c ∷ x) o.is in
    let s = (scalars_parts own rest (ap scalars (sym is) ∙ u)).0 in
    let a : LiteralAlone e own shape = record {
      first = [];
      body = c ∷ o.front;
      end = [];
      suffix = o.suffix;
      kind = o.kind;
      is = refl;
      opens = o.opens;
      closes = o.closes;
      first_bytes = refl;
      end_bytes = refl;
      shaped = o.shaped;
      read = digit_read e c (o.front ++ o.suffix) d ∙ ap Some o.alone;
    } in
    let both = λ (span : Span). number_law e own shape a span s
    (ap begins_number (spelled_alone e own shape a span s).are
    ∙ d) in record {
      text = encode_utf8_all (c ∷ o.front);
      suffix = encode_utf8_all o.suffix;
      kind = o.kind;
      shaped = o.shaped;
      lexed = record {
        own = own;
        is = is;
        some = omega arith;
        spelled = λ span. (spelled_alone e own shape a span s).are;
        right = λ span. (both span).0;
        dots = λ span q. dots_of e (alone_literal e own shape a span) rest
            (is_bare_integer o.kind (length (encode_utf8_all o.suffix))) refl
            ((both span).1 (ap ends_with_dot (spelled_alone e own shape a span s).are ∙ o.dot q))
            (λ b. o.bare (ap is_bare o.shaped ∙ b) q);
      };
    }
  where
    number_law : (e : Edition) (own : List ℕ) (shape : Shape) (a : LiteralAlone e own shape) (span : Span)
        → scalars own ≡ true → begins_number (chars (marks.literal_output (alone_literal e own shape a span))) ≡ true
        → IsLiteral e (alone_literal e own shape a span)
        × (ends_with_dot (chars (marks.literal_output (alone_literal e own shape a span))) ≡ false
        → MayHaveFields e (alone_literal e own shape a span)
        × (is_bare_integer a.kind (length (encode_utf8_all a.suffix)) ≡ false
        → MayPrecedeDots e (alone_literal e own shape a span)))
    number_law e own shape a span s n =
        numbers_are_read e (alone_literal e own shape a span) n (spelled_alone e own shape a span s).utf8
        (before_alone e own shape a span s)

    dots_of : (e : Edition) (l : Literal) (rest : List ℕ) (b : Bool) → is_bare_integer l.kind l.suffix_len ≡ b
        → MayHaveFields e l × (is_bare_integer l.kind l.suffix_len ≡ false → MayPrecedeDots e l)
        → (is_bare_integer l.kind l.suffix_len ≡ true → begins_field rest ≡ true)
        → MayPrecedeDots e l ⊎ (MayHaveFields e l × (begins_field rest ≡ true))
    dots_of e l rest true k m f = inr (m.0, f k)
    dots_of e l rest false k m f = inl (m.1 k)
