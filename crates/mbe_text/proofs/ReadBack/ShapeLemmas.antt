-- What one step of the lexer returned: which token it is, and what it passed.
use Rattle.std.proofs.Common.{◌≡◌, ◌≢◌, ℕ, zero, suc, ◌==◌, ◌+◌, ◌-◌, ◌<◌, not, ◌&&◌, ◌||◌, if◌then◌else◌, Bool, true}
use Rattle.std.proofs.Common.{false, List, [], ◌∷◌, ◌++◌, length, take, drop, refl, sym, ap, ◌∙◌, arith, codes, Option}
use Rattle.std.proofs.Common.{Some, None, Ok, Err, append_assoc, length-append, encode_utf8_all, chars, subst}
use Rattle.std.specs.Char.{is_ascii_digit, char_set_contains}
use Rattle.std.proofs.Math.Utf8.{scalars}
use Rattle.std.proofs.lemmas.Bool.Decides.{nat_tests}
use Rattle.std.proofs.lemmas.Str.{chars-encodes, char_from_byte}
use Rattle.std.proofs.lemmas.List.{take-append-drop}
use Rattle.unicode_ident.proofs.Computing.{unicode_ident}
use Rattle.mbe_tt.specs.declared.span.Edition.{Edition}
use Rattle.mbe_tt.specs.declared.span.Edition.TheVariants.{Edition2015, Edition2018, Edition2021, Edition2024}
use Rattle.mbe_tt.specs.declared.tt.Spacing.{Spacing}
use Rattle.mbe_tt.specs.declared.tt.DelimiterKind.TheVariants.{Parenthesis, Brace, Bracket, Invisible}
use Rattle.mbe_tt.specs.declared.tt.IdentIsRaw.{IdentIsRaw}
use Rattle.mbe_tt.specs.declared.tt.IdentIsRaw.TheVariants.{Yes, No}
use Rattle.mbe_tt.specs.declared.tt.LitKind.TheVariants as kinds
use Rattle.mbe_tt.specs.Trees.Editions.{at_least_2021}
use Rattle.mbe_text.specs.RustText.DocComments.{has_line_end, begins_with_slash}
use Rattle.mbe_text.specs.declared.dialect.Dialect.TheVariants.{Rust}
use Rattle.mbe_text.specs.declared.fault_kind.LexFaultKind.TheVariants as fault_kind
use Rattle.mbe_text.specs.Whitespace.{begins_comment}
use Rattle.mbe_text.specs.Characters.{has, past, begins_with, bytes_before}
use Rattle.mbe_text.specs.Dialect.{read_shape, or_punctuation}
use Rattle.mbe_text.specs.QuoteEnds.{front, from_comment_end}
use Rattle.mbe_text.specs.RustTokens.{RustTokenResult, within, is_inner, read_rust, read_r, read_b, read_c, read_quote}
use Rattle.mbe_text.specs.RustTokens.{plain_identifier, raw_identifier, begins_reserved, begins_raw_string, raw_string}
use Rattle.mbe_text.specs.RustTokens.{may_be_raw, char, begins_lifetime, lifetime, plain_lifetime, raw_lifetime}
use Rattle.mbe_text.specs.RustTokens.{is_guard, begins_doc, doc, block_doc, doc_until, from_carriage_return}
use Rattle.mbe_text.specs.LexFaults.{fault_at}
use Rattle.mbe_text.specs.Shapes.{Shape, ReadResult, identifier, literal_of, punct_of, lifetime_of, doc_of, opening}
use Rattle.mbe_text.specs.Shapes.{closing}
use Rattle.mbe_text.specs.Punctuation.{read_punctuation, side, spacing_before}
use Rattle.mbe_text.specs.Identifiers.{past_identifier}
use Rattle.mbe_text.proofs.TailLemmas.{Tail, here, one, past_tail}
use Rattle.mbe_text.specs.Laws.Gaps.{is_punct}
use Rattle.mbe_text.specs.Laws.RustTrees.{is_start, begins_word, IsWord, may_be, may_be_lifetime}
use Rattle.mbe_text.proofs.ReadBack.BlockLemmas.{mark_is_first, feed_of, no_byte_ends, line_has_none, own_mark}
use Rattle.mbe_text.proofs.ReadBack.BlockLemmas.{comment_is, block_is}
use Rattle.mbe_text.proofs.ReadBack.CommentLemmas.{may_be_comment}
use Rattle.mbe_text.proofs.ReadBack.EndLemmas.{r_is_start}
use Rattle.mbe_text.proofs.ReadBack.StepLemmas.{bytes_front}
use Rattle.mbe_text.proofs.ReadBack.QuoteLemmas.{same_char, front_of, left_of, shape_of, b_is_start, c_is_start}
use Rattle.mbe_text.proofs.ReadBack.FollowLemmas.{is_side}
use Rattle.mbe_text.proofs.ReadBack.PartLemmas.{word_run}
use Rattle.mbe_text.proofs.ReadBack.RawLemmas.{marked}
use Rattle.mbe_text.proofs.ReadBack.LiteralLemmas.{some_token, scalars_parts, LexedLiteral, LexedAs, lexed_string}
use Rattle.mbe_text.proofs.ReadBack.LiteralLemmas.{lexed_char, lexed_quote, lexed_raw, raw_opened, Opened, lexed_number}
use Rattle.mbe_text.proofs.ReadBack.LiteralLemmas.{one_byte}

-- ---- tokens

pub record LexedLifetime (e : Edition) (name : List ℕ) (r : IdentIsRaw) (from : List ℕ) : Type 0 where
  pub word : IsWord name
  pub may : may_be r name ≡ true
  pub new : may_be_lifetime e r ≡ true
  pub tick : begins_with (codes "'") from ≡ true

abbrev pub begins_side : List ℕ → Bool
begins_side [] = false
begins_side (c ∷ cs) = is_side c

-- A doc comment's text, which is written as one.
pub record IsDocText (text : List ℕ) (inner : Bool) (from : List ℕ) : Type 0 where
  pub marks : begins_doc from ≡ true
  pub cs : List ℕ
  pub bytes : text ≡ encode_utf8_all cs
  pub right : scalars cs ≡ true
  pub written : may_be_comment inner text ≡ true

-- a punct, which begins neither a comment nor a guard
pub record LexedPunct (e : Edition) (c : ℕ) (sp : Spacing) (from rest : List ℕ) : Type 0 where
  pub is : from ≡ c ∷ rest
  pub char : is_punct c ≡ true
  pub spacing : sp ≡ spacing_before rest
  pub comment : begins_comment from ≡ false
  pub guard : is_guard e from ≡ false

abbrev pub Lexed : Edition → Shape → List ℕ → List ℕ → Type 0
Lexed e (identifier name r) from rest = IsWord name × (may_be r name ≡ true)
Lexed e (literal_of text suffix n kind) from rest = LexedLiteral e text suffix n kind from rest
Lexed e (punct_of c sp) from rest = LexedPunct e c sp from rest
Lexed e (lifetime_of name r) from rest = LexedLifetime e name r from
Lexed e (doc_of text inner) from rest = IsDocText text inner from
Lexed e (opening k) from rest = (k ≢ Invisible) × (begins_side from ≡ true)
Lexed e (closing k) from rest = (k ≢ Invisible) × (begins_side from ≡ true)

-- a token, and what was passed for it
pub record Step (e : Edition) (from rest : List ℕ) (shape : Shape) : Type 0 where
  pub own : List ℕ
  pub is : from ≡ own ++ rest
  pub some : 0 < length own
  pub lexed : Lexed e shape from rest

step_of : (e : Edition) (from rest : List ℕ) (shape made : Shape) (own : List ℕ) → from ≡ own ++ rest
    → 0 < length own → shape ≡ made → Lexed e made from rest → Step e from rest shape
step_of e from rest shape made own is some same lexed = record {
  own = own;
  is = is;
  some = some;
  lexed = subst (λ (s : Shape). Lexed e s from rest) (sym same) lexed;
}

literal_step : (e : Edition) (from rest : List ℕ) (shape : Shape) → LexedAs e from rest shape → Step e from rest shape
literal_step e from rest shape l =
    step_of e from rest shape (literal_of l.text l.suffix (length l.suffix) l.kind) l.lexed.own l.lexed.is l.lexed.some
    l.shaped l.lexed

pub if_ok : {A : Type 0} (P : Type 0) (b : Bool) (x y z : A) → (if b then x else y) ≡ z → (b ≡ true → x ≡ z → P)
    → (b ≡ false → y ≡ z → P) → P
if_ok P true x y z h f g = f refl h
if_ok P false x y z h f g = g refl h

-- ---- words

record WordOwn (c : ℕ) (cs : List ℕ) : Type 0 where
  more : List ℕ
  is : cs ≡ more ++ past_identifier (c ∷ cs)
  name : bytes_before (c ∷ cs) (past_identifier (c ∷ cs)) ≡ encode_utf8_all (c ∷ more)
  word : IsWord (encode_utf8_all (c ∷ more))

word_own : (c : ℕ) (cs : List ℕ) → is_start c ≡ true → scalars (c ∷ cs) ≡ true → WordOwn c cs
word_own c cs s u =
    let r = word_run cs in
    let left : List ℕ = past_identifier (c ∷ cs) in
    let own = (scalars_parts (c ∷ r.own) left (ap (λ (x : List ℕ). scalars (c ∷ x)) (sym r.is) ∙ u)).0 in
    let known : chars (encode_utf8_all (c ∷ r.own)) ≡ c ∷ r.own = chars-encodes (c ∷ r.own) own in record {
      more = r.own;
      is = r.is;
      name = ap (λ (x : List ℕ). bytes_before (c ∷ x) left) r.is ∙ bytes_front (c ∷ r.own) left;
      word = ((c ∷ r.own, (own, refl)), ap begins_word known ∙ s, ap past_identifier known ∙ r.all);
    }

plain_cut : (e : Edition) (c : ℕ) (cs rest : List ℕ) (shape : Shape) → is_start c ≡ true → scalars (c ∷ cs) ≡ true
    → plain_identifier e (c ∷ cs) ≡ Ok (shape, rest) → Step e (c ∷ cs) rest shape
plain_cut e c cs rest shape s u h =
    let w = word_own c cs s u in
    if_ok (Step e (c ∷ cs) rest shape) (at_least_2021 e && begins_reserved (past_identifier (c ∷ cs))) _ _ _ h
    (λ b k. absurd (cc))
    (λ b k. step_of e (c ∷ cs) rest shape (identifier (encode_utf8_all (c ∷ w.more)) No) (c ∷ w.more)
    (ap (λ (x : List ℕ). c ∷ x) (w.is ∙ ap (λ (x : List ℕ). w.more ++ x) (ap left_of k))) (omega arith)
    (sym (ap (shape_of shape) k) ∙ ap (λ (x : List ℕ). identifier x No) w.name) (w.word, refl))

-- after its `r#`
raw_cut : (e : Edition) (c : ℕ) (cs rest : List ℕ) (shape : Shape) → is_start c ≡ true
    → scalars (114 ∷ (35 ∷ (c ∷ cs))) ≡ true
    → raw_identifier (114 ∷ (35 ∷ (c ∷ cs))) (c ∷ cs) ≡ Ok (shape, rest)
    → Step e (114 ∷ (35 ∷ (c ∷ cs))) rest shape
raw_cut e c cs rest shape s u h =
    let w = word_own c cs s (scalars_parts (114 ∷ (35 ∷ [])) (c ∷ cs) u).1 in
    if_ok (Step e (114 ∷ (35 ∷ (c ∷ cs))) rest shape)
    (may_be_raw (bytes_before (c ∷ cs) (past_identifier (c ∷ cs)))) _ _ _ h
    (λ b k. step_of e (114 ∷ (35 ∷ (c ∷ cs))) rest shape (identifier (encode_utf8_all (c ∷ w.more)) Yes)
    (114 ∷ (35 ∷ (c ∷ w.more)))
    (ap (λ (x : List ℕ). 114 ∷ (35 ∷ (c ∷ x))) (w.is ∙ ap (λ (x : List ℕ). w.more ++ x) (ap left_of k))) (omega arith)
    (sym (ap (shape_of shape) k) ∙ ap (λ (x : List ℕ). identifier x Yes) w.name)
    (w.word, ap may_be_raw (sym w.name) ∙ b))
    (λ b k. absurd (cc))

-- ---- lifetimes

name_cut : (e : Edition) (before : List ℕ) (c : ℕ) (cs rest : List ℕ) (shape : Shape) (r : IdentIsRaw)
    → is_start c ≡ true → begins_with (codes "'") (before ++ (c ∷ cs)) ≡ true
    → scalars (before ++ (c ∷ cs)) ≡ true → may_be_lifetime e r ≡ true
    → may_be r (bytes_before (c ∷ cs) (past_identifier (c ∷ cs))) ≡ true
    → lifetime_of (bytes_before (c ∷ cs) (past_identifier (c ∷ cs))) r ≡ shape → past_identifier (c ∷ cs) ≡ rest
    → Step e (before ++ (c ∷ cs)) rest shape
name_cut e before c cs rest shape r s q u l m i left =
    let w = word_own c cs s (scalars_parts before (c ∷ cs) u).1 in
    step_of e (before ++ (c ∷ cs)) rest shape (lifetime_of (encode_utf8_all (c ∷ w.more)) r) (before ++ (c ∷ w.more))
    (ap (λ (x : List ℕ). before ++ (c ∷ x)) (w.is ∙ ap (λ (x : List ℕ). w.more ++ x) left)
    ∙ sym (append_assoc before (c ∷ w.more) rest))
    (omega (arith, length-append before (c ∷ w.more)))
    (sym i ∙ ap (λ (x : List ℕ). lifetime_of x r) w.name)
    (record { word = w.word; may = ap (may_be r) (sym w.name) ∙ m; new = l; tick = q })

pub and_left : (a b : Bool) → (a && b) ≡ true → a ≡ true
and_left true b h = refl
and_left false b h = absurd (cc)

pub and_right : (a b : Bool) → (a && b) ≡ true → b ≡ true
and_right true b h = h
and_right false b h = absurd (cc)

or_start : (a b : Bool) → (a || b) ≡ true → b ≡ false → a ≡ true
or_start true b h n = refl
or_start false b h n = absurd (let z : true ≡ false = sym h ∙ n in cc)

plain_lifetime_cut : (e : Edition) (c : ℕ) (cs rest : List ℕ) (shape : Shape)
    → (is_start c || is_ascii_digit c) ≡ true → scalars (39 ∷ (c ∷ cs)) ≡ true
    → plain_lifetime e (39 ∷ (c ∷ cs)) (c ∷ cs) ≡ Ok (shape, rest) → Step e (39 ∷ (c ∷ cs)) rest shape
plain_lifetime_cut e c cs rest shape s u h =
    let P = Step e (39 ∷ (c ∷ cs)) rest shape in
    if_ok P (begins_with (codes "'") (past_identifier (c ∷ cs))) _ _ _ h (λ b k. absurd (cc))
    (λ b k. if_ok P (is_ascii_digit c) _ _ _ k (λ d m. absurd (cc))
    (λ d m. if_ok P (at_least_2021 e && begins_with (codes "#") (past_identifier (c ∷ cs))) _ _ _ m (λ g n. absurd (cc))
    (λ g n. name_cut e (39 ∷ []) c cs rest shape No (or_start (is_start c) (is_ascii_digit c) s d) refl u refl refl
    (ap (shape_of shape) n) (ap left_of n))))

raw_lifetime_cut : (e : Edition) (c : ℕ) (cs rest : List ℕ) (shape : Shape) → is_start c ≡ true
    → at_least_2021 e ≡ true
    → scalars (39 ∷ (114 ∷ (35 ∷ (c ∷ cs)))) ≡ true
    → raw_lifetime (39 ∷ (114 ∷ (35 ∷ (c ∷ cs)))) (c ∷ cs) ≡ Ok (shape, rest)
    → Step e (39 ∷ (114 ∷ (35 ∷ (c ∷ cs)))) rest shape
raw_lifetime_cut e c cs rest shape s l u h =
    let P = Step e (39 ∷ (114 ∷ (35 ∷ (c ∷ cs)))) rest shape in
    if_ok P (begins_with (codes "'") (past_identifier (c ∷ cs))) _ _ _ h (λ b k. absurd (cc))
    (λ b k. if_ok P (may_be_raw (bytes_before (c ∷ cs) (past_identifier (c ∷ cs)))) _ _ _ k
    (λ m n. name_cut e (39 ∷ (114 ∷ (35 ∷ []))) c cs rest shape Yes s refl u l m (ap (shape_of shape) n) (ap left_of n))
    (λ m n. absurd (cc)))

-- before 2021, the lifetime `'r` before a `#`
short_name : (cs : List ℕ) → bytes_before (114 ∷ (35 ∷ cs)) (35 ∷ cs) ≡ encode_utf8_all (114 ∷ [])
short_name cs = bytes_front (114 ∷ []) (35 ∷ cs)

short_word : IsWord (encode_utf8_all (114 ∷ []))
short_word =
    let known : chars (encode_utf8_all (114 ∷ [])) ≡ 114 ∷ [] = chars-encodes (114 ∷ []) refl in
    ((114 ∷ [], (refl, refl)), ap begins_word known ∙ r_is_start, ap past_identifier known)

short_cut : (e : Edition) (cs rest : List ℕ) (shape : Shape)
    → (let t : RustTokenResult = Ok (lifetime_of (bytes_before (114 ∷ (35 ∷ cs)) (35 ∷ cs)) No, 35 ∷ cs) in t)
    ≡ Ok (shape, rest)
    → Step e (39 ∷ (114 ∷ (35 ∷ cs))) rest shape
short_cut e cs rest shape h =
    step_of e (39 ∷ (114 ∷ (35 ∷ cs))) rest shape (lifetime_of (encode_utf8_all (114 ∷ [])) No) (39 ∷ (114 ∷ []))
    (ap (λ (x : List ℕ). 39 ∷ (114 ∷ x)) (ap left_of h)) (omega arith)
    (sym (ap (shape_of shape) h) ∙ ap (λ (x : List ℕ). lifetime_of x No) (short_name cs))
    (record { word = short_word; may = refl; new = refl; tick = refl })

-- a `r#` before a name
raw_mark : (c x y : ℕ) (ys : List ℕ) → ((c == 114 && (x == 35 && true)) && is_start y) ≡ true
    → (c ≡ 114) × (x ≡ 35) × (is_start y ≡ true)
raw_mark c x y ys h =
    let marks = and_left (c == 114 && (x == 35 && true)) (is_start y) h in (
      same_char c 114 (and_left (c == 114) (x == 35 && true) marks),
      same_char x 35 (and_left (x == 35) true (and_right (c == 114) (x == 35 && true) marks)),
      and_right (c == 114 && (x == 35 && true)) (is_start y) h,
    )

not_true : (b : Bool) → not b ≡ false → b ≡ true
not_true true h = refl
not_true false h = absurd (cc)

not_false : (b : Bool) → b ≡ true → not b ≡ true → ⊥
not_false true h k = cc
not_false false h k = cc

never : (b : Bool) → (b && false) ≡ true → ⊥
never true h = cc
never false h = cc

marked_lifetime : (e : Edition) (c : ℕ) (cs rest : List ℕ) (shape : Shape) → is_start c ≡ true
    → scalars (39 ∷ (114 ∷ (35 ∷ (c ∷ cs)))) ≡ true → lifetime e (39 ∷ (114 ∷ (35 ∷ (c ∷ cs)))) ≡ Ok (shape, rest)
    → Step e (39 ∷ (114 ∷ (35 ∷ (c ∷ cs)))) rest shape
marked_lifetime e c cs rest shape s u h =
    let P = Step e (39 ∷ (114 ∷ (35 ∷ (c ∷ cs)))) rest shape in
    if_ok P (not (is_start c)) _ _ _ h (λ b k. absurd (not_false (is_start c) s b))
    (λ b k. if_ok P (at_least_2021 e) _ _ _ k (λ l m. raw_lifetime_cut e c cs rest shape s l u m)
    (λ l m. short_cut e (c ∷ cs) rest shape m))

lifetime_cut : (e : Edition) (c : ℕ) (cs rest : List ℕ) (shape : Shape) → (is_start c || is_ascii_digit c) ≡ true
    → scalars (39 ∷ (c ∷ cs)) ≡ true → lifetime e (39 ∷ (c ∷ cs)) ≡ Ok (shape, rest)
    → Step e (39 ∷ (c ∷ cs)) rest shape
lifetime_cut e c [] rest shape s u h =
    if_ok (Step e (39 ∷ (c ∷ [])) rest shape) (not ((c == 114 && false) && false)) _ _ _ h
    (λ b k. plain_lifetime_cut e c [] rest shape s u k)
    (λ b k. absurd (never (c == 114 && false) (not_true ((c == 114 && false) && false) b)))
lifetime_cut e c (x ∷ []) rest shape s u h =
    if_ok (Step e (39 ∷ (c ∷ (x ∷ []))) rest shape) (not ((c == 114 && (x == 35 && true)) && false)) _ _ _ h
    (λ b k. plain_lifetime_cut e c (x ∷ []) rest shape s u k)
    (λ b k. absurd (never (c == 114 && (x == 35 && true)) (not_true ((c == 114 && (x == 35 && true)) && false) b)))
lifetime_cut e c (x ∷ (y ∷ ys)) rest shape s u h =
    if_ok (Step e (39 ∷ (c ∷ (x ∷ (y ∷ ys)))) rest shape) (not ((c == 114 && (x == 35 && true)) && is_start y)) _ _ _ h
    (λ b k. plain_lifetime_cut e c (x ∷ (y ∷ ys)) rest shape s u k)
    (λ b k. let m = raw_mark c x y ys (not_true ((c == 114 && (x == 35 && true)) && is_start y) b) in
    let same : c ∷ (x ∷ (y ∷ ys)) ≡ 114 ∷ (35 ∷ (y ∷ ys)) =
    ap (λ (z : ℕ). z ∷ (x ∷ (y ∷ ys))) m.0 ∙ ap (λ (z : ℕ). 114 ∷ (z ∷ (y ∷ ys))) m.1 in
    subst (λ (t : List ℕ). Step e (39 ∷ t) rest shape) (sym same)
    (marked_lifetime e y ys rest shape m.2 (ap (λ (t : List ℕ). scalars (39 ∷ t)) (sym same) ∙ u)
    (ap (λ (t : List ℕ). lifetime e (39 ∷ t)) (sym same) ∙ h)))

-- ---- chars, strings

tick_reads : (e : Edition) (y : List ℕ) → read_rust e (39 ∷ y) ≡ Some (read_quote e (39 ∷ y))
unfolding unicode_ident
tick_reads e y = refl

quote_lexed : (e : Edition) (cs rest : List ℕ) (shape : Shape) → scalars (39 ∷ cs) ≡ true
    → begins_lifetime cs ≡ false → read_rust e (39 ∷ cs) ≡ Some (Ok (shape, rest)) → (q : _)
    → Some (if begins_lifetime cs then lifetime e (39 ∷ cs) else char kinds.Char q (39 ∷ cs) (39 ∷ cs))
    ≡ Some (Ok (shape, rest))
    → ((y : List ℕ) → read_rust e (39 ∷ y) ≡ Some (if begins_lifetime y then lifetime e (39 ∷ y) else char kinds.Char
    q (39 ∷ y) (39 ∷ y)))
    → LexedAs e (39 ∷ cs) rest shape
quote_lexed e cs rest shape u b h q k reads =
    lexed_quote e cs rest shape u b q
    (sym (ap (λ (x : Bool). Some (if x then lifetime e (39 ∷ cs) else char kinds.Char q (39 ∷ cs) (39 ∷ cs))) b) ∙ k)
    reads

char_lexed : (e : Edition) (cs rest : List ℕ) (shape : Shape) → scalars (39 ∷ cs) ≡ true
    → begins_lifetime cs ≡ false → read_rust e (39 ∷ cs) ≡ Some (Ok (shape, rest)) → LexedAs e (39 ∷ cs) rest shape
unfolding unicode_ident
char_lexed e cs rest shape u b h = search (quote_lexed e cs rest shape u b h, h)

quote_cut : (e : Edition) (cs rest : List ℕ) (shape : Shape) → scalars (39 ∷ cs) ≡ true
    → read_quote e (39 ∷ cs) ≡ Ok (shape, rest) → Step e (39 ∷ cs) rest shape
quote_cut e cs rest shape u h =
    if_ok (Step e (39 ∷ cs) rest shape) (begins_lifetime cs) _ _ _ h (λ b k. begun cs u b k)
    (λ b k. literal_step e (39 ∷ cs) rest shape (char_lexed e cs rest shape u b (tick_reads e cs ∙ ap Some h)))
  where
    begun : (ds : List ℕ) → scalars (39 ∷ ds) ≡ true → begins_lifetime ds ≡ true
        → lifetime e (39 ∷ ds) ≡ Ok (shape, rest) → Step e (39 ∷ ds) rest shape
    begun [] v b k = absurd (cc)
    begun (c ∷ ds) v b k =
        lifetime_cut e c ds rest shape (and_left (is_start c || is_ascii_digit c)
        (not (begins_with (codes "'") ds)) b) v k

b_char : (e : Edition) (cs rest : List ℕ) (shape : Shape) → scalars (98 ∷ (39 ∷ cs)) ≡ true
    → read_rust e (98 ∷ (39 ∷ cs)) ≡ Some (Ok (shape, rest)) → LexedAs e (98 ∷ (39 ∷ cs)) rest shape
b_char e cs rest shape u h =
    search (
      lexed_char e kinds.Byte (98 ∷ (39 ∷ [])) (98 ∷ (39 ∷ cs)) cs rest shape refl refl refl
          (one_byte 98 (39 ∷ []) (omega arith) (one_byte 39 [] (omega arith) refl)) (omega arith) u,
      h,
    )

b_string : (e : Edition) (cs rest : List ℕ) (shape : Shape) → scalars (98 ∷ (34 ∷ cs)) ≡ true
    → read_rust e (98 ∷ (34 ∷ cs)) ≡ Some (Ok (shape, rest)) → LexedAs e (98 ∷ (34 ∷ cs)) rest shape
b_string e cs rest shape u h =
    search (
      lexed_string e kinds.ByteStr (98 ∷ (34 ∷ [])) cs rest shape refl refl refl
          (one_byte 98 (34 ∷ []) (omega arith) (one_byte 34 [] (omega arith) refl)) (omega arith) u,
      h,
    )

quotes_read : (e : Edition) (cs rest : List ℕ) (shape : Shape) → scalars (34 ∷ cs) ≡ true
    → read_rust e (34 ∷ cs) ≡ Some (Ok (shape, rest)) → LexedAs e (34 ∷ cs) rest shape
unfolding unicode_ident
quotes_read e cs rest shape u h =
    search (
      lexed_string e kinds.Str (34 ∷ []) cs rest shape refl refl refl (one_byte 34 [] (omega arith) refl)
          (omega arith) u,
      h,
    )

-- ---- raw strings

hash_is : (c : ℕ) → char_set_contains (codes "#") c ≡ true → c ≡ 35
hash_is c h = grind (arith, nat_tests, h)

b_raw : (e : Edition) (n : ℕ) (cs rest : List ℕ) (shape : Shape)
    → scalars (98 ∷ (114 ∷ (marked n ++ (34 ∷ cs)))) ≡ true
    → read_rust e (98 ∷ (114 ∷ (marked n ++ (34 ∷ cs)))) ≡ Some (Ok (shape, rest))
    → LexedAs e (98 ∷ (114 ∷ (marked n ++ (34 ∷ cs)))) rest shape
b_raw e zero cs rest shape u h =
    search (
      lexed_raw e (98 ∷ (114 ∷ [])) 0 cs rest shape
          (one_byte 98 (114 ∷ []) (omega arith) (one_byte 114 [] (omega arith) refl)) u,
      h,
    )
b_raw e (suc n) cs rest shape u h =
    search (
      lexed_raw e (98 ∷ (114 ∷ [])) (suc n) cs rest shape
          (one_byte 98 (114 ∷ []) (omega arith) (one_byte 114 [] (omega arith) refl)) u,
      h,
    )

r_raw : (e : Edition) (n : ℕ) (cs rest : List ℕ) (shape : Shape)
    → scalars (114 ∷ (marked n ++ (34 ∷ cs))) ≡ true
    → read_rust e (114 ∷ (marked n ++ (34 ∷ cs))) ≡ Some (Ok (shape, rest))
    → LexedAs e (114 ∷ (marked n ++ (34 ∷ cs))) rest shape
unfolding unicode_ident
r_raw e zero cs rest shape u h =
    search (lexed_raw e (114 ∷ []) 0 cs rest shape (one_byte 114 [] (omega arith) refl) u, h)
r_raw e (suc zero) cs rest shape u h =
    search (lexed_raw e (114 ∷ []) 1 cs rest shape (one_byte 114 [] (omega arith) refl) u, h)
r_raw e (suc (suc n)) cs rest shape u h =
    search (lexed_raw e (114 ∷ []) (suc (suc n)) cs rest shape (one_byte 114 [] (omega arith) refl) u, h)

c_quote_bytes : encode_utf8_all (99 ∷ (34 ∷ [])) ≡ 99 ∷ (34 ∷ [])
c_quote_bytes = one_byte 99 (34 ∷ []) (omega arith) (one_byte 34 [] (omega arith) refl)

c_r_bytes : encode_utf8_all (99 ∷ (114 ∷ [])) ≡ 99 ∷ (114 ∷ [])
c_r_bytes = one_byte 99 (114 ∷ []) (omega arith) (one_byte 114 [] (omega arith) refl)

-- C strings are since 2021
c_string : (e : Edition) (cs rest : List ℕ) (shape : Shape) → at_least_2021 e ≡ true
    → scalars (99 ∷ (34 ∷ cs)) ≡ true
    → read_rust e (99 ∷ (34 ∷ cs)) ≡ Some (Ok (shape, rest)) → LexedAs e (99 ∷ (34 ∷ cs)) rest shape
c_string Edition2015 cs rest shape n u h = absurd (cc)
c_string Edition2018 cs rest shape n u h = absurd (cc)
c_string Edition2021 cs rest shape n u h =
    search (
      lexed_string Edition2021 kinds.CStr (99 ∷ (34 ∷ [])) cs rest shape refl refl refl c_quote_bytes (omega arith) u,
      h,
    )
c_string Edition2024 cs rest shape n u h =
    search (
      lexed_string Edition2024 kinds.CStr (99 ∷ (34 ∷ [])) cs rest shape refl refl refl c_quote_bytes (omega arith) u,
      h,
    )

c_raw : (e : Edition) (n : ℕ) (cs rest : List ℕ) (shape : Shape) → at_least_2021 e ≡ true
    → scalars (99 ∷ (114 ∷ (marked n ++ (34 ∷ cs)))) ≡ true
    → read_rust e (99 ∷ (114 ∷ (marked n ++ (34 ∷ cs)))) ≡ Some (Ok (shape, rest))
    → LexedAs e (99 ∷ (114 ∷ (marked n ++ (34 ∷ cs)))) rest shape
c_raw Edition2015 n cs rest shape is u h = absurd (cc)
c_raw Edition2018 n cs rest shape is u h = absurd (cc)
c_raw Edition2021 zero cs rest shape is u h =
    search (lexed_raw Edition2021 (99 ∷ (114 ∷ [])) 0 cs rest shape c_r_bytes u, h)
c_raw Edition2021 (suc n) cs rest shape is u h =
    search (lexed_raw Edition2021 (99 ∷ (114 ∷ [])) (suc n) cs rest shape c_r_bytes u, h)
c_raw Edition2024 zero cs rest shape is u h =
    search (lexed_raw Edition2024 (99 ∷ (114 ∷ [])) 0 cs rest shape c_r_bytes u, h)
c_raw Edition2024 (suc n) cs rest shape is u h =
    search (lexed_raw Edition2024 (99 ∷ (114 ∷ [])) (suc n) cs rest shape c_r_bytes u, h)

-- ---- what begins with an `r`, a `b` or a `c`

-- a raw string, wherever its `#` end
raw_step : (e : Edition) (before cs rest : List ℕ) (shape : Shape) → Opened cs → scalars (before ++ cs) ≡ true
    → read_rust e (before ++ cs) ≡ Some (Ok (shape, rest))
    → ((n : ℕ) (body : List ℕ) → scalars (before ++ (marked n ++ (34 ∷ body))) ≡ true
    → read_rust e (before ++ (marked n ++ (34 ∷ body))) ≡ Some (Ok (shape, rest))
    → LexedAs e (before ++ (marked n ++ (34 ∷ body))) rest shape)
    → Step e (before ++ cs) rest shape
raw_step e before cs rest shape o u h lexed =
    literal_step e (before ++ cs) rest shape
    (subst (λ (x : List ℕ). LexedAs e (before ++ x) rest shape) (sym o.is)
    (lexed o.n o.body (ap (λ (x : List ℕ). scalars (before ++ x)) (sym o.is) ∙ u)
    (ap (λ (x : List ℕ). read_rust e (before ++ x)) (sym o.is) ∙ h)))

b_cut : (e : Edition) (cs rest : List ℕ) (shape : Shape) → scalars (98 ∷ cs) ≡ true
    → read_b e (98 ∷ cs) ≡ Ok (shape, rest) → Step e (98 ∷ cs) rest shape
b_cut e [] rest shape u h = plain_cut e 98 [] rest shape b_is_start u h
b_cut e (d ∷ ds) rest shape u h =
    let P = Step e (98 ∷ (d ∷ ds)) rest shape in
    let at = λ (c : ℕ) (same : d ≡ c). (let read : read_b e (98 ∷ (c ∷ ds)) ≡ Ok (shape, rest) =
    ap (λ (x : ℕ). read_b e (98 ∷ (x ∷ ds))) (sym same) ∙ h in read) in
    let text = λ (c : ℕ) (same : d ≡ c). (let right : scalars (98 ∷ (c ∷ ds)) ≡ true =
    ap (λ (x : ℕ). scalars (98 ∷ (x ∷ ds))) (sym same) ∙ u in right) in
    let back = λ (c : ℕ) (same : d ≡ c) (s : Step e (98 ∷ (c ∷ ds)) rest shape).
    subst (λ (x : ℕ). Step e (98 ∷ (x ∷ ds)) rest shape) (sym same) s in
    if_ok P (d == 39 && true) _ _ _ h
    (λ b k. let same = same_char d 39 (and_left (d == 39) true b) in
    back 39 same (literal_step e (98 ∷ (39 ∷ ds)) rest shape (b_char e ds rest shape (text 39 same)
    (ap Some (at 39 same)))))
    (λ b k. if_ok P (d == 34 && true) _ _ _ k
    (λ c m. let same = same_char d 34 (and_left (d == 34) true c) in
    back 34 same (literal_step e (98 ∷ (34 ∷ ds)) rest shape (b_string e ds rest shape (text 34 same)
    (ap Some (at 34 same)))))
    (λ c m. if_ok P ((d == 114 && true) && begins_raw_string ds) _ _ _ m
    (λ r n. let same = same_char d 114 (and_left (d == 114) true (and_left (d == 114 && true)
    (begins_raw_string ds) r)) in
    back 114 same (raw_step e (98 ∷ (114 ∷ [])) ds rest shape (search (raw_opened ds (shape, rest), n, hash_is))
    (text 114 same) (ap Some (at 114 same)) (λ j body v w. b_raw e j body rest shape v w)))
    (λ r n. plain_cut e 98 (d ∷ ds) rest shape b_is_start u n)))

r_rest : (e : Edition) (cs rest : List ℕ) (shape : Shape) → scalars (114 ∷ cs) ≡ true
    → read_rust e (114 ∷ cs) ≡ Some (Ok (shape, rest)) → (q : _)
    → (if begins_raw_string cs then raw_string q (114 ∷ cs) cs else plain_identifier e (114 ∷ cs)) ≡ Ok (shape, rest)
    → Step e (114 ∷ cs) rest shape
r_rest e cs rest shape u h q k =
    if_ok (Step e (114 ∷ cs) rest shape) (begins_raw_string cs) _ _ _ k
    (λ b m. raw_step e (114 ∷ []) cs rest shape (search (raw_opened cs (shape, rest), m, hash_is)) u h
    (λ j body v w. r_raw e j body rest shape v w))
    (λ b m. plain_cut e 114 cs rest shape r_is_start u m)

r_cut : (e : Edition) (cs rest : List ℕ) (shape : Shape) → scalars (114 ∷ cs) ≡ true
    → read_r e (114 ∷ cs) ≡ Ok (shape, rest) → Step e (114 ∷ cs) rest shape
r_cut e [] rest shape u h = plain_cut e 114 [] rest shape r_is_start u h
r_cut e (d ∷ []) rest shape u h =
    if_ok (Step e (114 ∷ (d ∷ [])) rest shape) ((d == 35 && true) && false) _ _ _ h
    (λ b k. absurd (never (d == 35 && true) b)) (λ b k. search (r_rest e (d ∷ []) rest shape u (ap Some h), k))
r_cut e (d ∷ (c ∷ cs)) rest shape u h =
    if_ok (Step e (114 ∷ (d ∷ (c ∷ cs))) rest shape) ((d == 35 && true) && is_start c) _ _ _ h
    (λ b k. let same = same_char d 35 (and_left (d == 35) true (and_left (d == 35 && true) (is_start c) b)) in
    let read : read_r e (114 ∷ (35 ∷ (c ∷ cs))) ≡ Ok (shape, rest) =
    ap (λ (x : ℕ). read_r e (114 ∷ (x ∷ (c ∷ cs)))) (sym same) ∙ h in
    subst (λ (x : ℕ). Step e (114 ∷ (x ∷ (c ∷ cs))) rest shape) (sym same)
    (r_marked e c cs rest shape (and_right (d == 35 && true) (is_start c) b)
    (ap (λ (x : ℕ). scalars (114 ∷ (x ∷ (c ∷ cs)))) (sym same) ∙ u) read))
    (λ b k. search (r_rest e (d ∷ (c ∷ cs)) rest shape u (ap Some h), k))
  where
    r_marked : (e : Edition) (c : ℕ) (cs rest : List ℕ) (shape : Shape) → is_start c ≡ true
        → scalars (114 ∷ (35 ∷ (c ∷ cs))) ≡ true → read_r e (114 ∷ (35 ∷ (c ∷ cs))) ≡ Ok (shape, rest)
        → Step e (114 ∷ (35 ∷ (c ∷ cs))) rest shape
    r_marked e c cs rest shape s v k =
        if_ok (Step e (114 ∷ (35 ∷ (c ∷ cs))) rest shape) (is_start c) _ _ _ k
        (λ b m. raw_cut e c cs rest shape s v m) (λ b m. absurd (let z : true ≡ false = sym s ∙ b in cc))

c_cut : (e : Edition) (cs rest : List ℕ) (shape : Shape) → scalars (99 ∷ cs) ≡ true
    → read_c e (99 ∷ cs) ≡ Ok (shape, rest) → Step e (99 ∷ cs) rest shape
c_cut e [] rest shape u h =
    if_ok (Step e (99 ∷ []) rest shape) (not (at_least_2021 e)) _ _ _ h
    (λ b k. plain_cut e 99 [] rest shape c_is_start u k) (λ b k. plain_cut e 99 [] rest shape c_is_start u k)
c_cut e (d ∷ ds) rest shape u h =
    let P = Step e (99 ∷ (d ∷ ds)) rest shape in
    let at = λ (c : ℕ) (same : d ≡ c). (let read : read_c e (99 ∷ (c ∷ ds)) ≡ Ok (shape, rest) =
    ap (λ (x : ℕ). read_c e (99 ∷ (x ∷ ds))) (sym same) ∙ h in read) in
    let text = λ (c : ℕ) (same : d ≡ c). (let right : scalars (99 ∷ (c ∷ ds)) ≡ true =
    ap (λ (x : ℕ). scalars (99 ∷ (x ∷ ds))) (sym same) ∙ u in right) in
    let back = λ (c : ℕ) (same : d ≡ c) (s : Step e (99 ∷ (c ∷ ds)) rest shape).
    subst (λ (x : ℕ). Step e (99 ∷ (x ∷ ds)) rest shape) (sym same) s in
    if_ok P (not (at_least_2021 e)) _ _ _ h
    (λ o k. plain_cut e 99 (d ∷ ds) rest shape c_is_start u k)
    (λ o k. let new = not_true (at_least_2021 e) o in
    if_ok P (d == 34 && true) _ _ _ k
    (λ c m. let same = same_char d 34 (and_left (d == 34) true c) in
    back 34 same (literal_step e (99 ∷ (34 ∷ ds)) rest shape (c_string e ds rest shape new (text 34 same)
    (ap Some (at 34 same)))))
    (λ c m. if_ok P ((d == 114 && true) && begins_raw_string ds) _ _ _ m
    (λ r n. let same = same_char d 114 (and_left (d == 114) true (and_left (d == 114 && true)
    (begins_raw_string ds) r)) in
    back 114 same (raw_step e (99 ∷ (114 ∷ [])) ds rest shape (search (raw_opened ds (shape, rest), n, hash_is))
    (text 114 same) (ap Some (at 114 same)) (λ j body v w. c_raw e j body rest shape new v w)))
    (λ r n. plain_cut e 99 (d ∷ ds) rest shape c_is_start u n)))

-- ---- doc comments

-- `/` is one byte
slash_byte : (c : ℕ) (cs bytes : List ℕ) → bytes ≡ encode_utf8_all (c ∷ cs) → (c == 47) ≡ false
    → begins_with_slash bytes ≡ false
slash_byte c cs [] i n = refl
slash_byte c cs (b ∷ bytes) i n = by (b == 47) refl
  where
    by : (is : Bool) → (b == 47) ≡ is → (b == 47) ≡ false
    by false e = e
    by true e =
        let is47 = same_char b 47 e in
        let same : c ≡ b =
        char_from_byte (b ∷ bytes) (encode_utf8_all cs) c i (omega (arith, is47)) (omega arith) in
        absurd (let z : true ≡ false = sym e ∙ (ap (λ (x : ℕ). x == 47) (sym same) ∙ n) in cc)

own_slash : (own end body : List ℕ) → body ≡ own ++ end → begins_with_slash body ≡ false
    → begins_with_slash (encode_utf8_all own) ≡ false
own_slash [] end body i n = refl
own_slash (c ∷ own) end body i n =
    slash_byte c own (encode_utf8_all (c ∷ own)) refl (sym (ap begins_with_slash i) ∙ n)

doc_slash : (c : ℕ) (cs : List ℕ) → begins_doc (c ∷ cs) ≡ true → is_inner (c ∷ cs) ≡ false
    → begins_with_slash (drop 3 (c ∷ cs)) ≡ false
doc_slash c [] d n = refl
doc_slash c (b ∷ []) d n = refl
doc_slash c (b ∷ (m ∷ [])) d n = refl
doc_slash c (b ∷ (m ∷ (x ∷ xs))) d n = grind (arith, nat_tests, d, n)

-- what may be before such an end is the text of a doc comment
abbrev MayBe : Bool → List ℕ → List ℕ → Type 0
MayBe inner body end =
    (own : List ℕ) → body ≡ own ++ end → scalars own ≡ true → from_carriage_return own ≡ None
    → may_be_comment inner (encode_utf8_all own) ≡ true

doc_cut_at : (e : Edition) (before body end after rest : List ℕ) (shape : Shape) (inner : Bool) (o : Option (List ℕ))
    → begins_doc (before ++ body) ≡ true → MayBe inner body end
    → Tail body end → from_carriage_return (front body end) ≡ o → Tail end after → 0 < length before
    → scalars (before ++ body) ≡ true → doc_until inner body end after ≡ Ok (shape, rest)
    → Step e (before ++ body) rest shape
doc_cut_at e before body end after rest shape inner (Some at) m may d f r some u h =
    absurd (let w : doc_until inner body end after
    ≡ Err (within end (fault_kind.BareCarriageReturn, at)) = rw (doc_until, f) refl in
    let z : Err (within end (fault_kind.BareCarriageReturn, at)) ≡ Ok (shape, rest) = sym w ∙ h in cc)
doc_cut_at e before body end after rest shape inner None m may d f r some u h =
    let w : doc_until inner body end after ≡ Ok (doc_of (bytes_before body end) inner, after) =
    rw (doc_until, f) refl in
    let made : RustTokenResult = Ok (doc_of (bytes_before body end) inner, after) in
    let k : made ≡ Ok (shape, rest) = sym w ∙ h in
    let text : bytes_before body end ≡ encode_utf8_all d.own =
    ap (λ (x : List ℕ). bytes_before x end) d.is ∙ bytes_front d.own end in
    let cut : front body end ≡ d.own = ap (λ (x : List ℕ). front x end) d.is ∙ front_of d.own end in
    let left : end ≡ r.own ++ rest = r.is ∙ ap (λ (x : List ℕ). r.own ++ x) (ap left_of k) in
    let right = (scalars_parts d.own end (ap scalars (sym d.is) ∙ (scalars_parts before body u).1)).0 in
    let own : List ℕ = before ++ (d.own ++ r.own) in
    let is : before ++ body ≡ own ++ rest =
    ap (λ (x : List ℕ). before ++ x) (d.is ∙ (ap (λ (x : List ℕ). d.own ++ x) left
    ∙ sym (append_assoc d.own r.own rest))) ∙ sym (append_assoc before (d.own ++ r.own) rest) in
    step_of e (before ++ body) rest shape (doc_of (bytes_before body end) inner) own is
    (omega (arith, length-append before (d.own ++ r.own), some))
    (sym (ap (shape_of shape) k))
    (record {
      marks = m;
      cs = d.own;
      bytes = text;
      right = right;
      written = ap (may_be_comment inner) text ∙ may d.own d.is right (ap from_carriage_return (sym cut) ∙ f);
    })

comment_tail : (cs end : List ℕ) (taken : Bool) (depth : ℕ) → from_comment_end taken depth cs ≡ Some end → Tail cs end
comment_tail [] end true depth h = absurd (cc)
comment_tail [] end false depth h = absurd (cc)
comment_tail (c ∷ cs) end true depth h = one c cs end (comment_tail cs end false depth h)
comment_tail (c ∷ cs) end false depth h =
    let P = Tail (c ∷ cs) end in
    if_ok P (begins_with (codes "/*") (c ∷ cs)) _ _ _ h
    (λ b k. one c cs end (comment_tail cs end true (depth + 1) k))
    (λ b k. if_ok P (not (begins_with (codes "*/") (c ∷ cs))) _ _ _ k
    (λ n m. one c cs end (comment_tail cs end false depth m))
    (λ n m. if_ok P (depth == 0) _ _ _ m
    (λ d l. subst (λ (x : List ℕ). Tail (c ∷ cs) x) (some_list (c ∷ cs) end l) (here (c ∷ cs)))
    (λ d l. one c cs end (comment_tail cs end true (depth - 1) l))))
  where
    some_list : (a b : List ℕ) → (let x : Option (List ℕ) = Some a in x) ≡ Some b → a ≡ b
    some_list a b h = cc

pub drop_tail : (n : ℕ) (cs : List ℕ) → Tail cs (drop n cs)
drop_tail zero cs = here cs
drop_tail (suc n) [] = here []
drop_tail (suc n) (c ∷ cs) = one c cs (drop n cs) (drop_tail n cs)

-- nor a `*` where it is of several lines
doc_mark : (c : ℕ) (cs : List ℕ) → begins_doc (c ∷ cs) ≡ true → begins_with (codes "//") (c ∷ cs) ≡ false
    → is_inner (c ∷ cs) ≡ false → mark_is_first (drop 3 (c ∷ cs)) ≡ false
doc_mark c [] d b n = refl
doc_mark c (x ∷ []) d b n = refl
doc_mark c (x ∷ (m ∷ [])) d b n = refl
doc_mark c (x ∷ (m ∷ (y ∷ ys))) d b n = grind (arith, nat_tests, d, b, n)

block_may : (inner : Bool) (body end : List ℕ) → (inner ≡ false → begins_with_slash body ≡ false)
    → (inner ≡ false → mark_is_first body ≡ false) → from_comment_end false 0 body ≡ Some end
    → MayBe inner body end
block_may inner body end slash mark f own is right return =
    comment_is inner (has_line_end (encode_utf8_all own)) (encode_utf8_all own) refl
    (λ outer. own_slash own end body is (slash outer))
    (λ several. block_is inner own end (λ outer. own_mark own end body several is (mark outer)) right return
    (ap (from_comment_end false 0) (sym is) ∙ f))

line_may : (k : _) (inner : Bool) (body : List ℕ) → ((c : ℕ) → has k c ≡ true → (c == 10) ≡ false)
    → (inner ≡ false → begins_with_slash body ≡ false)
    → MayBe inner body (past k body)
line_may k inner body feed slash own is right return =
    let none = no_byte_ends own (line_has_none k body own feed is return) in
    comment_is inner (has_line_end (encode_utf8_all own)) (encode_utf8_all own) refl
    (λ outer. own_slash own (past k body) body is (slash outer))
    (λ several. absurd (let z : true ≡ false = sym several ∙ none in cc))

block_cut : (e : Edition) (c : ℕ) (cs rest : List ℕ) (shape : Shape) (o : Option (List ℕ))
    → begins_doc (c ∷ cs) ≡ true → begins_with (codes "//") (c ∷ cs) ≡ false
    → from_comment_end false 0 (drop 3 (c ∷ cs)) ≡ o → scalars (c ∷ cs) ≡ true
    → block_doc (c ∷ cs) ≡ Ok (shape, rest) → Step e (c ∷ cs) rest shape
block_cut e c cs rest shape None d b f u h =
    absurd (let w : block_doc (c ∷ cs) ≡ Err (fault_kind.UnterminatedComment, c ∷ cs) = rw (block_doc, f) refl in
    let z : Err (fault_kind.UnterminatedComment, c ∷ cs) ≡ Ok (shape, rest) = sym w ∙ h in cc)
block_cut e c cs rest shape (Some end) d b f u h =
    let w : block_doc (c ∷ cs) ≡ doc_until (is_inner (c ∷ cs)) (drop 3 (c ∷ cs)) end (drop 2 end) =
    rw (block_doc, f) refl in
    let whole = take-append-drop 3 (c ∷ cs) in
    subst (λ (x : List ℕ). Step e x rest shape) whole
    (doc_cut_at e (take 3 (c ∷ cs)) (drop 3 (c ∷ cs)) end (drop 2 end) rest shape (is_inner (c ∷ cs))
    (from_carriage_return (front (drop 3 (c ∷ cs)) end)) (ap begins_doc whole ∙ d)
    (block_may (is_inner (c ∷ cs)) (drop 3 (c ∷ cs)) end (doc_slash c cs d) (doc_mark c cs d b) f)
    (comment_tail (drop 3 (c ∷ cs)) end false 0 f)
    refl (drop_tail 2 end) (omega arith) (ap scalars whole ∙ u)
    (sym w ∙ h))

line_cut : (k : _) (e : Edition) (c : ℕ) (cs rest : List ℕ) (shape : Shape) → begins_doc (c ∷ cs) ≡ true
    → ((d : ℕ) → has k d ≡ true → (d == 10) ≡ false) → scalars (c ∷ cs) ≡ true
    → doc_until (is_inner (c ∷ cs)) (drop 3 (c ∷ cs)) (past k (drop 3 (c ∷ cs))) (past k (drop 3 (c ∷ cs)))
    ≡ Ok (shape, rest) → Step e (c ∷ cs) rest shape
line_cut k e c cs rest shape d feed u h =
    let whole = take-append-drop 3 (c ∷ cs) in
    let end : List ℕ = past k (drop 3 (c ∷ cs)) in
    subst (λ (x : List ℕ). Step e x rest shape) whole
    (doc_cut_at e (take 3 (c ∷ cs)) (drop 3 (c ∷ cs)) end end rest shape (is_inner (c ∷ cs))
    (from_carriage_return (front (drop 3 (c ∷ cs)) end)) (ap begins_doc whole ∙ d)
    (line_may k (is_inner (c ∷ cs)) (drop 3 (c ∷ cs)) feed (doc_slash c cs d))
    (past_tail k (drop 3 (c ∷ cs))) refl (here end) (omega arith) (ap scalars whole ∙ u) h)

doc_cut : (e : Edition) (c : ℕ) (cs rest : List ℕ) (shape : Shape) → begins_doc (c ∷ cs) ≡ true
    → scalars (c ∷ cs) ≡ true → doc (c ∷ cs) ≡ Ok (shape, rest) → Step e (c ∷ cs) rest shape
doc_cut e c cs rest shape d u h =
    if_ok (Step e (c ∷ cs) rest shape) (begins_with (codes "//") (c ∷ cs)) _ _ _ h
    (λ b k. search (line_cut, d, feed_of, u, k))
    (λ b k. block_cut e c cs rest shape (from_comment_end false 0 (drop 3 (c ∷ cs))) d b refl u k)

-- ---- the table

rust_cut : (e : Edition) (c : ℕ) (cs rest : List ℕ) (shape : Shape) → scalars (c ∷ cs) ≡ true
    → read_rust e (c ∷ cs) ≡ Some (Ok (shape, rest)) → Step e (c ∷ cs) rest shape
rust_cut e c cs rest shape u h =
    let P = Step e (c ∷ cs) rest shape in
    let at = λ (d : ℕ) (same : c ≡ d). (let read : read_rust e (d ∷ cs) ≡ Some (Ok (shape, rest)) =
    ap (λ (x : ℕ). read_rust e (x ∷ cs)) (sym same) ∙ h in read) in
    let text = λ (d : ℕ) (same : c ≡ d). (let right : scalars (d ∷ cs) ≡ true =
    ap (λ (x : ℕ). scalars (x ∷ cs)) (sym same) ∙ u in right) in
    let back = λ (d : ℕ) (same : c ≡ d) (s : Step e (d ∷ cs) rest shape).
    subst (λ (x : ℕ). Step e (x ∷ cs) rest shape) (sym same) s in
    if_ok P (c == 114 && true) _ _ _ h
    (λ b k. let same = same_char c 114 (and_left (c == 114) true b) in
    back 114 same (r_cut e cs rest shape (text 114 same) (some_token _ _ (at 114 same))))
    (λ b k. if_ok P (c == 98 && true) _ _ _ k
    (λ b k. let same = same_char c 98 (and_left (c == 98) true b) in
    back 98 same (b_cut e cs rest shape (text 98 same) (some_token _ _ (at 98 same))))
    (λ b k. if_ok P (c == 99 && true) _ _ _ k
    (λ b k. let same = same_char c 99 (and_left (c == 99) true b) in
    back 99 same (c_cut e cs rest shape (text 99 same) (some_token _ _ (at 99 same))))
    (λ b k. if_ok P (is_start c) _ _ _ k
    (λ s k. plain_cut e c cs rest shape s u (some_token _ _ k))
    (λ s k. if_ok P (is_ascii_digit c) _ _ _ k
    (λ d k. literal_step e (c ∷ cs) rest shape (lexed_number e c cs rest shape d (some_token _ _ k) u))
    (λ d k. if_ok P (c == 34 && true) _ _ _ k
    (λ b k. let same = same_char c 34 (and_left (c == 34) true b) in
    back 34 same (literal_step e (34 ∷ cs) rest shape (quotes_read e cs rest shape (text 34 same) (at 34 same))))
    (λ b k. if_ok P (c == 39 && true) _ _ _ k
    (λ b k. let same = same_char c 39 (and_left (c == 39) true b) in
    back 39 same (quote_cut e cs rest shape (text 39 same)
    (some_token _ _ (sym (tick_reads e cs) ∙ at 39 same))))
    (λ b k. if_ok P (is_guard e (c ∷ cs)) _ _ _ k (λ g k. absurd (cc))
    (λ g k. if_ok P (begins_doc (c ∷ cs)) _ _ _ k
    (λ d k. doc_cut e c cs rest shape d u (some_token _ _ k)) (λ d k. absurd (cc))))))))))

-- what is read as a sign is no guard
no_guard : (e : Edition) (c : ℕ) (cs : List ℕ) → read_rust e (c ∷ cs) ≡ None
    → (is_guard e (c ∷ cs) ≡ false) × (begins_doc (c ∷ cs) ≡ false)
no_guard e c cs h =
    let P = (is_guard e (c ∷ cs) ≡ false) × (begins_doc (c ∷ cs) ≡ false) in
    if_ok P (c == 114 && true) _ _ _ h (λ b k. absurd (cc))
    (λ b k. if_ok P (c == 98 && true) _ _ _ k (λ b k. absurd (cc))
    (λ b k. if_ok P (c == 99 && true) _ _ _ k (λ b k. absurd (cc))
    (λ b k. if_ok P (is_start c) _ _ _ k (λ b k. absurd (cc))
    (λ b k. if_ok P (is_ascii_digit c) _ _ _ k (λ b k. absurd (cc))
    (λ b k. if_ok P (c == 34 && true) _ _ _ k (λ b k. absurd (cc))
    (λ b k. if_ok P (c == 39 && true) _ _ _ k (λ b k. absurd (cc))
    (λ b k. if_ok P (is_guard e (c ∷ cs)) _ _ _ k (λ b k. absurd (cc))
    (λ g k. if_ok P (begins_doc (c ∷ cs)) _ _ _ k (λ b k. absurd (cc)) (λ d k. (g, d))))))))))

-- ---- signs

some_shape : (a b : Shape) → (let x : Option Shape = Some a in x) ≡ Some b → a ≡ b
some_shape a b h = cc

side_lexed : (e : Edition) (c : ℕ) (shape : Shape) (cs rest : List ℕ) → side c ≡ Some shape
    → Lexed e shape (c ∷ cs) rest
side_lexed e c shape cs rest h =
    let P = Lexed e shape (c ∷ cs) rest in
    let by = λ (made : Shape) (k : made ≡ shape) (l : Lexed e made (c ∷ cs) rest).
    subst (λ (s : Shape). Lexed e s (c ∷ cs) rest) k l in
    if_ok P (c == 40) _ _ _ h
    (λ b k. by (opening Parenthesis) (some_shape _ _ k) (λ z. cc, ap is_side (same_char c 40 b)))
    (λ b k. if_ok P (c == 41) _ _ _ k
    (λ b k. by (closing Parenthesis) (some_shape _ _ k) (λ z. cc, ap is_side (same_char c 41 b)))
    (λ b k. if_ok P (c == 91) _ _ _ k
    (λ b k. by (opening Bracket) (some_shape _ _ k) (λ z. cc, ap is_side (same_char c 91 b)))
    (λ b k. if_ok P (c == 93) _ _ _ k
    (λ b k. by (closing Bracket) (some_shape _ _ k) (λ z. cc, ap is_side (same_char c 93 b)))
    (λ b k. if_ok P (c == 123) _ _ _ k
    (λ b k. by (opening Brace) (some_shape _ _ k) (λ z. cc, ap is_side (same_char c 123 b)))
    (λ b k. if_ok P (c == 125) _ _ _ k
    (λ b k. by (closing Brace) (some_shape _ _ k) (λ z. cc, ap is_side (same_char c 125 b)))
    (λ b k. absurd (cc)))))))

read_same : (a b : Shape × List ℕ) → (let x : ReadResult = Ok a in x) ≡ Ok b → a ≡ b
read_same a b h = cc

sign_cut_at : (e : Edition) (total c : ℕ) (cs rest : List ℕ) (shape : Shape) (o : Option Shape) → side c ≡ o
    → begins_comment (c ∷ cs) ≡ false → is_guard e (c ∷ cs) ≡ false → read_punctuation total (c ∷ cs) ≡ Ok (shape, rest)
    → Step e (c ∷ cs) rest shape
sign_cut_at e total c cs rest shape (Some made) f n g h =
    let w : read_punctuation total (c ∷ cs) ≡ Ok (made, cs) = rw (read_punctuation, f) refl in
    let same = read_same (made, cs) (shape, rest) (sym w ∙ h) in
    step_of e (c ∷ cs) rest shape made (c ∷ []) (ap (λ (r : Shape × List ℕ). c ∷ r.1) same) (omega arith)
    (sym (ap (λ (r : Shape × List ℕ). r.0) same)) (side_lexed e c made cs rest f)
sign_cut_at e total c cs rest shape None f n g h =
    let w : read_punctuation total (c ∷ cs) ≡ (if is_punct c then Ok (punct_of c (spacing_before cs), cs) else Err
    (fault_at fault_kind.Start total (c ∷ cs))) = rw (read_punctuation, f) refl in
    if_ok (Step e (c ∷ cs) rest shape) (is_punct c) _ _ _ (sym w ∙ h)
    (λ p k. let same = read_same (punct_of c (spacing_before cs), cs) (shape, rest) k in
    let left : cs ≡ rest = ap (λ (r : Shape × List ℕ). r.1) same in
    step_of e (c ∷ cs) rest shape (punct_of c (spacing_before cs)) (c ∷ [])
    (ap (λ (x : List ℕ). c ∷ x) left) (omega arith)
    (sym (ap (λ (r : Shape × List ℕ). r.0) same))
    (record {
      is = ap (λ (x : List ℕ). c ∷ x) left;
      char = p;
      spacing = ap spacing_before left;
      comment = n;
      guard = g;
    }))
    (λ p k. absurd (cc))

shape_cut_at : (e : Edition) (total c : ℕ) (cs rest : List ℕ) (shape : Shape) (o : Option RustTokenResult)
    → read_rust e (c ∷ cs) ≡ o → scalars (c ∷ cs) ≡ true
    → (begins_doc (c ∷ cs) ≡ false → begins_comment (c ∷ cs) ≡ false)
    → or_punctuation total (c ∷ cs) o ≡ Ok (shape, rest) → Step e (c ∷ cs) rest shape
shape_cut_at e total c cs rest shape None f u free h =
    let n = no_guard e c cs f in
    sign_cut_at e total c cs rest shape (side c) refl (free n.1) n.0 h
shape_cut_at e total c cs rest shape (Some (Ok read)) f u free h =
    rust_cut e c cs rest shape u (f ∙ ap (λ (r : Shape × List ℕ). Some (Ok r)) (read_same read (shape, rest) h))
shape_cut_at e total c cs rest shape (Some (Err at)) f u free h = absurd (cc)

pub shape_cut : (e : Edition) (total c : ℕ) (cs rest : List ℕ) (shape : Shape) → scalars (c ∷ cs) ≡ true
    → (begins_doc (c ∷ cs) ≡ false → begins_comment (c ∷ cs) ≡ false)
    → read_shape (Rust e) total (c ∷ cs) ≡ Ok (shape, rest) → Step e (c ∷ cs) rest shape
shape_cut e total c cs rest shape u free h =
    shape_cut_at e total c cs rest shape (read_rust e (c ∷ cs)) refl u free h
