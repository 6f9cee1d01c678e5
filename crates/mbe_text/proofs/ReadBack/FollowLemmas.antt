-- What a token is written before ends it.
use Rattle.std.proofs.Common.{◌≡◌, ◌≢◌, ℕ, ◌==◌, ◌<◌, not, ◌&&◌, Bool, true, false, List, [], ◌∷◌, ◌++◌, refl, sym, ap}
use Rattle.std.proofs.Common.{◌∙◌, arith, codes, Option, Some, None, IsUtf8, chars, encode_utf8, subst}
use Rattle.std.proofs.lemmas.Bool.Decides.{nat_tests}
use Rattle.std.proofs.lemmas.Str.{chars-append, IsUtf8-append, encode_ascii}
use Rattle.std.specs.List.{list_any}
use Rattle.std.specs.Prelude.{map}
use Rattle.unicode_ident.proofs.IdentLemmas.{is_xid_continue-ascii}
use Rattle.mbe_tt.specs.declared.span.Edition.{Edition}
use Rattle.mbe_tt.specs.declared.tt.Punct.{Punct}
use Rattle.mbe_tt.specs.declared.tt.Spacing.{Spacing}
use Rattle.mbe_tt.specs.declared.tt.Spacing.TheVariants.{Alone}
use Rattle.mbe_tt.specs.declared.tt.DelimiterKind.{DelimiterKind}
use Rattle.mbe_tt.specs.declared.tt.DelimiterKind.TheVariants.{Parenthesis, Brace, Bracket, Invisible}
use Rattle.mbe_tt.specs.declared.tt.IdentIsRaw.TheVariants.{Yes, No}
use Rattle.mbe_tt.specs.Trees.Leaf.{Ident, literal, punct, ident, is_text}
use Rattle.mbe_tt.specs.Trees.Literals.{raw_prefix, literal_output}
use Rattle.mbe_tt.specs.Trees.Tree.{FlatToken, token, opening, closing}
use Rattle.mbe_text.specs.RustText.Gaps.{separates_word, merges_with_word, separates_literal, merges_with_literal}
use Rattle.mbe_text.specs.RustText.Gaps.{separates_punct, may_touch_punct, is_one_of, keywords, indent, is_adjacent}
use Rattle.mbe_text.specs.RustText.Gaps.{is_adjacent_to_next, has_same_span, is_colon, is_line_start}
use Rattle.mbe_text.specs.RustText.DocComments.{DocComment}
use Rattle.mbe_text.specs.RustText.Printer.{PrinterState, word, with_punct, with_comment, comment_text, name_text}
use Rattle.mbe_tt.specs.declared.span.Span.{Span}
use Rattle.mbe_text.specs.Characters.{begins_with}
use Rattle.mbe_text.specs.Tokens.{opening_text, closing_text}
use Rattle.mbe_text.specs.Laws.Gaps.{before, is_punct}
use Rattle.mbe_text.specs.Laws.RustTrees.{next_place, more_tokens, AreRust, IsWord, IsIdent, IsSign, IsPunct, is_start}
use Rattle.mbe_text.specs.Laws.RustTrees.{begins_word, begins_literal}
use Rattle.mbe_text.proofs.ReadBack.EndLemmas.{begins_gap, ends_word, ends_punct, gap_ends_word, punct_not_continue}
use Rattle.mbe_text.proofs.ReadBack.EndLemmas.{punct_not_start, punct_small, r_is_start, is_not, quotes_not_start}
use Rattle.mbe_text.proofs.ReadBack.CommentLemmas.{comment_next}
use Rattle.mbe_text.proofs.ReadBack.TextLemmas.{after, ahead, next_written, token_or_comment, the_gap, gap_of}
use Rattle.mbe_text.proofs.ReadBack.TextLemmas.{ascii_utf8, ascii_chars, word_text}

-- ---- what a token begins with

abbrev pub is_side : ℕ → Bool
is_side c = is_one_of c (codes "()[]{}")

pub record Is (c : ℕ) (text : List ℕ) : Type 0 where
  pub utf8 : IsUtf8 text
  pub one : chars text ≡ c ∷ []

one_of : (c : ℕ) → c < 128 → Is c (c ∷ [])
one_of c small = record { utf8 = ascii_utf8 c small; one = ascii_chars c small }

-- a side of a group is one character
pub record IsSide (text : List ℕ) : Type 0 where
  pub char : ℕ
  pub side : is_side char ≡ true
  pub is : Is char text

pub opening_is : (k : DelimiterKind) → k ≢ Invisible → IsSide (opening_text k)
opening_is Parenthesis h = record { char = 40; side = refl; is = one_of 40 (omega arith) }
opening_is Bracket h = record { char = 91; side = refl; is = one_of 91 (omega arith) }
opening_is Brace h = record { char = 123; side = refl; is = one_of 123 (omega arith) }
opening_is Invisible h = absurd (h refl)

pub closing_is : (k : DelimiterKind) → k ≢ Invisible → IsSide (closing_text k)
closing_is Parenthesis h = record { char = 41; side = refl; is = one_of 41 (omega arith) }
closing_is Bracket h = record { char = 93; side = refl; is = one_of 93 (omega arith) }
closing_is Brace h = record { char = 125; side = refl; is = one_of 125 (omega arith) }
closing_is Invisible h = absurd (h refl)

-- so is a punct
pub punct_is : (c : ℕ) → c < 128 → Is c (encode_utf8 c)
punct_is c small = subst (Is c) (sym (encode_ascii c small)) (one_of c small)

pub sign_small : (e : Edition) (p : Punct) (ts : List FlatToken) (b : Bool) → (p.char == 39) ≡ b → IsSign b e p ts
    → p.char < 128
sign_small e p ts true h s = grind (arith, nat_tests, h)
sign_small e p ts false h s = punct_small p.char s.0

pub is_sign : (e : Edition) (p : Punct) (ts : List FlatToken) → IsPunct e p ts → Is p.char (encode_utf8 p.char)
is_sign e p ts h = punct_is p.char (sign_small e p ts (p.char == 39) refl h)

-- a word is its first character and more
pub record Letters (name : List ℕ) : Type 0 where
  pub first : ℕ
  pub more : List ℕ
  pub are : chars name ≡ first ∷ more
  pub starts : is_start first ≡ true

letters_of : (name cs : List ℕ) → chars name ≡ cs → begins_word cs ≡ true → Letters name
letters_of name [] e h = absurd (cc)
letters_of name (c ∷ cs) e h = record { first = c; more = cs; are = e; starts = h }

pub letters : (name : List ℕ) → IsWord name → Letters name
letters name w = letters_of name (chars name) refl w.1

pub raw_chars : (name : List ℕ) → chars (codes "r#" ++ name) ≡ 114 ∷ (35 ∷ chars name)
raw_chars name =
    chars-append (codes "r#") name (IsUtf8-append (114 ∷ []) (35 ∷ []) (ascii_utf8 114 (omega arith)) (ascii_utf8 35
    (omega arith)))
    ∙ ap (λ (x : List ℕ). x ++ chars name) (chars-append (114 ∷ []) (35 ∷ []) (ascii_utf8 114 (omega arith))
    ∙ (ap (λ (x : List ℕ). x ++ chars (35 ∷ [])) (ascii_chars 114 (omega arith))
    ∙ ap (λ (x : List ℕ). 114 ∷ x) (ascii_chars 35 (omega arith))))

-- ---- gaps

gapped : (P : List ℕ → Bool) (line apart beside : Bool) (depth : ℕ) (cs : List ℕ) → ((xs : List ℕ)
    → begins_gap xs ≡ true → P xs ≡ true)
    → ((apart && not beside) ≡ false → P cs ≡ true) → P (before line apart beside depth ++ cs) ≡ true
gapped P true apart beside depth cs g k = g (10 ∷ (indent depth ++ cs)) refl
gapped P false true true depth cs g k = k refl
gapped P false true false depth cs g k = g (32 ∷ cs) refl
gapped P false false beside depth cs g k = k refl

-- a property of gaps is one of a text if it is one of the next token's where no gap is before it
pub follows : (P : List ℕ → Bool) (t : FlatToken) (ts : List FlatToken) (s : PrinterState) → ((xs : List ℕ)
    → begins_gap xs ≡ true → P xs ≡ true)
    → (((next_written t ts s).gap.apart && not (next_written t ts s).gap.beside) ≡ false
    → P (chars (next_written t ts s).text ++ ahead (next_written t ts s).more ts (next_written t ts s).state) ≡ true)
    → P (ahead 0 (t ∷ ts) s) ≡ true
follows P t ts s g k =
    let w = next_written t ts s in
    gapped P w.gap.line w.gap.apart w.gap.beside w.depth (chars w.text ++ ahead w.more ts w.state) g k

on_a_line : (P : List ℕ → Bool) (started : Bool) (depth : ℕ) (cs : List ℕ) → ((xs : List ℕ) → begins_gap xs ≡ true
    → P xs ≡ true)
    → started ≡ false → P (before (not started) false false depth ++ cs) ≡ true
on_a_line P true depth cs g h = absurd (cc)
on_a_line P false depth cs g h = g (10 ∷ (indent depth ++ cs)) refl

-- A comment begins a line, but at the start of one.
pub follows_punct : (P : List ℕ → Bool) (p : Punct) (ts : List FlatToken) (s : PrinterState) → ((xs : List ℕ)
    → begins_gap xs ≡ true → P xs ≡ true)
    → is_line_start s.last ≡ false
    → (((the_gap (token (punct p)) ts s).apart && not (the_gap (token (punct p)) ts s).beside) ≡ false
    → P (chars (encode_utf8 p.char) ++ ahead 0 ts (after (token (punct p)) ts s)) ≡ true)
    → P (ahead 0 (token (punct p) ∷ ts) s) ≡ true
follows_punct P p ts s g begun k = by (comment_next p ts s) refl
  where
    here : Option DocComment → Type 0
    here o =
        P (gap_of (token_or_comment o (token (punct p)) ts s).gap (token_or_comment o (token (punct p)) ts s).depth
        ++ (chars (token_or_comment o (token (punct p)) ts s).text ++ ahead
        (token_or_comment o (token (punct p)) ts s).more ts (token_or_comment o (token (punct p)) ts s).state)) ≡ true

    by : (o : Option DocComment) → comment_next p ts s ≡ o → P (ahead 0 (token (punct p) ∷ ts) s) ≡ true
    by None e =
        let t = the_gap (token (punct p)) ts s in
        subst here (sym e) (gapped P t.line t.apart t.beside s.depth (chars (encode_utf8 p.char) ++ ahead 0 ts
        (after (token (punct p)) ts s)) g k)
    by (Some c) e =
        subst here (sym e) (on_a_line P (is_line_start s.last) s.depth (chars (comment_text c s.depth) ++ ahead
        (more_tokens c.is_inner) ts (with_comment s c)) g begun)

-- tokens that are to be apart and may not stay side by side are kept apart
pub never : (a b c : Bool) → a ≡ true → c ≡ false → (a && not (b && c)) ≡ false → ⊥
never true true true p q h = absurd (cc)
never true true false p q h = absurd (cc)
never true false c p q h = absurd (cc)
never false b c p q h = absurd (cc)

-- ---- after a word

pub record WordLike (s : PrinterState) : Type 0 where
  pub words : separates_word s.last ≡ true
  pub joined_words : not (merges_with_word s.last) ≡ false
  pub literals : separates_literal s.last ≡ true
  pub joined_literals : not (merges_with_literal s.last) ≡ false
  pub puncts : (same_span : Bool) (c : ℕ) (sp : Spacing) → is_one_of c (codes "#'") ≡ true
      → separates_punct s.last same_span c sp ≡ true
  pub stay : (c : ℕ) (b : Bool) → is_one_of c (codes "#'") ≡ true → may_touch_punct s.last c b ≡ false
  pub begun : is_line_start s.last ≡ false

marks : (c : ℕ) → is_one_of c (codes "#'") ≡ true → not (is_one_of c (codes ",;?.:!")) ≡ true
marks c h = grind (arith, nat_tests, h)

word_like_of : (s : PrinterState) (i : Ident) (b : Bool) → list_any (is_text (name_text i.sym)) (map codes keywords) ≡ b
    → WordLike (word s i)
word_like_of s i true e = record {
  words = rw e refl;
  joined_words = rw e refl;
  literals = rw e refl;
  joined_literals = rw e refl;
  puncts = λ o c sp h. rw e refl;
  stay = λ c b h. rw e (rw h refl);
  begun = rw e refl;
}
word_like_of s i false e = record {
  words = rw e refl;
  joined_words = rw e refl;
  literals = rw e refl;
  joined_literals = rw e refl;
  puncts = λ o c sp h. rw e (marks c h);
  stay = λ c b h. rw e (rw h refl);
  begun = rw e refl;
}

pub word_like : (s : PrinterState) (i : Ident) → WordLike (word s i)
word_like s i = word_like_of s i (list_any (is_text (name_text i.sym)) (map codes keywords)) refl

pub side_ends_word : (c : ℕ) (cs : List ℕ) → is_side c ≡ true → ends_word (c ∷ cs) ≡ true
side_ends_word c cs h = let a = is_xid_continue-ascii c (side_small c h) in grind (arith, nat_tests, a, h)
  where
    side_small : (c : ℕ) → is_side c ≡ true → c < 128
    side_small c h = grind (arith, nat_tests, h)

punct_ends_word : (c : ℕ) (cs : List ℕ) → is_punct c ≡ true → is_one_of c (codes "#'") ≡ false
    → ends_word (c ∷ cs) ≡ true
punct_ends_word c cs p h = let n = punct_not_continue c p in grind (arith, nat_tests, n, p, h)

-- a text that is one character
pub fronted : (P : List ℕ → Bool) (c : ℕ) (text rest : List ℕ) → Is c text → P (c ∷ rest) ≡ true
    → P (chars text ++ rest) ≡ true
fronted P c text rest is h = ap (λ (x : List ℕ). P (x ++ rest)) is.one ∙ h

not_tick : (c : ℕ) → (c == 39) ≡ true → is_one_of c (codes "#'") ≡ true
not_tick c h = grind (arith, nat_tests, h)

mark_is : (e : Edition) (p : Punct) (ts : List FlatToken) (b : Bool) → (p.char == 39) ≡ b → IsSign b e p ts
    → is_one_of p.char (codes "#'") ≡ false → is_punct p.char ≡ true
mark_is e p ts true h s n = absurd (let y = not_tick p.char h in let z : true ≡ false = sym y ∙ n in cc)
mark_is e p ts false h s n = s.0

word_before_punct : (e : Edition) (s : PrinterState) (p : Punct) (ts : List FlatToken) (rest : List ℕ)
    (same_span b side : Bool) (m : Bool) → is_one_of p.char (codes "#'") ≡ m
    → WordLike s → IsPunct e p ts → (separates_punct s.last same_span p.char p.spacing && not
    (b && may_touch_punct s.last p.char side)) ≡ false
    → ends_word (chars (encode_utf8 p.char) ++ rest) ≡ true
word_before_punct e s p ts rest o b side true m w h k = absurd (never _ b _ (w.puncts o p.char p.spacing m)
    (w.stay p.char side m) k)
word_before_punct e s p ts rest o b side false m w h k =
    fronted ends_word p.char (encode_utf8 p.char) rest (is_sign e p ts h)
    (punct_ends_word p.char rest (mark_is e p ts (p.char == 39) refl h m) m)

pub word_ends : (e : Edition) (ts : List FlatToken) (s : PrinterState) → WordLike s → AreRust e ts
    → ends_word (ahead 0 ts s) ≡ true
word_ends e [] s w h = refl
word_ends e (token (ident i) ∷ ts) s w h =
    follows ends_word (token (ident i)) ts s gap_ends_word (λ k. absurd (never _ _ _ w.words w.joined_words k))
word_ends e (token (literal l) ∷ ts) s w h =
    follows ends_word (token (literal l)) ts s gap_ends_word (λ k. absurd (never _ _ _ w.literals w.joined_literals k))
word_ends e (token (punct p) ∷ ts) s w h =
    follows_punct ends_word p ts s gap_ends_word w.begun (λ k.
    word_before_punct e s p ts (ahead 0 ts (after (token (punct p)) ts s)) (has_same_span s.token_span p.span)
    (is_adjacent s.token_span p.span)
    (is_adjacent_to_next p.span (next_place ts)) (is_one_of p.char (codes "#'")) refl w h.0 k)
word_ends e (opening d ∷ ts) s w h =
    let o = opening_is d.kind h.0 in
    follows ends_word (opening d) ts s gap_ends_word (λ k. fronted ends_word o.char (opening_text d.kind) (ahead 0 ts
    (after (opening d) ts s)) o.is
    (side_ends_word o.char (ahead 0 ts (after (opening d) ts s)) o.side))
word_ends e (closing d ∷ ts) s w h =
    let o = closing_is d.kind h.0 in
    follows ends_word (closing d) ts s gap_ends_word (λ k. fronted ends_word o.char (closing_text d.kind) (ahead 0 ts
    (after (closing d) ts s)) o.is
    (side_ends_word o.char (ahead 0 ts (after (closing d) ts s)) o.side))

-- ---- after a punct that is alone

-- no punct follows it, and no string follows a `#`
abbrev pub ends_alone : ℕ → List ℕ → Bool
ends_alone c rest = ends_punct rest && not (c == 35 && begins_with (codes "\"") rest)

pub record AloneLike (c : ℕ) (s : PrinterState) : Type 0 where
  pub puncts : (same_span : Bool) (d : ℕ) (sp : Spacing) → separates_punct s.last same_span d sp ≡ true
  pub stay : (d : ℕ) (b : Bool) → may_touch_punct s.last d b ≡ (d == 39)
  pub literals : (c == 35) ≡ true → separates_literal s.last ≡ true
  pub joined_literals : (c == 35) ≡ true → not (merges_with_literal s.last) ≡ false
  pub begun : is_line_start s.last ≡ false

hash_is_alone : (c : ℕ) → (c == 35) ≡ true → ((c == 59) ≡ false) × ((c == 58) ≡ false) × (not (c == 46) ≡ true)
hash_is_alone c h = (grind (arith, nat_tests, h), grind (arith, nat_tests, h), grind (arith, nat_tests, h))

alone_like_of : (c : ℕ) (token_span : Span) (next : Option Span) (s : PrinterState) (semicolon colons : Bool)
    → (c == 59) ≡ semicolon
    → (c == 58 && is_colon s.last) ≡ colons → AloneLike c (with_punct s
    (record { char = c; spacing = Alone; span = token_span }) next)
alone_like_of c token_span next s true colons e f = record {
  puncts = λ o d sp. rw e refl;
  stay = λ d b. rw e refl;
  literals = λ h. absurd (let z : true ≡ false = sym e ∙ (hash_is_alone c h).0 in cc);
  joined_literals = λ h. absurd (let z : true ≡ false = sym e ∙ (hash_is_alone c h).0 in cc);
  begun = rw e refl;
}
alone_like_of c token_span next s false true e f = record {
  puncts = λ o d sp. rw (e, f) refl;
  stay = λ d b. rw (e, f) refl;
  literals = λ h. absurd (let z : true ≡ false = sym f ∙ ap (λ (b : Bool). b && is_colon s.last)
      (hash_is_alone c h).1 in cc);
  joined_literals = λ h. absurd (let z : true ≡ false = sym f ∙ ap (λ (b : Bool). b && is_colon s.last)
      (hash_is_alone c h).1 in cc);
  begun = rw (e, f) refl;
}
alone_like_of c token_span next s false false e f = record {
  puncts = λ o d sp. rw (e, f) refl;
  stay = λ d b. rw (e, f) refl;
  literals = λ h. rw (e, f) (hash_is_alone c h).2;
  joined_literals = λ h. rw (e, f) (ap not h);
  begun = rw (e, f) refl;
}

pub alone_like : (c : ℕ) (token_span : Span) (next : Option Span) (s : PrinterState)
    → AloneLike c (with_punct s (record { char = c; spacing = Alone; span = token_span }) next)
alone_like c token_span next s = alone_like_of c token_span next s (c == 59) (c == 58 && is_colon s.last) refl refl

gap_ends_alone : (c : ℕ) (cs : List ℕ) → begins_gap cs ≡ true → ends_alone c cs ≡ true
gap_ends_alone c [] h = grind (arith, nat_tests)
gap_ends_alone c (d ∷ cs) h = grind (arith, nat_tests, h)

start_not_punct : (c : ℕ) (b : Bool) → is_punct c ≡ b → is_start c ≡ true → is_punct c ≡ false
start_not_punct c false e h = e
start_not_punct c true e h = absurd (let z : true ≡ false = sym h ∙ punct_not_start c e in cc)

start_ends_alone : (c d : ℕ) (cs : List ℕ) → is_start d ≡ true → ends_alone c (d ∷ cs) ≡ true
start_ends_alone c d cs h =
    let n = start_not_punct d (is_punct d) refl h in
    let q = is_not d 34 quotes_not_start h in grind (arith, nat_tests, n, q)

side_ends_alone : (c d : ℕ) (cs : List ℕ) → is_side d ≡ true → ends_alone c (d ∷ cs) ≡ true
side_ends_alone c d cs h = grind (arith, nat_tests, h)

tick_ends_alone : (c d : ℕ) (cs : List ℕ) → (d == 39) ≡ true → ends_alone c (d ∷ cs) ≡ true
tick_ends_alone c d cs h = grind (arith, nat_tests, h)

-- a literal's first character
abbrev is_literal_start : ℕ → Bool
is_literal_start c = begins_literal (c ∷ [])

literal_not_punct : (d : ℕ) (b : Bool) → is_start d ≡ b → is_literal_start d ≡ true → is_punct d ≡ false
literal_not_punct d true e h = start_not_punct d (is_punct d) refl e
literal_not_punct d false e h = grind (arith, nat_tests, e, h)

literal_ends_alone : (c : ℕ) (text rest : List ℕ) → (c == 35) ≡ false → begins_literal text ≡ true
    → ends_alone c (text ++ rest) ≡ true
literal_ends_alone c [] rest h f = absurd (cc)
literal_ends_alone c (d ∷ ds) rest h f = let n = literal_not_punct d (is_start d) refl f in grind
    (arith, nat_tests, h, n)

alone_before_literal : (c : ℕ) (b : Bool) (s : PrinterState) (text rest : List ℕ) (side : Bool) → (c == 35) ≡ b
    → AloneLike c s → begins_literal text ≡ true
    → (separates_literal s.last && not (side && not (merges_with_literal s.last))) ≡ false → ends_alone c (text ++ rest)
    ≡ true
alone_before_literal c true s text rest side e w f k = absurd (never _ side _ (w.literals e) (w.joined_literals e) k)
alone_before_literal c false s text rest side e w f k = literal_ends_alone c text rest e f

alone_before_punct : (e : Edition) (c : ℕ) (s : PrinterState) (p : Punct) (ts : List FlatToken) (rest : List ℕ)
    (same_span b side : Bool) (m : Bool) → (p.char == 39) ≡ m
    → AloneLike c s → IsPunct e p ts → (separates_punct s.last same_span p.char p.spacing && not
    (b && may_touch_punct s.last p.char side)) ≡ false
    → ends_alone c (chars (encode_utf8 p.char) ++ rest) ≡ true
alone_before_punct e c s p ts rest o b side false m w h k = absurd (never _ b _ (w.puncts o p.char p.spacing)
    (w.stay p.char side ∙ m) k)
alone_before_punct e c s p ts rest o b side true m w h k =
    fronted (ends_alone c) p.char (encode_utf8 p.char) rest (is_sign e p ts h) (tick_ends_alone c p.char rest m)

-- the first character of an identifier as it is written
pub word_front : (P : List ℕ → Bool) (i : Ident) (rest : List ℕ) → IsIdent i → ((c : ℕ) (cs : List ℕ)
    → is_start c ≡ true → P (c ∷ cs) ≡ true)
    → P (chars (raw_prefix i.is_raw ++ name_text i.sym) ++ rest) ≡ true
word_front P i rest w k = elim i.is_raw as (λ r. P (chars (raw_prefix r ++ name_text i.sym) ++ rest) ≡ true) [
  | No ↦ let a = letters i.sym w.0 in ap (λ (x : List ℕ). P (x ++ rest)) (ap chars (word_text i.sym w.0) ∙ a.are)
      ∙ k a.first (a.more ++ rest) a.starts
  | Yes ↦ ap (λ (x : List ℕ). P (x ++ rest)) (raw_chars (name_text i.sym))
      ∙ k 114 (35 ∷ (chars (name_text i.sym) ++ rest)) r_is_start
]

pub alone_ends : (e : Edition) (c : ℕ) (ts : List FlatToken) (s : PrinterState) → AloneLike c s → AreRust e ts
    → ends_alone c (ahead 0 ts s) ≡ true
alone_ends e c [] s w h = gap_ends_alone c [] refl
alone_ends e c (token (ident i) ∷ ts) s w h =
    follows (ends_alone c) (token (ident i)) ts s (gap_ends_alone c) (λ k.
    word_front (ends_alone c) i (ahead 0 ts (after (token (ident i)) ts s)) h.0 (start_ends_alone c))
alone_ends e c (token (literal l) ∷ ts) s w h =
    follows (ends_alone c) (token (literal l)) ts s (gap_ends_alone c) (λ k.
    alone_before_literal c (c == 35) s (chars (literal_output l)) (ahead 0 ts (after (token (literal l)) ts s))
    (is_adjacent s.token_span l.span) refl w h.0.0.1 k)
alone_ends e c (token (punct p) ∷ ts) s w h =
    follows_punct (ends_alone c) p ts s (gap_ends_alone c) w.begun (λ k.
    alone_before_punct e c s p ts (ahead 0 ts (after (token (punct p)) ts s)) (has_same_span s.token_span p.span)
    (is_adjacent s.token_span p.span)
    (is_adjacent_to_next p.span (next_place ts)) (p.char == 39) refl w h.0 k)
alone_ends e c (opening d ∷ ts) s w h =
    let o = opening_is d.kind h.0 in
    follows (ends_alone c) (opening d) ts s (gap_ends_alone c) (λ k. fronted (ends_alone c) o.char
    (opening_text d.kind) (ahead 0 ts (after (opening d) ts s)) o.is
    (side_ends_alone c o.char (ahead 0 ts (after (opening d) ts s)) o.side))
alone_ends e c (closing d ∷ ts) s w h =
    let o = closing_is d.kind h.0 in
    follows (ends_alone c) (closing d) ts s (gap_ends_alone c) (λ k. fronted (ends_alone c) o.char
    (closing_text d.kind) (ahead 0 ts (after (closing d) ts s)) o.is
    (side_ends_alone c o.char (ahead 0 ts (after (closing d) ts s)) o.side))
