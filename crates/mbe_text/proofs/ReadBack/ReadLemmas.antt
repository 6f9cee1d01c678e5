-- Each token that is written is read.
use Rattle.std.proofs.Common.{◌≡◌, ◌≢◌, ℕ, ◌==◌, ◌<◌, ◌&&◌, Bool, true, false, List, [], ◌∷◌, ◌++◌, refl, sym, ap, ◌∙◌}
use Rattle.std.proofs.Common.{arith, Option, Some, None, Ok, chars, encode_utf8_all, subst}
use Rattle.std.proofs.lemmas.Bool.Decides.{nat_tests}
use Rattle.std.proofs.lemmas.Str.{encodes-chars}
use Rattle.std.specs.Char.{is_ascii_digit}
use Rattle.unicode_ident.proofs.Computing.{unicode_ident}
use Rattle.mbe_tt.specs.declared.span.Edition.{Edition}
use Rattle.mbe_tt.specs.declared.tt.Spacing.{Spacing}
use Rattle.mbe_tt.specs.declared.tt.DelimiterKind.{DelimiterKind}
use Rattle.mbe_tt.specs.declared.tt.DelimiterKind.TheVariants.{Parenthesis, Brace, Bracket, Invisible}
use Rattle.mbe_tt.specs.declared.tt.IdentIsRaw.{IdentIsRaw}
use Rattle.mbe_tt.specs.declared.tt.IdentIsRaw.TheVariants.{Yes, No}
use Rattle.mbe_tt.specs.Trees.Editions.{at_least_2024}
use Rattle.mbe_tt.specs.Trees.Leaf.{Literal}
use Rattle.mbe_tt.specs.Trees.Literals.{raw_prefix, literal_output}
use Rattle.mbe_text.specs.declared.dialect.Dialect.TheVariants.{Rust}
use Rattle.mbe_text.specs.Whitespace.{begins_comment}
use Rattle.mbe_text.specs.Characters.{is_space}
use Rattle.mbe_text.specs.Dialect.{or_punctuation}
use Rattle.mbe_text.specs.LexedTrees.{next_token}
use Rattle.mbe_text.specs.RustTokens.{read_rust, is_guard, RustTokenResult}
use Rattle.mbe_text.specs.Shapes.{Shape, identifier, literal_of, lifetime_of, punct_of, opening, closing}
use Rattle.mbe_text.specs.Punctuation.{read_punctuation, side, spacing_before}
use Rattle.mbe_text.specs.Tokens.{opening_text, closing_text}
use Rattle.mbe_text.specs.Identifiers.{past_identifier}
use Rattle.mbe_text.specs.Laws.Gaps.{is_punct}
use Rattle.mbe_text.specs.Laws.RustTrees.{IsWord, may_be, may_be_lifetime, IsLiteral, IsReadBefore, is_start}
use Rattle.mbe_text.specs.Laws.RustTrees.{begins_literal}
use Rattle.mbe_text.proofs.ReadBack.EndLemmas.{ends_word, space_not_start, start_not_slash, punct_not_start}
use Rattle.mbe_text.proofs.ReadBack.StepLemmas.{taken, read_here, no_blank, no_comment, no_doc, word_read, raw_read}
use Rattle.mbe_text.proofs.ReadBack.StepLemmas.{lifetime_read, raw_lifetime_read, sign_read}
use Rattle.mbe_text.proofs.ReadBack.TextLemmas.{ascii_chars}
use Rattle.mbe_text.proofs.ReadBack.FollowLemmas.{Letters, letters, raw_chars}
use Rattle.mbe_text.proofs.ReadBack.NextLemmas.{IsPunctBefore}

-- the next token of a text, and what is left after it
pub record Reads (e : Edition) (total : ℕ) (cs : List ℕ) (shape : Shape) (rest : List ℕ) : Type 0 where
  pub from : List ℕ
  pub is : next_token (Rust e) total cs ≡ Ok (Some (taken shape from rest))

reads_at : (e : Edition) (total c : ℕ) (cs rest : List ℕ) (shape : Shape) → is_space c ≡ false → (c == 47) ≡ false
    → read_rust e (c ∷ cs) ≡ Some (Ok (shape, rest)) → Reads e total (c ∷ cs) shape rest
reads_at e total c cs rest shape b n r = record {
  from = c ∷ cs;
  is = read_here e total c cs rest shape (no_blank e total c cs b n)
      (ap (λ (o : Option RustTokenResult). or_punctuation total
      (c ∷ cs) o) r);
}

pub reads_same : (e : Edition) (total : ℕ) (cs ds rest : List ℕ) (shape : Shape) → cs ≡ ds
    → Reads e total ds shape rest → Reads e total cs shape rest
reads_same e total cs ds rest shape h r = subst (λ (x : List ℕ). Reads e total x shape rest) (sym h) r

-- ---- words

abbrev name_of : (name : List ℕ) → Letters name → List ℕ
name_of name a = encode_utf8_all (a.first ∷ a.more)

name_is : (name : List ℕ) (a : Letters name) → IsWord name → name_of name a ≡ name
name_is name a w = ap encode_utf8_all (sym a.are) ∙ encodes-chars name w.0

pub word_reads : (e : Edition) (total : ℕ) (r : IdentIsRaw) (name rest : List ℕ) → IsWord name
    → may_be r name ≡ true → ends_word rest ≡ true
    → Reads e total (chars (raw_prefix r ++ name) ++ rest) (identifier name r) rest
word_reads e total No name rest w m h =
    let a = letters name w in
    let p : past_identifier (0 ∷ a.more) ≡ [] = sym (ap past_identifier a.are) ∙ w.2 in
    reads_same e total (chars name ++ rest) (a.first ∷ (a.more ++ rest)) rest (identifier name No) (ap (λ
    (x : List ℕ). x ++ rest) a.are)
    (subst (λ (x : List ℕ). Reads e total (a.first ∷ (a.more ++ rest)) (identifier x No) rest) (name_is name a w)
    (reads_at e total a.first (a.more ++ rest) rest (identifier (name_of name a) No)
    (space_not_start a.first a.starts) (start_not_slash a.first a.starts)
    (word_read e a.first a.more rest a.starts p h)))
word_reads e total Yes name rest w m h =
    let a = letters name w in
    let p : past_identifier (0 ∷ a.more) ≡ [] = sym (ap past_identifier a.are) ∙ w.2 in
    let n = name_is name a w in
    reads_same e total (chars (raw_prefix Yes ++ name) ++ rest) (114 ∷ (35 ∷ (a.first ∷ (a.more ++ rest)))) rest
    (identifier name Yes)
    (ap (λ (x : List ℕ). x ++ rest) (raw_chars name ∙ ap (λ (x : List ℕ). 114 ∷ (35 ∷ x)) a.are))
    (subst (λ (x : List ℕ). Reads e total (114 ∷ (35 ∷ (a.first ∷ (a.more ++ rest)))) (identifier x Yes) rest) n
    (reads_at e total 114 (35 ∷ (a.first ∷ (a.more ++ rest))) rest (identifier (name_of name a) Yes) refl refl
    (raw_read e a.first a.more rest a.starts p h (ap (λ (x : List ℕ). may_be Yes x) n ∙ m))))

pub lifetime_reads : (e : Edition) (total : ℕ) (r : IdentIsRaw) (name rest : List ℕ) → IsWord name
    → may_be r name ≡ true → may_be_lifetime e r ≡ true
    → ends_word rest ≡ true → Reads e total (39 ∷ (chars (raw_prefix r ++ name) ++ rest)) (lifetime_of name r) rest
lifetime_reads e total No name rest w m l h =
    let a = letters name w in
    let p : past_identifier (0 ∷ a.more) ≡ [] = sym (ap past_identifier a.are) ∙ w.2 in
    reads_same e total (39 ∷ (chars name ++ rest)) (39 ∷ (a.first ∷ (a.more ++ rest))) rest (lifetime_of name No)
    (ap (λ (x : List ℕ). 39 ∷ (x ++ rest)) a.are)
    (subst (λ (x : List ℕ). Reads e total (39 ∷ (a.first ∷ (a.more ++ rest))) (lifetime_of x No) rest)
    (name_is name a w)
    (reads_at e total 39 (a.first ∷ (a.more ++ rest)) rest (lifetime_of (name_of name a) No) refl refl
    (lifetime_read e a.first a.more rest a.starts p h)))
lifetime_reads e total Yes name rest w m l h =
    let a = letters name w in
    let p : past_identifier (0 ∷ a.more) ≡ [] = sym (ap past_identifier a.are) ∙ w.2 in
    let n = name_is name a w in
    reads_same e total (39 ∷ (chars (raw_prefix Yes ++ name) ++ rest)) (39 ∷ (114 ∷ (35 ∷ (a.first ∷
    (a.more ++ rest))))) rest (lifetime_of name Yes)
    (ap (λ (x : List ℕ). 39 ∷ (x ++ rest)) (raw_chars name ∙ ap (λ (x : List ℕ). 114 ∷ (35 ∷ x)) a.are))
    (subst (λ (x : List ℕ). Reads e total (39 ∷ (114 ∷ (35 ∷ (a.first ∷ (a.more ++ rest))))) (lifetime_of x Yes) rest) n
    (reads_at e total 39 (114 ∷ (35 ∷ (a.first ∷ (a.more ++ rest)))) rest (lifetime_of (name_of name a) Yes) refl refl
    (raw_lifetime_read e a.first a.more rest a.starts p h (ap (λ (x : List ℕ). may_be Yes x) n ∙ m) l)))

-- ---- literals

literal_not_blank : (c : ℕ) (b : Bool) → is_start c ≡ b → begins_literal (c ∷ []) ≡ true
    → (is_space c ≡ false) × ((c == 47) ≡ false)
literal_not_blank c true e h = (space_not_start c e, start_not_slash c e)
literal_not_blank c false e h = (grind (arith, nat_tests, e, h), grind (arith, nat_tests, e, h))

literal_at : (e : Edition) (total : ℕ) (text rest : List ℕ) (shape : Shape) → begins_literal text ≡ true
    → read_rust e (text ++ rest) ≡ Some (Ok (shape, rest)) → Reads e total (text ++ rest) shape rest
literal_at e total [] rest shape f r = absurd (cc)
literal_at e total (c ∷ cs) rest shape f r =
    let n = literal_not_blank c (is_start c) refl f in reads_at e total c (cs ++ rest) rest shape n.0 n.1 r

pub literal_reads : (e : Edition) (total : ℕ) (l : Literal) (rest : List ℕ) → IsLiteral e l
    → (b : IsReadBefore e l rest)
    → Reads e total (chars (literal_output l) ++ rest) (literal_of b.text b.suffix l.suffix_len l.kind) rest
literal_reads e total l rest lit b =
    literal_at e total (chars (literal_output l)) rest (literal_of b.text b.suffix l.suffix_len l.kind) lit.front b.read

-- ---- signs

sign_at : (e : Edition) (total c : ℕ) (cs rest : List ℕ) (shape : Shape) → is_space c ≡ false
    → begins_comment (c ∷ cs) ≡ false
    → read_rust e (c ∷ cs) ≡ None → read_punctuation total (c ∷ cs) ≡ Ok (shape, rest)
    → Reads e total (c ∷ cs) shape rest
sign_at e total c cs rest shape b n r s = record {
  from = c ∷ cs;
  is = read_here e total c cs rest shape (no_comment e total c cs b n (no_doc c cs n)) (ap (λ
      (o : Option RustTokenResult). or_punctuation total (c ∷ cs) o) r ∙ s);
}

pub record NoLetter (c : ℕ) : Type 0 where
  pub space : is_space c ≡ false
  pub r : (c == 114) ≡ false
  pub b : (c == 98) ≡ false
  pub c_ : (c == 99) ≡ false
  pub digit : is_ascii_digit c ≡ false
  pub quotes : (c == 34) ≡ false
  pub tick : (c == 39) ≡ false

pub punct_no_letter : (c : ℕ) → is_punct c ≡ true → NoLetter c
punct_no_letter c h = record {
  space = grind (arith, nat_tests, h);
  r = grind (arith, nat_tests, h);
  b = grind (arith, nat_tests, h);
  c_ = grind (arith, nat_tests, h);
  digit = grind (arith, nat_tests, h);
  quotes = grind (arith, nat_tests, h);
  tick = grind (arith, nat_tests, h);
}

punct_no_side : (c : ℕ) → is_punct c ≡ true
    → ((c == 40) ≡ false) × ((c == 41) ≡ false) × ((c == 91) ≡ false) × ((c == 93) ≡ false) × ((c == 123) ≡ false) ×
    ((c == 125) ≡ false)
punct_no_side c h = (
  grind (arith, nat_tests, h),
  grind (arith, nat_tests, h),
  grind (arith, nat_tests, h),
  grind (arith, nat_tests, h),
  grind (arith, nat_tests, h),
  grind (arith, nat_tests, h),
)

pub punct_sign : (total c : ℕ) (sp : Spacing) (rest : List ℕ) → is_punct c ≡ true → spacing_before rest ≡ sp
    → read_punctuation total (c ∷ rest) ≡ Ok (punct_of c sp, rest)
punct_sign total c sp rest h e =
    let n = punct_no_side c h in rw (read_punctuation, side, n.0, n.1, n.2, n.3, n.4, n.5, h) (ap (λ (x : Spacing). Ok
    (punct_of c x, rest)) e)

pub punct_reads : (e : Edition) (total c : ℕ) (sp : Spacing) (rest : List ℕ) → is_punct c ≡ true
    → IsPunctBefore e c sp rest
    → Reads e total (c ∷ rest) (punct_of c sp) rest
punct_reads e total c sp rest h b =
    let n = punct_no_letter c h in
    sign_at e total c rest rest (punct_of c sp) n.space b.comment
    (sign_read e c rest (punct_not_start c h) n.r n.b n.c_ n.digit n.quotes n.tick b.guard (no_doc c rest b.comment))
    (punct_sign total c sp rest h b.spacing)

no_and : (b : Bool) → (b && false) ≡ false
no_and true = refl
no_and false = refl

-- a side of a group
side_at : (e : Edition) (total c : ℕ) (shape : Shape) (rest : List ℕ) → NoLetter c → is_start c ≡ false
    → (c == 35) ≡ false → (c == 47) ≡ false
    → c < 128 → read_punctuation total (c ∷ rest) ≡ Ok (shape, rest) → Reads e total (chars (c ∷ []) ++ rest) shape rest
side_at e total c shape rest n s h l small sign =
    let comment : begins_comment (c ∷ rest) ≡ false = rw l refl in
    let guard : is_guard e (c ∷ rest) ≡ false = rw h (no_and (at_least_2024 e)) in
    reads_same e total (chars (c ∷ []) ++ rest) (c ∷ rest) rest shape (ap (λ (x : List ℕ). x ++ rest)
    (ascii_chars c small))
    (sign_at e total c rest rest shape n.space comment
    (sign_read e c rest s n.r n.b n.c_ n.digit n.quotes n.tick guard (no_doc c rest comment)) sign)

letter : (c : ℕ) → is_space c ≡ false → (c == 114) ≡ false → (c == 98) ≡ false → (c == 99) ≡ false
    → is_ascii_digit c ≡ false → (c == 34) ≡ false
    → (c == 39) ≡ false → NoLetter c
letter c a b d e f g h = record { space = a; r = b; b = d; c_ = e; digit = f; quotes = g; tick = h }

pub opening_reads : (e : Edition) (total : ℕ) (k : DelimiterKind) (rest : List ℕ) → k ≢ Invisible
    → Reads e total (chars (opening_text k) ++ rest) (opening k) rest
unfolding unicode_ident
opening_reads e total Parenthesis rest n =
    side_at e total 40 (opening Parenthesis) rest (letter 40 refl refl refl refl refl refl refl) refl refl refl
    (omega arith) refl
opening_reads e total Bracket rest n =
    side_at e total 91 (opening Bracket) rest (letter 91 refl refl refl refl refl refl refl) refl refl refl
    (omega arith) refl
opening_reads e total Brace rest n =
    side_at e total 123 (opening Brace) rest (letter 123 refl refl refl refl refl refl refl) refl refl refl
    (omega arith) refl
opening_reads e total Invisible rest n = absurd (n refl)

pub closing_reads : (e : Edition) (total : ℕ) (k : DelimiterKind) (rest : List ℕ) → k ≢ Invisible
    → Reads e total (chars (closing_text k) ++ rest) (closing k) rest
unfolding unicode_ident
closing_reads e total Parenthesis rest n =
    side_at e total 41 (closing Parenthesis) rest (letter 41 refl refl refl refl refl refl refl) refl refl refl
    (omega arith) refl
closing_reads e total Bracket rest n =
    side_at e total 93 (closing Bracket) rest (letter 93 refl refl refl refl refl refl refl) refl refl refl
    (omega arith) refl
closing_reads e total Brace rest n =
    side_at e total 125 (closing Brace) rest (letter 125 refl refl refl refl refl refl refl) refl refl refl
    (omega arith) refl
closing_reads e total Invisible rest n = absurd (n refl)
