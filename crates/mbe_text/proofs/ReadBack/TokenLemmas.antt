-- The flat tokens that the lexer makes of a text, one after another, and what comes next.
use Rattle.std.proofs.Common.{◌≡◌, ℕ, ◌==◌, ◌<◌, ◌≤◌, ◌&&◌, nat_lt, Bool, true, false, List, [], ◌∷◌, ◌++◌, length}
use Rattle.std.proofs.Common.{drop, refl, sym, ap, ◌∙◌, arith, codes, Option, Some, None, Result, Ok, Err}
use Rattle.std.proofs.Common.{length-append, encode_utf8, encode_utf8_all, subst}
use Rattle.std.proofs.Math.Utf8.{scalars}
use Rattle.std.proofs.lemmas.Bool.Decides.{nat_tests}
use Rattle.std.proofs.lemmas.Str.{length-encode, len_utf8_bounds, encodes-append}
use Rattle.unicode_ident.proofs.IdentLemmas.{is_xid_start-ascii}
use Rattle.mbe_tt.specs.Trees.Leaf.{literal, punct}
use Rattle.mbe_tt.specs.Trees.Tree.{FlatToken, token, flat}
use Rattle.mbe_tt.specs.Trees.Tree as tree
use Rattle.mbe_tt.specs.Trees.Top.{no_span}
use Rattle.mbe_tt.specs.declared.span.Edition.{Edition}
use Rattle.mbe_tt.specs.declared.span.Span.{Span}
use Rattle.mbe_tt.specs.declared.tt.Punct.{Punct}
use Rattle.mbe_tt.specs.declared.tt.Spacing.{Spacing}
use Rattle.mbe_tt.specs.declared.tt.Spacing.TheVariants.{Alone}
use Rattle.mbe_text.specs.declared.dialect.Dialect.TheVariants.{Rust}
use Rattle.mbe_text.specs.declared.scanner.LexFault.{LexFault}
use Rattle.mbe_text.specs.Whitespace.{begins_comment}
use Rattle.mbe_text.specs.Characters.{begins_with, offset}
use Rattle.mbe_text.specs.Dialect.{read_shape, or_punctuation}
use Rattle.mbe_text.specs.LexedTrees.{ScannedToken, next_token, scanned_span}
use Rattle.mbe_text.specs.RustTokens.{read_rust, is_guard, guard_fault, begins_doc}
use Rattle.mbe_text.specs.Shapes.{Shape, ReadResult, identifier, literal_of, punct_of, lifetime_of, doc_of, opening}
use Rattle.mbe_text.specs.Shapes.{closing}
use Rattle.mbe_text.specs.Punctuation.{spacing_before}
use Rattle.mbe_text.specs.Tokens.{bytes_of, punct_leaf, ident_leaf, lifetime_trees, doc_trees}
use Rattle.mbe_text.specs.Trivia.{past_trivia}
use Rattle.mbe_text.proofs.TailLemmas.{Tail, on}
use Rattle.mbe_text.specs.Laws.Gaps.{is_punct}
use Rattle.mbe_text.specs.Laws.RustTrees.{is_start, begins_word, may_follow_dot}
use Rattle.mbe_text.proofs.ReadBack.EndLemmas.{space_not_start, start_not_slash, punct_not_start, quote_not_start}
use Rattle.mbe_text.proofs.ReadBack.EndLemmas.{is_not}
use Rattle.mbe_text.proofs.ReadBack.StepLemmas.{no_blank, no_comment, no_doc, sign_read}
use Rattle.mbe_text.proofs.ReadBack.FollowLemmas.{is_side}
use Rattle.mbe_text.proofs.ReadBack.ReadLemmas.{punct_no_letter, punct_sign}
use Rattle.mbe_text.proofs.ReadBack.LiteralLemmas.{the_literal, scalars_parts}
use Rattle.mbe_text.proofs.ReadBack.ShapeLemmas.{Lexed, LexedPunct, Step, shape_cut}
use Rattle.mbe_text.proofs.ReadBack.BlankTailLemmas.{blanks_cut, tail_shorter}

-- ---- flat tokens

-- without the spans of the other side of a group
abbrev pub hidden : FlatToken → FlatToken
hidden (token l) = token l
hidden (tree.opening d) = tree.opening (record d { close = no_span })
hidden (tree.closing d) = tree.closing (record d { opening = no_span; close = no_span })

abbrev pub hidden_all : List FlatToken → List FlatToken
hidden_all [] = []
hidden_all (t ∷ ts) = hidden t ∷ hidden_all ts

-- what one token of the text is
abbrev pub tokens_of : Span → Shape → List FlatToken
tokens_of span (identifier name r) = token (ident_leaf span name r) ∷ []
tokens_of span (literal_of text suffix n kind) = token (literal (the_literal text suffix n kind span)) ∷ []
tokens_of span (punct_of c sp) = token (punct_leaf span c sp) ∷ []
tokens_of span (lifetime_of name r) = hidden_all (flat (lifetime_trees span name r))
tokens_of span (doc_of text inner) = hidden_all (flat (doc_trees span text inner))
tokens_of span (opening k) = tree.opening (record { opening = span; close = no_span; kind = k }) ∷ []
tokens_of span (closing k) = tree.closing (record { opening = no_span; close = no_span; kind = k }) ∷ []

-- those of a text that is lexed to its end
pub data Tokens (e : Edition) (file total : ℕ) : List ℕ → List FlatToken → Type 0 where
  last : (cs : List ℕ) → next_token (Rust e) total cs ≡ Ok None → Tokens e file total cs []
  more : (cs : List ℕ) (t : ScannedToken) (ts : List FlatToken) → next_token (Rust e) total cs ≡ Ok (Some t)
      → Tokens e file total t.rest ts
      → Tokens e file total cs (tokens_of (scanned_span file total t) t.shape ++ ts)

-- ---- one of them

pub record Next (e : Edition) (total : ℕ) (cs : List ℕ) (t : ScannedToken) : Type 0 where
  pub whitespace : Tail cs t.from
  pub past : past_trivia (Rust e) total (length cs) cs ≡ Ok t.from
  pub read : read_shape (Rust e) total t.from ≡ Ok (t.shape, t.rest)
  pub step : Step e t.from t.rest t.shape

abbrev NextIs : Type 0
NextIs = Result (Option ScannedToken) LexFault

taken_same : (a b : ScannedToken) → (let x : NextIs = Ok (Some a) in x) ≡ Ok (Some b) → a ≡ b
taken_same a b h = cc

next_read : (e : Edition) (total : ℕ) (cs : List ℕ) (c : ℕ) (from : List ℕ) (t : ScannedToken) (r : ReadResult)
    → past_trivia (Rust e) total (length cs) cs ≡ Ok (c ∷ from) → read_shape (Rust e) total (c ∷ from) ≡ r
    → scalars cs ≡ true → next_token (Rust e) total cs ≡ Ok (Some t) → Next e total cs t
next_read e total cs c from t (Err fault) p q u h =
    absurd (let w : next_token (Rust e) total cs ≡ Err fault = rw (next_token, p, q) refl in
    let z : Err fault ≡ Ok (Some t) = sym w ∙ h in cc)
next_read e total cs c from t (Ok read) p q u h =
    let made : ScannedToken = record { shape = read.0; from = c ∷ from; rest = read.1 } in
    let w : next_token (Rust e) total cs ≡ Ok (Some made) = rw (next_token, p, q) refl in
    let same = taken_same made t (sym w ∙ h) in
    let b = blanks_cut e total (length cs) cs c from (omega arith) p in
    let right = (scalars_parts b.tail.own (c ∷ from) (ap scalars (sym b.tail.is) ∙ u)).1 in
    let n : Next e total cs made = record {
      whitespace = b.tail;
      past = p;
      read = q;
      step = shape_cut e total c from read.1 read.0 right b.free q;
    } in subst (λ (x : ScannedToken). Next e total cs x) same n

next_past : (e : Edition) (total : ℕ) (cs : List ℕ) (t : ScannedToken) (p : Result (List ℕ) LexFault)
    → past_trivia (Rust e) total (length cs) cs ≡ p
    → scalars cs ≡ true → next_token (Rust e) total cs ≡ Ok (Some t) → Next e total cs t
next_past e total cs t (Err fault) p u h =
    absurd (let w : next_token (Rust e) total cs ≡ Err fault = rw (next_token, p) refl in
    let z : Err fault ≡ Ok (Some t) = sym w ∙ h in cc)
next_past e total cs t (Ok []) p u h =
    absurd (let w : next_token (Rust e) total cs ≡ Ok None = rw (next_token, p) refl in
    let z : Ok None ≡ Ok (Some t) = sym w ∙ h in cc)
next_past e total cs t (Ok (c ∷ from)) p u h =
    next_read e total cs c from t (read_shape (Rust e) total (c ∷ from)) p refl u h

pub next_cut : (e : Edition) (total : ℕ) (cs : List ℕ) (t : ScannedToken) → scalars cs ≡ true
    → next_token (Rust e) total cs ≡ Ok (Some t) → Next e total cs t
next_cut e total cs t u h = next_past e total cs t (past_trivia (Rust e) total (length cs) cs) refl u h

-- what is passed, and what is left
pub next_tail : (e : Edition) (total : ℕ) (cs : List ℕ) (t : ScannedToken) → Next e total cs t → Tail cs t.rest
next_tail e total cs t n = on cs t.from t.rest n.whitespace (record { own = n.step.own; is = n.step.is })

pub next_shorter : (e : Edition) (total : ℕ) (cs : List ℕ) (t : ScannedToken) → Next e total cs t
    → length t.rest < length cs
next_shorter e total cs t n =
    let some = n.step.some in
    omega (
      arith,
      tail_shorter cs t.from n.whitespace,
      ap (λ (l : List ℕ). length l) n.step.is,
      length-append n.step.own t.rest,
      some,
    )

-- a text whose characters are right, and that ends where the whole does
pub record Fits (total : ℕ) (cs : List ℕ) : Type 0 where
  pub right : scalars cs ≡ true
  pub within : length (encode_utf8_all cs) ≤ total

pub fits_tail : (total : ℕ) (cs rest : List ℕ) → Tail cs rest → Fits total cs → Fits total rest
fits_tail total cs rest t f = record {
  right = (scalars_parts t.own rest (ap scalars (sym t.is) ∙ f.right)).1;
  within = let less = f.within in
      omega (
        arith,
        less,
        ap (λ (l : List ℕ). length (encode_utf8_all l)) t.is,
        ap (λ (l : List ℕ). length l) (encodes-append t.own rest),
        length-append (encode_utf8_all t.own) (encode_utf8_all rest),
      );
}

-- a character is a byte at least
pub offset_less : (total c : ℕ) (rest : List ℕ) → Fits total (c ∷ rest)
    → nat_lt (offset total (c ∷ rest)) (offset total rest) ≡ true
offset_less total c rest f =
    let w = f.within in
    let some = (len_utf8_bounds c).0 in
    let size = length-encode c in
    let whole = length-append (encode_utf8 c) (encode_utf8_all rest) in
    let less : offset total (c ∷ rest) < offset total rest = omega (arith, w, some, size, whole) in
    grind (arith, nat_tests, less)

-- where no byte is passed, nothing is
same_offset : (total : ℕ) (cs left own : List ℕ) → cs ≡ own ++ left → Fits total cs
    → offset total left ≡ offset total cs → left ≡ cs
same_offset total cs left [] i f e = sym i
same_offset total cs left (c ∷ own) i f e =
    let w = f.within in
    let all = ap (λ (l : List ℕ). length (encode_utf8_all l)) i in
    let some = (len_utf8_bounds c).0 in
    let size = length-encode c in
    let whole = length-append (encode_utf8 c) (encode_utf8_all (own ++ left)) in
    let rest = ap (λ (l : List ℕ). length l) (encodes-append own left) in
    let parts = length-append (encode_utf8_all own) (encode_utf8_all left) in
    absurd (omega (arith, w, all, some, size, whole, rest, parts, e))

-- ---- a token where a text begins with none that is passed over

abbrev PastIs : Type 0
PastIs = Result (List ℕ) LexFault

past_same : (a b : List ℕ) → (let x : PastIs = Ok a in x) ≡ Ok b → a ≡ b
past_same a b h = cc

-- nothing is passed
pub record Here (e : Edition) (total : ℕ) (cs : List ℕ) (t : ScannedToken) : Type 0 where
  pub from : t.from ≡ cs
  pub read : read_shape (Rust e) total cs ≡ Ok (t.shape, t.rest)

pub here_of : (e : Edition) (total : ℕ) (cs : List ℕ) (t : ScannedToken) → past_trivia (Rust e) total (length cs) cs
    ≡ Ok cs
    → Next e total cs t → Here e total cs t
here_of e total cs t p n =
    let same : t.from ≡ cs = past_same t.from cs (sym n.past ∙ p) in
    record { from = same; read = ap (read_shape (Rust e) total) (sym same) ∙ n.read }

none_here : (e : Edition) (total c : ℕ) (cs : List ℕ) → past_trivia (Rust e) total (length (c ∷ cs)) (c ∷ cs)
    ≡ Ok (c ∷ cs) → next_token (Rust e) total (c ∷ cs) ≡ Ok None → ⊥
none_here e total c cs p h = by (read_shape (Rust e) total (c ∷ cs)) refl
  where
    by : (r : ReadResult) → read_shape (Rust e) total (c ∷ cs) ≡ r → ⊥
    by (Err fault) q =
        let w : next_token (Rust e) total (c ∷ cs) ≡ Err fault = rw (next_token, p, q) refl in
        let z : Err fault ≡ Ok None = sym w ∙ h in absurd (cc)
    by (Ok read) q =
        let made : ScannedToken = record { shape = read.0; from = c ∷ cs; rest = read.1 } in
        let w : next_token (Rust e) total (c ∷ cs) ≡ Ok (Some made) = rw (next_token, p, q) refl in
        let z : Ok (Some made) ≡ Ok None = sym w ∙ h in absurd (cc)

-- ---- a punct comes next

pub punct_past : (e : Edition) (total c : ℕ) (cs : List ℕ) → is_punct c ≡ true → begins_comment (c ∷ cs) ≡ false
    → past_trivia (Rust e) total (length (c ∷ cs)) (c ∷ cs) ≡ Ok (c ∷ cs)
punct_past e total c cs p n = no_comment e total c cs (punct_no_letter c p).space n (no_doc c cs n)

guard_read : (e : Edition) (c : ℕ) (rest : List ℕ) → is_punct c ≡ true → is_guard e (c ∷ rest) ≡ true
    → read_rust e (c ∷ rest) ≡ Some (Err (guard_fault (c ∷ rest)))
guard_read e c rest p g =
    let n = punct_no_letter c p in
    let s = punct_not_start c p in
    let r = n.r in
    let b = n.b in
    let d = n.c_ in
    let digit = n.digit in
    let quotes = n.quotes in
    let tick = n.tick in
    rw (r, b, d, s, digit, quotes, tick, g) refl

read_same : (a b : Shape × List ℕ) → (let x : ReadResult = Ok a in x) ≡ Ok b → a ≡ b
read_same a b h = cc

punct_here : (e : Edition) (total c : ℕ) (cs : List ℕ) (t : ScannedToken) (guard : Bool) → is_punct c ≡ true
    → begins_comment (c ∷ cs) ≡ false → is_guard e (c ∷ cs) ≡ guard → Here e total (c ∷ cs) t
    → (let made : ScannedToken = record { shape = punct_of c (spacing_before cs); from = c ∷ cs; rest = cs } in made)
    ≡ t
punct_here e total c cs t true p n g h =
    absurd (let w = ap (or_punctuation total (c ∷ cs)) (guard_read e c cs p g) in
    let z = sym w ∙ h.read in cc)
punct_here e total c cs t false p n g h =
    let k = punct_no_letter c p in
    let none = sign_read e c cs (punct_not_start c p) k.r k.b k.c_ k.digit k.quotes k.tick g (no_doc c cs n) in
    let w : read_shape (Rust e) total (c ∷ cs) ≡ Ok (punct_of c (spacing_before cs), cs) =
    ap (or_punctuation total (c ∷ cs)) none ∙ punct_sign total c (spacing_before cs) cs p refl in
    let same = read_same (punct_of c (spacing_before cs), cs) (t.shape, t.rest) (sym w ∙ h.read) in
    ap (λ (r : Shape × List ℕ). let x : ScannedToken = record { shape = r.0; from = c ∷ cs; rest = r.1 } in x) same
    ∙ ap (λ (f : List ℕ). let x : ScannedToken = record { shape = t.shape; from = f; rest = t.rest } in x) (sym h.from)

-- a punct, and the tokens after it
pub record PunctFirst (e : Edition) (file total c : ℕ) (cs : List ℕ) (ts : List FlatToken) : Type 0 where
  pub later : List FlatToken
  pub is : ts ≡ token (punct_leaf (bytes_of file (offset total (c ∷ cs)) (offset total cs)) c (spacing_before cs))
      ∷ later
  pub tokens : Tokens e file total cs later

pub punct_next : (e : Edition) (file total : ℕ) (text : List ℕ) (ts : List FlatToken) → Tokens e file total text ts
    → scalars text ≡ true → (c : ℕ) (cs : List ℕ) → text ≡ c ∷ cs → is_punct c ≡ true
    → begins_comment (c ∷ cs) ≡ false → PunctFirst e file total c cs ts
punct_next e file total _ _ (last text n) u c cs i p b =
    absurd (none_here e total c cs (punct_past e total c cs p b) (ap (next_token (Rust e) total) (sym i) ∙ n))
punct_next e file total _ _ (more text t us n rest) u c cs i p b =
    let x : Next e total (c ∷ cs) t =
    next_cut e total (c ∷ cs) t (ap scalars (sym i) ∙ u) (ap (next_token (Rust e) total) (sym i) ∙ n) in
    let here = here_of e total (c ∷ cs) t (punct_past e total c cs p b) x in
    let made : ScannedToken = record { shape = punct_of c (spacing_before cs); from = c ∷ cs; rest = cs } in
    let same : made ≡ t = punct_here e total c cs t (is_guard e (c ∷ cs)) p b refl here in record {
      later = us;
      is = ap (λ (y : ScannedToken). tokens_of (scanned_span file total y) y.shape ++ us) (sym same);
      tokens = subst (λ (y : List ℕ). Tokens e file total y us) (sym (ap (λ (y : ScannedToken). y.rest) same)) rest;
    }

-- ---- a word comes next

word_begins : (own rest : List ℕ) (c : ℕ) (cs : List ℕ) → c ∷ cs ≡ own ++ rest → 0 < length own → is_start c ≡ true
    → begins_word own ≡ true
word_begins [] rest c cs i n s = absurd (omega (arith, n))
word_begins (o ∷ own) rest c cs i n s = let same : c ≡ o = cc in ap is_start (sym same) ∙ s

side_no_start : (c : ℕ) → is_start c ≡ true → is_side c ≡ true → ⊥
side_no_start c s h =
    let small : c < 128 = grind (arith, nat_tests, h) in
    let a = is_xid_start-ascii c small in
    let n : is_start c ≡ false = grind (arith, nat_tests, a, h) in
    let z : true ≡ false = sym s ∙ n in absurd (cc)

tick_no_start : (c : ℕ) (cs : List ℕ) → is_start c ≡ true → begins_with (codes "'") (c ∷ cs) ≡ true → ⊥
tick_no_start c cs s h =
    let n = is_not c 39 quote_not_start s in
    let z : (c == 39) ≡ true = first_is (c == 39) h in
    let y : true ≡ false = sym z ∙ n in absurd (cc)
  where
    first_is : (b : Bool) → (b && true) ≡ true → b ≡ true
    first_is true k = refl
    first_is false k = absurd (cc)

doc_no_start : (c : ℕ) (cs : List ℕ) → is_start c ≡ true → begins_doc (c ∷ cs) ≡ true → ⊥
doc_no_start c cs s h =
    let n = start_not_slash c s in
    let no : begins_comment (c ∷ cs) ≡ false = rw n refl in
    let z : true ≡ false = sym h ∙ no_doc c cs no in absurd (cc)

-- an identifier, or a literal that begins with a letter
word_shape : (e : Edition) (span : Span) (shape : Shape) (own : List ℕ) (c : ℕ) (cs rest : List ℕ) (ts : List FlatToken)
    → is_start c ≡ true → Lexed e shape (c ∷ cs) rest → may_follow_dot Alone (tokens_of span shape ++ ts) ≡ true
word_shape e span (identifier name r) own c cs rest ts s l = refl
word_shape e span (literal_of text suffix n kind) own c cs rest ts s l =
    ap begins_word (l.spelled span) ∙ word_begins l.own rest c cs l.is l.some s
word_shape e span (punct_of d sp) own c cs rest ts s l =
    absurd (let same : c ≡ d = let i = l.is in cc in
    let z : true ≡ false = sym s ∙ (ap is_start same ∙ punct_not_start d l.char) in cc)
word_shape e span (lifetime_of name r) own c cs rest ts s l = absurd (tick_no_start c cs s l.tick)
word_shape e span (doc_of text inner) own c cs rest ts s l = absurd (doc_no_start c cs s l.marks)
word_shape e span (opening k) own c cs rest ts s l = absurd (side_no_start c s l.1)
word_shape e span (closing k) own c cs rest ts s l = absurd (side_no_start c s l.1)

word_past : (e : Edition) (total c : ℕ) (cs : List ℕ) → is_start c ≡ true
    → past_trivia (Rust e) total (length (c ∷ cs)) (c ∷ cs) ≡ Ok (c ∷ cs)
word_past e total c cs s = no_blank e total c cs (space_not_start c s) (start_not_slash c s)

pub word_next : (e : Edition) (file total : ℕ) (text : List ℕ) (ts : List FlatToken) → Tokens e file total text ts
    → scalars text ≡ true → (c : ℕ) (cs : List ℕ) → text ≡ c ∷ cs → is_start c ≡ true → may_follow_dot Alone ts ≡ true
word_next e file total _ _ (last text n) u c cs i s =
    absurd (none_here e total c cs (word_past e total c cs s) (ap (next_token (Rust e) total) (sym i) ∙ n))
word_next e file total _ _ (more text t us n rest) u c cs i s =
    let x : Next e total (c ∷ cs) t =
    next_cut e total (c ∷ cs) t (ap scalars (sym i) ∙ u) (ap (next_token (Rust e) total) (sym i) ∙ n) in
    let here = here_of e total (c ∷ cs) t (word_past e total c cs s) x in
    let l = subst (λ (f : List ℕ). Lexed e t.shape f t.rest) here.from x.step.lexed in
    word_shape e (scanned_span file total t) t.shape x.step.own c cs t.rest us s l

-- ---- a `.` comes next

pub record DotFirst (e : Edition) (file total : ℕ) (text : List ℕ) (p : Punct) (us : List FlatToken) : Type 0 where
  pub left : List ℕ
  pub is : text ≡ 46 ∷ left
  pub spacing : p.spacing ≡ spacing_before left
  pub tokens : Tokens e file total left us

abbrev first_punct : Punct → List FlatToken → Punct
first_punct p (token (punct q) ∷ ts) = q
first_punct p _ = p

punct_first : (e : Edition) (file total : ℕ) (text from rest : List ℕ) (c : ℕ) (sp : Spacing) (us vs : List FlatToken)
    (p : Punct)
    → LexedPunct e c sp from rest → Tokens e file total rest us → Tail text from → Fits total text
    → token (punct_leaf (bytes_of file (offset total from) (offset total rest)) c sp) ∷ us ≡ token (punct p) ∷ vs
    → p.char ≡ 46 → p.span.start ≡ offset total text → DotFirst e file total text p vs
punct_first e file total text from rest c sp us vs p l tokens t f i d s =
    let same : record { char = c; spacing = sp; span = bytes_of file (offset total from) (offset total rest) } ≡ p =
    ap (first_punct p) i in
    let later : us ≡ vs = ap (λ (x : List FlatToken). drop 1 x) i in
    let dot : c ≡ 46 = ap (λ (q : Punct). q.char) same ∙ d in
    let start : offset total from ≡ offset total text = ap (λ (q : Punct). q.span.start) same ∙ s in
    let all : from ≡ text = same_offset total text from t.own t.is f start in record {
      left = rest;
      is = sym all ∙ (l.is ∙ ap (λ (x : ℕ). x ∷ rest) dot);
      spacing = sym (ap (λ (q : Punct). q.spacing) same) ∙ l.spacing;
      tokens = subst (λ (x : List FlatToken). Tokens e file total rest x) later tokens;
    }

dot_shape : (e : Edition) (file total : ℕ) (text from rest : List ℕ) (shape : Shape) (us vs : List FlatToken)
    (p : Punct)
    → Lexed e shape from rest → Tokens e file total rest us → Tail text from → Fits total text
    → tokens_of (bytes_of file (offset total from) (offset total rest)) shape ++ us ≡ token (punct p) ∷ vs
    → p.char ≡ 46 → p.span.start ≡ offset total text → DotFirst e file total text p vs
dot_shape e file total text from rest (identifier name r) us vs p l tokens t f i d s = absurd (cc)
dot_shape e file total text from rest (literal_of x suffix n kind) us vs p l tokens t f i d s = absurd (cc)
dot_shape e file total text from rest (punct_of c sp) us vs p l tokens t f i d s =
    punct_first e file total text from rest c sp us vs p l tokens t f i d s
dot_shape e file total text from rest (lifetime_of name r) us vs p l tokens t f i d s =
    absurd (let z : 39 ≡ 46 = ap (λ (x : List FlatToken). (first_punct p x).char) i ∙ d in omega (arith, z))
dot_shape e file total text from rest (doc_of x true) us vs p l tokens t f i d s =
    absurd (let z : 35 ≡ 46 = ap (λ (x : List FlatToken). (first_punct p x).char) i ∙ d in omega (arith, z))
dot_shape e file total text from rest (doc_of x false) us vs p l tokens t f i d s =
    absurd (let z : 35 ≡ 46 = ap (λ (x : List FlatToken). (first_punct p x).char) i ∙ d in omega (arith, z))
dot_shape e file total text from rest (opening k) us vs p l tokens t f i d s = absurd (cc)
dot_shape e file total text from rest (closing k) us vs p l tokens t f i d s = absurd (cc)

pub dot_next : (e : Edition) (file total : ℕ) (text : List ℕ) (ts : List FlatToken) → Tokens e file total text ts
    → Fits total text → (p : Punct) (vs : List FlatToken) → ts ≡ token (punct p) ∷ vs → p.char ≡ 46
    → p.span.start ≡ offset total text → DotFirst e file total text p vs
dot_next e file total _ _ (last text n) f p vs i d s = absurd (cc)
dot_next e file total _ _ (more text t us n rest) f p vs i d s =
    let x = next_cut e total text t f.right n in
    dot_shape e file total text t.from t.rest t.shape us vs p x.step.lexed rest x.whitespace f i d s
