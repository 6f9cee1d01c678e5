-- The text that is written, token by token, as bytes and as characters.
use Rattle.std.proofs.Common.{◌≡◌, ℕ, zero, suc, ◌+◌, ◌-◌, ◌<◌, not, ◌&&◌, Bool, true, false, List, [], ◌∷◌, ◌++◌, refl}
use Rattle.std.proofs.Common.{sym, ap, ◌∙◌, arith, codes, Option, Some, None, IsUtf8, IsAscii, get_or, chars}
use Rattle.std.proofs.Common.{encode_utf8, append_assoc, append-nil}
use Rattle.std.proofs.lemmas.Str.{chars-append, chars-IsAscii, IsUtf8-from_ascii}
use Rattle.std.proofs.lemmas.Slice.Eq.{bytes_eq-Decides}
use Rattle.mbe_tt.specs.declared.span.Span.{Span}
use Rattle.mbe_tt.specs.declared.tt.Delimiter.{Delimiter}
use Rattle.mbe_tt.specs.declared.tt.Punct.{Punct}
use Rattle.mbe_tt.specs.declared.tt.DelimiterKind.{DelimiterKind}
use Rattle.mbe_tt.specs.declared.tt.DelimiterKind.TheVariants.{Parenthesis, Brace, Bracket, Invisible}
use Rattle.mbe_tt.specs.Trees.Leaf.{literal, punct, ident, is_text}
use Rattle.mbe_tt.specs.Trees.Literals.{raw_prefix, literal_output}
use Rattle.mbe_tt.specs.Trees.Tree.{Forest, none, leaf, group, FlatToken, token, opening, closing, flat, flat_len}
use Rattle.mbe_text.specs.RustText.Gaps.{ends_line, continues_block, separates_word, merges_with_word}
use Rattle.mbe_text.specs.RustText.Gaps.{separates_literal, merges_with_literal, separates_punct, may_touch_punct}
use Rattle.mbe_text.specs.RustText.Gaps.{separates_opening, is_open_brace, is_adjacent, has_same_span}
use Rattle.mbe_text.specs.RustText.Gaps.{is_adjacent_to_next, is_one_of, is_line_start}
use Rattle.mbe_text.specs.RustText.DocComments.{DocComment, more_trees}
use Rattle.mbe_text.specs.RustText.Printer.{PrinterState, with_leaf, opened, closed, name_text, next_span, next_comment}
use Rattle.mbe_text.specs.RustText.Printer.{with_comment, comment_text, written_after, start, text_of}
use Rattle.mbe_text.specs.declared.dialect.Dialect.{Dialect}
use Rattle.mbe_text.specs.LexedTrees.{next_token}
use Rattle.mbe_text.specs.Tokens.{opening_text, closing_text}
use Rattle.mbe_text.specs.Laws.RustTrees.{IsWord, next_place, more_tokens, is_start, begins_word}
use Rattle.mbe_text.specs.Laws.Gaps.{before}
use Rattle.mbe_text.proofs.WalkLemmas.{leaf_written, comment_written}
use Rattle.mbe_text.proofs.ReadBack.CommentLemmas.{comment_next, flat_count, comment_same, comment_count}
use Rattle.mbe_text.proofs.ReadBack.GapLemmas.{gaps_are_blank, gaps_are_in_bytes}
use Rattle.mbe_text.proofs.ReadBack.EndLemmas.{start_not_dollar}

-- ---- one token

-- what decides a gap: whether a line begins, whether the tokens are to be apart, and whether they stay side by side
pub record Reasons : Type 0 where
  pub line : Bool
  pub apart : Bool
  pub beside : Bool

abbrev pub gap_of : Reasons → ℕ → List ℕ
gap_of r depth = before r.line r.apart r.beside depth

abbrev pub reasons : Bool → Bool → Bool → Reasons
reasons l a b = record { line = l; apart = a; beside = b }

abbrev pub no_gap : Reasons
no_gap = reasons false false false

abbrev pub word_reasons : PrinterState → List ℕ → Span → Reasons
word_reasons s name token_span =
    reasons (ends_line s.last (not (continues_block name))) (separates_word s.last) (is_adjacent s.token_span token_span
    && not
    (merges_with_word s.last))

abbrev pub literal_reasons : PrinterState → Span → Reasons
literal_reasons s token_span =
    reasons (ends_line s.last true) (separates_literal s.last) (is_adjacent s.token_span token_span
    && not (merges_with_literal s.last))

abbrev pub punct_reasons : PrinterState → Punct → Option Span → Reasons
punct_reasons s p next =
    reasons (ends_line s.last (is_one_of p.char (codes "#'")))
    (separates_punct s.last (has_same_span s.token_span p.span) p.char p.spacing)
    (is_adjacent s.token_span p.span && may_touch_punct s.last p.char (is_adjacent_to_next p.span next))

abbrev pub side_reasons : PrinterState → Bool → Span → Reasons
side_reasons s is_brace token_span = reasons (ends_line s.last false) (separates_opening s.last is_brace)
    (is_adjacent s.token_span token_span)

abbrev pub open_gap : PrinterState → DelimiterKind → Span → Reasons
open_gap s Parenthesis token_span = side_reasons s false token_span
open_gap s Bracket token_span = side_reasons s false token_span
open_gap s Brace token_span = side_reasons s true token_span
open_gap s Invisible token_span = no_gap

abbrev pub close_gap : PrinterState → DelimiterKind → Reasons
close_gap s Brace = reasons (not (is_open_brace s.last)) false false
close_gap s Parenthesis = no_gap
close_gap s Bracket = no_gap
close_gap s Invisible = no_gap

abbrev pub close_depth : PrinterState → DelimiterKind → ℕ
close_depth s Brace = s.depth - 1
close_depth s Parenthesis = s.depth
close_depth s Bracket = s.depth
close_depth s Invisible = s.depth

abbrev pub the_gap : FlatToken → List FlatToken → PrinterState → Reasons
the_gap (token (ident i)) ts s = word_reasons s (name_text i.sym) i.span
the_gap (token (literal l)) ts s = literal_reasons s l.span
the_gap (token (punct p)) ts s = punct_reasons s p (next_place ts)
the_gap (opening d) ts s = open_gap s d.kind d.opening
the_gap (closing d) ts s = close_gap s d.kind

abbrev pub gap_depth : FlatToken → PrinterState → ℕ
gap_depth (token l) s = s.depth
gap_depth (opening d) s = s.depth
gap_depth (closing d) s = close_depth s d.kind

abbrev pub spelled : FlatToken → List ℕ
spelled (token (ident i)) = raw_prefix i.is_raw ++ name_text i.sym
spelled (token (literal l)) = literal_output l
spelled (token (punct p)) = encode_utf8 p.char
spelled (opening d) = opening_text d.kind
spelled (closing d) = closing_text d.kind

abbrev pub after : FlatToken → List FlatToken → PrinterState → PrinterState
after (token l) ts s = with_leaf s l (next_place ts)
after (opening d) ts s = opened s d.kind d.opening
after (closing d) ts s = closed s d.kind d.close

-- ---- a token or a comment

-- what is written next: a gap and a text, the state after them, and how many flat tokens it is after the first
pub record Written : Type 0 where
  pub gap : Reasons
  pub depth : ℕ
  pub text : List ℕ
  pub state : PrinterState
  pub more : ℕ

abbrev pub a_token : FlatToken → List FlatToken → PrinterState → Written
a_token t ts s = record {
  gap = the_gap t ts s;
  depth = gap_depth t s;
  text = spelled t;
  state = after t ts s;
  more = 0;
}

abbrev pub line_reasons : PrinterState → Reasons
line_reasons s = reasons (not (is_line_start s.last)) false false

abbrev pub token_or_comment : Option DocComment → FlatToken → List FlatToken → PrinterState → Written
token_or_comment None t ts s = a_token t ts s
token_or_comment (Some c) t ts s = record {
  gap = line_reasons s;
  depth = s.depth;
  text = comment_text c s.depth;
  state = with_comment s c;
  more = more_tokens c.is_inner;
}

abbrev pub next_written : FlatToken → List FlatToken → PrinterState → Written
next_written (token (punct p)) ts s = token_or_comment (comment_next p ts s) (token (punct p)) ts s
next_written (token (ident i)) ts s = a_token (token (ident i)) ts s
next_written (token (literal l)) ts s = a_token (token (literal l)) ts s
next_written (opening d) ts s = a_token (opening d) ts s
next_written (closing d) ts s = a_token (closing d) ts s

-- ---- many

-- what is written after these tokens, but for the first so many
abbrev pub write : ℕ → List FlatToken → PrinterState → PrinterState
write n [] s = s
write (suc n) (t ∷ ts) s = write n ts s
write zero (t ∷ ts) s = write (next_written t ts s).more ts (next_written t ts s).state

-- what they add, as bytes and as characters
abbrev pub left : ℕ → List FlatToken → PrinterState → List ℕ
left n [] s = []
left (suc n) (t ∷ ts) s = left n ts s
left zero (t ∷ ts) s =
    let w = next_written t ts s in gap_of w.gap w.depth ++ (w.text ++ left w.more ts w.state)

abbrev pub ahead : ℕ → List FlatToken → PrinterState → List ℕ
ahead n [] s = []
ahead (suc n) (t ∷ ts) s = ahead n ts s
ahead zero (t ∷ ts) s =
    let w = next_written t ts s in gap_of w.gap w.depth ++ (chars w.text ++ ahead w.more ts w.state)

-- how many tokens and comments they are
abbrev pub count : ℕ → List FlatToken → PrinterState → ℕ
count n [] s = 0
count (suc n) (t ∷ ts) s = count n ts s
count zero (t ∷ ts) s = suc (count (next_written t ts s).more ts (next_written t ts s).state)

opened_adds : (d : Delimiter) (kind : DelimiterKind) (s : PrinterState)
    → (opened s kind d.opening).text ≡ s.text ++ (gap_of (open_gap s kind d.opening) s.depth ++ opening_text kind)
opened_adds d Parenthesis s = refl
opened_adds d Bracket s = refl
opened_adds d Brace s = refl
opened_adds d Invisible s = sym (append-nil s.text)

closed_adds : (d : Delimiter) (kind : DelimiterKind) (s : PrinterState)
    → (closed s kind d.close).text ≡ s.text ++ (gap_of (close_gap s kind) (close_depth s kind) ++ closing_text kind)
closed_adds d Parenthesis s = refl
closed_adds d Bracket s = refl
closed_adds d Brace s = refl
closed_adds d Invisible s = sym (append-nil s.text)

adds : (t : FlatToken) (ts : List FlatToken) (s : PrinterState)
    → (after t ts s).text ≡ s.text ++ (gap_of (the_gap t ts s) (gap_depth t s) ++ spelled t)
adds (token (ident i)) ts s = refl
adds (token (literal l)) ts s = refl
adds (token (punct p)) ts s = refl
adds (opening d) ts s = opened_adds d d.kind s
adds (closing d) ts s = closed_adds d d.kind s

abbrev Adds : Written → PrinterState → Type 0
Adds w s = w.state.text ≡ s.text ++ (gap_of w.gap w.depth ++ w.text)

comment_adds : (o : Option DocComment) (t : FlatToken) (ts : List FlatToken) (s : PrinterState)
    → Adds (token_or_comment o t ts s) s
comment_adds None t ts s = adds t ts s
comment_adds (Some c) t ts s = refl

next_adds : (t : FlatToken) (ts : List FlatToken) (s : PrinterState) → Adds (next_written t ts s) s
next_adds (token (ident i)) ts s = adds (token (ident i)) ts s
next_adds (token (literal l)) ts s = adds (token (literal l)) ts s
next_adds (token (punct p)) ts s = comment_adds (comment_next p ts s) (token (punct p)) ts s
next_adds (opening d) ts s = adds (opening d) ts s
next_adds (closing d) ts s = adds (closing d) ts s

pub text_left : (n : ℕ) (ts : List FlatToken) (s : PrinterState) → (write n ts s).text ≡ s.text ++ left n ts s
text_left n [] s = sym (append-nil s.text)
text_left (suc n) (t ∷ ts) s = text_left n ts s
text_left zero (t ∷ ts) s =
    let w = next_written t ts s in
    text_left w.more ts w.state
    ∙ (ap (λ (x : List ℕ). x ++ left w.more ts w.state) (next_adds t ts s)
    ∙ (append_assoc s.text (gap_of w.gap w.depth ++ w.text) (left w.more ts w.state)
    ∙ ap (λ (x : List ℕ). s.text ++ x) (append_assoc (gap_of w.gap w.depth) w.text (left w.more ts w.state))))

-- ---- trees are written by their flat tokens

first_place : (f : Forest) (ts : List FlatToken) → None ≡ next_place ts → next_place (flat f ++ ts) ≡ next_span f
first_place none ts h = sym h
first_place (leaf l rest) ts h = refl
first_place (group d inside rest) ts h = refl

-- tokens that are passed
passed : (f : Forest) (n : ℕ) (ts : List FlatToken) (s : PrinterState) → write (flat_len f + n) (flat f ++ ts) s
    ≡ write n ts s
passed none n ts s = ap (λ (k : ℕ). write k ts s) (omega arith)
passed (leaf l rest) n ts s =
    let k : 1 + flat_len rest + n ≡ suc (flat_len rest + n) = omega arith in
    ap (λ (m : ℕ). write m (token l ∷ (flat rest ++ ts)) s) k ∙ passed rest n ts s
passed (group d inside rest) n ts s =
    let k : 2 + flat_len inside + flat_len rest + n ≡ suc (flat_len inside + suc (flat_len rest + n)) = omega arith in
    ap (λ (m : ℕ). write m (flat (group d inside rest) ++ ts) s) k
    ∙ (ap (λ (x : List FlatToken). write (flat_len inside + suc (flat_len rest + n)) x s)
    (append_assoc (flat inside) (closing d ∷ flat rest) ts)
    ∙ (passed inside (suc (flat_len rest + n)) (closing d ∷ (flat rest ++ ts)) s ∙ passed rest n ts s))

-- trees that begin with a punct, or with a comment
written_punct : (p : Punct) (rest : Forest) (ts : List FlatToken) (s : PrinterState) (o : Option DocComment)
    → None ≡ next_place ts
    → comment_next p (flat rest ++ ts) s ≡ o → next_comment s (leaf (punct p) rest) ≡ o
    → ((n : ℕ) (t : PrinterState) → write (flat_count n rest) (flat rest ++ ts) t ≡ write 0 ts (written_after n rest t))
    → write 0 (token (punct p) ∷ (flat rest ++ ts)) s ≡ write 0 ts (written_after 0 (leaf (punct p) rest) s)
written_punct p rest ts s None h e f go =
    let t = token (punct p) in
    let more = flat rest ++ ts in
    ap (λ (o : Option DocComment). write (token_or_comment o t more s).more more (token_or_comment o t more s).state) e
    ∙ (ap (λ (n : Option Span). write 0 more (with_leaf s (punct p) n)) (first_place rest ts h)
    ∙ (go 0 (with_leaf s (punct p) (next_span rest)) ∙ ap (write 0 ts) (sym (leaf_written (punct p) rest s f))))
written_punct p rest ts s (Some c) h e f go =
    let t = token (punct p) in
    let more = flat rest ++ ts in
    ap (λ (o : Option DocComment). write (token_or_comment o t more s).more more (token_or_comment o t more s).state) e
    ∙ (ap (λ (k : ℕ). write k more (with_comment s c)) (sym (comment_count p rest s c f))
    ∙ (go (more_trees c.is_inner) (with_comment s c) ∙ ap (write 0 ts) (sym (comment_written (punct p) rest s c f))))

pub written_flat : (n : ℕ) (f : Forest) (ts : List FlatToken) (s : PrinterState) → None ≡ next_place ts
    → write (flat_count n f) (flat f ++ ts) s ≡ write 0 ts (written_after n f s)
unfolding written_after
written_flat zero none ts s h = refl
written_flat (suc n) none ts s h = refl
written_flat (suc n) (leaf l rest) ts s h = written_flat n rest ts s h
written_flat (suc n) (group d inside rest) ts s h =
    ap (λ (x : List FlatToken). write (flat_len inside + suc (flat_count n rest)) x s)
    (append_assoc (flat inside) (closing d ∷ flat rest) ts)
    ∙ (passed inside (suc (flat_count n rest)) (closing d ∷ (flat rest ++ ts)) s ∙ written_flat n rest ts s h)
written_flat zero (leaf (ident i) rest) ts s h =
    ap (λ (p : Option Span). write 0 (flat rest ++ ts) (with_leaf s (ident i) p)) (first_place rest ts h)
    ∙ written_flat zero rest ts (with_leaf s (ident i) (next_span rest)) h
written_flat zero (leaf (literal l) rest) ts s h =
    ap (λ (p : Option Span). write 0 (flat rest ++ ts) (with_leaf s (literal l) p)) (first_place rest ts h)
    ∙ written_flat zero rest ts (with_leaf s (literal l) (next_span rest)) h
written_flat zero (leaf (punct p) rest) ts s h =
    written_punct p rest ts s (next_comment s (leaf (punct p) rest)) h (comment_same p rest ts s h) refl
    (λ n t. written_flat n rest ts t h)
written_flat zero (group d inside rest) ts s h =
    ap (λ (x : List FlatToken). write 0 x (opened s d.kind d.opening)) (append_assoc (flat inside)
    (closing d ∷ flat rest) ts)
    ∙ (written_flat zero inside (closing d ∷ (flat rest ++ ts)) (opened s d.kind d.opening) refl
    ∙ written_flat zero rest ts (closed (written_after 0 inside (opened s d.kind d.opening)) d.kind d.close) h)

pub text_of_is : (depth : ℕ) (f : Forest) → text_of depth f ≡ left 0 (flat f) (start depth)
text_of_is depth f =
    sym (ap (λ (s : PrinterState). s.text)
    (sym (ap (λ (x : List FlatToken). write 0 x (start depth)) (append-nil (flat f)))
    ∙ written_flat 0 f [] (start depth) refl))
    ∙ text_left 0 (flat f) (start depth)

-- ---- characters

pub gap_chars : (r : Reasons) (depth : ℕ) (text : List ℕ) → chars
    (gap_of r depth ++ text) ≡ gap_of r depth ++ chars text
gap_chars r depth text = gaps_are_in_bytes depth r.line r.apart r.beside text

pub gap_is_blank : (dialect : Dialect) (total depth : ℕ) (r : Reasons) (cs : List ℕ)
    → next_token dialect total (gap_of r depth ++ cs) ≡ next_token dialect total cs
gap_is_blank dialect total depth r cs = gaps_are_blank dialect total depth r.line r.apart r.beside cs

-- ---- what tokens are spelled with

one_ascii : (c : ℕ) → c < 128 → IsAscii (c ∷ [])
one_ascii c small = λ i. elim i as (λ j. get_or (c ∷ []) j 0 < 128) [ zero ↦ small | suc k ↦ omega arith ]

pub ascii_utf8 : (c : ℕ) → c < 128 → IsUtf8 (c ∷ [])
ascii_utf8 c small = IsUtf8-from_ascii (c ∷ []) (one_ascii c small)

pub ascii_chars : (c : ℕ) → c < 128 → chars (c ∷ []) ≡ c ∷ []
ascii_chars c small = chars-IsAscii (c ∷ []) (one_ascii c small)

-- a word's text isn't `$crate`
word_of : (name : List ℕ) (b : Bool) → is_text name (codes "$crate") ≡ b → IsWord name → name_text name ≡ name
word_of name false e w = rw e refl
word_of name true e w = absurd (
    let same : name ≡ codes "$crate" = (bytes_eq-Decides name (codes "$crate")).0 e in
    let front : chars (codes "$crate") ≡ 36 ∷ chars (codes "crate") =
    chars-append (36 ∷ []) (codes "crate") (ascii_utf8 36 (omega arith))
    ∙ ap (λ (x : List ℕ). x ++ chars (codes "crate")) (ascii_chars 36 (omega arith)) in
    let no : is_start 36 ≡ true = sym (ap begins_word front) ∙ (ap (λ (x : List ℕ). begins_word (chars x))
    (sym same) ∙ w.1) in
    let z : false ≡ true = sym start_not_dollar ∙ no in cc)

pub word_text : (name : List ℕ) → IsWord name → name_text name ≡ name
word_text name w = word_of name (is_text name (codes "$crate")) refl w
