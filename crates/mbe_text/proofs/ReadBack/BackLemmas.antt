-- What is written for trees of Rust is read as these trees.
use Rattle.std.proofs.Common.{◌≡◌, ◌≢◌, ℕ, zero, suc, ◌==◌, ◌<◌, ◌≤◌, not, ◌&&◌, ◌||◌, if◌then◌else◌, Bool, true, false}
use Rattle.std.proofs.Common.{List, [], ◌∷◌, ◌++◌, length, refl, sym, ap, ◌∙◌, arith, codes, Option, Some, None, Ok}
use Rattle.std.proofs.Common.{IsUtf8, chars, encode_utf8, subst, append-nil, length-append}
use Rattle.std.specs.List.{list_any}
use Rattle.std.specs.Prelude.{map}
use Rattle.std.proofs.lemmas.Bool.Decides.{nat_tests}
use Rattle.std.proofs.lemmas.Str.{chars-append, chars-nil, IsUtf8-append}
use Rattle.mbe_tt.specs.Buffers.GroupStack.{GroupStack, put, closed, innermost_kind}
use Rattle.mbe_tt.specs.Trees.Leaf.{Leaf, Ident, Literal, literal, punct, ident, is_text}
use Rattle.mbe_tt.specs.Trees.Literals.{raw_prefix, literal_output}
use Rattle.mbe_tt.specs.Trees.Tree.{Forest, none, leaf, group, one_leaf, FlatToken, token, opening, closing, flat}
use Rattle.mbe_tt.specs.Trees.Tree.{is_same_kind}
use Rattle.mbe_tt.specs.Trees.Top.{no_span}
use Rattle.mbe_tt.specs.declared.span.Edition.{Edition}
use Rattle.mbe_tt.specs.declared.span.Span.{Span}
use Rattle.mbe_tt.specs.declared.tt.Delimiter.{Delimiter}
use Rattle.mbe_tt.specs.declared.tt.Punct.{Punct}
use Rattle.mbe_tt.specs.declared.tt.Spacing.{Spacing}
use Rattle.mbe_tt.specs.declared.tt.Spacing.TheVariants.{Alone, Joint}
use Rattle.mbe_tt.specs.declared.tt.IdentIsRaw.{IdentIsRaw}
use Rattle.mbe_tt.specs.declared.tt.IdentIsRaw.TheVariants.{Yes, No}
use Rattle.mbe_tt.specs.declared.tt.DelimiterKind.{DelimiterKind}
use Rattle.mbe_tt.specs.declared.tt.DelimiterKind.TheVariants.{Parenthesis, Brace, Bracket, Invisible}
use Rattle.mbe_text.specs.RustText.DocComments.{DocComment, is_comment}
use Rattle.mbe_text.specs.RustText.Gaps.{is_one_of, is_joint, is_prefix, is_colon, keywords, last_punct}
use Rattle.mbe_text.specs.RustText.Gaps.{may_precede_comment}
use Rattle.mbe_text.specs.RustText.Printer.{PrinterState, start, word, with_literal, with_punct, with_comment, opened}
use Rattle.mbe_text.specs.RustText.Printer.{comment_closer, comment_opener, comment_text, name_text}
use Rattle.mbe_text.specs.RustText.Printer as writing
use Rattle.mbe_text.specs.declared.dialect.Dialect.{Dialect}
use Rattle.mbe_text.specs.declared.dialect.Dialect.TheVariants.{Rust}
use Rattle.mbe_text.specs.LexedTrees.{ScannedToken, next_token, scanned_item, after_item, stack_of, stack_at_end}
use Rattle.mbe_text.specs.LexedTrees.{lexed_trees, is_inside, scanned_span}
use Rattle.mbe_text.specs.Characters.{begins_with}
use Rattle.mbe_text.specs.Shapes.{Shape, identifier, literal_of, lifetime_of, punct_of, doc_of}
use Rattle.mbe_text.specs.Shapes as shape
use Rattle.mbe_text.specs.Tokens.{opening_text, closing_text, lifetime_trees, doc_trees, doc_group, most_guards, whole}
use Rattle.mbe_text.specs.Tokens.{bytes_of}
use Rattle.mbe_text.specs.Trivia.{after_preamble}
use Rattle.mbe_text.specs.Laws.RoundTrip.{TreesRoundTrip, bare, bare_leaf, bare_delimiter}
use Rattle.mbe_text.specs.Laws.RustTrees.{is_start, begins_literal, may_be_lifetime, more_tokens, punct_flat}
use Rattle.mbe_text.specs.Laws.RustTrees.{comment_after, skipped, joint_after, IsLifetime, AreRust, AreRead, IsIdent}
use Rattle.mbe_text.specs.Laws.RustTrees.{IsSign, IsPunct, next_place}
use Rattle.mbe_text.proofs.ReadBack.EndLemmas.{punct_small, begins_gap, mark_not_start, start_not_hash}
use Rattle.mbe_text.proofs.ReadBack.StepLemmas.{taken}
use Rattle.mbe_text.proofs.ReadBack.CommentLemmas.{comment_next, comment_case, no_comment_at, IsSetting}
use Rattle.mbe_text.proofs.ReadBack.DocLemmas.{comment_utf8, comment_chars, comment_reads, raw_text_utf8, line_gap}
use Rattle.mbe_text.proofs.ReadBack.TextLemmas.{spelled, after, ahead, left, count, next_written, token_or_comment}
use Rattle.mbe_text.proofs.ReadBack.TextLemmas.{reasons, the_gap, gap_of, gap_chars, gap_is_blank, text_of_is}
use Rattle.mbe_text.proofs.ReadBack.TextLemmas.{word_text, ascii_utf8}
use Rattle.mbe_text.proofs.ReadBack.FollowLemmas.{letters, is_side, sign_small, follows, fronted, word_front}
use Rattle.mbe_text.proofs.ReadBack.FollowLemmas.{ends_alone, alone_ends, alone_like, is_sign, punct_is, opening_is}
use Rattle.mbe_text.proofs.ReadBack.FollowLemmas.{closing_is, word_like, word_ends}
use Rattle.mbe_text.proofs.ReadBack.NextLemmas.{punct_before, literal_before, no_line}
use Rattle.mbe_text.proofs.ReadBack.ReadLemmas.{Reads, reads_same, word_reads, lifetime_reads, literal_reads}
use Rattle.mbe_text.proofs.ReadBack.ReadLemmas.{punct_reads, opening_reads, closing_reads}
use Rattle.mbe_text.proofs.ReadBack.BareLemmas.{bare_levels, bare_put, bare_closed, bare_kind, step, made, Fit}
use Rattle.mbe_text.proofs.ReadBack.BareLemmas.{made_flat, fit_flat, put_more}

-- ---- bytes and characters

raw_utf8 : (r : IdentIsRaw) (name : List ℕ) → IsUtf8 name → IsUtf8 (raw_prefix r ++ name)
raw_utf8 No name h = h
raw_utf8 Yes name h =
    IsUtf8-append (114 ∷ (35 ∷ [])) name (IsUtf8-append (114 ∷ []) (35 ∷ []) (ascii_utf8 114 (omega arith))
    (ascii_utf8 35 (omega arith))) h

ident_utf8 : (i : Ident) → IsIdent i → IsUtf8 (raw_prefix i.is_raw ++ name_text i.sym)
ident_utf8 i h = subst (λ (x : List ℕ). IsUtf8 (raw_prefix i.is_raw ++ x)) (sym (word_text i.sym h.0))
    (raw_utf8 i.is_raw i.sym h.0.0)

utf8_of : (e : Edition) (t : FlatToken) (ts : List FlatToken) → AreRust e (t ∷ ts) → IsUtf8 (spelled t)
utf8_of e (token (ident i)) ts h = ident_utf8 i h.0
utf8_of e (token (literal l)) ts h = h.0.0.0
utf8_of e (token (punct p)) ts h = (is_sign e p ts h.0).utf8
utf8_of e (opening d) ts h = (opening_is d.kind h.0).is.utf8
utf8_of e (closing d) ts h = (closing_is d.kind h.0).is.utf8

later : (e : Edition) (t : FlatToken) (ts : List FlatToken) → AreRust e (t ∷ ts) → AreRust e ts
later e (token l) ts h = h.1
later e (opening d) ts h = h.1
later e (closing d) ts h = h.1

-- a comment's text
text_utf8 : (e : Edition) (p : Punct) (ts : List FlatToken) (s : PrinterState) (c : DocComment) → AreRust e ts
    → comment_next p ts s ≡ Some c → IsUtf8 c.text
text_utf8 e p ts s c h m =
    comment_case (λ us x. AreRust e us → IsUtf8 x.text) p ts s c
    (λ d n v k i q l end us is written r. raw_text_utf8 l
    (most_guards 0 l.text_and_suffix) is.no_suffix is.raw r.1.1.1.0.0.0)
    (λ o d n v m w k i q l end us is written r. raw_text_utf8 l
    (most_guards 0 l.text_and_suffix) is.no_suffix is.raw r.1.1.1.1.0.0.0)
    m h

written_utf8 : (e : Edition) (t : FlatToken) (ts : List FlatToken) (s : PrinterState) → AreRust e (t ∷ ts)
    → IsUtf8 (next_written t ts s).text
written_utf8 e (token (ident i)) ts s h = utf8_of e (token (ident i)) ts h
written_utf8 e (token (literal l)) ts s h = utf8_of e (token (literal l)) ts h
written_utf8 e (opening d) ts s h = utf8_of e (opening d) ts h
written_utf8 e (closing d) ts s h = utf8_of e (closing d) ts h
written_utf8 e (token (punct p)) ts s h = by (comment_next p ts s) refl
  where
    by : (o : Option DocComment) → comment_next p ts s ≡ o → IsUtf8 (token_or_comment o (token (punct p)) ts s).text
    by None m = utf8_of e (token (punct p)) ts h
    by (Some c) m = comment_utf8 c s.depth (text_utf8 e p ts s c h.1 m)

pub chars_left : (e : Edition) (n : ℕ) (ts : List FlatToken) (s : PrinterState) → AreRust e ts
    → chars (left n ts s) ≡ ahead n ts s
chars_left e n [] s h = chars-nil
chars_left e (suc n) (t ∷ ts) s h = chars_left e n ts s (later e t ts h)
chars_left e zero (t ∷ ts) s h =
    let w = next_written t ts s in
    gap_chars w.gap w.depth (w.text ++ left w.more ts w.state)
    ∙ ap (λ (x : List ℕ). gap_of w.gap w.depth ++ x) (chars-append w.text (left w.more ts w.state)
    (written_utf8 e t ts s h)
    ∙ ap (λ (x : List ℕ). chars w.text ++ x) (chars_left e w.more ts w.state (later e t ts h)))

-- ---- one token is read

read_after : (e : Edition) (total : ℕ) (t : FlatToken) (ts : List FlatToken) (s : PrinterState) (shape : Shape)
    (rest : List ℕ)
    → Reads e total (chars (next_written t ts s).text ++ ahead (next_written t ts s).more ts
    (next_written t ts s).state) shape rest
    → Reads e total (ahead 0 (t ∷ ts) s) shape rest
read_after e total t ts s shape rest r =
    let w = next_written t ts s in record {
      from = r.from;
      is = gap_is_blank (Rust e) total w.depth w.gap (chars w.text ++ ahead w.more ts w.state) ∙ r.is;
    }

-- a punct that begins no comment
punct_after : (e : Edition) (total : ℕ) (p : Punct) (ts : List FlatToken) (s : PrinterState) (shape : Shape)
    (rest : List ℕ)
    → comment_next p ts s ≡ None
    → Reads e total (chars (encode_utf8 p.char) ++ ahead 0 ts (after (token (punct p)) ts s)) shape rest
    → Reads e total (ahead 0 (token (punct p) ∷ ts) s) shape rest
punct_after e total p ts s shape rest plain r =
    read_after e total (token (punct p)) ts s shape rest (rw plain r)

reads_ident : (e : Edition) (total : ℕ) (i : Ident) (ts : List FlatToken) (s : PrinterState) → IsIdent i → AreRust e ts
    → Reads e total (ahead 0 (token (ident i) ∷ ts) s) (identifier i.sym i.is_raw) (ahead 0 ts (word s i))
reads_ident e total i ts s h r =
    let rest = ahead 0 ts (word s i) in
    read_after e total (token (ident i)) ts s (identifier i.sym i.is_raw) rest
    (reads_same e total (chars (raw_prefix i.is_raw ++ name_text i.sym) ++ rest) (chars
    (raw_prefix i.is_raw ++ i.sym) ++ rest) rest (identifier i.sym i.is_raw)
    (ap (λ (x : List ℕ). chars (raw_prefix i.is_raw ++ x) ++ rest) (word_text i.sym h.0))
    (word_reads e total i.is_raw i.sym rest h.0 h.1 (word_ends e ts (word s i) (word_like s i) r)))

tick_no_hash : (c : ℕ) → (c == 39) ≡ true → (c == 35) ≡ false
tick_no_hash c h = grind (arith, nat_tests, h)

reads_lifetime : (e : Edition) (total c : ℕ) (token_span : Span) (i : Ident) (ts : List FlatToken) (s : PrinterState)
    → (c == 39) ≡ true → IsIdent i
    → may_be_lifetime e i.is_raw ≡ true → AreRust e ts
    → Reads e total (ahead 0 (token (punct (record { char = c; spacing = Joint; span = token_span })) ∷ (token
    (ident i) ∷ ts)) s) (lifetime_of i.sym i.is_raw)
    (ahead 0 ts (word (with_punct s (record { char = c; spacing = Joint; span = token_span }) (Some i.span)) i))
reads_lifetime e total c token_span i ts s h w m r =
    let p : Punct = record { char = c; spacing = Joint; span = token_span } in
    let state = with_punct s p (Some i.span) in
    let rest = ahead 0 ts (word state i) in
    let g = the_gap (token (ident i)) ts state in
    let small : c < 128 = grind (arith, nat_tests, h) in
    let is39 : c ≡ 39 = grind (arith, nat_tests, h) in
    let joins : is_one_of c (codes ".#$'") ≡ true = grind (arith, nat_tests, h) in
    let near : not (is_one_of c (codes ".#$'") || is_prefix c) ≡ false = ap (λ b. not (b || is_prefix c)) joins in
    let gone : ahead 0 (token (ident i) ∷ ts) state ≡ chars (raw_prefix i.is_raw ++ name_text i.sym) ++ rest =
    no_line g.line g.apart g.beside s.depth (chars (raw_prefix i.is_raw ++ name_text i.sym) ++ rest) refl near in
    let text : chars (encode_utf8 c) ++ ahead 0 (token (ident i) ∷ ts) state ≡ 39 ∷ (chars
    (raw_prefix i.is_raw ++ i.sym) ++ rest) =
    ap (λ (x : List ℕ). x ++ ahead 0 (token (ident i) ∷ ts) state) (punct_is c small).one
    ∙ (ap (λ (x : ℕ). x ∷ ahead 0 (token (ident i) ∷ ts) state) is39
    ∙ (ap (λ (x : List ℕ). 39 ∷ x) gone
    ∙ ap (λ (x : List ℕ). 39 ∷ (chars (raw_prefix i.is_raw ++ x) ++ rest)) (word_text i.sym w.0))) in
    punct_after e total p (token (ident i) ∷ ts) s (lifetime_of i.sym i.is_raw) rest
    (no_comment_at p (token (ident i) ∷ ts) s (tick_no_hash c h))
    (reads_same e total (chars (encode_utf8 c) ++ ahead 0 (token (ident i) ∷ ts) state) (39 ∷ (chars
    (raw_prefix i.is_raw ++ i.sym) ++ rest)) rest
    (lifetime_of i.sym i.is_raw) text
    (lifetime_reads e total i.is_raw i.sym rest w.0 w.1 m (word_ends e ts (word state i) (word_like state i) r)))

reads_sign : (e : Edition) (total c : ℕ) (sp : Spacing) (token_span : Span) (ts : List FlatToken) (s : PrinterState)
    → IsSign false e (record { char = c; spacing = sp; span = token_span }) ts → AreRust e ts
    → comment_next (record { char = c; spacing = sp; span = token_span }) ts s ≡ None
    → Reads e total (ahead 0 (token (punct (record { char = c; spacing = sp; span = token_span })) ∷ ts) s)
    (punct_of c sp)
    (ahead 0 ts (with_punct s (record { char = c; spacing = sp; span = token_span }) (next_place ts)))
reads_sign e total c sp token_span ts s h r plain =
    let p : Punct = record { char = c; spacing = sp; span = token_span } in
    let rest = ahead 0 ts (with_punct s p (next_place ts)) in
    punct_after e total p ts s (punct_of c sp) rest plain
    (reads_same e total (chars (encode_utf8 c) ++ rest) (c ∷ rest) rest (punct_of c sp)
    (ap (λ (x : List ℕ). x ++ rest) (punct_is c (punct_small c h.0)).one)
    (punct_reads e total c sp rest h.0 (punct_before e c sp token_span s ts h r)))

-- ---- all of them are

-- what is made of the tokens of a text
pub record Comes (e : Edition) (file total n : ℕ) (levels : GroupStack) (cs : List ℕ) (want : GroupStack) : Type 0 where
  pub stack_at_end : GroupStack
  pub read : stack_of (Rust e) file total n levels cs ≡ Ok stack_at_end
  pub same : bare_levels stack_at_end ≡ want

pub one_step : (d : Dialect) (file total n : ℕ) (levels new : GroupStack) (cs : List ℕ) (t : ScannedToken)
    → next_token d total cs ≡ Ok (Some t)
    → after_item (scanned_item file total t) levels ≡ Some new → stack_of d file total
    (suc n) levels cs ≡ stack_of d file total n new t.rest
one_step d file total n levels new cs t h k = rw (stack_of, h, k) refl

comes_on : (e : Edition) (file total n : ℕ) (levels new : GroupStack) (cs rest : List ℕ) (shape : Shape)
    (want : GroupStack)
    (r : Reads e total cs shape rest)
    → after_item (scanned_item file total (taken shape r.from rest)) levels ≡ Some new
    → Comes e file total n new rest want → Comes e file total (suc n) levels cs want
comes_on e file total n levels new cs rest shape want r a c = record {
  stack_at_end = c.stack_at_end;
  read = one_step (Rust e) file total n levels new cs (taken shape r.from rest) r.is a ∙ c.read;
  same = c.same;
}

at_end : (e : Edition) (file total n : ℕ) (levels : GroupStack) → stack_of (Rust e) file total n levels [] ≡ Ok levels
at_end e file total zero levels = refl
at_end e file total (suc n) levels = refl

same_kind : (k : DelimiterKind) → is_same_kind k k ≡ true
same_kind Parenthesis = refl
same_kind Brace = refl
same_kind Bracket = refl
same_kind Invisible = refl

closes : (k : DelimiterKind) (span : Span) (levels : GroupStack) → innermost_kind levels ≡ Some k
    → (if is_inside k (innermost_kind levels) then Some (closed span levels) else None) ≡ Some (closed span levels)
closes k span levels h =
    ap (λ (o : Option DelimiterKind). if is_inside k o then Some (closed span levels) else None) h
    ∙ ap (λ (b : Bool). if b then Some (closed span levels) else None) (same_kind k)

-- a punct that is no `'`
sign_comes : (e : Edition) (file total n c : ℕ) (sp : Spacing) (token_span : Span) (ts : List FlatToken)
    (s : PrinterState)
    (levels want : GroupStack)
    → IsSign false e (record { char = c; spacing = sp; span = token_span }) ts → AreRust e ts → bare_levels levels
    ≡ want
    → comment_next (record { char = c; spacing = sp; span = token_span }) ts s ≡ None
    → ((new : GroupStack) → bare_levels new
    ≡ step (token (punct (record { char = c; spacing = sp; span = token_span }))) want
    → Comes e file total n new (ahead 0 ts (with_punct s (record { char = c; spacing = sp; span = token_span })
    (next_place ts)))
    (made ts (step (token (punct (record { char = c; spacing = sp; span = token_span }))) want)))
    → Comes e file total (suc n) levels (ahead 0 (token (punct
    (record { char = c; spacing = sp; span = token_span })) ∷ ts) s)
    (made (token (punct (record { char = c; spacing = sp; span = token_span })) ∷ ts) want)
sign_comes e file total n c sp token_span ts s levels want h r same plain go =
    let p : Punct = record { char = c; spacing = sp; span = token_span } in
    let rest = ahead 0 ts (with_punct s p (next_place ts)) in
    let read = reads_sign e total c sp token_span ts s h r plain in
    let span = scanned_span file total (taken (punct_of c sp) read.from rest) in
    let one : Forest = one_leaf (punct (record { char = c; spacing = sp; span = span })) in
    comes_on e file total n levels (put one levels) (ahead 0 (token (punct p) ∷ ts) s) rest (punct_of c sp) (made
    (token (punct p) ∷ ts) want) read refl
    (go (put one levels) (bare_put one levels ∙ ap (put (one_leaf (bare_leaf (punct p)))) same))

-- a lifetime
lifetime_comes : (e : Edition) (file total n c : ℕ) (sp : Spacing) (token_span : Span) (i : Ident) (ts : List FlatToken)
    (s : PrinterState) (levels want : GroupStack)
    → (c == 39) ≡ true → IsLifetime e sp (token (ident i) ∷ ts) → IsIdent i → AreRust e ts → bare_levels levels ≡ want
    → ((new : GroupStack) → bare_levels new ≡ step (token (ident i)) (step (token (punct
    (record { char = c; spacing = sp; span = token_span }))) want)
    → Comes e file total n new (ahead 0 ts (word (with_punct s (record { char = c; spacing = sp; span = token_span })
    (Some i.span)) i))
    (made ts (step (token (ident i)) (step (token (punct (record { char = c; spacing = sp; span = token_span })))
    want))))
    → Comes e file total (suc n) levels (ahead 0 (token (punct (record { char = c; spacing = sp; span = token_span })) ∷
    (token (ident i) ∷ ts)) s)
    (made (token (punct (record { char = c; spacing = sp; span = token_span })) ∷ (token (ident i) ∷ ts)) want)
lifetime_comes e file total n c Alone token_span i ts s levels want h l w r same go = absurd (l)
lifetime_comes e file total n c Joint token_span i ts s levels want h l w r same go =
    let p : Punct = record { char = c; spacing = Joint; span = token_span } in
    let rest = ahead 0 ts (word (with_punct s p (Some i.span)) i) in
    let read = reads_lifetime e total c token_span i ts s h w l r in
    let shape = lifetime_of i.sym i.is_raw in
    let span = scanned_span file total (taken shape read.from rest) in
    let two : Forest = lifetime_trees span i.sym i.is_raw in
    let is39 : c ≡ 39 = grind (arith, nat_tests, h) in
    let mine : Leaf = bare_leaf (ident i) in
    comes_on e file total n levels (put two levels) (ahead 0 (token (punct p) ∷ (token (ident i) ∷ ts)) s) rest shape
    (made (token (punct p) ∷ (token (ident i) ∷ ts)) want) read refl
    (go (put two levels) (bare_put two levels
    ∙ (ap (put (leaf (bare_leaf (punct (record { char = 39; spacing = Joint; span = token_span }))) (leaf mine none)))
    same
    ∙ (ap (λ (x : ℕ). put (leaf (bare_leaf (punct (record { char = x; spacing = Joint; span = token_span })))
    (leaf mine none)) want) (sym is39)
    ∙ sym (put_more (one_leaf (bare_leaf (punct p))) (one_leaf mine) want)))))

-- a name follows a `'`
abbrev names : List FlatToken → Bool
names [] = false
names (token (ident i) ∷ ts) = true
names (token (literal l) ∷ ts) = false
names (token (punct p) ∷ ts) = false
names (opening d ∷ ts) = false
names (closing d ∷ ts) = false

no_lifetime : (e : Edition) (sp : Spacing) (ts : List FlatToken) → names ts ≡ false → IsLifetime e sp ts → ⊥
no_lifetime e Alone ts h l = l
no_lifetime e Joint [] h l = l
no_lifetime e Joint (token (ident i) ∷ ts) h l = absurd (cc)
no_lifetime e Joint (token (literal m) ∷ ts) h l = l
no_lifetime e Joint (token (punct p) ∷ ts) h l = l
no_lifetime e Joint (opening d ∷ ts) h l = l
no_lifetime e Joint (closing d ∷ ts) h l = l

is_no_tick : (e : Edition) (p : Punct) (ts : List FlatToken) (b : Bool) → names ts ≡ false → IsSign b e p ts
    → IsSign false e p ts
is_no_tick e p ts true h s = absurd (no_lifetime e p.spacing ts h s)
is_no_tick e p ts false h s = s

-- ---- whether a comment may be next

word_may_of : (s : PrinterState) (i : Ident) (b : Bool) → list_any (is_text (name_text i.sym)) (map codes keywords) ≡ b
    → may_precede_comment (word s i).last ≡ true
word_may_of s i true e = rw e refl
word_may_of s i false e = rw e refl

word_may : (s : PrinterState) (i : Ident) → may_precede_comment (word s i).last ≡ true
word_may s i = word_may_of s i (list_any (is_text (name_text i.sym)) (map codes keywords)) refl

alone_may : (c : ℕ) (colon semicolon colons : Bool) → (c == 59) ≡ semicolon → (c == 58 && colon) ≡ colons
    → may_precede_comment (last_punct Alone c colon) ≡ true
alone_may c colon true colons e f = rw e refl
alone_may c colon false true e f = rw (e, f) refl
alone_may c colon false false e f = rw (e, f) refl

punct_may : (sp : Spacing) (c : ℕ) (colon : Bool) → may_precede_comment (last_punct sp c colon) ≡ not (is_joint sp)
punct_may Joint c colon = refl
punct_may Alone c colon = alone_may c colon (c == 59) (c == 58 && colon) refl refl

opened_may : (k : DelimiterKind) (s : PrinterState) (token_span : Span) → k ≢ Invisible
    → may_precede_comment (opened s k token_span).last ≡ true
opened_may Parenthesis s token_span h = refl
opened_may Brace s token_span h = refl
opened_may Bracket s token_span h = refl
opened_may Invisible s token_span h = absurd (h refl)

closed_may : (k : DelimiterKind) (s : PrinterState) (token_span : Span) → k ≢ Invisible
    → may_precede_comment (writing.closed s k token_span).last ≡ true
closed_may Parenthesis s token_span h = refl
closed_may Brace s token_span h = refl
closed_may Bracket s token_span h = refl
closed_may Invisible s token_span h = absurd (h refl)

-- it is the same comment, then
same_next : (may joint : Bool) (o : Option DocComment) → may ≡ not joint
    → (if may then o else None) ≡ (if joint then None else o)
same_next may true o h = ap (λ (b : Bool). if b then o else None) h
same_next may false o h = ap (λ (b : Bool). if b then o else None) h

read_after_punct : (e : Edition) (p : Punct) (ts : List FlatToken) (s : PrinterState) (joint : Bool)
    (o : Option DocComment)
    → may_precede_comment s.last ≡ not joint → comment_next p ts s ≡ o → AreRead e 0 joint (token (punct p) ∷ ts)
    → AreRead e (skipped o) (joint_after o p) ts
read_after_punct e p ts s joint o may m k =
    let same : comment_after joint p ts ≡ o =
    sym (same_next (may_precede_comment s.last) joint (punct_flat p ts) may) ∙ m in
    subst (λ (x : Option DocComment). AreRead e (skipped x) (joint_after x p) ts) same k

-- so many steps make these tokens
abbrev Come : Edition → ℕ → ℕ → ℕ → Type 0
Come e file total n =
    (ts : List FlatToken) (s : PrinterState) (levels want : GroupStack) (joint : Bool) → AreRust e ts
    → AreRead e 0 joint ts
    → may_precede_comment s.last ≡ not joint → Fit ts want → bare_levels levels ≡ want
    → count 0 ts s ≤ n → Comes e file total n levels (ahead 0 ts s) (made ts want)

-- the same of tokens that begin with a punct
abbrev ComesAt : Edition → ℕ → ℕ → ℕ → Punct → List FlatToken → PrinterState → GroupStack → GroupStack → Type 0
ComesAt e file total n p ts s levels want =
    Comes e file total (suc n) levels (ahead 0 (token (punct p) ∷ ts) s) (made (token (punct p) ∷ ts) want)

-- ---- a punct

-- where no name follows it
no_name_comes : (e : Edition) (file total n : ℕ) (go : Come e file total n) (p : Punct) (ts : List FlatToken)
    (s : PrinterState)
    (levels want : GroupStack)
    → AreRust e (token (punct p) ∷ ts) → AreRead e 0 (is_joint p.spacing) ts → Fit (token (punct p) ∷ ts) want
    → bare_levels levels ≡ want
    → comment_next p ts s ≡ None → count 0 ts (after (token (punct p)) ts s) ≤ n → names ts ≡ false
    → ComesAt e file total n p ts s levels want
no_name_comes e file total n go p ts s levels want h k f same plain le unnamed =
    sign_comes e file total n p.char p.spacing p.span ts s levels want (is_no_tick e p ts
    (p.char == 39) unnamed h.0) h.1 same plain
    (λ new q. go ts (with_punct s p (next_place ts)) new (step (token (punct p)) want) (is_joint p.spacing) h.1 k
    (punct_may p.spacing p.char (is_colon s.last)) f q le)

sign_or_lifetime : (e : Edition) (file total n : ℕ) (go : Come e file total n) (p : Punct) (ts : List FlatToken)
    (s : PrinterState)
    (levels want : GroupStack)
    → AreRust e (token (punct p) ∷ ts) → AreRead e 0 (is_joint p.spacing) ts → Fit (token (punct p) ∷ ts) want
    → bare_levels levels ≡ want
    → comment_next p ts s ≡ None → count 0 ts (after (token (punct p)) ts s) ≤ n
    → ComesAt e file total n p ts s levels want
sign_or_lifetime e file total n go p [] s levels want h k f same plain le =
    no_name_comes e file total n go p [] s levels want h k f same plain le refl
sign_or_lifetime e file total n go p (token (literal l) ∷ ts) s levels want h k f same plain le =
    no_name_comes e file total n go p (token (literal l) ∷ ts) s levels want h k f same plain le refl
sign_or_lifetime e file total n go p (token (punct o) ∷ ts) s levels want h k f same plain le =
    no_name_comes e file total n go p (token (punct o) ∷ ts) s levels want h k f same plain le refl
sign_or_lifetime e file total n go p (opening d ∷ ts) s levels want h k f same plain le =
    no_name_comes e file total n go p (opening d ∷ ts) s levels want h k f same plain le refl
sign_or_lifetime e file total n go p (closing d ∷ ts) s levels want h k f same plain le =
    no_name_comes e file total n go p (closing d ∷ ts) s levels want h k f same plain le refl
sign_or_lifetime e file total n go p (token (ident i) ∷ ts) s levels want h k f same plain le =
    by (p.char == 39) refl h.0
  where
    by : (b : Bool) → (p.char == 39) ≡ b → IsSign b e p (token (ident i) ∷ ts)
        → ComesAt e file total n p (token (ident i) ∷ ts) s levels want
    by true t l =
        lifetime_comes e file total n p.char p.spacing p.span i ts s levels want t l h.1.0 h.1.1 same
        (λ new q. go ts (word (with_punct s p (Some i.span)) i) new (step (token (ident i)) (step (token
        (punct p)) want)) false h.1.1 k (word_may (with_punct s p (Some i.span)) i) f q
        (omega (arith, le)))
    by false t l =
        sign_comes e file total n p.char p.spacing p.span (token (ident i) ∷ ts) s levels want l h.1 same plain
        (λ new q. go (token (ident i) ∷ ts) (with_punct s p (Some i.span)) new (step (token (punct p)) want)
        (is_joint p.spacing) h.1 k (punct_may p.spacing p.char (is_colon s.last)) f q le)

-- ---- a comment

-- the tokens of a comment make what the lexer makes of it
record CommentMakes (e : Edition) (ts : List FlatToken) (c : DocComment) (levels want : GroupStack) : Type 0 where
  pub rest : List FlatToken
  pub rust : AreRust e rest
  pub are_read : AreRead e 0 false rest
  pub utf8 : IsUtf8 c.text
  pub written : is_comment c.is_inner c.is_block c.text ≡ true
  pub new : GroupStack
  pub fit : Fit rest new
  pub made_is : levels ≡ made rest new
  pub new_is : new ≡ put (bare (doc_trees no_span c.text c.is_inner)) want
  pub ahead_is : (s : PrinterState) → ahead (more_tokens c.is_inner) ts s ≡ ahead 0 rest s
  pub count_is : (s : PrinterState) → count (more_tokens c.is_inner) ts s ≡ count 0 rest s

-- trees of these tokens
abbrev bare_punct : ℕ → Spacing → Leaf
bare_punct c sp = punct (record { char = c; spacing = sp; span = no_span })

abbrev bare_group : DelimiterKind → Ident → Punct → Literal → Forest
bare_group k i q l =
    group (record { opening = no_span; close = no_span; kind = k })
    (leaf (bare_leaf (ident i)) (leaf (bare_leaf (punct q)) (leaf (bare_leaf (literal l)) none))) none

bare_group_is : (k : DelimiterKind) (i : Ident) (q : Punct) (l : Literal) → k ≡ Bracket → IsSetting i q l
    → bare_group k i q l ≡ bare (doc_group no_span l.text_and_suffix)
bare_group_is k i q l b is =
    rw (b, is.doc, is.plain, is.equals, is.alone, is.no_suffix, is.raw) refl

outer_makes : (e : Edition) (p : Punct) (ts : List FlatToken) (s : PrinterState) (c : DocComment) (want : GroupStack)
    → AreRust e ts → AreRead e (more_tokens c.is_inner) false ts → Fit (token (punct p) ∷ ts) want
    → comment_next p ts s ≡ Some c
    → CommentMakes e ts c (made (token (punct p) ∷ ts) want) want
outer_makes e p ts s c want r a f m =
    comment_case (λ us x. AreRust e us → AreRead e (more_tokens x.is_inner) false us → Fit (token (punct p) ∷ us) want
    → CommentMakes e us x (made (token (punct p) ∷ us) want) want) p ts s c
    (λ d hash alone k i q l end us is written rust are fit.
    let own : Forest = leaf (punct p) (group d (leaf (ident i) (leaf (punct q) (leaf
    (literal l) none))) none) in record {
      rest = us;
      rust = rust.1.1.1.1.1;
      are_read = are;
      utf8 = raw_text_utf8 l (most_guards 0 l.text_and_suffix) is.no_suffix is.raw rust.1.1.1.0.0.0;
      written = written;
      new = made (flat own) want;
      fit = fit.1;
      made_is = refl;
      new_is = made_flat own [] want ∙ ap (λ (x : Forest). put x want) (rw (hash, alone)
          (ap (leaf (bare_punct 35 Alone)) (bare_group_is d.kind i q l k is)));
      ahead_is = λ t. refl;
      count_is = λ t. refl;
    })
    (λ o d hash joint bang alone k i q l end us is written rust are fit.
    let own : Forest = leaf (punct p) (leaf (punct o) (group d (leaf (ident i) (leaf (punct q) (leaf
    (literal l) none))) none)) in record {
      rest = us;
      rust = rust.1.1.1.1.1.1;
      are_read = are;
      utf8 = raw_text_utf8 l (most_guards 0 l.text_and_suffix) is.no_suffix is.raw rust.1.1.1.1.0.0.0;
      written = written;
      new = made (flat own) want;
      fit = fit.1;
      made_is = refl;
      new_is = made_flat own [] want ∙ ap (λ (x : Forest). put x want) (rw (hash, joint, bang, alone)
          (ap (λ (x : Forest). leaf (bare_punct 35 Joint) (leaf (bare_punct 33 Alone) x))
          (bare_group_is d.kind i q l k is)));
      ahead_is = λ t. refl;
      count_is = λ t. refl;
    })
    m r a f

bare_doc : (b : Bool) (span : Span) (text : List ℕ) → bare (doc_trees span text b) ≡ bare (doc_trees no_span text b)
bare_doc true span text = refl
bare_doc false span text = refl

-- blanks make nothing
gap_comes : (e : Edition) (file total n depth : ℕ) (levels want : GroupStack) (cs : List ℕ)
    → Comes e file total n levels cs want
    → Comes e file total n levels (line_gap depth ++ cs) want
gap_comes e file total n depth levels want cs c = record {
  stack_at_end = c.stack_at_end;
  read = passed n ∙ c.read;
  same = c.same;
}
  where
    passed : (k : ℕ) → stack_of (Rust e) file total k levels (line_gap depth ++ cs)
        ≡ stack_of (Rust e) file total k levels cs
    passed zero = refl
    passed (suc k) = rw (stack_of, gap_is_blank (Rust e) total depth (reasons true false false) cs) refl

comment_comes : (e : Edition) (file total n : ℕ) (go : Come e file total n) (p : Punct) (ts : List FlatToken)
    (s : PrinterState)
    (levels want : GroupStack) (c : DocComment)
    → AreRust e ts → AreRead e (more_tokens c.is_inner) false ts → Fit (token (punct p) ∷ ts) want
    → bare_levels levels ≡ want
    → comment_next p ts s ≡ Some c → count (more_tokens c.is_inner) ts (with_comment s c) ≤ n
    → ComesAt e file total n p ts s levels want
comment_comes e file total n go p ts s levels want c r a f same m le =
    let k = outer_makes e p ts s c want r a f m in
    let state = with_comment s c in
    let more = ahead (more_tokens c.is_inner) ts state in
    let rest : List ℕ = line_gap s.depth ++ more in
    let shape = doc_of c.text c.is_inner in
    let read = read_after e total (token (punct p)) ts s shape rest (rw m
    (comment_reads e total c s.depth more k.utf8 k.written)) in
    let span = scanned_span file total (taken shape read.from rest) in
    let trees : Forest = doc_trees span c.text c.is_inner in
    let new_is : bare_levels (put trees levels) ≡ k.new =
    bare_put trees levels ∙ (ap (λ (x : GroupStack). put (bare trees) x) same
    ∙ (ap (λ (x : Forest). put x want) (bare_doc c.is_inner span c.text) ∙ sym k.new_is)) in
    let few : count 0 k.rest state ≤ n = subst (λ (x : ℕ). x ≤ n) (k.count_is state) le in
    let later = go k.rest state (put trees levels) k.new false k.rust k.are_read refl k.fit new_is few in
    let here : Comes e file total n (put trees levels) more (made (token (punct p) ∷ ts) want) =
    subst (λ (x : List ℕ). Comes e file total n (put trees levels) x (made (token (punct p) ∷ ts) want)) (sym
    (k.ahead_is state))
    (subst (λ (x : GroupStack). Comes e file total n (put trees levels) (ahead 0 k.rest state) x) (sym k.made_is) later)
    in
    comes_on e file total n levels (put trees levels) (ahead 0 (token (punct p) ∷ ts) s) rest shape
    (made (token (punct p) ∷ ts) want) read refl
    (gap_comes e file total n s.depth (put trees levels) (made (token (punct p) ∷ ts) want) more here)

punct_comes : (e : Edition) (file total n : ℕ) (go : Come e file total n) (p : Punct) (ts : List FlatToken)
    (s : PrinterState)
    (levels want : GroupStack) (joint : Bool)
    → AreRust e (token (punct p) ∷ ts) → AreRead e 0 joint (token (punct p) ∷ ts)
    → may_precede_comment s.last ≡ not joint → Fit (token (punct p) ∷ ts) want → bare_levels levels ≡ want
    → count 0 (token (punct p) ∷ ts) s ≤ suc n → ComesAt e file total n p ts s levels want
punct_comes e file total n go p ts s levels want joint h k may f same le = by (comment_next p ts s) refl
  where
    few : (o : Option DocComment) → comment_next p ts s ≡ o
        → count (token_or_comment o (token (punct p)) ts s).more ts (token_or_comment o (token
        (punct p)) ts s).state ≤ n
    few o m =
        let k : suc (count (token_or_comment o (token (punct p)) ts s).more ts (token_or_comment o (token
        (punct p)) ts s).state) ≤ suc n =
        subst (λ (x : Option DocComment). suc (count (token_or_comment x (token (punct p)) ts s).more ts
        (token_or_comment x (token (punct p)) ts s).state) ≤ suc n) m le in omega (arith, k)

    by : (o : Option DocComment) → comment_next p ts s ≡ o → ComesAt e file total n p ts s levels want
    by None m =
        sign_or_lifetime e file total n go p ts s levels want h (read_after_punct e p ts s joint None may m k) f same m
        (few None m)
    by (Some c) m =
        comment_comes e file total n go p ts s levels want c h.1 (read_after_punct e p ts s joint (Some c) may m k) f
        same m (few (Some c) m)

come : (e : Edition) (file total n : ℕ) → Come e file total n
come e file total n [] s levels want joint h k may f same le = record {
  stack_at_end = levels;
  read = at_end e file total n
      levels;
  same = same;
}
come e file total zero (t ∷ ts) s levels want joint h k may f same le = absurd (omega (arith, le))
come e file total (suc n) (token (ident i) ∷ ts) s levels want joint h k may f same le =
    let rest = ahead 0 ts (word s i) in
    let r = reads_ident e total i ts s h.0 h.1 in
    let span = scanned_span file total (taken (identifier i.sym i.is_raw) r.from rest) in
    let one : Forest = one_leaf (ident (record { sym = i.sym; is_raw = i.is_raw; span = span })) in
    comes_on e file total n levels (put one levels) (ahead 0 (token (ident i) ∷ ts) s) rest
    (identifier i.sym i.is_raw) (made (token (ident i) ∷ ts) want) r refl
    (come e file total n ts (word s i) (put one levels) (step (token (ident i)) want) false h.1 k (word_may s i) f
    (bare_put one levels ∙ ap (put (one_leaf (bare_leaf (ident i)))) same) (omega (arith, le)))
come e file total (suc n) (token (literal l) ∷ ts) s levels want joint h k may f same le =
    let rest = ahead 0 ts (with_literal s l) in
    let b = literal_before e l s ts k.0 h.0.1 h.1 in
    let shape = literal_of b.text b.suffix l.suffix_len l.kind in
    let r = read_after e total (token (literal l)) ts s shape rest (literal_reads e total l rest k.0 b) in
    let span = scanned_span file total (taken shape r.from rest) in
    let read : Literal = record {
      text_and_suffix = b.text ++ b.suffix;
      suffix_len = l.suffix_len;
      kind = l.kind;
      span = span;
    } in
    let one : Forest = one_leaf (literal read) in
    let is : bare_leaf (literal read) ≡ bare_leaf (literal l) =
    ap (λ (x : List ℕ). bare_leaf (literal (record l { text_and_suffix = x }))) b.parts in
    comes_on e file total n levels (put one levels) (ahead 0 (token (literal l) ∷ ts) s) rest shape (made (token
    (literal l) ∷ ts) want) r refl
    (come e file total n ts (with_literal s l) (put one levels) (step (token (literal l)) want) false h.1 k.1 refl f
    (bare_put one levels ∙ (ap (λ (x : Leaf). put (one_leaf x) (bare_levels levels)) is
    ∙ ap (put (one_leaf (bare_leaf (literal l)))) same)) (omega (arith, le)))
come e file total (suc n) (opening d ∷ ts) s levels want joint h k may f same le =
    let rest = ahead 0 ts (after (opening d) ts s) in
    let r = read_after e total (opening d) ts s (shape.opening d.kind) rest (opening_reads e total d.kind rest h.0) in
    let span = scanned_span file total (taken (shape.opening d.kind) r.from rest) in
    let new : GroupStack = (record { opening = span; close = span; kind = d.kind }, none) ∷ levels in
    comes_on e file total n levels new (ahead 0 (opening d ∷ ts) s) rest (shape.opening d.kind) (made
    (opening d ∷ ts) want) r refl
    (come e file total n ts (after (opening d) ts s) new (step (opening d) want) false h.1 k
    (opened_may d.kind s d.opening h.0) f
    (ap (λ (x : GroupStack). (bare_delimiter d, none) ∷ x) same) (omega (arith, le)))
come e file total (suc n) (closing d ∷ ts) s levels want joint h k may f same le =
    let rest = ahead 0 ts (after (closing d) ts s) in
    let r = read_after e total (closing d) ts s (shape.closing d.kind) rest (closing_reads e total d.kind rest h.0) in
    let span = scanned_span file total (taken (shape.closing d.kind) r.from rest) in
    let new : GroupStack = closed span levels in
    let inside : innermost_kind levels ≡ Some d.kind = sym (bare_kind levels) ∙ (ap innermost_kind same ∙ f.0) in
    comes_on e file total n levels new (ahead 0 (closing d ∷ ts) s) rest (shape.closing d.kind) (made
    (closing d ∷ ts) want) r (closes d.kind span levels inside)
    (come e file total n ts (after (closing d) ts s) new (step (closing d) want) false h.1 k
    (closed_may d.kind s d.close h.0) f.1
    (bare_closed span levels ∙ ap (closed no_span) same) (omega (arith, le)))
come e file total (suc n) (token (punct p) ∷ ts) s levels want joint h k may f same le =
    punct_comes e file total n (λ us t new all flag. come e file total n us t new all flag) p ts s levels want joint h k
    may
    f same le

-- ---- a whole text

nonempty : (text : List ℕ) (c : ℕ) (cs : List ℕ) → chars text ≡ c ∷ cs → 0 < length text
nonempty [] c cs h = absurd (let z : [] ≡ c ∷ cs = sym chars-nil ∙ h in cc)
nonempty (b ∷ bs) c cs h = omega arith

literal_some : (text cs : List ℕ) → chars text ≡ cs → begins_literal cs ≡ true → 0 < length text
literal_some text [] h f = absurd (cc)
literal_some text (c ∷ cs) h f = nonempty text c cs h

raw_longer : (r : IdentIsRaw) (name : List ℕ) → 0 < length name → 0 < length (raw_prefix r ++ name)
raw_longer No name h = h
raw_longer Yes name h = omega arith

word_some : (i : Ident) → IsIdent i → 0 < length (raw_prefix i.is_raw ++ name_text i.sym)
word_some i h =
    let a = letters i.sym h.0 in
    subst (λ (x : List ℕ). 0 < length (raw_prefix i.is_raw ++ x)) (sym (word_text i.sym h.0))
    (raw_longer i.is_raw i.sym (nonempty i.sym a.first a.more a.are))

some_of : (e : Edition) (t : FlatToken) (ts : List FlatToken) → AreRust e (t ∷ ts) → 0 < length (spelled t)
some_of e (token (ident i)) ts h = word_some i h.0
some_of e (token (literal l)) ts h = literal_some (literal_output l) (chars (literal_output l)) refl h.0.0.1
some_of e (token (punct p)) ts h = nonempty (encode_utf8 p.char) p.char [] (is_sign e p ts h.0).one
some_of e (opening d) ts h = let o = opening_is d.kind h.0 in nonempty (opening_text d.kind) o.char [] o.is.one
some_of e (closing d) ts h = let o = closing_is d.kind h.0 in nonempty (closing_text d.kind) o.char [] o.is.one

comment_some : (c : DocComment) (depth : ℕ) → 0 < length (comment_text c depth)
comment_some c depth = by c.is_inner c.is_block (c.text ++ (comment_closer c.is_block ++ line_gap depth))
  where
    by : (inner block : Bool) (rest : List ℕ) → 0 < length (comment_opener inner block ++ rest)
    by true true rest = omega arith
    by true false rest = omega arith
    by false true rest = omega arith
    by false false rest = omega arith

written_some : (e : Edition) (t : FlatToken) (ts : List FlatToken) (s : PrinterState) → AreRust e (t ∷ ts)
    → 0 < length (next_written t ts s).text
written_some e (token (ident i)) ts s h = some_of e (token (ident i)) ts h
written_some e (token (literal l)) ts s h = some_of e (token (literal l)) ts h
written_some e (opening d) ts s h = some_of e (opening d) ts h
written_some e (closing d) ts s h = some_of e (closing d) ts h
written_some e (token (punct p)) ts s h = by (comment_next p ts s)
  where
    by : (o : Option DocComment) → 0 < length (token_or_comment o (token (punct p)) ts s).text
    by None = some_of e (token (punct p)) ts h
    by (Some c) = comment_some c s.depth

-- each token or comment has a byte
as_long : (e : Edition) (n : ℕ) (ts : List FlatToken) (s : PrinterState) → AreRust e ts
    → count n ts s ≤ length (left n ts s)
as_long e n [] s h = omega arith
as_long e (suc n) (t ∷ ts) s h = as_long e n ts s (later e t ts h)
as_long e zero (t ∷ ts) s h =
    let w = next_written t ts s in
    omega (
      arith,
      length-append (gap_of w.gap w.depth) (w.text ++ left w.more ts w.state),
      length-append w.text (left w.more ts w.state),
      written_some e t ts s h,
      as_long e w.more ts w.state (later e t ts h),
    )

-- neither a byte order mark nor a shebang begins the text
abbrev has_no_head : List ℕ → Bool
has_no_head [] = true
has_no_head (c ∷ cs) = not (c == 65279) && not (c == 35 && begins_with (codes "!") cs)

gap_no_head : (cs : List ℕ) → begins_gap cs ≡ true → has_no_head cs ≡ true
gap_no_head [] h = refl
gap_no_head (c ∷ cs) h = grind (arith, nat_tests, h)

start_no_head : (c : ℕ) (cs : List ℕ) → is_start c ≡ true → has_no_head (c ∷ cs) ≡ true
start_no_head c cs h = rw (mark_not_start c h, start_not_hash c h) refl

literal_no_head : (text rest : List ℕ) → begins_literal text ≡ true → has_no_head (text ++ rest) ≡ true
literal_no_head [] rest h = absurd (cc)
literal_no_head (c ∷ cs) rest h = by_start (is_start c) refl h
  where
    by_start : (b : Bool) → is_start c ≡ b → begins_literal (c ∷ []) ≡ true → has_no_head (c ∷ (cs ++ rest)) ≡ true
    by_start true e f = start_no_head c (cs ++ rest) e
    by_start false e f = grind (arith, nat_tests, e, f)

side_no_head : (c : ℕ) (cs : List ℕ) → is_side c ≡ true → has_no_head (c ∷ cs) ≡ true
side_no_head c cs h = grind (arith, nat_tests, h)

sign_no_head : (c : ℕ) (cs : List ℕ) → c < 128 → (c == 35) ≡ false → has_no_head (c ∷ cs) ≡ true
sign_no_head c cs small h = grind (arith, nat_tests, h)

alone_no_head : (c : ℕ) (cs : List ℕ) → c < 128 → ends_alone c cs ≡ true → has_no_head (c ∷ cs) ≡ true
alone_no_head c [] small h = grind (arith, nat_tests)
alone_no_head c (d ∷ cs) small h = grind (arith, nat_tests, h)

punct_no_head : (e : Edition) (depth c : ℕ) (sp : Spacing) (token_span : Span) (ts : List FlatToken) (hash : Bool)
    → (c == 35) ≡ hash → c < 128
    → IsPunct e (record { char = c; spacing = sp; span = token_span }) ts → AreRust e ts
    → (is_joint sp && c == 35 && not (false && true)) ≡ false
    → has_no_head (c ∷ ahead 0 ts (with_punct (start depth) (record { char = c; spacing = sp; span = token_span })
    (next_place ts))) ≡ true
punct_no_head e depth c sp token_span ts false d small h r k =
    sign_no_head c (ahead 0 ts (with_punct (start depth) (record { char = c; spacing = sp; span = token_span })
    (next_place ts))) small d
punct_no_head e depth c Joint token_span ts true d small h r k = absurd (grind (arith, nat_tests, d, k))
punct_no_head e depth c Alone token_span ts true d small h r k =
    let state = with_punct (start depth) (record { char = c; spacing = Alone; span = token_span }) (next_place ts) in
    alone_no_head c (ahead 0 ts state) small (alone_ends e c ts state (alone_like c token_span (next_place ts)
    (start depth)) r)

no_head : (e : Edition) (ts : List FlatToken) (depth : ℕ) → AreRust e ts → has_no_head (ahead 0 ts (start depth)) ≡ true
no_head e [] depth h = refl
no_head e (token (ident i) ∷ ts) depth h =
    follows has_no_head (token (ident i)) ts (start depth) gap_no_head
    (λ k. word_front has_no_head i (ahead 0 ts (after (token (ident i)) ts (start depth))) h.0 start_no_head)
no_head e (token (literal l) ∷ ts) depth h =
    follows has_no_head (token (literal l)) ts (start depth) gap_no_head
    (λ k. literal_no_head (chars (literal_output l)) (ahead 0 ts (after (token (literal l)) ts
    (start depth))) h.0.0.1)
no_head e (token (punct p) ∷ ts) depth h =
    follows has_no_head (token (punct p)) ts (start depth) gap_no_head (by (comment_next p ts (start depth)) refl)
  where
    by : (o : Option DocComment) → comment_next p ts (start depth) ≡ o
        → ((token_or_comment o (token (punct p)) ts (start depth)).gap.apart && not
        (token_or_comment o (token (punct p)) ts (start depth)).gap.beside) ≡ false
        → has_no_head (chars (token_or_comment o (token (punct p)) ts (start depth)).text
        ++ ahead (token_or_comment o (token (punct p)) ts (start depth)).more ts
        (token_or_comment o (token (punct p)) ts (start depth)).state) ≡ true
    by None m k =
        fronted has_no_head p.char (encode_utf8 p.char) (ahead 0 ts (after (token (punct p)) ts (start depth)))
        (is_sign e p ts h.0)
        (punct_no_head e depth p.char p.spacing p.span ts (p.char == 35) refl (sign_small e p ts
        (p.char == 39) refl h.0) h.0 h.1 k)
    by (Some c) m k =
        ap has_no_head (comment_chars c depth (ahead (more_tokens c.is_inner) ts (with_comment (start depth) c))
        (text_utf8 e p ts (start depth) c h.1 m))
no_head e (opening d ∷ ts) depth h =
    let o = opening_is d.kind h.0 in
    follows has_no_head (opening d) ts (start depth) gap_no_head
    (λ k. fronted has_no_head o.char (opening_text d.kind) (ahead 0 ts (after (opening d) ts (start depth))) o.is
    (side_no_head o.char (ahead 0 ts (after (opening d) ts (start depth))) o.side))
no_head e (closing d ∷ ts) depth h =
    let o = closing_is d.kind h.0 in
    follows has_no_head (closing d) ts (start depth) gap_no_head
    (λ k. fronted has_no_head o.char (closing_text d.kind) (ahead 0 ts (after (closing d) ts (start depth))) o.is
    (side_no_head o.char (ahead 0 ts (after (closing d) ts (start depth))) o.side))

head_gone : (e : Edition) (total : ℕ) (cs : List ℕ) → has_no_head cs ≡ true → after_preamble (Rust e) total cs ≡ cs
head_gone e total [] h = refl
head_gone e total (c ∷ cs) h =
    let mark : (c == 65279) ≡ false = grind (arith, nat_tests, h) in
    let bang : (c == 35 && begins_with (codes "!") cs) ≡ false = grind (arith, nat_tests, h) in
    rw (mark, bang) refl

abbrev inside_of : GroupStack → Forest
inside_of [] = none
inside_of (g ∷ outer) = g.1

one_level : (levels : GroupStack) (d : Delimiter) (f : Forest) → bare_levels levels ≡ (d, f) ∷ []
    → (g : Delimiter × Forest) × (levels ≡ g ∷ []) × (bare g.1 ≡ f)
one_level [] d f h = absurd (cc)
one_level (g ∷ []) d f h = (g, refl, ap inside_of h)
one_level (g ∷ (k ∷ outer)) d f h = absurd (cc)

whole_trees : (e : Edition) (file : ℕ) (text : List ℕ) (levels : GroupStack) (g : Delimiter × Forest)
    → stack_at_end (Rust e) file text ≡ Ok levels
    → levels ≡ g ∷ [] → lexed_trees (Rust e) file text ≡ Ok g
whole_trees e file text levels g h k = rw (lexed_trees, h, k) refl

pub trees_round_trip : TreesRoundTrip
trees_round_trip e file depth f h =
    let ts = flat f in
    let text = left 0 ts (start depth) in
    let total = length text in
    let began : GroupStack = whole file total in
    let want : GroupStack = bare_levels began in
    let fits : Fit (ts ++ []) want = fit_flat f [] (
      bare_delimiter
          (record { opening = bytes_of file 0 total; close = bytes_of file 0 total; kind = Invisible }),
      none,
    ) [] tt in
    let fit : Fit ts want = subst (λ (x : List FlatToken). Fit x want) (append-nil ts) fits in
    let c = come e file total total ts (start depth) began want false h.0 h.1 refl fit refl
    (as_long e 0 ts (start depth) h.0) in
    let shown : chars text ≡ ahead 0 ts (start depth) = chars_left e 0 ts (start depth) h.0 in
    let begun : after_preamble (Rust e) total (chars text) ≡ ahead 0 ts (start depth) =
    ap (after_preamble (Rust e) total) shown ∙ head_gone e total (ahead 0 ts (start depth)) (no_head e ts depth h.0) in
    let read : stack_at_end (Rust e) file text ≡ Ok c.stack_at_end =
    ap (λ (x : List ℕ). stack_of (Rust e) file total total began x) begun ∙ c.read in
    let all : made ts want ≡ put (bare f) want = ap (λ (x : List FlatToken). made x want) (sym (append-nil ts))
    ∙ made_flat f [] want in
    let one = one_level c.stack_at_end (bare_delimiter
    (record { opening = bytes_of file 0 total; close = bytes_of file 0 total; kind = Invisible })) (bare f)
    (c.same ∙ all) in
    record {
      top = one.0;
      read = ap (lexed_trees (Rust e) file) (text_of_is depth f)
          ∙ whole_trees e file text c.stack_at_end one.0 read one.1;
      same = one.2;
    }
