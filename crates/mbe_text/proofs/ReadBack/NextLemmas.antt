-- Literals and puncts, before what is written after them.
use Rattle.std.proofs.Common.{◌≡◌, ℕ, ◌==◌, ◌<◌, ◌⊎◌, inl, inr, not, ◌&&◌, ◌||◌, Bool, true, false, List, [], ◌∷◌, ◌++◌}
use Rattle.std.proofs.Common.{refl, sym, ap, ◌∙◌, arith, codes, Some, chars, encode_utf8, subst}
use Rattle.std.proofs.lemmas.Bool.Decides.{nat_tests}
use Rattle.unicode_ident.specs.Ident.{is_xid_continue}
use Rattle.unicode_ident.proofs.IdentLemmas.{is_xid_continue-ascii}
use Rattle.mbe_tt.specs.declared.span.Edition.{Edition}
use Rattle.mbe_tt.specs.declared.span.Span.{Span}
use Rattle.mbe_tt.specs.declared.tt.Punct.{Punct}
use Rattle.mbe_tt.specs.declared.tt.Spacing.{Spacing}
use Rattle.mbe_tt.specs.declared.tt.Spacing.TheVariants.{Alone, Joint}
use Rattle.mbe_tt.specs.Trees.Editions.{at_least_2024}
use Rattle.mbe_tt.specs.Trees.Leaf.{Literal, literal, punct, ident}
use Rattle.mbe_tt.specs.Trees.Literals.{literal_output}
use Rattle.mbe_tt.specs.Trees.Tree.{FlatToken, token, opening, closing}
use Rattle.mbe_text.specs.RustText.Gaps.{is_one_of, is_adjacent, is_adjacent_to_next, are_adjacent, has_same_span}
use Rattle.mbe_text.specs.RustText.Printer.{PrinterState, with_literal, with_punct}
use Rattle.mbe_text.specs.Whitespace.{begins_comment}
use Rattle.mbe_text.specs.Characters.{begins_with}
use Rattle.mbe_text.specs.RustTokens.{is_guard}
use Rattle.mbe_text.specs.Punctuation.{spacing_before}
use Rattle.mbe_text.specs.Tokens.{opening_text, closing_text}
use Rattle.mbe_text.specs.Laws.Gaps.{before, is_punct}
use Rattle.mbe_text.specs.Laws.RustTrees.{next_place, AreRust, IsSign, IsPunct, IsBeforeDot, IsLiteral, IsReadBefore}
use Rattle.mbe_text.specs.Laws.RustTrees.{MayHaveFields, MayPrecedeDots, may_follow_dot, make_another, is_start}
use Rattle.mbe_text.specs.Laws.RustTrees.{begins_word, begins_field, ends_literal}
use Rattle.mbe_text.proofs.ReadBack.EndLemmas.{gap_ends_literal, punct_not_continue}
use Rattle.mbe_text.proofs.ReadBack.CommentLemmas.{no_comment_at}
use Rattle.mbe_text.proofs.ReadBack.TextLemmas.{spelled, after, ahead, the_gap, gap_of}
use Rattle.mbe_text.proofs.ReadBack.FollowLemmas.{is_sign, is_side, opening_is, closing_is, follows, follows_punct}
use Rattle.mbe_text.proofs.ReadBack.FollowLemmas.{fronted, never, ends_alone, alone_like, alone_ends, word_front}
use Rattle.mbe_text.proofs.ReadBack.QuoteLemmas.{same_char}

-- ---- puncts

-- what follows a punct leaves it as it is
pub record IsPunctBefore (e : Edition) (c : ℕ) (sp : Spacing) (rest : List ℕ) : Type 0 where
  pub spacing : spacing_before rest ≡ sp
  pub guard : is_guard e (c ∷ rest) ≡ false
  pub comment : begins_comment (c ∷ rest) ≡ false

and_no : (b : Bool) → (b && false) ≡ false
and_no true = refl
and_no false = refl

alone_before : (e : Edition) (c : ℕ) (rest : List ℕ) → ends_alone c rest ≡ true → IsPunctBefore e c Alone rest
alone_before e c [] h = record {
  spacing = refl;
  guard = let g : ((c == 35 && false) || (c == 35 && false)) ≡ false = rw (and_no (c == 35)) refl in rw g (and_no
      (at_least_2024 e));
  comment = rw (and_no (c == 47)) refl;
}
alone_before e c (d ∷ ds) h =
    let n : is_punct d ≡ false = grind (arith, nat_tests, h) in record {
      spacing = rw n refl;
      guard = let g : ((c == 35 && (d == 35 && true)) || (c == 35 && (d == 34 && true))) ≡ false = grind
          (arith, nat_tests, h) in
          rw g (and_no (at_least_2024 e));
      comment = grind (arith, nat_tests, n);
    }

-- puncts of one place, or side by side, have no gap between them
no_gap_between : (same beside : Bool) (depth : ℕ) (cs : List ℕ) → (same || beside) ≡ true
    → before false (not same) (beside && true) depth ++ cs ≡ cs
no_gap_between true true depth cs h = refl
no_gap_between true false depth cs h = refl
no_gap_between false true depth cs h = refl
no_gap_between false false depth cs h = absurd (cc)

joint_before : (e : Edition) (c d : ℕ) (rest : List ℕ) → is_punct d ≡ true → make_another e c d ≡ false
    → begins_comment (d ∷ rest) ≡ false
    → IsPunctBefore e c Joint (d ∷ rest)
joint_before e c d rest p m n = record {
  spacing = rw (p, n) refl;
  guard = guard_of (at_least_2024 e) m p;
  comment = grind (arith, nat_tests, m);
}
  where
    guard_of : (b : Bool) → ((c == 47 && (d == 47 || d == 42)) || (b && (c == 35 && d == 35))) ≡ false
        → is_punct d ≡ true
        → (b && ((c == 35 && (d == 35 && true)) || (c == 35 && (d == 34 && true)))) ≡ false
    guard_of b m p = grind (arith, nat_tests, m, p)

not_a_tick : (c : ℕ) → is_punct c ≡ true → (c == 39) ≡ false
not_a_tick c h = grind (arith, nat_tests, h)

pub punct_before : (e : Edition) (c : ℕ) (sp : Spacing) (token_span : Span) (s : PrinterState) (ts : List FlatToken)
    → IsSign false e (record { char = c; spacing = sp; span = token_span }) ts
    → AreRust e ts → IsPunctBefore e c sp
    (ahead 0 ts (with_punct s (record { char = c; spacing = sp; span = token_span })
    (next_place ts)))
punct_before e c Alone token_span s ts h r =
    let state = with_punct s (record { char = c; spacing = Alone; span = token_span }) (next_place ts) in
    alone_before e c (ahead 0 ts state) (alone_ends e c ts state (alone_like c token_span (next_place ts) s) r)
punct_before e c Joint token_span s [] h r = absurd (h.1)
punct_before e c Joint token_span s (token (ident i) ∷ ts) h r = absurd (h.1)
punct_before e c Joint token_span s (token (literal l) ∷ ts) h r = absurd (h.1)
punct_before e c Joint token_span s (opening d ∷ ts) h r = absurd (h.1)
punct_before e c Joint token_span s (closing d ∷ ts) h r = absurd (h.1)
punct_before e c Joint token_span s (token (punct q) ∷ ts) h r =
    let state = with_punct s (record { char = c; spacing = Joint; span = token_span }) (Some q.span) in
    let j = h.1 in
    let sign : IsSign false e q ts = subst (λ (b : Bool). IsSign b e q ts) (not_a_tick q.char j.0) r.0 in
    let more = ahead 0 ts (after (token (punct q)) ts state) in
    let next = punct_before e q.char q.spacing q.span state ts sign r.1 in
    let text : ahead 0 (token (punct q) ∷ ts) state ≡ q.char ∷ more =
    no_gap_between (has_same_span (Some token_span) q.span) (are_adjacent token_span q.span) s.depth (chars
    (encode_utf8 q.char) ++ more) j.1
    ∙ ap (λ (x : List ℕ). x ++ more) (is_sign e q ts r.0).one in
    subst (IsPunctBefore e c Joint) (sym text) (joint_before e c q.char more j.0 j.2 next.comment)

-- ---- literals

side_ends_literal : (c : ℕ) (cs : List ℕ) → c < 128 → is_side c ≡ true → ends_literal (c ∷ cs) ≡ true
side_ends_literal c cs small h = let a = is_xid_continue-ascii c small in grind (arith, nat_tests, a, h)

side_small : (c : ℕ) → is_side c ≡ true → c < 128
side_small c h = grind (arith, nat_tests, h)

sign_continues_not : (e : Edition) (p : Punct) (ts : List FlatToken) (b : Bool) → (p.char == 39) ≡ b
    → IsSign b e p ts → is_xid_continue p.char ≡ false
sign_continues_not e p ts true h s = let small : p.char < 128 = grind
    (arith, nat_tests, h) in let a = is_xid_continue-ascii p.char small in grind (arith, nat_tests, a, h)
sign_continues_not e p ts false h s = punct_not_continue p.char s.0

punct_ends_literal : (e : Edition) (p : Punct) (ts : List FlatToken) (rest : List ℕ) → IsPunct e p ts
    → (p.char == 46) ≡ false → ends_literal (p.char ∷ rest) ≡ true
punct_ends_literal e p ts rest h n = let a = sign_continues_not e p ts (p.char == 39) refl h in grind
    (arith, nat_tests, a, n)

-- a `.` that doesn't stay is kept apart
dot_apart : (b side : Bool) → (b && side) ≡ false → (true && not (b && (side || false))) ≡ false → ⊥
dot_apart true true h k = absurd (cc)
dot_apart true false h k = absurd (cc)
dot_apart false side h k = absurd (cc)

dot_together : (b side : Bool) (depth : ℕ) (cs : List ℕ) → (b && side) ≡ true
    → before false true (b && (side || false)) depth ++ cs ≡ cs
dot_together true true depth cs h = refl
dot_together true false depth cs h = absurd (cc)
dot_together false side depth cs h = absurd (cc)

dot_is : (c : ℕ) → (c == 46) ≡ true → (c == 59 ≡ false) × (c == 58 ≡ false) × (not (is_one_of c
    (codes ",;?")) ≡ true) × (not (is_one_of c (codes ".#$'")) ≡ false)
    × ((c == 39) ≡ false) × ((c == 35) ≡ false)
dot_is c h = rw (same_char c 46 h) (refl, refl, refl, refl, refl, refl)

-- a field or a range goes on
abbrev pub goes : List ℕ → Bool
goes rest = begins_with (codes ".") rest || begins_word rest

start_goes : (c : ℕ) (cs : List ℕ) → is_start c ≡ true → goes (c ∷ cs) ≡ true
start_goes c cs h = or_true (begins_with (codes ".") (c ∷ cs)) (is_start c) h
  where
    or_true : (a b : Bool) → b ≡ true → (a || b) ≡ true
    or_true true b h = refl
    or_true false b h = h

text_goes : (cs more : List ℕ) → begins_word cs ≡ true → goes (cs ++ more) ≡ true
text_goes [] more h = absurd (cc)
text_goes (c ∷ cs) more h = start_goes c (cs ++ more) h

dot_goes : (c : ℕ) (cs : List ℕ) → (c == 46) ≡ true → goes (c ∷ cs) ≡ true
dot_goes c cs h = rw h refl

pub no_line : (line apart beside : Bool) (depth : ℕ) (cs : List ℕ) → line ≡ false → apart ≡ false
    → before line apart beside depth ++ cs ≡ cs
no_line true apart beside depth cs h k = absurd (cc)
no_line false true beside depth cs h k = absurd (cc)
no_line false false beside depth cs h k = refl

field_next : (e : Edition) (c : ℕ) (sp : Spacing) (token_span : Span) (s : PrinterState) (ts : List FlatToken)
    → (c == 46) ≡ true → may_follow_dot sp ts ≡ true
    → IsSign false e (record { char = c; spacing = sp; span = token_span }) ts → AreRust e ts
    → goes (ahead 0 ts (with_punct s (record { char = c; spacing = sp; span = token_span }) (next_place ts))) ≡ true
field_next e c Joint token_span s (token (punct q) ∷ ts) d g h r =
    let state = with_punct s (record { char = c; spacing = Joint; span = token_span }) (Some q.span) in
    let more = ahead 0 ts (after (token (punct q)) ts state) in
    ap goes (no_gap_between (has_same_span (Some token_span) q.span) (are_adjacent token_span q.span) s.depth (chars
    (encode_utf8 q.char) ++ more) h.1.1
    ∙ ap (λ (x : List ℕ). x ++ more) (is_sign e q ts r.0).one) ∙ dot_goes q.char more g
field_next e c Joint token_span s [] d g h r = absurd (cc)
field_next e c Joint token_span s (token (ident i) ∷ ts) d g h r = absurd (cc)
field_next e c Joint token_span s (token (literal l) ∷ ts) d g h r = absurd (cc)
field_next e c Joint token_span s (opening k ∷ ts) d g h r = absurd (cc)
field_next e c Joint token_span s (closing k ∷ ts) d g h r = absurd (cc)
field_next e c Alone token_span s (token (ident i) ∷ ts) d g h r =
    let state = with_punct s (record { char = c; spacing = Alone; span = token_span }) (Some i.span) in
    let t = the_gap (token (ident i)) ts state in
    let more = ahead 0 ts (after (token (ident i)) ts state) in
    let is = dot_is c d in
    ap goes (no_line t.line t.apart t.beside s.depth (chars (spelled (token (ident i))) ++ more) (rw
    (is.0, is.1) refl) (rw (is.0, is.1) is.3))
    ∙ word_front goes i more r.0 start_goes
field_next e c Alone token_span s [] d g h r = absurd (cc)
field_next e c Alone token_span s (token (punct q) ∷ ts) d g h r = absurd (cc)
field_next e c Alone token_span s (token (literal l) ∷ ts) d g h r =
    let state = with_punct s (record { char = c; spacing = Alone; span = token_span }) (Some l.span) in
    let t = the_gap (token (literal l)) ts state in
    let more = ahead 0 ts (after (token (literal l)) ts state) in
    let is = dot_is c d in
    ap goes (no_line t.line t.apart t.beside s.depth (chars (literal_output l) ++ more) (rw
    (is.0, is.1) refl) (rw (is.0, is.1) (ap not d)))
    ∙ text_goes (chars (literal_output l)) more g
field_next e c Alone token_span s (opening k ∷ ts) d g h r = absurd (cc)
field_next e c Alone token_span s (closing k ∷ ts) d g h r = absurd (cc)

-- a `.` that isn't to stay is apart, one that is to stay isn't
dot_gap : (c : ℕ) (b side : Bool) → (c == 46) ≡ true → (b && side) ≡ false
    → (not (is_one_of c (codes ",;?")) && not (b && (side || not (c == 46)))) ≡ false → ⊥
dot_gap c b side d n k =
    dot_apart b side n (sym (ap (λ (x : Bool). x && not (b && (side || not (c == 46)))) (dot_is c d).2
    ∙ ap (λ (x : Bool). true && not (b && (side || not x))) d) ∙ k)

dot_no_gap : (c : ℕ) (b side : Bool) (depth : ℕ) (cs : List ℕ) → (c == 46) ≡ true → (b && side) ≡ true
    → before false (not (is_one_of c (codes ",;?"))) (b && (side || not (c == 46))) depth ++ cs ≡ cs
dot_no_gap c b side depth cs d n =
    ap (λ (x : Bool). before false x (b && (side || not (c == 46))) depth ++ cs) (dot_is c d).2
    ∙ (ap (λ (x : Bool). before false true (b && (side || not x)) depth ++ cs) d ∙ dot_together b side depth cs n)

-- a punct other than `#` begins no comment
token_ahead : (p : Punct) (ts : List FlatToken) (s : PrinterState) → (p.char == 35) ≡ false
    → ahead 0 (token (punct p) ∷ ts) s
    ≡ gap_of (the_gap (token (punct p)) ts s) s.depth ++ (chars (encode_utf8 p.char) ++ ahead 0 ts
    (after (token (punct p)) ts s))
token_ahead p ts s h = rw (no_comment_at p ts s h) refl

-- what follows a literal whose `.` stays
beside_dot : (e : Edition) (l : Literal) (p : Punct) (s : PrinterState) (ts : List FlatToken) (rest : List ℕ)
    → (p.char == 46) ≡ true → rest ≡ ahead 0 ts (after (token (punct p)) ts (with_literal s l))
    → AreRust e (token (punct p) ∷ ts) → MayPrecedeDots e l ⊎ (MayHaveFields e l × (may_follow_dot p.spacing ts ≡ true))
    → IsReadBefore e l (p.char ∷ rest)
beside_dot e l p s ts rest d is r (inl dots) = dots (p.char ∷ rest) (ap (λ (x : Bool). x && true) d)
beside_dot e l p s ts rest d is r (inr fields) =
    let sign : IsSign false e p ts = subst (λ (b : Bool). IsSign b e p ts) (dot_is p.char d).4 r.0 in
    let field : begins_field (p.char ∷ rest) ≡ true =
    ap (λ (x : Bool). (x && true) && goes rest) d
    ∙ (ap goes is ∙ field_next e p.char p.spacing p.span (with_literal s l) ts d fields.1 sign r.1) in
    fields.0 (p.char ∷ rest) field

literal_dot : (e : Edition) (l : Literal) (p : Punct) (s : PrinterState) (ts : List FlatToken) (stays : Bool)
    → (p.char == 46) ≡ true
    → (are_adjacent l.span p.span && is_adjacent_to_next p.span (next_place ts)) ≡ stays
    → IsLiteral e l → IsBeforeDot e l (token (punct p) ∷ ts) → AreRust e (token (punct p) ∷ ts)
    → IsReadBefore e l (ahead 0 (token (punct p) ∷ ts) (with_literal s l))
literal_dot e l p s ts false d n lit dot r =
    lit.whole (ahead 0 (token (punct p) ∷ ts) (with_literal s l))
    (follows_punct ends_literal p ts (with_literal s l) gap_ends_literal refl
    (λ k. absurd (dot_gap p.char (are_adjacent l.span p.span) (is_adjacent_to_next p.span (next_place ts)) d n k)))
literal_dot e l p s ts true d n lit dot r =
    let more = ahead 0 ts (after (token (punct p)) ts (with_literal s l)) in
    let text : ahead 0 (token (punct p) ∷ ts) (with_literal s l) ≡ p.char ∷ more =
    token_ahead p ts (with_literal s l) (dot_is p.char d).5
    ∙ dot_no_gap p.char (are_adjacent l.span p.span) (is_adjacent_to_next p.span (next_place ts)) s.depth (chars
    (encode_utf8 p.char) ++ more) d n
    ∙ ap (λ (x : List ℕ). x ++ more) (is_sign e p ts r.0).one in
    subst (IsReadBefore e l) (sym text) (beside_dot e l p s ts more d refl r
    (dot (ap (λ (x : Bool). x && (are_adjacent l.span p.span && is_adjacent_to_next p.span (next_place ts))) d ∙ n)))

literal_punct : (e : Edition) (l : Literal) (p : Punct) (s : PrinterState) (ts : List FlatToken) (is_dot : Bool)
    → (p.char == 46) ≡ is_dot
    → IsLiteral e l → IsBeforeDot e l (token (punct p) ∷ ts) → AreRust e (token (punct p) ∷ ts)
    → IsReadBefore e l (ahead 0 (token (punct p) ∷ ts) (with_literal s l))
literal_punct e l p s ts true d lit dot r =
    literal_dot e l p s ts (are_adjacent l.span p.span && is_adjacent_to_next p.span (next_place ts)) d refl lit dot r
literal_punct e l p s ts false d lit dot r =
    let more = ahead 0 ts (after (token (punct p)) ts (with_literal s l)) in
    lit.whole (ahead 0 (token (punct p) ∷ ts) (with_literal s l))
    (follows_punct ends_literal p ts (with_literal s l) gap_ends_literal refl
    (λ k. fronted ends_literal p.char (encode_utf8 p.char) more (is_sign e p ts r.0)
    (punct_ends_literal e p ts more r.0 d)))

pub literal_before : (e : Edition) (l : Literal) (s : PrinterState) (ts : List FlatToken) → IsLiteral e l
    → IsBeforeDot e l ts → AreRust e ts
    → IsReadBefore e l (ahead 0 ts (with_literal s l))
literal_before e l s [] lit dot r = lit.whole [] refl
literal_before e l s (token (ident i) ∷ ts) lit dot r =
    lit.whole (ahead 0 (token (ident i) ∷ ts) (with_literal s l))
    (follows ends_literal (token (ident i)) ts (with_literal s l) gap_ends_literal (λ k. absurd (never true (is_adjacent
    (Some l.span) i.span) false refl refl k)))
literal_before e l s (token (literal m) ∷ ts) lit dot r =
    lit.whole (ahead 0 (token (literal m) ∷ ts) (with_literal s l))
    (follows ends_literal (token (literal m)) ts (with_literal s l) gap_ends_literal (λ k. absurd (never true
    (is_adjacent (Some l.span) m.span) false refl refl k)))
literal_before e l s (token (punct p) ∷ ts) lit dot r = literal_punct e l p s ts (p.char == 46) refl lit dot r
literal_before e l s (opening d ∷ ts) lit dot r =
    let o = opening_is d.kind r.0 in
    let more = ahead 0 ts (after (opening d) ts (with_literal s l)) in
    lit.whole (ahead 0 (opening d ∷ ts) (with_literal s l)) (follows ends_literal (opening d) ts
    (with_literal s l) gap_ends_literal
    (λ k. fronted ends_literal o.char (opening_text d.kind) more o.is (side_ends_literal o.char more
    (side_small o.char o.side) o.side)))
literal_before e l s (closing d ∷ ts) lit dot r =
    let o = closing_is d.kind r.0 in
    let more = ahead 0 ts (after (closing d) ts (with_literal s l)) in
    lit.whole (ahead 0 (closing d ∷ ts) (with_literal s l)) (follows ends_literal (closing d) ts
    (with_literal s l) gap_ends_literal
    (λ k. fronted ends_literal o.char (closing_text d.kind) more o.is (side_ends_literal o.char more
    (side_small o.char o.side) o.side)))
