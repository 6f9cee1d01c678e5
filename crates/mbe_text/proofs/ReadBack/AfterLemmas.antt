-- What the lexer makes right after a literal or a punct.
use Rattle.std.proofs.Common.{◌≡◌, ℕ, ◌==◌, ◌⊎◌, inl, inr, not, ◌&&◌, ◌||◌, if◌then◌else◌, nat_lt, Bool, true, false}
use Rattle.std.proofs.Common.{List, [], ◌∷◌, refl, sym, ap, ◌∙◌, arith, codes, Some, subst}
use Rattle.std.proofs.Math.Utf8.{scalars}
use Rattle.std.proofs.lemmas.Bool.Decides.{nat_tests}
use Rattle.mbe_tt.specs.Trees.Editions.{at_least_2024}
use Rattle.mbe_tt.specs.Trees.Leaf.{Literal, literal, punct, ident}
use Rattle.mbe_tt.specs.Trees.Tree.{Forest, none, leaf, group, append, one_leaf, FlatToken, token, flat, is_same_kind}
use Rattle.mbe_tt.specs.Trees.Tree as tree
use Rattle.mbe_tt.specs.declared.span.Edition.{Edition}
use Rattle.mbe_tt.specs.declared.span.Span.{Span}
use Rattle.mbe_tt.specs.declared.tt.Punct.{Punct}
use Rattle.mbe_tt.specs.declared.tt.Spacing.{Spacing}
use Rattle.mbe_tt.specs.declared.tt.Spacing.TheVariants.{Alone, Joint}
use Rattle.mbe_text.specs.RustText.Gaps.{are_adjacent, is_adjacent_to_next, has_same_span}
use Rattle.mbe_text.specs.Whitespace.{begins_comment}
use Rattle.mbe_text.specs.Characters.{begins_with, offset}
use Rattle.mbe_text.specs.RustTokens.{is_guard}
use Rattle.mbe_text.specs.Punctuation.{spacing_before}
use Rattle.mbe_text.specs.Tokens.{bytes_of}
use Rattle.mbe_text.specs.Laws.Gaps.{is_punct}
use Rattle.mbe_text.specs.Laws.RustTrees.{is_start, begins_word, begins_field, next_place, may_follow_dot, make_another}
use Rattle.mbe_text.specs.Laws.RustTrees.{are_together, IsBeforeDot, IsJoined, HasSpacing, IsSign, IsPunct}
use Rattle.mbe_text.specs.Laws.RustTrees.{MayHaveFields, MayPrecedeDots}
use Rattle.mbe_text.proofs.ReadBack.BlankTailLemmas.{both_false}
use Rattle.mbe_text.proofs.ReadBack.EndLemmas.{punct_not_start}
use Rattle.mbe_text.proofs.ReadBack.QuoteLemmas.{same_char}
use Rattle.mbe_text.proofs.ReadBack.ShapeLemmas.{and_left, and_right, LexedPunct}
use Rattle.mbe_text.proofs.ReadBack.TokenLemmas.{Tokens, Fits, fits_tail, offset_less, PunctFirst, punct_next}
use Rattle.mbe_text.proofs.ReadBack.TokenLemmas.{word_next, dot_next}

-- ---- what follows a literal

start_no_punct : (c : ℕ) (b : Bool) → is_punct c ≡ b → is_start c ≡ true → is_punct c ≡ false
start_no_punct c false e s = e
start_no_punct c true e s = absurd (let z : true ≡ false = sym s ∙ punct_not_start c e in cc)

word_alone : (c : ℕ) (cs : List ℕ) → is_start c ≡ true → spacing_before (c ∷ cs) ≡ Alone
word_alone c cs s =
    ap (λ (b : Bool). if b && not (begins_comment (c ∷ cs)) then Joint else Alone)
    (start_no_punct c (is_punct c) refl s)

-- a `.` and what follows it, where that is a field's or a range's
field_goes : (e : Edition) (file total : ℕ) (left : List ℕ) (ts : List FlatToken) → Tokens e file total left ts
    → scalars left ≡ true → (b : Bool) → begins_with (codes ".") left ≡ b
    → (begins_with (codes ".") left || begins_word left) ≡ true → may_follow_dot (spacing_before left) ts ≡ true
field_goes e file total [] ts tokens u b i h = absurd (cc)
field_goes e file total (c ∷ cs) ts tokens u true i h =
    let is46 = same_char c 46 (and_left (c == 46) true i) in
    let same : c ∷ cs ≡ 46 ∷ cs = ap (λ (x : ℕ). x ∷ cs) is46 in
    let p = punct_next e file total (c ∷ cs) ts tokens u 46 cs same refl refl in
    ap (λ (x : List ℕ). may_follow_dot (spacing_before x) ts) same ∙ ap (may_follow_dot Joint) p.is
field_goes e file total (c ∷ cs) ts tokens u false i h =
    let s : is_start c ≡ true = ap (λ (b : Bool). b || is_start c) (sym i) ∙ h in
    ap (λ (x : Spacing). may_follow_dot x ts) (word_alone c cs s)
    ∙ word_next e file total (c ∷ cs) ts tokens u c cs refl s

dots_go : (e : Edition) (file total : ℕ) (l : Literal) (left : List ℕ) (p : Punct) (us : List FlatToken)
    → Tokens e file total left us → scalars left ≡ true → p.spacing ≡ spacing_before left
    → MayPrecedeDots e l ⊎ (MayHaveFields e l × (begins_field (46 ∷ left) ≡ true))
    → MayPrecedeDots e l ⊎ (MayHaveFields e l × (may_follow_dot p.spacing us ≡ true))
dots_go e file total l left p us tokens u s (inl d) = inl d
dots_go e file total l left p us tokens u s (inr f) =
    inr (
      f.0,
      ap (λ (x : Spacing). may_follow_dot x us) s
          ∙ field_goes e file total left us tokens u (begins_with (codes ".") left) refl f.1,
    )

-- the `.` right after a literal
dot_after : (e : Edition) (file total : ℕ) (l : Literal) (rest : List ℕ) (p : Punct) (us : List FlatToken)
    → Tokens e file total rest (token (punct p) ∷ us) → Fits total rest → l.span.end ≡ offset total rest
    → (begins_with (codes ".") rest ≡ true
    → MayPrecedeDots e l ⊎ (MayHaveFields e l × (begins_field rest ≡ true)))
    → (p.char == 46 && (are_adjacent l.span p.span && is_adjacent_to_next p.span (next_place us))) ≡ true
    → MayPrecedeDots e l ⊎ (MayHaveFields e l × (may_follow_dot p.spacing us ≡ true))
dot_after e file total l rest p us tokens f end dots h =
    let char = same_char p.char 46 (and_left (p.char == 46) _ h) in
    let beside = and_left (are_adjacent l.span p.span) _ (and_right (p.char == 46) _ h) in
    let meets = same_char l.span.end p.span.start (and_left (l.span.end == p.span.start) _
    (and_right (l.span.file == p.span.file) _ beside)) in
    let d = dot_next e file total rest (token (punct p) ∷ us) tokens f p us refl char (sym meets ∙ end) in
    let right = ap scalars (sym d.is) ∙ f.right in
    dots_go e file total l d.left p us d.tokens right d.spacing
    (subst (λ (x : List ℕ). MayPrecedeDots e l ⊎ (MayHaveFields e l × (begins_field x ≡ true))) d.is
    (dots (ap (begins_with (codes ".")) d.is)))

pub before_dot : (e : Edition) (file total : ℕ) (l : Literal) (rest : List ℕ) (ts : List FlatToken)
    → Tokens e file total rest ts → Fits total rest → l.span.end ≡ offset total rest
    → (begins_with (codes ".") rest ≡ true
    → MayPrecedeDots e l ⊎ (MayHaveFields e l × (begins_field rest ≡ true)))
    → IsBeforeDot e l ts
before_dot e file total l rest [] tokens f end dots = tt
before_dot e file total l rest (token (literal m) ∷ us) tokens f end dots = tt
before_dot e file total l rest (token (ident i) ∷ us) tokens f end dots = tt
before_dot e file total l rest (token (punct p) ∷ us) tokens f end dots =
    λ h. dot_after e file total l rest p us tokens f end dots h
before_dot e file total l rest (tree.opening d ∷ us) tokens f end dots = tt
before_dot e file total l rest (tree.closing d ∷ us) tokens f end dots = tt

-- ---- what follows a punct

no_comment_pair : (x y z : Bool) → ((x && (y && true)) || (x && (z && true))) ≡ false → (x && (y || z)) ≡ false
no_comment_pair true true z h = absurd (cc)
no_comment_pair true false true h = absurd (cc)
no_comment_pair true false false h = refl
no_comment_pair false y z h = refl

no_guard_pair : (n x y z : Bool) → (n && ((x && (y && true)) || (x && (z && true)))) ≡ false → (n && (x && y)) ≡ false
no_guard_pair true true true z h = absurd (cc)
no_guard_pair true true false z h = refl
no_guard_pair true false y z h = refl
no_guard_pair false x y z h = refl

no_other : (e : Edition) (c d : ℕ) (cs : List ℕ) → begins_comment (c ∷ (d ∷ cs)) ≡ false
    → is_guard e (c ∷ (d ∷ cs)) ≡ false → make_another e c d ≡ false
no_other e c d cs n g =
    both_false (c == 47 && (d == 47 || d == 42)) (at_least_2024 e && (c == 35 && d == 35))
    (no_comment_pair (c == 47) (d == 47) (d == 42) n)
    (no_guard_pair (at_least_2024 e) (c == 35) (d == 35) (d == 34) g)

or_true : (b : Bool) → (b || true) ≡ true
or_true true = refl
or_true false = refl

pub self : (n : ℕ) → (n == n) ≡ true
self n = grind (arith, nat_tests)

beside : (file a b c : ℕ) → nat_lt a b ≡ true → are_adjacent (bytes_of file a b) (bytes_of file b c) ≡ true
beside file a b c h = rw (self file, self b) h

-- a joint punct is right before the next
joined : (e : Edition) (file total c d : ℕ) (cs : List ℕ) (sp : Spacing) (ts : List FlatToken)
    → Fits total (c ∷ (d ∷ cs)) → is_punct d ≡ true → begins_comment (c ∷ (d ∷ cs)) ≡ false
    → is_guard e (c ∷ (d ∷ cs)) ≡ false → PunctFirst e file total d cs ts
    → IsJoined e (record {
      char = c;
      spacing = sp;
      span = bytes_of file (offset total (c ∷ (d ∷ cs)))
          (offset total (d ∷ cs));
    }) ts
joined e file total c d cs sp ts f p n g first =
    let a : ℕ = offset total (c ∷ (d ∷ cs)) in
    let b : ℕ = offset total (d ∷ cs) in
    let token_span : Span = bytes_of file a b in
    let next : Span = bytes_of file b (offset total cs) in
    let near : are_adjacent token_span next ≡ true =
    beside file a b (offset total cs) (offset_less total c (d ∷ cs) f) in
    let together : are_together token_span next ≡ true =
    ap (λ (x : Bool). has_same_span (Some token_span) next || x) near
    ∙ or_true (has_same_span (Some token_span) next) in
    subst (λ (x : List FlatToken). IsJoined e (record { char = c; spacing = sp; span = token_span }) x) (sym first.is)
    (p, together, no_other e c d cs n g)

spaced : (e : Edition) (file total c : ℕ) (cs : List ℕ) (sp : Spacing) (ts : List FlatToken)
    → Tokens e file total cs ts → Fits total (c ∷ cs) → scalars cs ≡ true
    → begins_comment (c ∷ cs) ≡ false → is_guard e (c ∷ cs) ≡ false
    → HasSpacing e (spacing_before cs) (record {
      char = c;
      spacing = sp;
      span = bytes_of file (offset total (c ∷ cs))
          (offset total cs);
    }) ts
spaced e file total c [] sp ts tokens f u n g = tt
spaced e file total c (d ∷ cs) sp ts tokens f u n g = by (is_punct d) (begins_comment (d ∷ cs)) refl refl
  where
    p : Punct
    p = record { char = c; spacing = sp; span = bytes_of file (offset total (c ∷ (d ∷ cs))) (offset total (d ∷ cs)) }

    spacing : Bool → Bool → Spacing
    spacing a b = if a && not b then Joint else Alone

    by : (a b : Bool) → is_punct d ≡ a → begins_comment (d ∷ cs) ≡ b
        → HasSpacing e (if is_punct d && not (begins_comment (d ∷ cs)) then Joint else Alone)
        (record { char = c; spacing = sp; span = bytes_of file (offset total (c ∷ (d ∷ cs))) (offset total (d ∷ cs)) })
        ts
    by true false i j =
        rw (i, j) (joined e file total c d cs sp ts f i n g
        (punct_next e file total (d ∷ cs) ts tokens u d cs refl i j))
    by true true i j = rw (i, j) tt
    by false b i j = rw i tt

punct_no_tick : (c : ℕ) → is_punct c ≡ true → (c == 39) ≡ false
punct_no_tick c h = grind (arith, nat_tests, h)

pub punct_is : (e : Edition) (file total c : ℕ) (sp : Spacing) (from rest : List ℕ) (ts : List FlatToken)
    → LexedPunct e c sp from rest → Tokens e file total rest ts → Fits total from
    → IsPunct e (record { char = c; spacing = sp; span = bytes_of file (offset total from) (offset total rest) }) ts
punct_is e file total c sp from rest ts l tokens f =
    let fits : Fits total (c ∷ rest) = subst (Fits total) l.is f in
    let u : scalars rest ≡ true = (fits_tail total (c ∷ rest) rest (record { own = c ∷ []; is = refl }) fits).right in
    let p : Punct = record { char = c; spacing = sp; span = bytes_of file (offset total from) (offset total rest) } in
    let n = ap begins_comment (sym l.is) ∙ l.comment in
    let g = ap (is_guard e) (sym l.is) ∙ l.guard in
    let spacing : HasSpacing e (spacing_before rest) p ts =
    subst (λ (x : List ℕ). HasSpacing e (spacing_before rest) (record {
      char = c;
      spacing = sp;
      span = bytes_of file (offset total x) (offset total rest);
    }) ts) (sym l.is) (spaced e file total c rest sp ts tokens fits u n g) in
    subst (λ (b : Bool). IsSign b e p ts) (sym (punct_no_tick c l.char))
    (l.char, subst (λ (s : Spacing). HasSpacing e s p ts) (sym l.spacing) spacing)
