-- Doc comments among flat tokens.
use Rattle.std.proofs.Common.{◌≡◌, ℕ, zero, suc, ◌+◌, ◌==◌, not, ◌&&◌, if◌then◌else◌, Bool, true, false, List, [], ◌∷◌}
use Rattle.std.proofs.Common.{◌++◌, refl, sym, ap, ◌∙◌, arith, codes, Option, Some, None, append_assoc, subst}
use Rattle.std.proofs.lemmas.Bool.Decides.{nat_tests}
use Rattle.std.proofs.lemmas.Slice.Eq.{bytes_eq-Decides}
use Rattle.std.specs.Prelude.{option_and_then}
use Rattle.mbe_tt.specs.declared.tt.Delimiter.{Delimiter}
use Rattle.mbe_tt.specs.declared.tt.Punct.{Punct}
use Rattle.mbe_tt.specs.declared.tt.Spacing.{Spacing}
use Rattle.mbe_tt.specs.declared.tt.Spacing.TheVariants.{Alone, Joint}
use Rattle.mbe_tt.specs.declared.tt.DelimiterKind.{DelimiterKind}
use Rattle.mbe_tt.specs.declared.tt.DelimiterKind.TheVariants.{Parenthesis, Brace, Bracket, Invisible}
use Rattle.mbe_tt.specs.declared.tt.IdentIsRaw.{IdentIsRaw}
use Rattle.mbe_tt.specs.declared.tt.IdentIsRaw.TheVariants.{No, Yes}
use Rattle.mbe_tt.specs.declared.tt.LitKind.{LitKind}
use Rattle.mbe_tt.specs.declared.tt.LitKind.TheVariants.{StrRaw}
use Rattle.mbe_tt.specs.Trees.Leaf.{Ident, Literal, literal, punct, ident}
use Rattle.mbe_tt.specs.Trees.Tree.{Forest, none, leaf, group, FlatToken, token, opening, closing, flat, flat_len}
use Rattle.mbe_text.specs.RustText.Gaps.{is_joint, may_precede_comment}
use Rattle.mbe_text.specs.RustText.DocComments.{DocComment, has_line_end, is_comment, is_not_raw, is_raw_string}
use Rattle.mbe_text.specs.RustText.DocComments.{is_doc_assignment, comment_inside, is_bracket, bracketed_comment}
use Rattle.mbe_text.specs.RustText.DocComments.{comment_after_hash, after_punct, more_trees}
use Rattle.mbe_text.specs.RustText.Printer.{PrinterState, next_comment}
use Rattle.mbe_text.specs.Tokens.{most_guards}
use Rattle.mbe_text.specs.Laws.RustTrees.{next_place, set_flat, brackets_flat, hash_flat, punct_flat, more_tokens}

-- ---- a comment at the front of flat tokens

-- the comment that begins with this punct, after what was written
abbrev pub comment_next : Punct → List FlatToken → PrinterState → Option DocComment
comment_next p ts s = if may_precede_comment s.last then punct_flat p ts else None

-- ---- it is the comment at the front of trees

set_same : (b : Bool) (d : Delimiter) (f : Forest) (ts : List FlatToken)
    → set_flat b (flat f ++ (closing d ∷ ts)) ≡ comment_inside b f
set_same b d none ts = refl
set_same b d (leaf (literal l) r) ts = refl
set_same b d (leaf (punct p) r) ts = refl
set_same b d (group k i r) ts = refl
set_same b d (leaf (ident i) none) ts = refl
set_same b d (leaf (ident i) (leaf (literal l) r)) ts = refl
set_same b d (leaf (ident i) (leaf (ident j) r)) ts = refl
set_same b d (leaf (ident i) (group k j r)) ts = refl
set_same b d (leaf (ident i) (leaf (punct q) none)) ts = refl
set_same b d (leaf (ident i) (leaf (punct q) (leaf (punct o) r))) ts = refl
set_same b d (leaf (ident i) (leaf (punct q) (leaf (ident j) r))) ts = refl
set_same b d (leaf (ident i) (leaf (punct q) (group k j r))) ts = refl
set_same b d (leaf (ident i) (leaf (punct q) (leaf (literal l) none))) ts = refl
set_same b d (leaf (ident i) (leaf (punct q) (leaf (literal l) (leaf m r)))) ts = refl
set_same b d (leaf (ident i) (leaf (punct q) (leaf (literal l) (group k j r)))) ts = refl

-- no tree of the same group follows
at_end : (P : List FlatToken → Option DocComment) (ts : List FlatToken) → None ≡ next_place ts → P [] ≡ None
    → ((d : Delimiter) (us : List FlatToken) → P (closing d ∷ us) ≡ None) → P ts ≡ None
at_end P [] h a k = a
at_end P (token l ∷ ts) h a k = absurd (cc)
at_end P (opening d ∷ ts) h a k = absurd (cc)
at_end P (closing d ∷ ts) h a k = k d ts

brackets_same : (b : Bool) (f : Forest) (ts : List FlatToken) → None ≡ next_place ts
    → brackets_flat b (flat f ++ ts) ≡ bracketed_comment b f
brackets_same b none ts h = at_end (brackets_flat b) ts h refl (λ d us. refl)
brackets_same b (leaf l r) ts h = refl
brackets_same b (group d inside r) ts h =
    ap (λ (x : List FlatToken). if is_bracket d.kind then set_flat b x else None) (append_assoc (flat inside)
    (closing d ∷ flat r) ts)
    ∙ ap (λ (o : Option DocComment). if is_bracket d.kind then o else None) (set_same b d inside (flat r ++ ts))

hash_same : (f : Forest) (ts : List FlatToken) → None ≡ next_place ts → hash_flat (flat f ++ ts) ≡ comment_after_hash f
hash_same none ts h = at_end hash_flat ts h refl (λ d us. refl)
hash_same (leaf (punct q) r) ts h =
    ap (λ (o : Option DocComment). if q.char == 33 && not (is_joint q.spacing) then o else None)
    (brackets_same true r ts h)
hash_same (leaf (literal l) r) ts h = refl
hash_same (leaf (ident i) r) ts h = refl
hash_same (group d inside r) ts h = refl

punct_same : (p : Punct) (f : Forest) (ts : List FlatToken) → None ≡ next_place ts
    → punct_flat p (flat f ++ ts) ≡ after_punct p f
punct_same p f ts h =
    ap (λ (o : Option DocComment). if not (p.char == 35) then None else if is_joint p.spacing then o else brackets_flat
    false (flat f ++ ts))
    (hash_same f ts h)
    ∙ ap (λ (o : Option DocComment). if not (p.char == 35) then None else if is_joint p.spacing then comment_after_hash
    f else o)
    (brackets_same false f ts h)

if_may : (b : Bool) (o : Option DocComment) → (if b then o else None)
    ≡ option_and_then (λ c. if b then Some c else None) o
if_may true None = refl
if_may true (Some c) = refl
if_may false None = refl
if_may false (Some c) = refl

pub comment_same : (p : Punct) (f : Forest) (ts : List FlatToken) (s : PrinterState) → None ≡ next_place ts
    → comment_next p (flat f ++ ts) s ≡ next_comment s (leaf (punct p) f)
comment_same p f ts s h =
    if_may (may_precede_comment s.last) (punct_flat p (flat f ++ ts))
    ∙ ap (option_and_then (λ c. if may_precede_comment s.last then Some c else None)) (punct_same p f ts h)

-- ---- its tokens

if_some : (b : Bool) (o : Option DocComment) (c : DocComment) → (if b then o else None) ≡ Some c → (b ≡ true)
    × (o ≡ Some c)
if_some true o c h = (refl, h)
if_some false o c h = absurd (cc)

if_none : (b : Bool) (o : Option DocComment) (c : DocComment) → (if not b then None else o) ≡ Some c
    → (b ≡ true) × (o ≡ Some c)
if_none true o c h = (refl, h)
if_none false o c h = absurd (cc)

some_same : (x y : DocComment) → Some x ≡ Some y → x ≡ y
some_same x y h = cc

both : (a b : Bool) → (a && b) ≡ true → (a ≡ true) × (b ≡ true)
both true b h = (refl, h)
both false b h = absurd (cc)

is_alone : (sp : Spacing) → not (is_joint sp) ≡ true → sp ≡ Alone
is_alone Alone h = refl
is_alone Joint h = absurd (cc)

is_same : (m n : ℕ) → (m == n) ≡ true → m ≡ n
is_same m n h = grind (arith, nat_tests, h)

pub record IsSetting (i : Ident) (q : Punct) (l : Literal) : Type 0 where
  pub doc : i.sym ≡ codes "doc"
  pub plain : i.is_raw ≡ No
  pub equals : q.char ≡ 61
  pub alone : q.spacing ≡ Alone
  pub no_suffix : l.suffix_len ≡ 0
  pub raw : l.kind ≡ StrRaw (most_guards 0 l.text_and_suffix)

plain_is : (r : IdentIsRaw) → is_not_raw r ≡ true → r ≡ No
plain_is No h = refl
plain_is Yes h = absurd (cc)

raw_is : (n : ℕ) (k : LitKind) → is_raw_string n k ≡ true → k ≡ StrRaw n
raw_is n (StrRaw m) h = ap StrRaw (is_same m n h)
raw_is n k h = absurd (cc)

setting_is : (i : Ident) (q : Punct) (l : Literal) → is_doc_assignment i q l ≡ true → IsSetting i q l
setting_is i q l h =
    let abc = both _ _ h in
    let ab = both _ _ abc.0 in
    let a = both _ _ ab.0 in
    let one = both _ _ a.0 in
    let two = both _ _ a.1 in
    let three = both _ _ ab.1 in record {
      doc = (bytes_eq-Decides i.sym (codes "doc")).0 one.0;
      plain = plain_is i.is_raw one.1;
      equals = is_same q.char 61 two.0;
      alone = is_alone q.spacing two.1;
      no_suffix = is_same l.suffix_len 0 three.0;
      raw = raw_is (most_guards 0 l.text_and_suffix) l.kind three.1;
    }

abbrev pub set_of : Bool → Literal → DocComment
set_of b l = record { is_inner = b; is_block = has_line_end l.text_and_suffix; text = l.text_and_suffix }

-- it may be written as one
abbrev pub may_be_comment : Bool → List ℕ → Bool
may_be_comment b text = is_comment b (has_line_end text) text

-- what holds of a comment's tokens
abbrev pub Setting : (List FlatToken → DocComment → Type 0) → Bool → Type 0
Setting P b =
    (i : Ident) (q : Punct) (l : Literal) (e : Delimiter) (ts : List FlatToken) → IsSetting i q l
    → may_be_comment b l.text_and_suffix ≡ true
    → P (token (ident i) ∷ (token (punct q) ∷ (token (literal l) ∷ (closing e ∷ ts)))) (set_of b l)

set_case : (P : List FlatToken → DocComment → Type 0) (b : Bool) (ts : List FlatToken) (c : DocComment) → Setting P b
    → set_flat b ts ≡ Some c → P ts c
set_case P b (token (ident i) ∷ (token (punct q) ∷ (token (literal l) ∷ (closing e ∷ ts)))) c k h =
    let t = if_some (is_doc_assignment i q l && may_be_comment b l.text_and_suffix) (Some (set_of b l)) c h in
    let u = both (is_doc_assignment i q l) (may_be_comment b l.text_and_suffix) t.0 in
    let is = some_same (set_of b l) c t.1 in
    subst (λ x. P (token (ident i) ∷ (token (punct q) ∷ (token (literal l) ∷ (closing e ∷ ts)))) x) is
    (k i q l e ts (setting_is i q l u.0) u.1)
set_case P b ts c k h = absurd (cc)

bracket_is : (k : DelimiterKind) → is_bracket k ≡ true → k ≡ Bracket
bracket_is Bracket h = refl
bracket_is Parenthesis h = absurd (cc)
bracket_is Brace h = absurd (cc)
bracket_is Invisible h = absurd (cc)

brackets_case : (P : List FlatToken → DocComment → Type 0) (b : Bool) (ts : List FlatToken) (c : DocComment)
    → ((d : Delimiter) → d.kind ≡ Bracket → Setting (λ us. P (opening d ∷ us)) b) → brackets_flat b ts ≡ Some c → P ts c
brackets_case P b (opening d ∷ ts) c k h =
    let t = if_some (is_bracket d.kind) (set_flat b ts) c h in
    set_case (λ us. P (opening d ∷ us)) b ts c (k d (bracket_is d.kind t.0)) t.1
brackets_case P b ts c k h = absurd (cc)

hash_case : (P : List FlatToken → DocComment → Type 0) (ts : List FlatToken) (c : DocComment)
    → ((q : Punct) (d : Delimiter) → q.char ≡ 33 → q.spacing ≡ Alone → d.kind ≡ Bracket
    → Setting (λ us. P (token (punct q) ∷ (opening d ∷ us))) true)
    → hash_flat ts ≡ Some c → P ts c
hash_case P (token (punct q) ∷ ts) c k h =
    let t = if_some (q.char == 33 && not (is_joint q.spacing)) (brackets_flat true ts) c h in
    let u = both (q.char == 33) (not (is_joint q.spacing)) t.0 in
    brackets_case (λ us. P (token (punct q) ∷ us)) true ts c
    (λ d n. k q d (is_same q.char 33 u.0) (is_alone q.spacing u.1) n) t.1
hash_case P ts c k h = absurd (cc)

-- the punct that a comment begins with, and its tokens after that
abbrev pub Outer : (List FlatToken → DocComment → Type 0) → Punct → Type 0
Outer P p =
    (d : Delimiter) → p.char ≡ 35 → p.spacing ≡ Alone → d.kind ≡ Bracket → Setting (λ us. P (opening d ∷ us)) false

abbrev pub Inner : (List FlatToken → DocComment → Type 0) → Punct → Type 0
Inner P p =
    (q : Punct) (d : Delimiter) → p.char ≡ 35 → p.spacing ≡ Joint → q.char ≡ 33 → q.spacing ≡ Alone → d.kind ≡ Bracket
    → Setting (λ us. P (token (punct q) ∷ (opening d ∷ us))) true

pub comment_case : (P : List FlatToken → DocComment
    → Type 0) (p : Punct) (ts : List FlatToken) (s : PrinterState) (c : DocComment)
    → Outer P p → Inner P p → comment_next p ts s ≡ Some c → P ts c
comment_case P p ts s c outer inner h =
    let may = if_some (may_precede_comment s.last) (punct_flat p ts) c h in
    let hash = if_none (p.char == 35) _ c may.1 in
    by p.spacing refl hash.1 (is_same p.char 35 hash.0)
  where
    by : (sp : Spacing) → p.spacing ≡ sp → (if is_joint sp then hash_flat ts else brackets_flat false ts) ≡ Some c
        → p.char ≡ 35 → P ts c
    by Joint e m n = hash_case P ts c (λ q d v w k. inner q d n e v w k) m
    by Alone e m n = brackets_case P false ts c (λ d k. outer d n e k) m

-- only a `#` begins one
pub no_comment_at : (p : Punct) (ts : List FlatToken) (s : PrinterState) → (p.char == 35) ≡ false → comment_next p ts s
    ≡ None
no_comment_at p ts s h = rw h (same (may_precede_comment s.last) None)
  where
    same : (b : Bool) (o : Option DocComment) → (if b then o else o) ≡ o
    same true o = refl
    same false o = refl

-- how many tokens the first trees are
abbrev pub flat_count : ℕ → Forest → ℕ
flat_count zero f = 0
flat_count (suc n) none = 0
flat_count (suc n) (leaf l rest) = suc (flat_count n rest)
flat_count (suc n) (group d inside rest) = suc (flat_len inside + suc (flat_count n rest))

inside_len : (b : Bool) (f : Forest) (c : DocComment) → comment_inside b f ≡ Some c → (flat_len f ≡ 3)
    × (c.is_inner ≡ b)
inside_len b (leaf (ident i) (leaf (punct q) (leaf (literal l) none))) c h =
    let t = if_some (is_doc_assignment i q l && may_be_comment b l.text_and_suffix) (Some (set_of b l)) c h in
    let same = some_same (set_of b l) c t.1 in (omega arith, sym (ap (λ (x : DocComment). x.is_inner) same))
inside_len b f c h = absurd (cc)

brackets_count : (b : Bool) (f : Forest) (c : DocComment) → bracketed_comment b f ≡ Some c
    → (flat_count 1 f ≡ 5) × (c.is_inner ≡ b)
brackets_count b (group d inside rest) c h =
    let t = if_some (is_bracket d.kind) (comment_inside b inside) c h in
    let n = inside_len b inside c t.1 in (omega (arith, n.0), n.1)
brackets_count b f c h = absurd (cc)

hash_count : (f : Forest) (c : DocComment) → comment_after_hash f ≡ Some c → (flat_count 2 f ≡ 6) × (c.is_inner ≡ true)
hash_count (leaf (punct q) rest) c h =
    let t = if_some (q.char == 33 && not (is_joint q.spacing)) (bracketed_comment true rest) c h in
    let n = brackets_count true rest c t.1 in (ap suc n.0, n.1)
hash_count f c h = absurd (cc)

punct_count : (p : Punct) (f : Forest) (c : DocComment) → after_punct p f ≡ Some c
    → flat_count (more_trees c.is_inner) f ≡ more_tokens c.is_inner
punct_count p f c h = by p.spacing (if_none (p.char == 35) _ c h).1
  where
    by : (sp : Spacing) → (if is_joint sp then comment_after_hash f else bracketed_comment false f) ≡ Some c
        → flat_count (more_trees c.is_inner) f ≡ more_tokens c.is_inner
    by Joint m = let n = hash_count f c m in rw (n.1) n.0
    by Alone m = let n = brackets_count false f c m in rw (n.1) n.0

and_then_some : (b : Bool) (o : Option DocComment) (c : DocComment)
    → option_and_then (λ x. if b then Some x else None) o ≡ Some c
    → o ≡ Some c
and_then_some b None c h = absurd (cc)
and_then_some true (Some x) c h = h
and_then_some false (Some x) c h = absurd (cc)

-- a comment's trees are its tokens
pub comment_count : (p : Punct) (f : Forest) (s : PrinterState) (c : DocComment) → next_comment s (leaf (punct p) f)
    ≡ Some c
    → flat_count (more_trees c.is_inner) f ≡ more_tokens c.is_inner
comment_count p f s c h = punct_count p f c (and_then_some (may_precede_comment s.last) (after_punct p f) c h)
