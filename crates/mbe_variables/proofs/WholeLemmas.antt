-- Fragments that are written whole, in one invisible group.
use Rattle.std.proofs.Common.{◌≡◌, ◌∷◌, Bool, true, false, Some, None, if◌then◌else◌, refl, ap, sym, ◌∙◌}
use Rattle.std.specs.Prelude.{◌↔◌, ◌&&◌, Result, Ok, Err, option_map, is_ok, IsOk, IsTrue}
use Rattle.std.specs.Result.{result_ok}
use Rattle.std.proofs.lemmas.Bool.{eq-eqb, ne_eqb}
use Rattle.std.proofs.lemmas.Option.{none-some, same_Some}
use Rattle.mbe_tt.specs.declared.fragment_group.FragmentGroup.{FragmentGroup}
use Rattle.mbe_tt.specs.declared.span.Span.{Span}
use Rattle.mbe_tt.specs.declared.tt.Delimiter.{Delimiter}
use Rattle.mbe_tt.specs.Buffers.GroupStack.{GroupStack, put, closed}
use Rattle.mbe_tt.specs.Trees.FragmentGroup.{delimiter_of, is_around, is_literal_group}
use Rattle.mbe_tt.specs.Trees.Leaf.{Leaf, ident, literal, punct}
use Rattle.mbe_tt.specs.Trees.Tree.{Forest, none, leaf, group, alone, rest_of, front_char}
use Rattle.mbe_tt.specs.Trees.Tree.{front_literal, front_group, is_bool_text}
use Rattle.mbe_semantics.specs.declared.fragment_kinds.MetaVarKind.{MetaVarKind}
use Rattle.mbe_semantics.specs.Fragments.Kinds.{whole}
use Rattle.mbe_semantics.specs.Transcription.FragmentTrees.{IsFragmentOutput, is_one_literal, is_signed_literal}
use Rattle.mbe_semantics.specs.Transcription.FragmentTrees.{inside_group, whole_fragment, group_for}
use Rattle.mbe_variables.specs.FragmentWriter.{Appends}
use Rattle.mbe_variables.proofs.PutLemmas.{appended}

-- ---- one literal

-- a test of whether no tree is left
ended : (left : Forest) (b : Bool) → (IsTrue b ↔ (left ≡ none)) → left ≡ none → b ≡ true
ended left b w e = w.1 e

not_ended_leaf : (left rest : Forest) (l : Leaf) (b : Bool) → (IsTrue b ↔ (left ≡ none)) → left ≡ leaf l rest
    → b ≡ false
not_ended_leaf left rest l true w e = let h : left ≡ none = w.0 refl in absurd cc
not_ended_leaf left rest l false w e = refl

not_ended_group : (left inside rest : Forest) (d : Delimiter) (b : Bool) → (IsTrue b ↔ (left ≡ none))
    → left ≡ group d inside rest → b ≡ false
not_ended_group left inside rest d true w e = let h : left ≡ none = w.0 refl in absurd cc
not_ended_group left inside rest d false w e = refl

if_some_true : {X : Type 0} (b : Bool) (x y : X) → (if b then Some x else None) ≡ Some y → b ≡ true
if_some_true true x y e = refl
if_some_true false x y e = absurd (none-some y e)

one_leaf : (f left : Forest) (l : Leaf) (b : Bool) → front_literal f ≡ Some l → left ≡ rest_of f
    → (IsTrue b ↔ (left ≡ none)) → b ≡ is_one_literal f
one_leaf none left l b v r w = absurd (none-some l v)
one_leaf (leaf (punct p) rest) left l b v r w = absurd (none-some l v)
one_leaf (group d inside rest) left l b v r w = absurd (none-some l v)
one_leaf (leaf (literal k) none) left l b v r w = ended left b w r
one_leaf (leaf (literal k) (leaf m rest)) left l b v r w = not_ended_leaf left rest m b w r
one_leaf (leaf (literal k) (group d inside rest)) left l b v r w = not_ended_group left inside rest d b w r
one_leaf (leaf (ident i) none) left l b v r w =
    ended left b w r ∙ sym (if_some_true (is_bool_text i.sym) (ident i) l v)
one_leaf (leaf (ident i) (leaf m rest)) left l b v r w = not_ended_leaf left rest m b w r
one_leaf (leaf (ident i) (group d inside rest)) left l b v r w = not_ended_group left inside rest d b w r

pub leaf_alone : {T E : Type 0} (r : Result T E) (h : T → Leaf) (f left : Forest) (b : Bool)
    → option_map h (result_ok r) ≡ front_literal f → left ≡ (if is_ok r then rest_of f else f) → is_ok r ≡ true
    → (IsTrue b ↔ (left ≡ none)) → b ≡ is_one_literal f
leaf_alone (Ok x) h f left b v l t w = one_leaf f left (h x) b (sym v) l w
leaf_alone (Err x) h f left b v l t w = let e : false ≡ true = t in absurd cc

-- no literal is in front: the iterator is where it was
pub no_leaf : {T E : Type 0} (r : Result T E) (h : T → Leaf) (f left : Forest)
    → option_map h (result_ok r) ≡ front_literal f → left ≡ (if is_ok r then rest_of f else f) → is_ok r ≡ false
    → (front_literal f ≡ None) × (left ≡ f)
no_leaf (Ok x) h f left v l t = let e : true ≡ false = t in absurd cc
no_leaf (Err x) h f left v l t = (sym v, l)

pub group_alone : (f left : Forest) (k : Delimiter) (inside : Forest) (b : Bool) → Some (k, inside) ≡ front_group f
    → left ≡ rest_of f → (IsTrue b ↔ (left ≡ none)) → is_literal_group k ≡ true → b ≡ is_one_literal f
group_alone none left k inside b g l w t = absurd (none-some _ (sym g))
group_alone (leaf m rest) left k inside b g l w t = absurd (none-some _ (sym g))
group_alone (group d more none) left k inside b g l w t =
    let same : k ≡ d = ap (λ (p : Delimiter × Forest). p.0) (same_Some _ _ g) in
    ended left b w l ∙ sym t ∙ ap is_literal_group same
group_alone (group d more (leaf m rest)) left k inside b g l w t = not_ended_leaf left rest m b w l
group_alone (group d more (group e inner rest)) left k inside b g l w t = not_ended_group left inner rest e b w l

pub other_group : (f : Forest) (k : Delimiter) (inside : Forest) → Some (k, inside) ≡ front_group f
    → is_literal_group k ≡ false → false ≡ is_one_literal f
other_group none k inside g e = refl
other_group (leaf (literal l) rest) k inside g e = absurd (none-some _ (sym g))
other_group (leaf (punct p) rest) k inside g e = refl
other_group (leaf (ident i) rest) k inside g e = absurd (none-some _ (sym g))
other_group (group d more none) k inside g e =
    let same : k ≡ d = ap (λ (p : Delimiter × Forest). p.0) (same_Some _ _ g) in
    sym e ∙ ap is_literal_group same
other_group (group d more (leaf m rest)) k inside g e = refl
other_group (group d more (group j inner rest)) k inside g e = refl

pub neither_alone : (f : Forest) → front_literal f ≡ None → None ≡ front_group f → false ≡ is_one_literal f
neither_alone none e g = refl
neither_alone (leaf (literal l) rest) e g = absurd (none-some _ (sym e))
neither_alone (leaf (punct p) rest) e g = refl
neither_alone (group d inside rest) e g = absurd (none-some _ g)
neither_alone (leaf (ident i) rest) e g = go (is_bool_text i.sym) refl e
  where
    at_end : (f : Forest) → is_bool_text i.sym ≡ false → false ≡ is_one_literal (leaf (ident i) f)
    at_end none h = sym h
    at_end (leaf m more) h = refl
    at_end (group d inside more) h = refl

    go : (b : Bool) → is_bool_text i.sym ≡ b → (if b then Some (ident i) else None) ≡ None
        → false ≡ is_one_literal (leaf (ident i) rest)
    go true h k = absurd (none-some (ident i) (sym k))
    go false h k = at_end rest h

-- ---- with an optional sign

after_sign : (f : Forest) → front_char f ≡ Some 45 → is_one_literal (rest_of f) ≡ is_signed_literal f
after_sign none q = absurd (none-some 45 q)
after_sign (leaf (literal l) rest) q = absurd (none-some 45 q)
after_sign (leaf (punct p) rest) q =
    sym (ap (λ b. b && is_one_literal rest) (eq-eqb p.char 45 (same_Some p.char 45 q)))
after_sign (leaf (ident i) rest) q = absurd (none-some 45 q)
after_sign (group d inside rest) q = absurd (none-some 45 q)

without_sign : (f : Forest) → (front_char f ≡ Some 45 → ⊥) → is_one_literal f ≡ is_signed_literal f
without_sign none n = refl
without_sign (leaf (literal l) rest) n = refl
without_sign (leaf (punct p) rest) n =
    sym (ap (λ b. b && is_one_literal rest) (ne_eqb p.char 45 (λ e. n (ap Some e))))
without_sign (leaf (ident i) rest) n = refl
without_sign (group d inside rest) n = refl

-- a sign that was consumed if it is there
pub signed : {T E : Type 0} (r : Result T E) (f mid : Forest) → (IsOk r ↔ (front_char f ≡ Some 45))
    → mid ≡ (if is_ok r then rest_of f else f) → is_one_literal mid ≡ is_signed_literal f
signed (Ok x) f mid h m = ap is_one_literal m ∙ after_sign f (h.0 refl)
signed (Err x) f mid h m =
    ap is_one_literal m ∙ without_sign f (λ q. let e : false ≡ true = h.1 q in absurd cc)

-- ---- one group

pub group_stripped : (g : FragmentGroup) (f left : Forest) (k : Delimiter) (inside : Forest)
    → Some (k, inside) ≡ front_group f → left ≡ rest_of f → left ≡ none → is_around g k ≡ true
    → inside ≡ inside_group g f
group_stripped g none left k inside v l z t = absurd (none-some _ (sym v))
group_stripped g (leaf m rest) left k inside v l z t = absurd (none-some _ (sym v))
group_stripped g (group d more none) left k inside v l z t =
    let both : (k, inside) ≡ (d, more) = same_Some _ _ v in
    let same : k ≡ d = ap (λ (p : Delimiter × Forest). p.0) both in
    let there : is_around g d ≡ true = sym (ap (is_around g) same) ∙ t in
    ap (λ (p : Delimiter × Forest). p.1) both
    ∙ sym (ap (λ (b : Bool). if b then more else group d more none) there)
group_stripped g (group d more (leaf m rest)) left k inside v l z t = absurd cc
group_stripped g (group d more (group e inner rest)) left k inside v l z t = absurd cc

pub not_one_group : (g : FragmentGroup) (f : Forest) → None ≡ front_group f → f ≡ inside_group g f
not_one_group g none v = refl
not_one_group g (leaf m rest) v = refl
not_one_group g (group d more rest) v = absurd (none-some _ v)

pub group_kept : (g : FragmentGroup) (f left : Forest) (k : Delimiter) (inside : Forest)
    → Some (k, inside) ≡ front_group f → left ≡ rest_of f → (left ≡ none → is_around g k ≡ false)
    → f ≡ inside_group g f
group_kept g none left k inside v l n = refl
group_kept g (leaf m rest) left k inside v l n = refl
group_kept g (group d more none) left k inside v l n =
    let same : k ≡ d = ap (λ (p : Delimiter × Forest). p.0) (same_Some _ _ v) in
    let other : is_around g d ≡ false = sym (ap (is_around g) same) ∙ n l in
    sym (ap (λ (b : Bool). if b then more else group d more none) other)
group_kept g (group d more (leaf m rest)) left k inside v l n = refl
group_kept g (group d more (group e inner rest)) left k inside v l n = refl

-- ---- written

pub whole_put : (k : FragmentGroup) (span : Span) (d : Delimiter) (f inside : Forest) (old opened mid new : GroupStack)
    → d ≡ delimiter_of k span → inside ≡ inside_group k f
    → opened ≡ (record { opening = d.opening; close = d.opening; kind = d.kind }, none) ∷ old
    → mid ≡ put (alone inside) opened → new ≡ closed d.close mid → new ≡ put (whole_fragment k span f) old
whole_put k span d f inside old opened mid new de ie o m e =
    e ∙ ap (closed d.close) (m ∙ ap (put (alone inside)) o)
    ∙ ap (λ (x : Delimiter). put (group x (alone inside) none) old) de
    ∙ ap (λ (i : Forest). put (group (delimiter_of k span) (alone i) none) old) ie

pub whole_appends : (Marks : Span → Span → Type 0) (site span : Span) (kind : MetaVarKind) (f : Forest)
    (old new : GroupStack) → new ≡ put (whole_fragment (group_for kind f) span f) old
    → Appends (IsFragmentOutput Marks site (whole kind) span f) old new
whole_appends Marks site span kind f old new e = appended _ (whole_fragment (group_for kind f) span f) old new refl e
