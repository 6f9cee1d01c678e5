-- Words that are the same local or the same label.
use Rattle.std.proofs.Common.{◌≡◌, ℕ, Bool, true, false, List, [], ◌∷◌, refl, ap, sym, ◌∙◌, ◌⊎◌, inl, inr, Some}
use Rattle.std.specs.Prelude.{◌==◌, ◌&&◌, ◌||◌, if◌then◌else◌}
use Rattle.std.specs.Str.{bytes_eq}
use Rattle.std.proofs.lemmas.Bool.{eqb-true, eq-eqb}
use Rattle.std.proofs.lemmas.Slice.Eq.{bytes_eq-Decides}
use Rattle.mbe_rewriter.specs.declared.hygiene.scan_state.TokenRole.{TokenRole}
use Rattle.mbe_rewriter.specs.declared.hygiene.scan_state.TokenRole.TheVariants.{Other, Used, Bound, Late, Shorthand}
use Rattle.mbe_rewriter.specs.declared.hygiene.scan_state.TokenRole.TheVariants.{Unsure, Label, Jump, Text, Inner}
use Rattle.mbe_rewriter.specs.declared.hygiene.scan_state.TokenRole.TheVariants.{InnerLabel, Begin, End, Enter, Body}
use Rattle.mbe_rewriter.specs.declared.hygiene.scan_state.TokenRole.TheVariants.{Leave, Next}
use Rattle.mbe_rewriter.specs.Hygiene.LocalNames.{Word, context, is_local, is_label, is_nested_role, is_same_namespace}
use Rattle.mbe_rewriter.specs.Hygiene.LocalNames.{is_same, Naming, name_in, or_own, new_name}

-- ---- tests

pub true_or_false : (x : Bool) → (x ≡ true) ⊎ (x ≡ false)
true_or_false true = inl refl
true_or_false false = inr refl

pub both : (a b : Bool) → a ≡ true → a ≡ false → ⊥
both a b t f = let e : true ≡ false = sym t ∙ f in cc

pub and_left : (a b : Bool) → (a && b) ≡ true → a ≡ true
and_left true b e = refl
and_left false b e = e

pub and_right : (a b : Bool) → (a && b) ≡ true → b ≡ true
and_right true b e = e
and_right false b e = cc

pub or_cases : (a b : Bool) → (a || b) ≡ true → (a ≡ true) ⊎ (b ≡ true)
or_cases true b e = inl refl
or_cases false b e = inr e

pub or_left : (a b : Bool) → a ≡ true → (a || b) ≡ true
or_left a b e = rw e refl

pub or_right : (a b : Bool) → b ≡ true → (a || b) ≡ true
or_right true b e = refl
or_right false b e = e

pub neither_left : (a b : Bool) → (a || b) ≡ false → a ≡ false
neither_left true b e = e
neither_left false b e = refl

pub neither_right : (a b : Bool) → (a || b) ≡ false → b ≡ false
neither_right true b e = cc
neither_right false b e = e

pub neither : (a b : Bool) → a ≡ false → b ≡ false → (a || b) ≡ false
neither a b e f = rw e f

-- ---- texts

pub same_text : (a b : List ℕ) → bytes_eq a b ≡ true → a ≡ b
same_text a b e = (bytes_eq-Decides a b).0 e

pub text_same : (a b : List ℕ) → a ≡ b → bytes_eq a b ≡ true
text_same a b e = (bytes_eq-Decides a b).1 e

pub not_same : (a b : List ℕ) → (a ≡ b → ⊥) → bytes_eq a b ≡ false
not_same a b n = elim (true_or_false (bytes_eq a b)) [
  | inl e ↦ absurd (n (same_text a b e))
  | inr e ↦ e
]

pub same_other_way : (a b : List ℕ) → bytes_eq a b ≡ false → bytes_eq b a ≡ false
same_other_way a b n = not_same b a (λ e. both (bytes_eq a b) true (text_same a b (sym e)) n)

-- ---- sorts of words

sorts : (A B C D : Bool) → (A && C || B && D) ≡ true → (A ≡ true → B ≡ false) → (C ≡ true → D ≡ false)
    → (A ≡ C) × (B ≡ D)
sorts true true C D e x y = absurd (both true true refl (x refl))
sorts true false true true e x y = absurd (both true true refl (y refl))
sorts true false true false e x y = (refl, refl)
sorts true false false D e x y = absurd (both true true refl (sym e))
sorts false true true true e x y = absurd (both true true refl (y refl))
sorts false true true false e x y = absurd (both true true refl (sym e))
sorts false true false true e x y = (refl, refl)
sorts false true false false e x y = absurd (both true true refl (sym e))
sorts false false C D e x y = absurd (both true true refl (sym e))

no_label : (r : TokenRole) → is_local r ≡ true → is_label r ≡ false
no_label Other e = refl
no_label Used e = refl
no_label Bound e = refl
no_label Late e = refl
no_label Shorthand e = refl
no_label Unsure e = refl
no_label Label e = absurd (both true true refl (sym e))
no_label Jump e = absurd (both true true refl (sym e))
no_label Text e = refl
no_label Inner e = refl
no_label InnerLabel e = refl
no_label Begin e = refl
no_label End e = refl
no_label Enter e = refl
no_label Body e = refl
no_label Leave e = refl
no_label Next e = refl

classes : (r q : TokenRole) → is_same_namespace r q ≡ true → (is_local r ≡ is_local q) × (is_label r ≡ is_label q)
classes r q e = sorts (is_local r) (is_label r) (is_local q) (is_label q) e (no_label r) (no_label q)

sort_congr : (p r q : TokenRole) → is_same_namespace r q ≡ true → is_same_namespace p r ≡ is_same_namespace p q
sort_congr p r q e =
    let c = classes r q e in
    ap (λ x. is_local p && x || is_label p && is_label r) c.0
    ∙ ap (λ x. is_local p && is_local q || is_label p && x) c.1

sort_sym : (r q : TokenRole) → is_same_namespace r q ≡ true → is_same_namespace q r ≡ true
sort_sym r q e =
    let c = classes r q e in
    ap (λ x. x && is_local r || is_label q && is_label r) (sym c.0)
    ∙ ap (λ x. is_local r && x || is_label q && is_label r) c.0
    ∙ ap (λ x. is_local r && is_local q || x && is_label r) (sym c.1)
    ∙ ap (λ x. is_local r && is_local q || is_label r && x) c.1 ∙ e

pub not_aside : (r q : TokenRole) → is_same_namespace r q ≡ true → is_nested_role r ≡ false
not_aside Other q e = refl
not_aside Used q e = refl
not_aside Bound q e = refl
not_aside Late q e = refl
not_aside Shorthand q e = refl
not_aside Unsure q e = refl
not_aside Label q e = refl
not_aside Jump q e = refl
not_aside Begin q e = refl
not_aside End q e = refl
not_aside Enter q e = refl
not_aside Body q e = refl
not_aside Leave q e = refl
not_aside Next q e = refl
not_aside Text q e = refl
not_aside Inner q e = absurd (both true true refl (sym e))
not_aside InnerLabel q e = absurd (both true true refl (sym e))

pub not_aside_either : (r q : TokenRole) → is_same_namespace r q ≡ true → is_nested_role q ≡ false
not_aside_either r q e = not_aside q r (sort_sym r q e)

-- ---- words

-- one sort, one context, one text
pub record Same (v w : Word) : Type 0 where
  pub sort : is_same_namespace v.role w.role ≡ true
  pub context : context v ≡ context w
  pub text : v.text ≡ w.text

pub same_from : (v w : Word) → is_same v w ≡ true → Same v w
same_from v w e =
    let rest = and_right (is_same_namespace v.role w.role) (context v == context w && bytes_eq v.text w.text) e in
    record {
      sort = and_left (is_same_namespace v.role w.role) (context v == context w && bytes_eq v.text w.text) e;
      context = eqb-true (context v) (context w) (and_left (context v == context w) (bytes_eq v.text w.text) rest);
      text = same_text v.text w.text (and_right (context v == context w) (bytes_eq v.text w.text) rest);
    }

pub same_to : (v w : Word) → Same v w → is_same v w ≡ true
same_to v w s = rw (s.sort, eq-eqb (context v) (context w) s.context) (text_same v.text w.text s.text)

pub same_congr : (x v w : Word) → Same v w → is_same x v ≡ is_same x w
same_congr x v w s =
    ap (λ b. b && (context x == context v && bytes_eq x.text v.text)) (sort_congr x.role v.role w.role s.sort)
    ∙ ap (λ c. is_same_namespace x.role w.role && (context x == c && bytes_eq x.text v.text)) s.context
    ∙ ap (λ t. is_same_namespace x.role w.role && (context x == context w && bytes_eq x.text t)) s.text

pub same_sym : (v w : Word) → Same v w → Same w v
same_sym v w s = record { sort = sort_sym v.role w.role s.sort; context = sym s.context; text = sym s.text }

pub same_trans : (u v w : Word) → Same u v → Same v w → Same u w
same_trans u v w s t = same_from u w (sym (same_congr u v w t) ∙ same_to u v s)

-- ---- names of words

pub name_same : (given : List Naming) (v w : Word) → Same v w → name_in given v ≡ name_in given w
name_same [] v w s = refl
name_same (n ∷ ns) v w s =
    ap (λ b. if b then Some n.name else name_in ns v) (same_congr n.local v w s)
    ∙ ap (λ k. if is_same n.local w then Some n.name else k) (name_same ns v w s)

pub new_name_same : (given : List Naming) (v w : Word) → Same v w → new_name given v ≡ new_name given w
new_name_same given v w s =
    ap (or_own v.text) (name_same given v w s) ∙ ap (λ t. or_own t (name_in given w)) s.text

pub here_named : (n : Naming) (ns : List Naming) (v : Word) → is_same n.local v ≡ true
    → name_in (n ∷ ns) v ≡ Some n.name
here_named n ns v e = ap (λ b. if b then Some n.name else name_in ns v) e

pub later_named : (n : Naming) (ns : List Naming) (v : Word) → is_same n.local v ≡ false
    → name_in (n ∷ ns) v ≡ name_in ns v
later_named n ns v e = ap (λ b. if b then Some n.name else name_in ns v) e
