-- Where the trees of a rule are refused, and how long they are.
use Rattle.std.specs.Prelude.{◌≡◌, ◌+◌, ◌||◌, ℕ, Bool, true, false, if◌then◌else◌, codes, Some, None, refl}
use Rattle.std.proofs.Common.{ap, sym, ◌∙◌}
use Rattle.std.proofs.lemmas.Option.{none-some, same_Some}
use Rattle.mbe_tt.specs.declared.tt.Delimiter.{Delimiter}
use Rattle.mbe_tt.specs.Trees.Tree.{Forest, none, leaf, group, flat_len, rest_of, front_group, front_char}
use Rattle.mbe_parser.specs.RuleResults.{begins_with_ident}
use Rattle.mbe_parser.specs.RuleStops.{is_group, after_expected, stop_at_pattern, stop_at_style, stop_in_rule}
use Rattle.mbe_parser.proofs.RuleTreeLemmas.{Left, passed, stayed}

-- ---- what is wanted next

if_so : {A : Type 0} (b : Bool) (x y : A) → b ≡ true → (if b then x else y) ≡ x
if_so b x y e = ap (λ (c : Bool). if c then x else y) e

if_not : {A : Type 0} (b : Bool) (x y : A) → b ≡ false → (if b then x else y) ≡ y
if_not b x y e = ap (λ (c : Bool). if c then x else y) e

group_there : (f : Forest) (g : Delimiter × Forest) → front_group f ≡ Some g → is_group f ≡ true
group_there none g e = absurd (none-some g e)
group_there (leaf l rest) g e = absurd (none-some g e)
group_there (group d inside rest) g e = refl

no_group_there : (f : Forest) → front_group f ≡ None → is_group f ≡ false
no_group_there none e = refl
no_group_there (leaf l rest) e = refl
no_group_there (group d inside rest) e = absurd (none-some (d, inside) (sym e))

pub past_group : (k : Forest → Forest) (f : Forest) (g : Delimiter × Forest) → front_group f ≡ Some g
    → after_expected is_group k f ≡ k (rest_of f)
past_group k f g e = if_so (is_group f) (k (rest_of f)) f (group_there f g e)

pub at_no_group : (k : Forest → Forest) (f : Forest) → front_group f ≡ None → after_expected is_group k f ≡ f
at_no_group k f e = if_not (is_group f) (k (rest_of f)) f (no_group_there f e)

-- ---- how long they are

pub group_len : (f inside : Forest) (d : Delimiter) → front_group f ≡ Some (d, inside)
    → flat_len f ≡ 2 + flat_len inside + flat_len (rest_of f)
group_len none inside d e = absurd (none-some (d, inside) e)
group_len (leaf l rest) inside d e = absurd (none-some (d, inside) e)
group_len (group k body rest) inside d e =
    ap (λ (g : Forest). 2 + flat_len g + flat_len rest)
    (ap (λ (x : Delimiter × Forest). x.1) (same_Some (k, body) (d, inside) e))

pub char_len : (f : Forest) (c : ℕ) → front_char f ≡ Some c → flat_len f ≡ 1 + flat_len (rest_of f)
char_len none c e = absurd (none-some c e)
char_len (leaf l rest) c e = refl
char_len (group d inside rest) c e = absurd (none-some c e)

-- ---- the words before the pattern

pub after_unsafe : (r : Bool) (f mid : Forest) → r ≡ begins_with_ident (codes "unsafe") f → Left r f mid
    → stop_in_rule f ≡ stop_at_style mid
after_unsafe r f mid e l = sym (ap stop_at_style (l ∙ ap (λ (b : Bool). if b then rest_of f else f) e))

styled : (a d : Bool) (f : Forest) → (a || d) ≡ true
    → (if a || d then after_expected is_group stop_at_pattern (rest_of f) else stop_at_pattern f)
    ≡ after_expected is_group stop_at_pattern (rest_of f)
styled a d f e = if_so (a || d) _ _ e

or_left : (a d : Bool) → a ≡ true → (a || d) ≡ true
or_left a d e = ap (λ (b : Bool). b || d) e

or_right : (a d : Bool) → a ≡ false → (a || d) ≡ d
or_right a d e = ap (λ (b : Bool). b || d) e

pub after_attr : (r : Bool) (f left : Forest) → r ≡ begins_with_ident (codes "attr") f → Left r f left → r ≡ true
    → stop_at_style f ≡ after_expected is_group stop_at_pattern left
after_attr r f left e l h =
    styled (begins_with_ident (codes "attr") f) (begins_with_ident (codes "derive") f) f (or_left _ _ (sym e ∙ h))
    ∙ ap (after_expected is_group stop_at_pattern) (passed r f left l h)

module _ (r q : Bool) (f mid left : Forest) (attr : r ≡ begins_with_ident (codes "attr") f) (at : Left r f mid)
    (no_attr : r ≡ false) (derive : q ≡ begins_with_ident (codes "derive") mid) (following : Left q mid left) where
  derive_at : begins_with_ident (codes "derive") f ≡ q
  derive_at = ap (begins_with_ident (codes "derive")) (stayed r f mid at no_attr) ∙ sym derive

  pub after_derive : q ≡ true → stop_at_style f ≡ after_expected is_group stop_at_pattern left
  after_derive h =
      styled (begins_with_ident (codes "attr") f) (begins_with_ident (codes "derive") f) f
      (or_right _ _ (sym attr ∙ no_attr) ∙ (derive_at ∙ h))
      ∙ ap (after_expected is_group stop_at_pattern)
      (ap rest_of (stayed r f mid at no_attr) ∙ passed q mid left following h)

  pub after_nothing : q ≡ false → stop_at_style f ≡ stop_at_pattern left
  after_nothing h =
      if_not (begins_with_ident (codes "attr") f || begins_with_ident (codes "derive") f) _ _
      (or_right _ _ (sym attr ∙ no_attr) ∙ (derive_at ∙ h))
      ∙ ap stop_at_pattern (stayed r f mid at no_attr ∙ stayed q mid left following h)
