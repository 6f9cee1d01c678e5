-- What comes before a rule's pattern.
use Rattle.std.specs.Prelude.{◌≡◌, ◌==◌, Bool, true, false, if◌then◌else◌, codes, Some, None, Result, Ok, Err}
use Rattle.std.specs.Prelude.{refl}
use Rattle.std.proofs.Common.{ap, sym, ◌∙◌}
use Rattle.std.proofs.lemmas.Option.{none-some}
use Rattle.mbe_tt.proofs.Offsets.CutLemmas.{no_true}
use Rattle.mbe_tt.specs.declared.tt.Delimiter.{Delimiter}
use Rattle.mbe_tt.specs.Trees.Leaf.{Ident, ident, punct, literal, is_text}
use Rattle.mbe_tt.specs.Trees.Tree.{Forest, none, leaf, group, rest_of, front_group}
use Rattle.mbe_semantics.specs.declared.macro_call_style.MacroCallStyle.{MacroCallStyle}
use Rattle.mbe_semantics.specs.declared.macro_call_style.MacroCallStyle.TheVariants.{FnLike, Attr, Derive}
use Rattle.mbe_semantics.specs.Syntax.Template.{Fault, expected}
use Rattle.mbe_parser.specs.RuleResults.{begins_with_ident}
use Rattle.mbe_semantics.specs.Syntax.Definition.{RuleTrees, pattern_at, styled_group_at, style_at, rule_trees_at}

word_passed : (b : Bool) (i : Ident) (rest : Forest)
    → (if b then style_at rest else style_at (leaf (ident i) rest)) ≡ style_at (if b then rest else leaf (ident i) rest)
word_passed true i rest = refl
word_passed false i rest = refl

-- `unsafe` may come first
pub past_unsafe : (f : Forest) → rule_trees_at f
    ≡ style_at (if begins_with_ident (codes "unsafe") f then rest_of f else f)
past_unsafe none = refl
past_unsafe (group d inside rest) = refl
past_unsafe (leaf (literal l) rest) = refl
past_unsafe (leaf (punct p) rest) = refl
past_unsafe (leaf (ident i) rest) = word_passed (is_text i.sym (codes "unsafe")) i rest

if_true : (b : Bool) (x y : Result RuleTrees Fault) → b ≡ true → (if b then x else y) ≡ x
if_true b x y e = ap (λ (c : Bool). if c then x else y) e

if_false : (b : Bool) (x y : Result RuleTrees Fault) → b ≡ false → (if b then x else y) ≡ y
if_false b x y e = ap (λ (c : Bool). if c then x else y) e

pub past_attr : (f : Forest) → begins_with_ident (codes "attr") f ≡ true → style_at f ≡ styled_group_at Attr (rest_of f)
past_attr none e = absurd (no_true e)
past_attr (group d inside rest) e = absurd (no_true e)
past_attr (leaf (literal l) rest) e = absurd (no_true e)
past_attr (leaf (punct p) rest) e = absurd (no_true e)
past_attr (leaf (ident i) rest) e = if_true (is_text i.sym (codes "attr")) _ _ e

pub past_derive : (f : Forest) → begins_with_ident (codes "attr") f ≡ false → begins_with_ident (codes "derive") f
    ≡ true
    → style_at f ≡ styled_group_at Derive (rest_of f)
past_derive none n e = absurd (no_true e)
past_derive (group d inside rest) n e = absurd (no_true e)
past_derive (leaf (literal l) rest) n e = absurd (no_true e)
past_derive (leaf (punct p) rest) n e = absurd (no_true e)
past_derive (leaf (ident i) rest) n e =
    if_false (is_text i.sym (codes "attr")) _ _ n ∙ if_true (is_text i.sym (codes "derive")) _ _ e

pub past_nothing : (f : Forest) → begins_with_ident (codes "attr") f ≡ false → begins_with_ident (codes "derive") f
    ≡ false
    → style_at f ≡ pattern_at FnLike f
past_nothing none n e = refl
past_nothing (group d inside rest) n e = refl
past_nothing (leaf (literal l) rest) n e = refl
past_nothing (leaf (punct p) rest) n e = refl
past_nothing (leaf (ident i) rest) n e =
    if_false (is_text i.sym (codes "attr")) _ _ n ∙ if_false (is_text i.sym (codes "derive")) _ _ e

pub after_group : (style : MacroCallStyle) (f : Forest) (g : Delimiter × Forest) → front_group f ≡ Some g
    → styled_group_at style f ≡ pattern_at style (rest_of f)
after_group style none g e = absurd (none-some g e)
after_group style (leaf l rest) g e = absurd (none-some g e)
after_group style (group d inside rest) g e = refl

pub no_group : (style : MacroCallStyle) (f : Forest) → front_group f ≡ None
    → styled_group_at style f ≡ Err (expected (codes "expected `()`"))
no_group style none e = refl
no_group style (leaf l rest) e = refl
no_group style (group d inside rest) e = absurd (none-some (d, inside) (sym e))

-- ---- the same, by what calls answer

-- the trees that a call left
abbrev pub Left : Bool → Forest → Forest → Type 0
Left r f left = left ≡ (if r then rest_of f else f)

pub passed : (r : Bool) (f left : Forest) → Left r f left → r ≡ true → rest_of f ≡ left
passed r f left l h = sym (l ∙ ap (λ (b : Bool). if b then rest_of f else f) h)

pub stayed : (r : Bool) (f left : Forest) → Left r f left → r ≡ false → f ≡ left
stayed r f left l h = sym (l ∙ ap (λ (b : Bool). if b then rest_of f else f) h)

pub after_unsafe : (r : Bool) (f left : Forest) → r ≡ begins_with_ident (codes "unsafe") f → Left r f left
    → rule_trees_at f ≡ style_at left
after_unsafe r f left e l = past_unsafe f ∙ sym (ap style_at (l ∙ ap (λ (b : Bool). if b then rest_of f else f) e))

pub after_attr : (r : Bool) (f left : Forest) → r ≡ begins_with_ident (codes "attr") f → Left r f left → r ≡ true
    → style_at f ≡ styled_group_at Attr left
after_attr r f left e l h = past_attr f (sym e ∙ h) ∙ ap (styled_group_at Attr) (passed r f left l h)

module _ (r q : Bool) (f mid left : Forest) (attr : r ≡ begins_with_ident (codes "attr") f) (at : Left r f mid)
    (no_attr : r ≡ false)
    (derive : q ≡ begins_with_ident (codes "derive") mid) (following : Left q mid left) where
  derive_at : begins_with_ident (codes "derive") f ≡ q
  derive_at = ap (begins_with_ident (codes "derive")) (stayed r f mid at no_attr) ∙ sym derive

  pub after_derive : q ≡ true → style_at f ≡ styled_group_at Derive left
  after_derive h =
      past_derive f (sym attr ∙ no_attr) (derive_at ∙ h)
      ∙ ap (styled_group_at Derive) (ap rest_of (stayed r f mid at no_attr) ∙ passed q mid left following h)

  pub after_nothing : q ≡ false → style_at f ≡ pattern_at FnLike left
  after_nothing h =
      past_nothing f (sym attr ∙ no_attr) (derive_at ∙ h)
      ∙ ap (pattern_at FnLike) (stayed r f mid at no_attr ∙ stayed q mid left following h)
