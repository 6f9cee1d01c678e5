-- What the marks say of the rules.
use Rattle.std.proofs.Common.{rules, ◌≡◌, ◌∙◌, ◌&&◌, inl, inr, ℕ, Bool, true, false, not, List, refl, ap, sym, subst}
use Rattle.std.specs.List.{Contains, list_any}
use Rattle.std.proofs.lemmas.Bool.{and_from}
use Rattle.std.proofs.lemmas.List.Folds.{list_any_at}
use Rattle.mbe_cargo.specs.declared.least_set.Rule.{Rule}
use Rattle.mbe_cargo.specs.LeastSet as spec
use Rattle.mbe_cargo.specs.LeastSet.{AllHold, ApplyKeeps, FirstMarked, Holds, IsBlank, IsLeastSet, adds, is_closed, is_marked}

false_true : false ≡ true → ⊥
false_true e = search rules

left_of : (a b : Bool) → (a && b) ≡ true → a ≡ true
left_of true b e = refl
left_of false b e = e

right_of : (a b : Bool) → (a && b) ≡ true → b ≡ true
right_of true b e = e
right_of false b e = absurd (false_true e)

clash : (a b : Bool) → (a && not b) ≡ true → b ≡ true → ⊥
clash a true e h = false_true (right_of a false e)
clash a false e h = false_true h

settle : (a b c : Bool) → a ≡ true → b ≡ true → ((a && b && not c) ≡ true → ⊥) → c ≡ true
settle a b true ea eb never = refl
settle a b false ea eb never = absurd (never (and_from (a && b) true (and_from a b ea eb) refl))

pub blank_hold : (rules : List Rule) (before after : List Bool) → IsBlank before → FirstMarked before after
    → AllHold rules after
blank_hold rules before after blank first n is = elim (first n is) [
  | inl old ↦ absurd (false_true (sym (blank n) ∙ old))
  | inr zero ↦ subst (Holds rules) (sym zero) spec.always
]

pub rule_holds : (rules : List Rule) (r : Rule) (before after : List Bool)
    → Contains rules r → ApplyKeeps r before after
    → AllHold rules before → AllHold rules after
rule_holds rules r before after has keeps h n is = elim (keeps n is) [
  | inl old ↦ h n old
  | inr new ↦ subst (Holds rules) (sym new.0)
      (spec.by_rule r has
      (h r.first (left_of _ _ (left_of _ _ new.1)))
      (h r.second (right_of _ _ (left_of _ _ new.1))))
]

pub rule_closed : (rules : List Rule) (marks : List Bool) (r : Rule) → is_closed rules marks ≡ true → Contains rules r
    → is_marked marks r.first ≡ true → is_marked marks r.second ≡ true → is_marked marks r.gives ≡ true
rule_closed rules marks r closed has first second =
    settle (is_marked marks r.first) (is_marked marks r.second) (is_marked marks r.gives) first second
    (λ added. clash (is_marked marks 0) (list_any (adds marks) rules) closed
    (list_any_at (adds marks) rules has.0 r has.1 (ap (adds marks) has.2 ∙ added)))

pub all_marked : (rules : List Rule) (marks : List Bool) → is_closed rules marks ≡ true → (n : ℕ) → Holds rules n
    → is_marked marks n ≡ true
all_marked rules marks closed n spec.always = left_of _ _ closed
all_marked rules marks closed n (spec.by_rule r has first second) =
    rule_closed rules marks r closed has (all_marked rules marks closed r.first first)
    (all_marked rules marks closed r.second second)
