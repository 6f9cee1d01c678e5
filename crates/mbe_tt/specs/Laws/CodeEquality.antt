-- Equality of values that have a code.
use Rattle.std.specs.Prelude.{◌≡◌, Bool, true, false, ◌&&◌, nat_eq, refl, IsTrue, ◌↔◌}
use Rattle.std.specs.Coded.{Coded}
use Rattle.std.specs.Cmp.{IsEquivalence, both_ways}
use Rattle.std.proofs.Common.{ap, sym, ◌∙◌, true≢false}
use Rattle.std.proofs.lemmas.Bool.{eqb-true, eq-eqb}
use base.Stored.{Gv, gnil, gnum, gcons}

-- equality of codes
abbrev pub code_eq : Gv → Gv → Bool
code_eq gnil gnil = true
code_eq gnil (gnum m) = false
code_eq gnil (gcons c d) = false
code_eq (gnum n) gnil = false
code_eq (gnum n) (gnum m) = nat_eq n m
code_eq (gnum n) (gcons c d) = false
code_eq (gcons a b) gnil = false
code_eq (gcons a b) (gnum m) = false
code_eq (gcons a b) (gcons c d) = code_eq a c && code_eq b d

-- whether the codes of two values are equal
pub same : {T : Type 0} → Coded T → T → T → Bool
same c x y = code_eq (c.code x) (c.code y)

and_first : (s t : Bool) → (s && t) ≡ true → s ≡ true
and_first true t h = refl
and_first false t h = h

and_second : (s t : Bool) → (s && t) ≡ true → t ≡ true
and_second true t h = h
and_second false t h = absurd (true≢false (sym h))

and_both : (s t : Bool) → s ≡ true → t ≡ true → (s && t) ≡ true
and_both s t h k = ap (λ (b : Bool). b && t) h ∙ k

code_same : (g h : Gv) → code_eq g h ≡ true → g ≡ h
code_same gnil gnil e = refl
code_same gnil (gnum m) e = absurd (true≢false (sym e))
code_same gnil (gcons c d) e = absurd (true≢false (sym e))
code_same (gnum n) gnil e = absurd (true≢false (sym e))
code_same (gnum n) (gnum m) e = ap gnum (eqb-true n m e)
code_same (gnum n) (gcons c d) e = absurd (true≢false (sym e))
code_same (gcons a b) gnil e = absurd (true≢false (sym e))
code_same (gcons a b) (gnum m) e = absurd (true≢false (sym e))
code_same (gcons a b) (gcons c d) e =
    ap (λ (x : Gv). gcons x b) (code_same a c (and_first _ _ e))
    ∙ ap (gcons c) (code_same b d (and_second (code_eq a c) _ e))

code_itself : (g : Gv) → code_eq g g ≡ true
code_itself gnil = refl
code_itself (gnum n) = eq-eqb n n refl
code_itself (gcons a b) = and_both _ _ (code_itself a) (code_itself b)

-- the codes are equal exactly if the values are
pub same_is : {T : Type 0} (c : Coded T) (x y : T) → same c x y ≡ true → x ≡ y
unfolding same
same_is c x y e = c.inj x y (code_same _ _ e)

pub is_same : {T : Type 0} (c : Coded T) (x y : T) → x ≡ y → same c x y ≡ true
unfolding same
is_same c x y e = ap (λ z. same c x z) (sym e) ∙ code_itself (c.code x)

-- a `Bool` that is true exactly for equal values is the result of `same`
pub same_by : {T : Type 0} (c : Coded T) (x y : T) (b : Bool) → IsTrue b ↔ (x ≡ y) → b ≡ same c x y
same_by c x y b h =
    both_ways b (same c x y) (λ e. is_same c x y (h.0 e)) (λ e. h.1 (same_is c x y e))

-- a result of `same` is true exactly for equal values
pub same_tells : {T : Type 0} (c : Coded T) (x y : T) (r : Bool) → r ≡ same c x y
    → IsTrue r ↔ (x ≡ y)
same_tells c x y r e = (λ h. same_is c x y (sym e ∙ h), λ h. e ∙ is_same c x y h)

-- `same` is an equivalence
pub same_equiv : {T : Type 0} (c : Coded T) → IsEquivalence (same c)
same_equiv c = record {
  refl = λ x. is_same c x x refl;
  symm = λ x y. both_ways _ _ (λ h. is_same c y x (sym (same_is c x y h)))
      (λ h. is_same c x y (sym (same_is c y x h)));
  congr = λ x y z h. ap (λ w. same c w z) (same_is c x y h);
}
