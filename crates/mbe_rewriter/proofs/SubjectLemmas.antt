-- Attributes, one after another.
use Rattle.std.proofs.Common.{◌≡◌, ◌-◌, ◌<◌, ℕ, zero, suc, Option, Some, None, refl, ap, sym, ◌∙◌, arith}
use Rattle.mbe_tt.specs.Trees.Tree.{Forest}
use Rattle.mbe_rewriter.specs.AttributedCalls.{after_known_attribute, on, past}

past_none : (n : ℕ) (f : Forest) → n ≡ 0 → past n f ≡ f
unfolding past
past_none zero f e = refl
past_none (suc n) f e = absurd (cc)

past_suc : (n : ℕ) (f : Forest) → past (suc n) f ≡ on (past n) f (after_known_attribute f)
unfolding past
past_suc n f = refl

-- none is left
pub all_past : (n : ℕ) (rest out : Forest) → n ≡ 0 → past n rest ≡ out → rest ≡ out
all_past n rest out e h = sym (past_none n rest e) ∙ h

less_one : (n : ℕ) → 0 < n → n ≡ suc (n - 1)
less_one n h = omega (arith, h)

past_on : (n : ℕ) (f : Forest) (o : Option Forest) → 0 < n → after_known_attribute f ≡ o → on (past (n - 1)) f o
    ≡ past n f
past_on n f o h e =
    ap (on (past (n - 1)) f) (sym e) ∙ (sym (past_suc (n - 1) f) ∙ ap (λ k. past k f) (sym (less_one n h)))

-- one attribute more
pub one_past : (n : ℕ) (f rest out : Forest) → 0 < n → after_known_attribute f ≡ Some rest → past n f ≡ out
    → past (n - 1) rest ≡ out
one_past n f rest out h e w = past_on n f (Some rest) h e ∙ w

-- no attribute is there
pub no_past : (n : ℕ) (f out : Forest) → 0 < n → after_known_attribute f ≡ None → past n f ≡ out → f ≡ out
no_past n f out h e w = past_on n f None h e ∙ w
