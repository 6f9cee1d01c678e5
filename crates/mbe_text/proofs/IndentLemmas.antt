-- Four spaces more.
use Rattle.std.proofs.Common.{◌≡◌, ℕ, suc, ◌-◌, ◌<◌, List, ◌++◌, refl, ap, sym, ◌∙◌, arith, append_assoc, append-nil}
use Rattle.std.specs.Prelude.{codes}
use Rattle.mbe_text.specs.RustText.Gaps.{indent}

one_more : (n : ℕ) → 0 < n → n ≡ suc (n - 1)
one_more n h = omega (arith, h)

indent_suc : (n : ℕ) → indent (suc n) ≡ codes "    " ++ indent n
unfolding indent
indent_suc n = refl

indent_on : (n : ℕ) → 0 < n → indent n ≡ codes "    " ++ indent (n - 1)
indent_on n h = ap indent (one_more n h) ∙ indent_suc (n - 1)

pub indents : (n : ℕ) (done more whole : List ℕ) → 0 < n → more ≡ done ++ codes "    " → done ++ indent n ≡ whole
    → more ++ indent (n - 1) ≡ whole
indents n done more whole h m w =
    ap (λ t. t ++ indent (n - 1)) m ∙ (append_assoc done (codes "    ") (indent (n - 1))
    ∙ (ap (λ t. done ++ t) (sym (indent_on n h)) ∙ w))

pub indented : (n : ℕ) (done whole : List ℕ) → n ≡ 0 → done ++ indent n ≡ whole → done ≡ whole
unfolding indent
indented n done whole e w = sym (append-nil done) ∙ (ap (λ k. done ++ indent k) (sym e) ∙ w)
