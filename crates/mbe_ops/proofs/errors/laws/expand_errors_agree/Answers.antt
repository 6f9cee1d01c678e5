use Rattle.std.proofs.Common.{◌↔◌, IsTrue, Bool, true, false, true≢false, refl, sym, ap}
use Rattle.std.specs.Prelude.{◌&&◌}
use Rattle.mbe_semantics.specs.Expansion.Error.{ExpandError}
use Rattle.mbe_ops.proofs.errors.laws.expand_errors_agree.Goals as goal

-- a test of two parts
both_parts : (a b : Bool) (P Q R : Type 0) → IsTrue a ↔ P → IsTrue b ↔ Q → (P → Q → R) → (R → P) → (R → Q)
    → IsTrue (a && b) ↔ R
both_parts true b P Q R p q join left right = (λ h. join (p.0 refl) (q.0 h), λ r. q.1 (right r))
both_parts false b P Q R p q join left right = (λ h. absurd (true≢false (sym h)), λ r. p.1 (left r))

pub returns-clause-equal : goal.returns-clause-equal
returns-clause-equal g c = λ x y.
    both_parts _ _ _ _ _
    (c.spans_agree.ensures x.inner.value.0 y.inner.value.0)
    (c.expand_error_kinds_agree.ensures.equal x.inner.value.1 y.inner.value.1)
    (λ p q i. record { span = p i; kind = q i })
    (λ r. ap (λ (f : ExpandError). f.span) r)
    (λ r. ap (λ (f : ExpandError). f.kind) r)
