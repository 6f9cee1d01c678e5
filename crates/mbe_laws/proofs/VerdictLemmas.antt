-- Verdicts, and the rule that is the closest of two.
use Rattle.std.specs.Prelude.{◌≡◌, ◌⊎◌, ◌-◌, ◌^◌, ℕ, zero, suc, min, List, [], ◌∷◌, None, refl}
use Rattle.std.proofs.Common.{arith, ap, sym, ◌∙◌, subst}
use Rattle.std.proofs.lemmas.Option.{none-some, same_Some}
use Rattle.mbe_tt.specs.Trees.Tree.{none}
use Rattle.mbe_tt.specs.Grammars.Grammar.{Grammar, IsLawful}
use Rattle.mbe_semantics.specs.declared.macro_call_style.MacroCallStyle.TheVariants.{FnLike}
use Rattle.mbe_semantics.specs.Syntax.Template.{token, nothing}
use Rattle.mbe_semantics.specs.Syntax.Definition.{Rule}
use Rattle.mbe_semantics.specs.Bindings.Environment.{environment_of, binding_total}
use Rattle.mbe_semantics.specs.Expansion.Recovery.{IsClosest, IsStyledAt, IsCloser}
use Rattle.mbe_semantics.specs.Examples.Sample.{open_grammar}
use Rattle.mbe_semantics.specs.Examples.Examples.{NearestExample, far_rule, near_rule, near_argument}
use Rattle.mbe_semantics.specs.Readings.Item.{Items}
use Rattle.mbe_semantics.specs.Readings.Ambiguity.{IsReading, Fits}
use Rattle.mbe_semantics.specs.Readings.Verdict.{Verdict, IsVerdict, stuck, unmatched}
use Rattle.mbe_semantics.specs.Matching.Run.{run, verdict}
use Rattle.mbe_semantics.specs.Readings.Steps.{tree}
use Rattle.mbe_laws.proofs.RuleLemmas.{by_run, parts, defines_two}
use Rattle.mbe_laws.proofs.Matching.RunLemmas.{one_verdict}

-- ---- `(a b) => {}; (a c d) => {}` on `a c`

far_verdict : (g : Grammar) → IsLawful (open_grammar g)
    → IsVerdict (open_grammar g) far_rule.reads near_argument (stuck 1)
unfolding verdict run tree
far_verdict g w = by_run (open_grammar g) far_rule.reads near_argument (stuck 1) w refl refl

near_verdict : (g : Grammar) → IsLawful (open_grammar g)
    → IsVerdict (open_grammar g) near_rule.reads near_argument (stuck 2)
unfolding verdict run tree
near_verdict g w = by_run (open_grammar g) near_rule.reads near_argument (stuck 2) w refl refl

abbrev both_rules : List Rule
both_rules = far_rule ∷ near_rule ∷ []

-- trees that are left by the first, by the second
abbrev left_by : ℕ → ℕ
left_by zero = 1
left_by (suc n) = 0

near_closest : (g : Grammar) → IsLawful (open_grammar g) → IsClosest (open_grammar g) FnLike near_argument both_rules 1
near_closest g w = record {
  left = left_by;
  bound = λ m. 0;
  rule = near_rule;
  styled = (refl, refl);
  unmatched_trees = left_at;
  bindings = bound_at;
  first = first_at;
}
  where
    left_at : (m : ℕ) (r : Rule) → IsStyledAt both_rules FnLike m r
        → (v : Verdict) × IsVerdict (open_grammar g) r.reads near_argument v × (left_by m ≡ unmatched near_argument v)
    left_at zero r p = (
      stuck 1,
      subst (λ x. IsVerdict (open_grammar g) x.reads near_argument (stuck 1)) (same_Some far_rule r p.0)
          (far_verdict g w),
      refl,
    )
    left_at (suc zero) r p = (
      stuck 2,
      subst (λ x. IsVerdict (open_grammar g) x.reads near_argument (stuck 2))
          (same_Some near_rule r p.0) (near_verdict g w),
      refl,
    )
    left_at (suc (suc m)) r p = absurd (none-some r p.0)

    bound_at : (m : ℕ) (r : Rule) (is : Items) → IsStyledAt both_rules FnLike m r
        → Fits (open_grammar g) r.reads near_argument is →
        0 ≡ min (binding_total (environment_of is)) (2 ^ 64 - 1)
    bound_at zero r is p f = absurd ((far_verdict g w).1 is
        (subst (λ x. IsReading (open_grammar g) x.reads near_argument is) (sym (same_Some far_rule r p.0)) f.1.0))
    bound_at (suc zero) r is p f = absurd
        ((near_verdict g w).1 is
        (subst (λ x. IsReading (open_grammar g) x.reads near_argument is) (sym (same_Some near_rule r p.0))
        f.1.0))
    bound_at (suc (suc m)) r is p f = absurd (none-some r p.0)

    first_at : (m : ℕ) (r : Rule) → IsStyledAt both_rules FnLike m r → IsCloser left_by (λ x. 0) 1 m
    first_at zero r p = ◌⊎◌.inl (omega arith)
    first_at (suc m) r p = ◌⊎◌.inr (refl, ◌⊎◌.inr (refl, omega arith))

far_no : (g : Grammar) → IsLawful (open_grammar g) → IsClosest (open_grammar g) FnLike near_argument both_rules 0 → ⊥
far_no g w c = go (c.first 1 near_rule (refl, refl))
  where
    a : (v : Verdict) × IsVerdict (open_grammar g) far_rule.reads near_argument v ×
        (c.left 0 ≡ unmatched near_argument v)
    a = c.unmatched_trees 0 far_rule (refl, refl)

    b : (v : Verdict) × IsVerdict (open_grammar g) near_rule.reads near_argument v ×
        (c.left 1 ≡ unmatched near_argument v)
    b = c.unmatched_trees 1 near_rule (refl, refl)

    far_left : c.left 0 ≡ 1
    far_left = a.2 ∙ ap (unmatched near_argument)
        (one_verdict (open_grammar g) far_rule.reads near_argument a.0 (stuck 1) a.1 (far_verdict g w))

    near_left : c.left 1 ≡ 0
    near_left = b.2 ∙ ap (unmatched near_argument)
        (one_verdict (open_grammar g) near_rule.reads near_argument b.0 (stuck 2) b.1 (near_verdict g w))

    go : IsCloser c.left c.bound 0 1 → ⊥
    go (◌⊎◌.inl h) = let x = far_left in let y = near_left in omega (arith, h, x, y)
    go (◌⊎◌.inr h) = let x = far_left in let y = near_left in let z = h.0 in omega (arith, z, x, y)

pub nearest_example : NearestExample
nearest_example = record {
  defines = defines_two _ _ _ _ _ _ refl
      (parts refl (token _ _ _ _ refl (token _ _ _ _ refl (nothing _ refl))) (nothing _ refl)) refl refl
      (parts refl (token _ _ _ _ refl (token _ _ _ _ refl (token _ _ _ _ refl (nothing _ refl))))
      (nothing _ refl)) refl refl;
  far = far_verdict;
  near = near_verdict;
  closest = near_closest;
  only = far_no;
}
