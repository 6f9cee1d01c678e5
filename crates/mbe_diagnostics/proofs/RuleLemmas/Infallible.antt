-- When templates are written without a fault, step by step.
use Rattle.std.proofs.Common.{ℕ, ◌≡◌, ◌+◌, ◌&&◌, Bool, true, false, Option, List, ap, sym, ◌∙◌}
use Rattle.mbe_semantics.specs.declared.fragment_kinds.RepeatKind.{RepeatKind}
use Rattle.mbe_semantics.specs.Syntax.Op.{Separator, Op, Ops, op, repetition}
use Rattle.mbe_diagnostics.specs.RuleChecks.Variables.{PatternVariable, variables_in}
use Rattle.mbe_diagnostics.specs.RuleChecks.Infallibility.{are_distinct, repeats_with_variable, is_infallible_op}
use Rattle.mbe_diagnostics.specs.RuleChecks.Infallibility.{are_infallible, is_infallible}

-- the first op is sure, so all are if the others are
pub sure_first : (bound : List PatternVariable) (depth : ℕ) (o : Op) (all rest : Ops) (first : Bool) → all ≡ op o rest
    → first ≡ is_infallible_op bound depth o → first ≡ true → are_infallible bound depth rest
    ≡ are_infallible bound depth all
sure_first bound depth o all rest first e h t =
    ap (λ x. x && are_infallible bound depth rest) (sym t ∙ h) ∙ ap (are_infallible bound depth) (sym e)

module _ (bound : List PatternVariable) (depth : ℕ) (o : Op) (body held : Ops) (s : Option Separator) (k : RepeatKind)
    (r : Bool)
    (seen : o ≡ repetition body s k) (same : held ≡ body) (round : r ≡ repeats_with_variable bound depth k held) where
  pub unsure_round : r ≡ false → false ≡ is_infallible_op bound depth o
  unsure_round f =
      ap (λ x. x && are_infallible bound (depth + 1) body) (sym f
      ∙ (round ∙ ap (repeats_with_variable bound depth k) same))
      ∙ ap (is_infallible_op bound depth) (sym seen)

  pub sure_round : r ≡ true → (deeper : ℕ) (again : Ops) → deeper ≡ depth + 1 → again ≡ body
      → are_infallible bound deeper again ≡ is_infallible_op bound depth o
  sure_round t deeper again d a =
      ap (λ n. are_infallible bound n again) d ∙ (ap (are_infallible bound (depth + 1)) a
      ∙ (ap (λ x. x && are_infallible bound (depth + 1) body) (sym t
      ∙ (round ∙ ap (repeats_with_variable bound depth k) same))
      ∙ ap (is_infallible_op bound depth) (sym seen)))

pub sure_of : (pattern template held : Ops) (bound again : List PatternVariable) (r : Bool) → bound
    ≡ variables_in 0 pattern
    → again ≡ variables_in 0 pattern → held ≡ template → r ≡ are_distinct bound → r ≡ true
    → are_infallible again 0 held ≡ is_infallible pattern template
sure_of pattern template held bound again r b a h o t =
    ap (λ x. are_infallible x 0 held) a ∙ (ap (are_infallible (variables_in 0 pattern) 0) h
    ∙ ap (λ x. x && are_infallible (variables_in 0 pattern) 0 template) (sym t ∙ (o ∙ ap are_distinct b)))
