-- Repetitions without a variable that repeats there, step by step.
use Rattle.std.proofs.Common.{ℕ, ◌≡◌, ◌+◌, ◌++◌, Bool, true, false, Option, List, ap, sym, ◌∙◌}
use Rattle.std.specs.Prelude.{if◌then◌else◌}
use Rattle.mbe_semantics.specs.declared.fragment_kinds.RepeatKind.{RepeatKind}
use Rattle.mbe_semantics.specs.Syntax.Op.{Separator, Op, Ops, repetition}
use Rattle.mbe_diagnostics.specs.RuleChecks.Variables.{PatternVariable}
use Rattle.mbe_diagnostics.specs.RuleChecks.FixedRepetitions.{repeats, one, fixed_in, fixed_in_op}
use Rattle.mbe_diagnostics.specs.declared.rule_checks.fixed_repetitions.FixedRepetition.{FixedRepetition}

module _ (bound : List PatternVariable) (depth : ℕ) (o : Op) (body held : Ops) (s : Option Separator) (k : RepeatKind)
    (r : Bool) (before : List FixedRepetition)
    (seen : o ≡ repetition body s k) (same : held ≡ body) (round : r ≡ repeats bound depth held) where
  by_answer : (b : Bool) → r ≡ b
      → before ++ (if b then fixed_in bound (depth + 1) body else one depth body) ≡ before ++ fixed_in_op bound depth o
  by_answer b e =
      ap (λ x. before ++ (if x then fixed_in bound (depth + 1) body else one depth body))
      (sym e ∙ (round ∙ ap (repeats bound depth) same))
      ∙ ap (λ p. before ++ fixed_in_op bound depth p) (sym seen)

  -- nothing repeats, so the repetition is one of them
  pub fixed_here : r ≡ false → (again : Ops) → again ≡ body
      → before ++ one depth again ≡ before ++ fixed_in_op bound depth o
  fixed_here f again a = ap (λ x. before ++ one depth x) a ∙ by_answer false f

  -- something repeats, so those of the body are found
  pub fixed_inside : r ≡ true → (deeper : ℕ) (again : Ops) → deeper ≡ depth + 1 → again ≡ body
      → before ++ fixed_in bound deeper again ≡ before ++ fixed_in_op bound depth o
  fixed_inside t deeper again d a =
      ap (λ n. before ++ fixed_in bound n again) d
      ∙ (ap (λ x. before ++ fixed_in bound (depth + 1) x) a ∙ by_answer true t)
