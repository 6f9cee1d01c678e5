-- What a rule binds, from what its match returns.
use Rattle.std.specs.Prelude.{◌≡◌, ℕ, None}
use Rattle.std.proofs.Common.{sym, ◌∙◌}
use Rattle.mbe_tt.specs.Trees.Tree.{Forest}
use Rattle.mbe_tt.specs.Grammars.Grammar.{Grammar}
use Rattle.mbe_semantics.specs.Syntax.Definition.{Rule}
use Rattle.mbe_semantics.specs.Readings.Verdict.{Verdict, one_reading, many_readings, ambiguous, stuck, IsVerdict}
use Rattle.mbe.specs.RuleExplanation.{RuleBinds}
use Rattle.mbe.proofs.TriedLemmas.{fits_alone}

many≢one : many_readings ≡ one_reading → ⊥
many≢one e = cc

ambiguous≢one : (q : ℕ) → ambiguous q ≡ one_reading → ⊥
ambiguous≢one q e = cc

stuck≢one : (q : ℕ) → stuck q ≡ one_reading → ⊥
stuck≢one q e = cc

module _ (g : Grammar) (r : Rule) (argument : Forest) (v : Verdict) (right : IsVerdict g r.reads argument v) where
  pub none_if_many : v ≡ many_readings → RuleBinds g r argument None
  none_if_many e = λ is f. many≢one (sym e ∙ fits_alone g r argument v right is f)

  pub none_if_ambiguous : (q : ℕ) → v ≡ ambiguous q → RuleBinds g r argument None
  none_if_ambiguous q e = λ is f. ambiguous≢one q (sym e ∙ fits_alone g r argument v right is f)

  pub none_if_stuck : (q : ℕ) → v ≡ stuck q → RuleBinds g r argument None
  none_if_stuck q e = λ is f. stuck≢one q (sym e ∙ fits_alone g r argument v right is f)
