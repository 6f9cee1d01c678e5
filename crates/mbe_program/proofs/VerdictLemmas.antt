-- Verdicts, one rule after another.
use Rattle.std.proofs.Common.{◌≡◌, ◌≤◌, ◌+◌, ℕ, zero, suc, List, [], ◌∷◌, ◌++◌, map, length, take, slice_get, Some, sym}
use Rattle.std.proofs.Common.{subst, add-one}
use Rattle.std.proofs.lemmas.List.{map-append, take_all}
use Rattle.std.proofs.lemmas.Option.{none-some, same_Some}
use Rattle.mbe_tt.specs.Trees.Tree.{Forest}
use Rattle.mbe_tt.specs.Grammars.Grammar.{Grammar}
use Rattle.mbe_semantics.specs.Syntax.Definition.{Rule}
use Rattle.mbe_semantics.specs.Readings.Verdict.{Verdict, IsVerdict}
use Rattle.mbe_matcher.specs.declared.matcher.Verdict as given
use Rattle.mbe_matcher.specs.MatchResults.{verdict_seen}
use Rattle.mbe.specs.RuleExplanation.{Explains}
use Rattle.mbe_program.specs.TreeExpansion.{AreVerdicts}

verdict_at : (g : Grammar) (argument : Forest) (rs : List Rule) (n : ℕ) (vs : List Verdict) (r : Rule) (v : Verdict)
    → AreVerdicts g argument (take n rs) vs → slice_get rs n ≡ Some r → IsVerdict g r.reads argument v
    → AreVerdicts g argument (take (suc n) rs) (vs ++ v ∷ [])
verdict_at g argument [] n vs r v h e k = absurd (none-some r e)
verdict_at g argument (x ∷ rs) zero [] r v h e k =
    (subst (λ (y : Rule). IsVerdict g y.reads argument v) (sym (same_Some x r e)) k, tt)
verdict_at g argument (x ∷ rs) zero (w ∷ vs) r v h e k = absurd h
verdict_at g argument (x ∷ rs) (suc n) [] r v h e k = absurd h
verdict_at g argument (x ∷ rs) (suc n) (w ∷ vs) r v h e k = (h.0, verdict_at g argument rs n vs r v h.1 e k)

-- the verdict of one rule more
pub one_verdict_more : (g : Grammar) (argument : Forest) (rs : List Rule) (n : ℕ) (vs : List given.Verdict)
    (v : given.Verdict)
    → AreVerdicts g argument (take n rs) (map verdict_seen vs) → Explains g rs argument n (verdict_seen v)
    → AreVerdicts g argument (take (n + 1) rs) (map verdict_seen (vs ++ v ∷ []))
one_verdict_more g argument rs n vs v h k =
    rw add-one (subst (AreVerdicts g argument (take (suc n) rs)) (sym (map-append verdict_seen vs (v ∷ [])))
    (verdict_at g argument rs n (map verdict_seen vs) k.0 (verdict_seen v) h k.1 k.2))

-- those of all rules
pub all_verdicts : (g : Grammar) (argument : Forest) (rs : List Rule) (n : ℕ) (vs : List Verdict) → length rs ≤ n
    → AreVerdicts g argument (take n rs) vs → AreVerdicts g argument rs vs
all_verdicts g argument rs n vs l h = subst (λ (xs : List Rule). AreVerdicts g argument xs vs) (take_all n rs l) h
