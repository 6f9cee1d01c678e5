-- The steps of all dots, place by place.
use Rattle.std.proofs.Common.{ℕ, suc, ◌+◌, ◌≡◌, List, [], ◌++◌, sym, ◌∙◌, ap, arith}
use Rattle.mbe_tt.specs.Trees.Tree.{Forest}
use Rattle.mbe_tt.specs.Grammars.Grammar.{Grammar}
use Rattle.mbe_semantics.specs.Readings.Input.{Input, input_of}
use Rattle.mbe_matcher.specs.declared.readings.edges.NodeSteps.{NodeSteps}
use Rattle.mbe_matcher.specs.Readings.States.{PatternState}
use Rattle.mbe_matcher.specs.Readings.Graph.{steps_there, steps_before}

pub steps-first : (i : Input) (size q : ℕ) (sps : List PatternState) (steps : List NodeSteps) → steps ≡ [] → q ≡ 0
    → steps ≡ steps_before i size sps q
unfolding steps_before
steps-first i size q sps steps e f = e ∙ ap (steps_before i size sps) (sym f)

-- those of one place more
pub steps-next : (g : Grammar) (f h : Forest) (size q p : ℕ) (sps : List PatternState) (steps more : List NodeSteps) → f
    ≡ h →
    steps ≡ steps_before (input_of g h) size sps q → more ≡ steps ++ steps_there (input_of g f) size q sps → p ≡ q + 1 →
    more ≡ steps_before (input_of g h) size sps p
unfolding steps_before
steps-next g f h size q p sps steps more a e d b =
    d ∙ ap (λ v. steps ++ steps_there (input_of g v) size q sps) a
    ∙ ap (λ v. v ++ steps_there (input_of g h) size q sps) e
    ∙ ap (steps_before (input_of g h) size sps) (let c : suc q ≡ p = omega arith in c)
