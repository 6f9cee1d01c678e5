-- What is next at one dot after another.
use Rattle.std.proofs.Common.{ℕ, suc, ◌+◌, ◌-◌, ◌≡◌, ◌<◌, ◌≤◌, Bool, Option, Some, None, List, [], ◌∷◌, ◌++◌, map}
use Rattle.std.proofs.Common.{length}
use Rattle.std.proofs.Common.{drop, get_or, refl, sym, ◌∙◌, ap, subst, arith, length-drop, append_assoc, true, false}
use Rattle.std.specs.Prelude.{if◌then◌else◌}
use Rattle.std.proofs.Math.Seq.{drop-cons}
use Rattle.std.proofs.lemmas.List.{length-map}
use Rattle.mbe_semantics.specs.Readings.Input.{Input}
use Rattle.mbe_matcher.specs.Expected.{Expected}
use Rattle.mbe_matcher.specs.declared.readings.edges.Edge.{Edge}
use Rattle.mbe_matcher.specs.declared.readings.edges.NodeSteps.{NodeSteps}
use Rattle.mbe_matcher.specs.declared.readings.state.PatternState as declared
use Rattle.mbe_matcher.specs.Readings.Views.{state_seen}
use Rattle.mbe_matcher.specs.Readings.States.{PatternState}
use Rattle.mbe_matcher.specs.Readings.Graph.{step_at}
use Rattle.mbe_matcher.specs.Readings.Continuation.{leads_to_live, live_edges, next_at, first_some, next_at_offset}
use Rattle.mbe_matcher.proofs.Divergence.Marking.{drop-none}

module _ {A : Type 0} (i : Input) (size q : ℕ) (marks live : List Bool) (end m : ℕ)
    (sps : List (declared.PatternState A)) where
  -- from one dot on
  abbrev pub rest_from : ℕ → Option Expected
  rest_from p = next_at_offset i size q marks live end m (map state_seen (drop p sps))

  pub one-dot-on : (p n : ℕ) (x : declared.PatternState A) (s : NodeSteps) → p < length sps → x ≡ get_or sps p x
      → n + p ≡ length sps → s ≡ step_at i size q n (state_seen x)
      → rest_from p ≡ first_some (next_at marks live end m s (state_seen x)) (rest_from (p + 1))
  one-dot-on p n x s l is e step =
      let next : suc p ≡ p + 1 = omega arith in
      let many : length (drop (p + 1) sps) ≡ length sps - (p + 1) = length-drop (p + 1) sps in
      let same : length (map state_seen (drop (p + 1) sps)) ≡ length (drop (p + 1) sps) =
      length-map (drop (p + 1) sps) state_seen in
      let list : map state_seen (drop p sps) ≡ state_seen x ∷ map state_seen (drop (p + 1) sps) =
      ap (map state_seen) (drop-cons sps p x l ∙ ap (λ v. v ∷ drop (suc p) sps) (sym is)
      ∙ ap (λ k. x ∷ drop k sps) next) in
      let number : length (state_seen x ∷ map state_seen (drop (p + 1) sps)) ≡ n = omega arith in
      ap (next_at_offset i size q marks live end m) list
      ∙ ap (λ v. first_some (next_at marks live end m v (state_seen x)) (rest_from (p + 1)))
      (ap (λ v. step_at i size q v (state_seen x)) number ∙ sym step)
