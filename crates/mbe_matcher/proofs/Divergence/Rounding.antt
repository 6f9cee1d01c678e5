-- The steps at the end of a round.
use Rattle.std.proofs.Common.{ℕ, suc, ◌+◌, ◌-◌, ◌≡◌, ◌<◌, ◌≤◌, Option, Some, None, List, [], ◌∷◌, ◌++◌, map, length}
use Rattle.std.proofs.Common.{drop, get_or, sym, ◌∙◌, ap, arith, append_assoc, append-nil, length-drop}
use Rattle.std.proofs.Math.Seq.{drop-cons}
use Rattle.std.proofs.lemmas.List.{length-map}
use Rattle.mbe_semantics.specs.declared.fragment_kinds.RepeatKind.{RepeatKind}
use Rattle.mbe_semantics.specs.Syntax.Op.{Separator}
use Rattle.mbe_semantics.specs.Readings.Input.{Input}
use Rattle.mbe_matcher.specs.declared.readings.edges.NodeSteps.{NodeSteps}
use Rattle.mbe_matcher.specs.declared.readings.state.PatternState as declared
use Rattle.mbe_matcher.specs.Readings.Views.{state_seen}
use Rattle.mbe_matcher.proofs.Divergence.Marking.{drop-none}
use Rattle.mbe_matcher.specs.Readings.States.{PatternState, Transition, over, again, round_transitions, between_at}
use Rattle.mbe_matcher.specs.Readings.Graph.{step_at, steps_there}

first_same : (o : Option Transition) {v w : Option Transition} → v ≡ w
    → ◌≡◌ {A = Option Transition × Option Transition} (v, o) (w, o)
first_same o e = cc

second_same : (o : Option Transition) {v w : Option Transition} → v ≡ w
    → ◌≡◌ {A = Option Transition × Option Transition} (o, v) (o, w)
second_same o e = cc

pub round-none : (i : Input) (q : ℕ) (k : RepeatKind) (m n number : ℕ) (o : Option Separator) (w : Option Transition) →
    o ≡ None → w ≡ again k (over number (between_at i q o)) → number ≡ n + m →
    ◌≡◌ {A = Option Transition × Option Transition} (w, Some (n, 0)) (round_transitions i q o k m n)
round-none i q k m n number o w e f d =
    first_same (Some (n, 0)) (f ∙ ap (λ p. again k (over number (between_at i q p))) e ∙ ap (λ p. again k (Some (
      p,
      0,
    ))) d)
    ∙ ap (λ p. round_transitions i q p k m n) (sym e)

pub round-some : (i : Input) (q : ℕ) (k : RepeatKind) (m n number : ℕ) (o : Option Separator) (s : Separator)
    (w : Option Transition) →
    o ≡ Some s → w ≡ again k (over number (between_at i q o)) → number ≡ n + m →
    ◌≡◌ {A = Option Transition × Option Transition} (Some (n, 0), w) (round_transitions i q o k m n)
round-some i q k m n number o s w e f d =
    second_same (Some (n, 0)) (f ∙ ap (λ p. again k (over number (between_at i q p))) e ∙ ap (λ p. again k (over p
    (i.separator_at s q))) d)
    ∙ ap (λ p. round_transitions i q p k m n) (sym e)

-- one step more, of the first of the dots
pub step-more : (i : Input) (size q n : ℕ) (old new whole : List NodeSteps) (s : NodeSteps)
    (sps rest : List PatternState) (x : PatternState) →
    old ++ steps_there i size q sps ≡ whole → new ≡ old ++ (s ∷ []) → sps ≡ x ∷ rest → s ≡ step_at i size q n x →
    n ≡ length (x ∷ rest) → new ++ steps_there i size q rest ≡ whole
step-more i size q n old new whole s sps rest x a b c d e =
    ap (λ v. v ++ steps_there i size q rest) b ∙ append_assoc old (s ∷ []) (steps_there i size q rest)
    ∙ ap (λ v. old ++ (v ∷ steps_there i size q rest)) (d ∙ ap (λ v. step_at i size q v x) e)
    ∙ ap (λ v. old ++ steps_there i size q v) (sym c) ∙ a

-- the same of the program's list of dots
pub step-on : {A : Type 0} (i : Input) (size q n : ℕ) (sps : List (declared.PatternState A)) (p : ℕ)
    (x : declared.PatternState A)
    (old new whole : List NodeSteps) (s : NodeSteps) → p < length sps → x ≡ get_or sps p x →
    old ++ steps_there i size q (map state_seen (drop p sps)) ≡ whole → new ≡ old ++ (s ∷ [])
    → s ≡ step_at i size q n (state_seen x) → n + p ≡ length sps
    → new ++ steps_there i size q (map state_seen (drop (p + 1) sps)) ≡ whole
step-on i size q n sps p x old new whole s l is a b d e =
    let next : suc p ≡ p + 1 = omega arith in
    let many : length (drop (p + 1) sps) ≡ length sps - (p + 1) = length-drop (p + 1) sps in
    let same : length (map state_seen (drop (p + 1) sps)) ≡ length (drop (p + 1) sps) =
    length-map (drop (p + 1) sps) state_seen in
    step-more i size q n old new whole s (map state_seen (drop p sps)) (map state_seen (drop (p + 1) sps)) (state_seen
    x) a b
    (ap (map state_seen) (drop-cons sps p x l ∙ ap (λ v. v ∷ drop (suc p) sps) (sym is)
    ∙ ap (λ k. x ∷ drop k sps) next))
    d (omega arith)

pub steps-end : {A : Type 0} (i : Input) (size q : ℕ) (sps : List (declared.PatternState A)) (p : ℕ)
    (old whole : List NodeSteps) →
    length sps ≤ p → old ++ steps_there i size q (map state_seen (drop p sps)) ≡ whole → old ≡ whole
steps-end i size q sps p old whole l a =
    sym (append-nil old) ∙ ap (λ v. old ++ steps_there i size q (map state_seen v)) (sym (drop-none sps p l)) ∙ a
