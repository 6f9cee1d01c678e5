-- The marked nodes are those of partial readings.
use Rattle.std.proofs.Common.{ℕ, ◌+◌, ◌≡◌, ◌⊎◌, ◌≤◌, inl, inr, Bool, true, false, if◌then◌else◌, List, [], ◌∷◌, refl}
use Rattle.std.proofs.Common.{sym, ◌∙◌, ap, subst, arith}
use Rattle.mbe_semantics.specs.Syntax.Op.{Ops}
use Rattle.mbe_semantics.specs.Readings.Input.{Input}
use Rattle.mbe_semantics.specs.Readings.Reading.{PartialReading, offset, IsPartialReading, EndsAt}
use Rattle.mbe_semantics.specs.Matching.States.{state_count, state_number}
use Rattle.mbe_semantics.specs.Matching.Lists.{In}
use Rattle.mbe_matcher.specs.declared.readings.edges.NodeSteps.{NodeSteps}
use Rattle.mbe_matcher.specs.declared.readings.reached_states.ReachedState.{ReachedState}
use Rattle.mbe_matcher.specs.Readings.Graph.{is_marked, AreReached, node, step_at, edges_in}
use Rattle.mbe_matcher.specs.Readings.ReachedStates.{state_in, reached_in, IsReached}
use Rattle.mbe_matcher.proofs.Divergence.Right.{ss, here, node_of, here_in, is-here, only-reached, all_reached}

-- a state that is found has a marked node
pub record IsMarked (marks : List Bool) (all : List NodeSteps) (s : ReachedState) : Type 0 where
  pub step : NodeSteps
  pub there : In step all
  pub marked : is_marked marks step.source ≡ true
  pub is : s ≡ state_in step

marked_later : (marks : List Bool) (t : NodeSteps) (all : List NodeSteps) (s : ReachedState) → IsMarked marks all s
    → IsMarked marks (t ∷ all) s
marked_later marks t all s m = record { step = m.step; there = inr m.there; marked = m.marked; is = m.is }

from_front : (marks : List Bool) (t : NodeSteps) (all : List NodeSteps) (s : ReachedState)
    → (In s (reached_in marks all) → IsMarked marks all s) → (b : Bool) → is_marked marks t.source ≡ b
    → In s (if b then state_in t ∷ reached_in marks all else reached_in marks all) → IsMarked marks (t ∷ all) s
from_front marks t all s more true e (inl k) = record { step = t; there = inl refl; marked = e; is = k }
from_front marks t all s more true e (inr k) = marked_later marks t all s (more k)
from_front marks t all s more false e k = marked_later marks t all s (more k)

pub from-reached : (marks : List Bool) (all : List NodeSteps) (s : ReachedState) → In s (reached_in marks all)
    → IsMarked marks all s
from-reached marks [] s h = absurd h
from-reached marks (t ∷ all) s h =
    from_front marks t all s (from-reached marks all s) (is_marked marks t.source) refl h

mixed : {b : Bool} → b ≡ true → b ≡ false → ⊥
mixed e f = cc

in_front : (marks : List Bool) (t u : NodeSteps) (all : List NodeSteps) → is_marked marks t.source ≡ true
    → (In t all → In (state_in t) (reached_in marks all)) → (b : Bool) → is_marked marks u.source ≡ b → In t (u ∷ all)
    → In (state_in t) (if b then state_in u ∷ reached_in marks all else reached_in marks all)
in_front marks t u all m more true e (inl k) = inl (ap state_in k)
in_front marks t u all m more true e (inr k) = inr (more k)
in_front marks t u all m more false e (inr k) = more k
in_front marks t u all m more false e (inl k) =
    absurd (mixed (subst (λ (v : NodeSteps). is_marked marks v.source ≡ true) k m) e)

pub in-reached : (marks : List Bool) (all : List NodeSteps) (t : NodeSteps) → In t all → is_marked marks t.source ≡ true
    → In (state_in t) (reached_in marks all)
in-reached marks [] t h m = absurd h
in-reached marks (u ∷ all) t h m =
    in_front marks t u all m (λ k. in-reached marks all t k m) (is_marked marks u.source) refl h

module _ (i : Input) (pat : Ops) (len size : ℕ) (ends : (x : PartialReading) → IsPartialReading i pat x
    → offset x ≤ len)
    (size_is : size ≡ state_count pat) (marks : List Bool)
    (r : AreReached (edges_in (ss i pat len size ends size_is)) size (node size len size + 1) marks) where
  pub only-found : (s : ReachedState) → In s (reached_in marks (ss i pat len size ends size_is)) → IsReached i pat s
  unfolding here step_at
  only-found s h =
      let m = from-reached marks (ss i pat len size ends size_is) s h in
      let x = only-reached i pat len size ends size_is m.step.source (r.from m.step.source m.marked) in
      let same : m.step ≡ here i pat len size ends size_is x.0 =
      is-here i pat len size ends size_is x.0 m.step x.1 m.there x.2 in
      let it : s ≡ state_in (here i pat len size ends size_is x.0) = m.is ∙ ap state_in same in
      (x.0, (x.1, sym (ap (λ (v : ReachedState). v.offset) it)), sym (ap (λ (v : ReachedState). v.number) it))

  pub all-found : (s : ReachedState) → IsReached i pat s → In s (reached_in marks (ss i pat len size ends size_is))
  unfolding here step_at node_of
  all-found s x =
      let m : is_marked marks (node_of i pat len size ends size_is x.0) ≡ true =
      all_reached i pat len size ends size_is marks r x.0 x.1.0 in
      let k : In (state_in (here i pat len size ends size_is x.0)) (reached_in marks (ss i pat len size ends size_is)) =
      in-reached marks (ss i pat len size ends size_is) (here i pat len size ends size_is x.0)
      (here_in i pat len size ends size_is x.0 x.1.0) m in
      let it : state_in (here i pat len size ends size_is x.0) ≡ s =
      ap (λ q. record { offset = q; number = state_number x.0 }) x.1.1
      ∙ ap (λ n. record { offset = s.offset; number = n }) x.2 in
      subst (λ v. In v (reached_in marks (ss i pat len size ends size_is))) it k
