-- The states of a pattern that partial readings of an argument reach.
use Rattle.std.specs.Prelude.{◌≡◌, Bool, if◌then◌else◌, List, [], ◌∷◌}
use Rattle.mbe_tt.specs.Trees.Tree.{Forest}
use Rattle.mbe_tt.specs.Grammars.Grammar.{Grammar}
use Rattle.mbe_semantics.specs.Syntax.Op.{Ops}
use Rattle.mbe_semantics.specs.Readings.Input.{Input, input_of}
use Rattle.mbe_semantics.specs.Readings.Reading.{PartialReading, EndsAt}
use Rattle.mbe_semantics.specs.Matching.Lists.{In}
use Rattle.mbe_semantics.specs.Matching.States.{state_number}
use Rattle.mbe_matcher.specs.declared.readings.edges.NodeSteps.{NodeSteps}
use Rattle.mbe_matcher.specs.declared.readings.reached_states.ReachedState.{ReachedState}
use Rattle.mbe_matcher.specs.Readings.Graph.{is_marked}

-- the state of a node
abbrev pub state_in : NodeSteps → ReachedState
state_in s = record { offset = s.offset; number = s.number }

-- the states whose nodes are marked
abbrev pub reached_in : List Bool → List NodeSteps → List ReachedState
reached_in marks [] = []
reached_in marks (s ∷ ss) =
    if is_marked marks s.source then state_in s ∷ reached_in marks ss else reached_in marks ss

-- a partial reading that ends at the offset is at the state
abbrev pub IsReached : Input → Ops → ReachedState → Type 0
IsReached i pattern s = (x : PartialReading) × EndsAt i pattern s.offset x
    × (state_number x ≡ s.number)

-- These are exactly the states that partial readings of the argument reach.
pub record AreReachedStates (g : Grammar) (pattern : Ops) (argument : Forest)
    (found : List ReachedState) : Type 0 where
  pub sound : (s : ReachedState) → In s found → IsReached (input_of g argument) pattern s
  pub complete : (s : ReachedState) → IsReached (input_of g argument) pattern s → In s found
