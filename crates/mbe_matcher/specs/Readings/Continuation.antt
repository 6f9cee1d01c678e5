-- What a reading consumes next after a node. Edges between nodes of one offset lead to a node with
-- a step over tokens, or to the argument's end.
use Rattle.std.specs.Prelude.{ℕ, ◌≡◌, ◌+◌, ◌==◌, ◌&&◌, ◌||◌, nat_lt, nat_le, Bool, true, false}
use Rattle.std.specs.Prelude.{if◌then◌else◌, Option, Some, None, option_map, List, [], ◌∷◌, length}
use Rattle.std.specs.Prelude.{map}
use Rattle.mbe_tt.specs.Trees.Tree.{flat_len}
use Rattle.mbe_tt.specs.Views.View.{trees}
use Rattle.mbe_tt.specs.Grammars.Grammar.{Grammar}
use Rattle.mbe_semantics.specs.Readings.Input.{Input, input_of}
use Rattle.mbe_semantics.specs.Matching.Lists.{In}
use Rattle.mbe_matcher.specs.Expected.{Expected, before_round, read_next}
use Rattle.mbe_matcher.specs.Expected as next
use Rattle.mbe_ops.specs.Views.{template_of}
use Rattle.mbe_matcher.specs.declared.readings.edges.Edge.{Edge}
use Rattle.mbe_matcher.specs.declared.readings.edges.NodeSteps.{NodeSteps}
use Rattle.mbe_matcher.specs.declared.readings.graph.Graph as code
use Rattle.mbe_matcher.specs.Readings.States.{PatternState, ending, closing, round_end, before}
use Rattle.mbe_matcher.specs.Readings.States.{states}
use Rattle.mbe_matcher.specs.Readings.Views.{state_seen}
use Rattle.mbe_matcher.specs.Readings.Graph.{is_marked, AreReached, node, step_at, steps_before}
use Rattle.mbe_matcher.specs.Readings.Graph.{edges_in, flipped, diverges}

-- what is expected at a state
abbrev pub expected_at : PatternState → Option Expected
expected_at ending = Some next.ending
expected_at closing = Some next.closing
expected_at (round_end s k n) = before_round k s
expected_at (before o n) = read_next o

-- the edge leads to a live node of the same offset, or of an earlier one
abbrev pub leads_to_live : List Bool → ℕ → Edge → Bool
leads_to_live live last e = nat_le e.target last && is_marked live e.target

abbrev pub live_edges : List Bool → ℕ → List Edge → List Edge
live_edges live last [] = []
live_edges live last (e ∷ es) = if leads_to_live live last e then e
    ∷ live_edges live last es else live_edges live last es

-- the node is live and belongs to a later offset
abbrev pub is_beyond : List Bool → ℕ → Option ℕ → Bool
is_beyond live last None = false
is_beyond live last (Some n) = nat_lt last n && is_marked live n

-- a reading at this node consumes tokens next, or ends
abbrev pub continues : List Bool → ℕ → ℕ → NodeSteps → Bool
continues live end last s = (s.source == end)
    || (is_beyond live last s.one || is_beyond live last s.other)

-- what is expected at the node, if it is marked and a reading goes on from it
abbrev pub next_at : List Bool → List Bool → ℕ → ℕ → NodeSteps → PatternState → Option Expected
next_at marks live end last s state =
    if is_marked marks s.source && continues live end last s then expected_at state else None

abbrev pub first_some : {A : Type 0} → Option A → Option A → Option A
first_some (Some x) o = Some x
first_some None o = o

-- what is expected at the first state for which `next_at` finds something, at offset `q`
abbrev pub next_at_offset : Input → ℕ → ℕ → List Bool → List Bool → ℕ → ℕ → List PatternState
    → Option Expected
next_at_offset i size q marks live end last [] = None
next_at_offset i size q marks live end last (s ∷ ss) =
    first_some (next_at marks live end last (step_at i size q (length (s ∷ ss)) s) s)
    (next_at_offset i size q marks live end last ss)

-- the nodes that are ahead after a step: those reachable from its target, or the source alone if
-- the step leads to a later offset
abbrev pub AreAhead : Bool → List Edge → ℕ → ℕ → ℕ → List Bool → Type 0
AreAhead true edges source target count marks = AreReached [] source count marks
AreAhead false edges source target count marks = AreReached edges target count marks

-- ---- the graph of a pattern and an argument

-- the states, the steps, their edges, the nodes reachable from the start, and the nodes from which
-- the end is reachable
pub record IsGraph {A : Type 0} (g : Grammar) (x : code.Graph A) : Type 0 where
  pub states : map state_seen x.states.items ≡ states (template_of x.pattern.now) ending
  pub steps : x.steps.items ≡ steps_before (input_of g (trees x.argument)) (length x.states.items)
      (map state_seen x.states.items) (flat_len (trees x.argument) + 1)
  pub edges : x.edges.items ≡ edges_in x.steps.items
  pub end : x.end ≡ node (length x.states.items) (flat_len (trees x.argument)) 1
  pub count : x.count ≡ node (length x.states.items) (flat_len (trees x.argument))
      (length x.states.items) + 1
  pub reached : AreReached x.edges.items (length x.states.items) x.count x.reached.items
  pub live : AreReached (flipped x.edges.items) x.end x.count x.live.items

-- What a reading consumes next after a step from the source to the target: it is expected at a node
-- that is ahead.
pub record IsContinuation {A : Type 0} (g : Grammar) (x : code.Graph A) (q last source target : ℕ)
    (edges : List Edge)
    (w : Option Expected) : Type 0 where
  pub marks : List Bool
  pub ahead : AreAhead (nat_lt last target) edges source target x.count marks
  pub is : w ≡ next_at_offset (input_of g (trees x.argument)) (length x.states.items) q marks
      x.live.items x.end last
      (map state_seen x.states.items)

-- two readings diverge at this step
pub record IsDivergentStep {A : Type 0} (g : Grammar) (x : code.Graph A) (s : NodeSteps) : Type 0
  where
    pub graph : IsGraph g x
    pub step : In s x.steps.items
    pub parted : diverges x.reached.items x.live.items s ≡ true
