-- The graph of a match: its nodes are states at offsets, and its edges are steps.
use Rattle.std.specs.Prelude.{ℕ, zero, suc, ◌+◌, ◌-◌, ◌*◌, ◌≡◌, ◌<◌, Bool, true, false, ◌&&◌}
use Rattle.std.specs.Prelude.{if◌then◌else◌, Option, Some, None, option_map, option_to_list, List}
use Rattle.std.specs.Prelude.{[], ◌∷◌, ◌++◌, map, length, reverse, slice_index_or}
use Rattle.mbe_semantics.specs.Readings.Input.{Input}
use Rattle.mbe_semantics.specs.Matching.Lists.{In}
use Rattle.mbe_matcher.specs.declared.readings.edges.Edge.{Edge}
use Rattle.mbe_matcher.specs.declared.readings.edges.NodeSteps.{NodeSteps}
use Rattle.mbe_matcher.specs.Readings.States.{PatternState, Transition, transitions}

-- ---- edges between nodes, and marks of nodes

-- the node is reachable from the start
pub data Path (edges : List Edge) (start : ℕ) : ℕ → Type 0 where
  none : (n : ℕ) → n ≡ start → Path edges start n
  along : (n : ℕ) (e : Edge) → In e edges → Path edges start e.source → n ≡ e.target
      → Path edges start n

-- the node is marked; nodes past the end of the list aren't
abbrev pub is_marked : List Bool → ℕ → Bool
is_marked marks n = slice_index_or marks n false

-- each marked node is reachable from the start
abbrev pub AreFrom : List Edge → ℕ → List Bool → Type 0
AreFrom edges start marks = (n : ℕ) → is_marked marks n ≡ true → Path edges start n

-- if an edge begins at a marked node, it ends at a marked node
abbrev pub AreClosed : List Edge → List Bool → Type 0
AreClosed edges marks = (e : Edge) → In e edges → is_marked marks e.source ≡ true
    → e.target < length marks
    → is_marked marks e.target ≡ true

-- the number of nodes that aren't marked
abbrev pub unmarked : List Bool → ℕ
unmarked [] = 0
unmarked (true ∷ ms) = unmarked ms
unmarked (false ∷ ms) = suc (unmarked ms)

-- Exactly the nodes that are reachable from the start are marked.
pub record AreReached (edges : List Edge) (start count : ℕ) (marks : List Bool) : Type 0 where
  pub size : length marks ≡ count
  pub started : is_marked marks start ≡ true
  pub from : AreFrom edges start marks
  pub closed : AreClosed edges marks

-- ---- the nodes of a match

-- the node of state `n` at offset `q`, in a pattern with `size` states
abbrev pub node : ℕ → ℕ → ℕ → ℕ
node size q n = q * size + n

-- the node that a transition leads to
abbrev pub target : ℕ → ℕ → Transition → ℕ
target size q w = node size (q + w.1) w.0

-- the steps of state `n` at offset `q`; `s` is what stands at the state
unfoldable pub step_at : Input → ℕ → ℕ → ℕ → PatternState → NodeSteps
step_at i size q n s = record {
  offset = q;
  number = n;
  source = node size q n;
  one = option_map (target size q) (transitions i q s (n - 1)).0;
  other = option_map (target size q) (transitions i q s (n - 1)).1;
}

-- the steps of all states at offset `q`
abbrev pub steps_there : Input → ℕ → ℕ → List PatternState → List NodeSteps
steps_there i size q [] = []
steps_there i size q (s ∷ ss) = step_at i size q (length (s ∷ ss)) s ∷ steps_there i size q ss

-- the steps of all states at the offsets below this one
unfoldable pub steps_before : Input → ℕ → List PatternState → ℕ → List NodeSteps
steps_before i size ss zero = []
steps_before i size ss (suc q) = steps_before i size ss q ++ steps_there i size q ss

-- ---- the edges of steps

abbrev pub edge : ℕ → ℕ → Edge
edge source target = record { source = source; target = target }

abbrev pub edges_of : NodeSteps → List Edge
edges_of s = map (edge s.source) (option_to_list s.one)
    ++ map (edge s.source) (option_to_list s.other)

abbrev pub edges_in : List NodeSteps → List Edge
edges_in [] = []
edges_in (s ∷ ss) = edges_of s ++ edges_in ss

-- the reversed edge
abbrev pub turned : Edge → Edge
turned e = edge e.target e.source

-- all edges reversed, the last first
abbrev pub flipped : List Edge → List Edge
flipped es = map turned (reverse es)

-- ---- where two readings diverge

abbrev pub is_live : List Bool → Option ℕ → Bool
is_live live None = false
is_live live (Some n) = is_marked live n

-- the node is reachable from the start, and the end is reachable after both of its steps
abbrev pub diverges : List Bool → List Bool → NodeSteps → Bool
diverges reached live s = is_marked reached s.source && (is_live live s.one && is_live live s.other)

-- the first node's steps for which `diverges` holds
abbrev pub first_divergence : List Bool → List Bool → List NodeSteps → Option NodeSteps
first_divergence reached live [] = None
first_divergence reached live (s ∷ ss) =
    if diverges reached live s then Some s else first_divergence reached live ss
