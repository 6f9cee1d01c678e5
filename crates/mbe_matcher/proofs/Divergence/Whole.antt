-- The lists of the program.
use Rattle.std.proofs.Common.{ℕ, ◌+◌, ◌≡◌, ◌<◌, ◌≤◌, Bool, true, Option, Some, None, List, map, length, sym, ◌∙◌, ap}
use Rattle.std.proofs.Common.{subst, arith}
use Rattle.std.specs.Prelude.{nat_lt}
use Rattle.std.proofs.lemmas.List.{length-map}
use Rattle.mbe_semantics.specs.Syntax.Op.{Ops}
use Rattle.mbe_tt.specs.Trees.Tree.{flat_len}
use Rattle.mbe_tt.specs.Views.View.{trees}
use Rattle.mbe_tt.specs.Grammars.Grammar.{Grammar}
use Rattle.mbe_semantics.specs.Readings.Input.{Input, input_of}
use Rattle.mbe_semantics.specs.Matching.Lists.{In}
use Rattle.mbe_laws.proofs.Matching.EndLemmas.{partial_readings_end_inside}
use Rattle.mbe_matcher.specs.Expected.{Expected}
use Rattle.mbe_ops.specs.Views.{template_of}
use Rattle.mbe_semantics.specs.Readings.Reading.{PartialReading, offset, IsPartialReading}
use Rattle.mbe_semantics.specs.Matching.States.{state_count}
use Rattle.mbe_matcher.specs.declared.readings.edges.Edge.{Edge}
use Rattle.mbe_matcher.specs.declared.readings.edges.NodeSteps.{NodeSteps}
use Rattle.mbe_matcher.specs.declared.readings.state.PatternState as declared
use Rattle.mbe_matcher.specs.declared.readings.graph.Graph as code
use Rattle.mbe_matcher.specs.Readings.Divergence.{DivergeAt, IsDivergenceOf}
use Rattle.mbe_matcher.specs.Readings.States.{ending, states}
use Rattle.mbe_matcher.specs.Readings.Views.{state_seen}
use Rattle.mbe_matcher.specs.Readings.Graph.{AreReached, is_marked, node, steps_before, edges_in, flipped, diverges}
use Rattle.mbe_matcher.specs.Readings.Graph.{first_divergence}
use Rattle.mbe_matcher.specs.Readings.Continuation.{live_edges, next_at_offset, AreAhead, IsGraph, IsContinuation}
use Rattle.mbe_matcher.specs.Readings.Continuation.{IsDivergentStep}
use Rattle.mbe_matcher.proofs.Divergence.Numbers.{some-dots}
use Rattle.mbe_matcher.proofs.Divergence.Tails.{spots-length}
use Rattle.mbe_matcher.proofs.Divergence.Nodes.{Found, found-first, place-below}
use Rattle.mbe_matcher.proofs.Divergence.ContinuationLemmas.{PartSome, edges, final, most, kept, found, part-by}
use Rattle.mbe_matcher.proofs.Divergence.Right.{all, ss, last, none-part, none-before}
use Rattle.mbe_matcher.specs.Readings.ReachedStates.{reached_in, AreReachedStates}
use Rattle.mbe_matcher.proofs.Divergence.Reached.{only-found, all-found}

-- how many dots there are
pub spots-size : {A : Type 0} (sps : List (declared.PatternState A)) (pat : Ops) → map state_seen sps
    ≡ states pat ending
    → length sps ≡ state_count pat
spots-size sps pat e = sym (length-map sps state_seen) ∙ ap length e ∙ spots-length pat ending

pub spots-some : {A : Type 0} (sps : List (declared.PatternState A)) (pat : Ops) → map state_seen sps
    ≡ states pat ending
    → 0 < length sps
spots-some sps pat e =
    let a : 0 < state_count pat = some-dots pat in
    let b : length sps ≡ state_count pat = spots-size sps pat e in
    omega arith

-- the graph of a pattern and an argument is that of the definitions
module _ {A : Type 0} (g : Grammar) (x : code.Graph A) (w : IsGraph g x) where
  i : Input
  i = input_of g (trees x.argument)

  pat : Ops
  pat = template_of x.pattern.now

  len : ℕ
  len = flat_len (trees x.argument)

  size : ℕ
  size = length x.states.items

  ends : (y : PartialReading) → IsPartialReading i pat y → offset y ≤ len
  unfolding i pat len
  ends y b = partial_readings_end_inside g (template_of x.pattern.now) (trees x.argument) y b

  size_is : size ≡ state_count pat
  unfolding size pat
  size_is = spots-size x.states.items (template_of x.pattern.now) w.states

  steps_are : x.steps.items ≡ ss i pat len size ends size_is
  unfolding i pat len size ss all
  steps_are = w.steps ∙ ap (λ s. steps_before (input_of g (trees x.argument)) (length x.states.items) s
      (flat_len (trees x.argument) + 1)) w.states

  edges_are : x.edges.items ≡ edges i pat len size ends size_is
  unfolding edges
  edges_are = w.edges ∙ ap edges_in steps_are

  end_is : x.end ≡ final i pat len size ends size_is
  unfolding final last len size
  end_is = w.end

  reached_are : AreReached (edges i pat len size ends size_is) size (node size len size + 1) x.reached.items
  unfolding len size
  reached_are =
      subst (λ s. AreReached s (length x.states.items) (node size len size + 1) x.reached.items) edges_are
      (subst (λ n. AreReached x.edges.items (length x.states.items) n x.reached.items) w.count w.reached)

  live_are : AreReached (flipped (edges i pat len size ends size_is)) (final i pat len size ends size_is)
      (node size len size + 1) x.live.items
  unfolding len size
  live_are =
      subst (λ s. AreReached (flipped s) (final i pat len size ends size_is) (node size len size + 1) x.live.items)
      edges_are
      (subst (λ n. AreReached (flipped x.edges.items) n (node size len size + 1) x.live.items) end_is
      (subst (λ n. AreReached (flipped x.edges.items) x.end n x.live.items) w.count w.live))

  -- the marked nodes are the states that are reached
  pub reached-states : AreReachedStates g (template_of x.pattern.now) (trees x.argument)
      (reached_in x.reached.items x.steps.items)
  unfolding i pat len edges
  reached-states = record {
    sound = λ s h. only-found i pat len size ends size_is x.reached.items reached_are s
        (subst (λ l. In s (reached_in x.reached.items l)) steps_are h);
    complete = λ s h. subst (λ l. In s (reached_in x.reached.items l)) (sym steps_are)
        (all-found i pat len size ends size_is x.reached.items reached_are s h);
  }

  -- no two part where no step does, and by the first step that does none before
  pub none-parts : first_divergence x.reached.items x.live.items x.steps.items ≡ None
      → IsDivergenceOf (input_of g (trees x.argument)) (template_of x.pattern.now) (flat_len (trees x.argument)) None
  unfolding i pat len edges final size ss all
  none-parts e =
      none-part i pat len size ends size_is x.reached.items x.live.items reached_are live_are
      (subst (Found x.reached.items x.live.items (ss i pat len size ends size_is))
      (ap (first_divergence x.reached.items x.live.items) (sym steps_are) ∙ e)
      (found-first x.reached.items x.live.items i size (states pat ending) (len + 1)))

  first_is : (s : NodeSteps) → first_divergence x.reached.items x.live.items x.steps.items ≡ Some s
      → Found x.reached.items x.live.items (ss i pat len size ends size_is) (Some s)
  unfolding i pat len size ss all
  first_is s e =
      subst (Found x.reached.items x.live.items (ss i pat len size ends size_is))
      (ap (first_divergence x.reached.items x.live.items) (sym steps_are) ∙ e)
      (found-first x.reached.items x.live.items i size (states pat ending) (len + 1))

  pub first-parted : (s : NodeSteps) → first_divergence x.reached.items x.live.items x.steps.items ≡ Some s
      → IsDivergentStep g x s
  first-parted s e =
      let f = first_is s e in
      record { graph = w; step = subst (λ l. In s l) (sym steps_are) f.0; parted = f.1 }

  pub none-before-first : (s : NodeSteps) → first_divergence x.reached.items x.live.items x.steps.items ≡ Some s
      → (q : ℕ)
      → q < s.offset
      → DivergeAt (input_of g (trees x.argument)) (template_of x.pattern.now) (flat_len (trees x.argument)) q → ⊥
  unfolding i pat len edges final
  none-before-first s e =
      none-before i pat len size ends size_is x.reached.items x.live.items reached_are live_are s (first_is s e)

  -- what is known of a way on
  record Transition (q t source : ℕ) (o : Option Expected) : Type 0 where
    pub marks : List Bool
    pub ahead : AreAhead (nat_lt (most i pat len size ends size_is q) t)
        (kept i pat len size ends size_is x.live.items live_are q) source t (node size len size + 1) marks
    pub is : found i pat len size ends size_is x.live.items live_are q marks ≡ o

  transition : (q last t source : ℕ) (es : List Edge) (o : Option Expected) → last ≡ node (length x.states.items) q
      (length x.states.items) → es ≡ live_edges x.live.items last x.edges.items
      → IsContinuation g x q last source t es o → Transition q t source o
  unfolding i pat len size most kept found all
  transition q m t source es o e f k = record {
    marks = k.marks;
    ahead = subst (λ n. AreAhead (nat_lt (node size q size) t)
        (live_edges x.live.items (node size q size) (edges i pat len size ends size_is)) source t n k.marks) w.count
        (subst (λ l. AreAhead (nat_lt (node size q size) t) (live_edges x.live.items (node size q size) l) source t
        x.count
        k.marks) edges_are
        (subst (λ n. AreAhead (nat_lt n t) (live_edges x.live.items n x.edges.items) source t x.count k.marks) e
        (subst (λ l. AreAhead (nat_lt m t) l source t x.count k.marks) f k.ahead)));
    is = sym (k.is
        ∙ ap (λ n. next_at_offset i size q k.marks x.live.items n m (map state_seen x.states.items)) end_is
        ∙ ap (λ n. next_at_offset i size q k.marks x.live.items (final i pat len size ends size_is) n
        (map state_seen x.states.items)) e
        ∙ ap (next_at_offset i size q k.marks x.live.items (final i pat len size ends size_is) (node size q size))
        w.states);
  }

  pub parted-by : (s : NodeSteps) → In s x.steps.items → diverges x.reached.items x.live.items s ≡ true → (t u : ℕ)
      → s.one ≡ Some t → s.other ≡ Some u → (m : ℕ) → m ≡ node (length x.states.items) s.offset (length x.states.items)
      → (es : List Edge) → es ≡ live_edges x.live.items m x.edges.items → (v o : Option Expected)
      → IsContinuation g x s.offset m s.source t es v → IsContinuation g x s.offset m s.source u es o
      → PartSome (input_of g (trees x.argument)) (template_of x.pattern.now) (flat_len (trees x.argument)) s.offset v o
  unfolding i pat len
  parted-by s h e t u f k m n es l v o a b =
      let y : Transition s.offset t s.source v = transition s.offset m t s.source es v n l a in
      let z : Transition s.offset u s.source o = transition s.offset m u s.source es o n l b in
      part-by i pat len size ends size_is x.live.items live_are x.reached.items reached_are s
      (subst (λ l. In s l) steps_are h) e t u f k y.marks z.marks y.ahead z.ahead v o y.is z.is

  -- its place is one of the argument
  pub step-inside : (s : NodeSteps) → In s x.steps.items → s.offset ≤ flat_len (trees x.argument)
  step-inside s h =
      let l : s.offset < flat_len (trees x.argument) + 1 =
      place-below (input_of g (trees x.argument)) (length x.states.items) (map state_seen x.states.items)
      (flat_len (trees x.argument) + 1) s (subst (λ l. In s l) w.steps h) in
      omega arith

-- both are there
pub some-both : (i : Input) (pat : Ops) (len p : ℕ) (v w : Option Expected) → PartSome i pat len p v w
    → (v ≡ None → ⊥) × (w ≡ None → ⊥)
some-both i pat len p (Some v) (Some w) h = ((λ e. cc), (λ e. cc))
some-both i pat len p (Some v) None h = absurd h
some-both i pat len p None w h = absurd h
