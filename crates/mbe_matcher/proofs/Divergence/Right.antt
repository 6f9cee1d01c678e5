-- The first step that parts is where two readings part first.
use Rattle.std.proofs.Common.{ℕ, zero, suc, ◌+◌, ◌-◌, ◌≡◌, ◌<◌, ◌≤◌, inl, inr, Bool, true, false, ◌&&◌, Option, Some}
use Rattle.std.proofs.Common.{None, option_map, option_to_list, List, [], ◌∷◌, ◌++◌, map, length, refl, sym, ◌∙◌, ap}
use Rattle.std.proofs.Common.{subst, arith, length-append}
use Rattle.mbe_semantics.specs.Syntax.Op.{Ops, no_ops, op}
use Rattle.mbe_semantics.specs.Readings.Item.{Items}
use Rattle.mbe_semantics.specs.Readings.Input.{Input}
use Rattle.mbe_semantics.specs.Readings.Reading.{inside, within, PartialReading, partial, offset, start}
use Rattle.mbe_semantics.specs.Readings.Reading.{IsPartialReading, EndsAt}
use Rattle.mbe_semantics.specs.Matching.States.{state_count, state_number}
use Rattle.mbe_semantics.specs.Matching.Lists.{In}
use Rattle.mbe_laws.proofs.States.States.{number-within}
use Rattle.mbe_matcher.specs.declared.readings.edges.Edge.{Edge}
use Rattle.mbe_matcher.specs.declared.readings.edges.NodeSteps.{NodeSteps}
use Rattle.mbe_matcher.specs.Readings.Divergence.{steps, Leads, IsPrefixOf, DivergeAt, IsDivergenceOf}
use Rattle.mbe_matcher.specs.Readings.States.{PatternState, ending, states, state_at, Transition, listed, transitions}
use Rattle.mbe_matcher.specs.Readings.Graph.{Path, none, along, is_marked, AreReached, node, target, step_at}
use Rattle.mbe_matcher.specs.Readings.Graph.{steps_before, edge, edges_in, flipped, is_live, diverges, first_divergence}
use Rattle.mbe_matcher.proofs.Divergence.Numbers.{named, reached, steps-ways, ways-apart, some-dots}
use Rattle.mbe_matcher.proofs.Divergence.Tails.{IsSpot, spot-there, one-spot, spots-length}
use Rattle.mbe_matcher.proofs.Divergence.PartialReadings.{in-map, from-map, step-sound, every, placed}
use Rattle.mbe_matcher.proofs.Divergence.Nodes.{node-one, node-within, IsStep, from-steps, in-steps, IsEdge, from-edges}
use Rattle.mbe_matcher.proofs.Divergence.Nodes.{in-edges, from-flipped, in-flipped, Found, found-first}

-- ---- steps and ways

pub way-of : (i : Input) (q : ℕ) (x : PartialReading) (s : ℕ × PartialReading) → In s (steps i q x)
    → (w : Transition) × In w (listed (transitions i q (state_at x) (state_number x - 1))) × (named s ≡ reached q w)
way-of i q x s h = from-map (reached q) (named s) (listed (transitions i q (state_at x) (state_number x - 1)))
    (subst (λ l. In (named s) l) (steps-ways i q x) (in-map named s (steps i q x) h))

pub step-by : (i : Input) (q : ℕ) (x : PartialReading) (w : Transition)
    → In w (listed (transitions i q (state_at x) (state_number x - 1)))
    → (s : ℕ × PartialReading) × In s (steps i q x) × (reached q w ≡ named s)
step-by i q x w h = from-map named (reached q w) (steps i q x)
    (subst (λ l. In (reached q w) l) (sym (steps-ways i q x))
    (in-map (reached q) w (listed (transitions i q (state_at x) (state_number x - 1))) h))

-- the node after a step
unfoldable pub node_after : ℕ → ℕ × PartialReading → ℕ
node_after size s = node size s.0 (state_number s.1)

pub same-node : (size q : ℕ) (w : Transition) (s : ℕ × PartialReading) → reached q w ≡ named s → target size q w
    ≡ node_after size s
unfolding node_after
same-node size q w s e = ap (λ (v : ℕ × ℕ). node size v.1 v.0) e

targets_listed : (f : Transition → ℕ) (o : Option Transition × Option Transition) →
    option_to_list (option_map f o.0) ++ option_to_list (option_map f o.1) ≡ map f (listed o)
targets_listed f (None, None) = refl
targets_listed f (None, Some b) = refl
targets_listed f (Some a, None) = refl
targets_listed f (Some a, Some b) = refl

pub one-dot : (x : PartialReading) → state_number x ≡ 1 → (is : Items) × (x ≡ partial no_ops is [])
one-dot (partial no_ops is []) e = (is, refl)
one-dot (partial no_ops is (inside d b rest js ∷ up)) e = let a : 0 < state_count rest =
    some-dots rest in absurd (omega arith)
one-dot (partial no_ops is (within b s k rest js rs ∷ up)) e =
    let a : 0 < state_count rest = some-dots rest in absurd (omega arith)
one-dot (partial (op o rest) is up) e = let a : 0 < state_count rest = some-dots rest in absurd (omega arith)

pub both-true : (a b : Bool) → (a && b) ≡ true → (a ≡ true) × (b ≡ true)
both-true true true e = (refl, refl)
both-true true false e = cc
both-true false b e = cc

all_true : (a b c : Bool) → a ≡ true → b ≡ true → c ≡ true → (a && (b && c)) ≡ true
all_true true true true d e f = refl
all_true true true false d e f = cc
all_true true false c d e f = cc
all_true false b c d e f = cc

-- ---- nodes of beginnings

module _ (i : Input) (pat : Ops) (len size : ℕ) (ends : (x : PartialReading) → IsPartialReading i pat x
    → offset x ≤ len)
    (size_is : size ≡ state_count pat) where
  unfoldable pub all : List PatternState
  all = states pat ending

  unfoldable pub ss : List NodeSteps
  ss = steps_before i size all (len + 1)

  unfoldable pub node_of : PartialReading → ℕ
  node_of x = node size (offset x) (state_number x)

  unfoldable pub here : PartialReading → NodeSteps
  here x = step_at i size (offset x) (state_number x) (state_at x)

  pub few : (x : PartialReading) → IsPartialReading i pat x → state_number x ≤ size
  few x b = let a : state_number x ≤ state_count pat = (number-within i pat x b).1 in omega arith

  pub after-is : (x : PartialReading) (s : ℕ × PartialReading) → IsPartialReading i pat x → In s (steps i (offset x) x)
      → IsPartialReading i pat s.1 × (offset s.1 ≡ s.0) × (node_after size s ≡ node_of s.1)
  unfolding node_after node_of
  after-is x s b h =
      let a : EndsAt i pat s.0 s.1 = step-sound i pat (offset x) x s (b, refl) h in
      (a.0, a.1, ap (λ v. node size v (state_number s.1)) (sym a.1))

  pub in-bounds : (x : PartialReading) → IsPartialReading i pat x → node_of x < node size len size + 1
  unfolding node_of
  in-bounds x b = node-within size (offset x) len (state_number x) (ends x b) (few x b)

  pub here_in : (x : PartialReading) → IsPartialReading i pat x → In (here x) ss
  unfolding here ss all
  here_in x b =
      let l : offset x ≤ len = ends x b in
      in-steps i size (states pat ending) (len + 1) (offset x) (state_number x) (state_at x) (spot-there i pat x b)
      (omega
      arith)

  -- a step of the node of a beginning is its own
  pub is-here : (x : PartialReading) (s : NodeSteps) → IsPartialReading i pat x → In s ss → s.source ≡ node_of x → s
      ≡ here x
  unfolding here ss all node_of step_at
  is-here x s b h e =
      let a : IsStep i size (states pat ending) (len + 1) s = from-steps i size (states pat ending) (len + 1) s h in
      let source : node size a.q a.n ≡ node size (offset x) (state_number x) =
      sym (ap (λ (v : NodeSteps). v.source) a.is) ∙ e in
      let n : length (a.state ∷ a.there.more) ≡ a.n = a.there.number in
      let l : length (a.there.front ++ (a.state ∷ a.there.more)) ≡ length (states pat ending) = ap length a.there.are in
      let m : length (a.there.front ++ (a.state ∷ a.there.more))
      ≡ length a.there.front + length (a.state ∷ a.there.more) =
      length-append a.there.front (a.state ∷ a.there.more) in
      let c : length (states pat ending) ≡ state_count pat = spots-length pat ending in
      let two : (a.q ≡ offset x) × (a.n ≡ state_number x) =
      node-one size a.q (offset x) a.n (state_number x) (omega arith) (omega arith) (number-within i pat x b).0
      (few x b)
      source in
      let same : a.state ≡ state_at x =
      one-spot (states pat ending) (state_number x) a.state (state_at x)
      (subst (λ v. IsSpot (states pat ending) v a.state) two.1 a.there) (spot-there i pat x b) in
      a.is ∙ ap (λ v. step_at i size v a.n a.state) two.0 ∙ ap (λ v. step_at i size (offset x) v a.state) two.1
      ∙ ap (step_at i size (offset x) (state_number x)) same

  -- a step of a beginning is an edge
  pub edge-of : (x : PartialReading) (s : ℕ × PartialReading) → IsPartialReading i pat x → In s (steps i (offset x) x)
      → In (edge (node_of x) (node_after size s)) (edges_in ss)
  unfolding here node_of step_at
  edge-of x s b h =
      let w : (w : Transition) × In w (listed (transitions i (offset x) (state_at x) (state_number x - 1)))
      × (named s ≡ reached (offset x) w) = way-of i (offset x) x s h in
      let t : In (target size (offset x) w.0)
      (map (target size (offset x)) (listed (transitions i (offset x) (state_at x) (state_number x - 1)))) =
      in-map (target size (offset x)) w.0 (listed (transitions i (offset x) (state_at x) (state_number x - 1))) w.1 in
      subst (λ v. In (edge (node size (offset x) (state_number x)) v) (edges_in ss))
      (same-node size (offset x) w.0 s (sym w.2))
      (in-edges ss (here x) (target size (offset x) w.0) (here_in x b)
      (subst (λ l. In (target size (offset x) w.0) l)
      (sym (targets_listed (target size (offset x)) (transitions i (offset x) (state_at x) (state_number x - 1)))) t))

  -- and an edge from its node is a step
  pub step-of : (x : PartialReading) (e : Edge) → IsPartialReading i pat x → In e (edges_in ss) → e.source ≡ node_of x
      → (s : ℕ × PartialReading) × In s (steps i (offset x) x) × (e.target ≡ node_after size s)
  unfolding here step_at
  step-of x e b h f =
      let a : IsEdge ss e = from-edges ss e h in
      let same : a.step ≡ here x = is-here x a.step b a.one_of (sym a.source ∙ f) in
      let t : In e.target (option_to_list (here x).one ++ option_to_list (here x).other) =
      subst (λ (v : NodeSteps). In e.target (option_to_list v.one ++ option_to_list v.other)) same a.target in
      let m : In e.target
      (map (target size (offset x)) (listed (transitions i (offset x) (state_at x) (state_number x - 1)))) =
      subst (λ l. In e.target l)
      (targets_listed (target size (offset x)) (transitions i (offset x) (state_at x) (state_number x - 1))) t in
      let w : (w : Transition) × In w (listed (transitions i (offset x) (state_at x) (state_number x - 1)))
      × (e.target ≡ target size (offset x) w) =
      from-map (target size (offset x)) e.target (listed (transitions i (offset x) (state_at x) (state_number x - 1))) m
      in
      let s : (s : ℕ × PartialReading) × In s (steps i (offset x) x) × (reached (offset x) w.0 ≡ named s) =
      step-by i (offset x) x w.0 w.1 in
      (s.0, s.1, w.2 ∙ same-node size (offset x) w.0 s.0 s.2)

  -- ---- what is reached

  pub only-reached : (n : ℕ) → Path (edges_in ss) size n → (x : PartialReading) × IsPartialReading i pat x
      × (n ≡ node_of x)
  unfolding node_of
  only-reached n (none m e) = (
    start pat,
    (tt, refl),
    e ∙ size_is
        ∙ (let z : state_count pat ≡ node size 0 (state_number (start pat)) = omega arith in z),
  )
  only-reached n (along m e h p f) =
      let r : (x : PartialReading) × IsPartialReading i pat x × (e.source ≡ node_of x) = only-reached e.source p in
      let s : (s : ℕ × PartialReading) × In s (steps i (offset r.0) r.0) × (e.target ≡ node_after size s) =
      step-of r.0 e r.1 h r.2 in
      let a : IsPartialReading i pat s.0.1 × (offset s.0.1 ≡ s.0.0) × (node_after size s.0 ≡ node_of s.0.1) =
      after-is r.0 s.0 r.1 s.1 in
      (s.0.1, a.0, f ∙ s.2 ∙ a.2)

  pub all_reached : (marks : List Bool) → AreReached (edges_in ss) size (node size len size + 1) marks
      → (y : PartialReading) → IsPartialReading i pat y → is_marked marks (node_of y) ≡ true
  unfolding node_of node_after
  all_reached marks r = every i pat (λ y. is_marked marks (node_of y) ≡ true)
      (subst (λ v. is_marked marks v ≡ true)
      (let z : size ≡ node size 0 (state_number (start pat)) = omega (arith, size_is) in z) r.started)
      (λ x y a b m h.
      r.closed (edge (node_of x) (node_of y)) (edge-of x (placed y) a h) m
      (let l : node_of y < node size len size + 1 = in-bounds y b in
      let c : length marks ≡ node size len size + 1 = r.size in omega arith))

  -- ---- what leads to the end

  unfoldable pub last : ℕ
  last = node size len 1

  pub only-live : (n : ℕ) → Path (flipped (edges_in ss)) last n → (x : PartialReading) → IsPartialReading i pat x → n
      ≡ node_of x
      → (is : Items) × IsPrefixOf i len is (offset x) x
  unfolding node_of last
  only-live n (none m e) x b f =
      let a : (0 < state_number x) × (state_number x ≤ state_count pat) = number-within i pat x b in
      let l : state_number x ≤ size = few x b in
      let two : (offset x ≡ len) × (state_number x ≡ 1) =
      node-one size (offset x) len (state_number x) 1 a.0 l (omega arith) (omega arith) (sym f ∙ e) in
      let o : (is : Items) × (x ≡ partial no_ops is []) = one-dot x two.1 in
      (o.0, (0, (two.0, o.1)))
  only-live n (along m e h p f) x b g =
      let k : In (edge e.target e.source) (edges_in ss) = from-flipped (edges_in ss) e h in
      let s : (s : ℕ × PartialReading) × In s (steps i (offset x) x) × (e.source ≡ node_after size s) =
      step-of x (edge e.target e.source) b k (sym f ∙ g) in
      let a : IsPartialReading i pat s.0.1 × (offset s.0.1 ≡ s.0.0) × (node_after size s.0 ≡ node_of s.0.1) =
      after-is x s.0 b s.1 in
      let r : (is : Items) × IsPrefixOf i len is (offset s.0.1) s.0.1 =
      only-live e.source p s.0.1 a.0 (s.2 ∙ a.2) in
      (r.0, (suc r.1.0, (s.0, s.1, subst (λ v. Leads r.1.0 i len r.0 v s.0.1) a.1 r.1.1)))

  pub all-live : (marks : List Bool) → AreReached (flipped (edges_in ss)) last (node size len size + 1) marks
      → (n : ℕ) (x : PartialReading) (is : Items) → IsPartialReading i pat x → Leads n i len is (offset x) x
      → is_marked marks (node_of x) ≡ true
  unfolding node_of last
  all-live marks r zero x is b l =
      subst (λ v. is_marked marks v ≡ true)
      (ap (λ v. node size v 1) (sym l.0) ∙ ap (λ v. node size (offset x) v) (sym (ap state_number l.1))) r.started
  all-live marks r (suc n) x is b l =
      let a : IsPartialReading i pat l.0.1 × (offset l.0.1 ≡ l.0.0) × (node_after size l.0 ≡ node_of l.0.1) =
      after-is x l.0 b l.1 in
      let m : is_marked marks (node_of l.0.1) ≡ true =
      all-live marks r n l.0.1 is a.0 (subst (λ v. Leads n i len is v l.0.1) (sym a.1) l.2) in
      let k : In (edge (node_after size l.0) (node_of x)) (flipped (edges_in ss)) =
      in-flipped (edges_in ss) (edge (node_of x) (node_after size l.0)) (edge-of x l.0 b l.1) in
      r.closed (edge (node_after size l.0) (node_of x)) k (subst (λ v. is_marked marks v ≡ true) (sym a.2) m)
      (let c : node_of x < node size len size + 1 = in-bounds x b in
      let d : length marks ≡ node size len size + 1 = r.size in omega arith)

  -- ---- where two part

  module _ (reaches lives : List Bool) (r : AreReached (edges_in ss) size (node size len size + 1) reaches)
      (l : AreReached (flipped (edges_in ss)) last (node size len size + 1) lives) where
    -- two live steps are all steps
    live_two : (q : ℕ) (xs : List (ℕ × PartialReading)) (o : Option Transition × Option Transition) (a b : ℕ
        × PartialReading)
        → map named xs ≡ map (reached q) (listed o) → In a xs → In b xs → (a.1 ≡ b.1 → ⊥)
        → is_marked lives (node_after size a) ≡ true → is_marked lives (node_after size b) ≡ true
        → (is_live lives (option_map (target size q) o.0) ≡ true)
        × (is_live lives (option_map (target size q) o.1) ≡ true)
    live_two q [] o a b e h k d m n = absurd h
    live_two q (s ∷ xs) o a b e (inl h) (inl k) d m n = absurd (d (ap (λ (v : ℕ × PartialReading). v.1) (h ∙ sym k)))
    live_two q (s ∷ t ∷ []) (Some u, Some v) a b e (inl h) (inr (inl k)) d m n = (
      subst (λ w. is_marked lives w ≡ true)
          (ap (node_after size) h ∙ sym (same-node size q u s (let f : reached q u ≡ named s = cc in f))) m,
      subst (λ w. is_marked lives w ≡ true)
          (ap (node_after size) k ∙ sym (same-node size q v t (let f : reached q v ≡ named t = cc in f))) n,
    )
    live_two q (s ∷ t ∷ []) (Some u, Some v) a b e (inr (inl h)) (inl k) d m n = (
      subst (λ w. is_marked lives w ≡ true)
          (ap (node_after size) k ∙ sym (same-node size q u s (let f : reached q u ≡ named s = cc in f))) n,
      subst (λ w. is_marked lives w ≡ true)
          (ap (node_after size) h ∙ sym (same-node size q v t (let f : reached q v ≡ named t = cc in f))) m,
    )
    live_two q (s ∷ t ∷ []) o a b e (inr (inl h)) (inr (inl k)) d m n =
        absurd (d (ap (λ (v : ℕ × PartialReading). v.1) (h ∙ sym k)))
    live_two q (s ∷ t ∷ []) (Some u, Some v) a b e (inl h) (inr (inr k)) d m n = absurd k
    live_two q (s ∷ t ∷ []) (Some u, Some v) a b e (inr (inl h)) (inr (inr k)) d m n = absurd k
    live_two q (s ∷ t ∷ []) (Some u, Some v) a b e (inr (inr h)) k d m n = absurd h
    live_two q (s ∷ t ∷ w ∷ xs) (Some u, Some v) a b e h k d m n = cc
    live_two q (s ∷ t ∷ xs) (None, Some v) a b e h k d m n = cc
    live_two q (s ∷ t ∷ xs) (Some u, None) a b e h k d m n = cc
    live_two q (s ∷ t ∷ xs) (None, None) a b e h k d m n = cc
    live_two q (s ∷ []) o a b e (inr h) k d m n = absurd h
    live_two q (s ∷ []) o a b e h (inr k) d m n = absurd k

    step_there : (p : ℕ) → DivergeAt i pat len p → (s : NodeSteps) × In s ss × (diverges reaches lives s ≡ true)
        × (s.offset ≡ p)
    unfolding here node_of step_at
    step_there p t =
        let x = t.before in
        let at : offset t.before ≡ p = t.here.1 in
        let one : In t.one (steps i (offset t.before) t.before) =
        subst (λ v. In t.one (steps i v t.before)) (sym at) t.one_next in
        let other : In t.other (steps i (offset t.before) t.before) =
        subst (λ v. In t.other (steps i v t.before)) (sym at) t.other_next in
        let two : (is_live lives (here t.before).one ≡ true) × (is_live lives (here t.before).other ≡ true) =
        live_two (offset t.before) (steps i (offset t.before) t.before)
        (transitions i (offset t.before) (state_at t.before) (state_number t.before - 1)) t.one t.other
        (steps-ways i (offset t.before) t.before) one other t.differ
        (live_after t.before t.one t.here.0 one t.reading t.one_is)
        (live_after t.before t.other t.here.0 other t.another t.other_is) in (
          here t.before,
          here_in t.before t.here.0,
          all_true (is_marked reaches (node_of t.before)) (is_live lives (here t.before).one)
              (is_live lives (here t.before).other) (all_reached reaches r t.before t.here.0) two.0 two.1,
          at,
        )
      where
        live_after : (x : PartialReading) (s : ℕ × PartialReading) → IsPartialReading i pat x
            → In s (steps i (offset x) x) → (is : Items)
            → IsPrefixOf i len is s.0 s.1 → is_marked lives (node_after size s) ≡ true
        live_after x s b h is g =
            let a : IsPartialReading i pat s.1 × (offset s.1 ≡ s.0) × (node_after size s ≡ node_of s.1) =
            after-is x s b h in
            subst (λ v. is_marked lives v ≡ true) (sym a.2)
            (all-live lives l g.0 s.1 is a.0 (subst (λ v. Leads g.0 i len is v s.1) (sym a.1) g.1))

    -- none part where no step does, and none before the first step that does
    pub none-part : Found reaches lives ss None → (p : ℕ) → DivergeAt i pat len p → ⊥
    none-part f p t = let s : (s : NodeSteps) × In s ss × (diverges reaches lives s ≡ true) × (s.offset ≡ p) =
        step_there p t in
        f s.0 s.1 s.2

    pub none-before : (s : NodeSteps) → Found reaches lives ss (Some s) → (q : ℕ) → q < s.offset → DivergeAt i pat len q
        → ⊥
    none-before s f q m t =
        let r : (r : NodeSteps) × In r ss × (diverges reaches lives r ≡ true) × (r.offset ≡ q) = step_there q t in
        let k : s.offset ≤ r.0.offset = f.2 r.0 r.1 r.2 in
        let e : r.0.offset ≡ q = r.3 in
        omega arith
