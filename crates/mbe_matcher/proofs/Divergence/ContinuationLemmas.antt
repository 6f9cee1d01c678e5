-- By what two readings go on where they part.
use Rattle.std.proofs.Common.{ℕ, zero, suc, ◌+◌, ◌-◌, ◌*◌, ◌≡◌, ◌⊎◌, ◌<◌, ◌≤◌, inl, inr, Bool, true, false, ◌&&◌, ◌||◌}
use Rattle.std.proofs.Common.{if◌then◌else◌, Option, Some, None, option_map, List, [], ◌∷◌, ◌++◌, map, length}
use Rattle.std.proofs.Common.{refl, sym, ◌∙◌, ap, subst, arith, length-append}
use Rattle.std.specs.Prelude.{◌==◌, nat_lt, nat_le}
use Rattle.std.proofs.Math.Nat.{mul-le-mul_right}
use Rattle.std.proofs.lemmas.Bool.{ltb-true, ltb-false, lt-ltb, leb-true, le-leb, eqb-true, eq-eqb}
use Rattle.std.proofs.lemmas.Option.{none-some, same_Some}
use Rattle.mbe_semantics.specs.declared.fragment_kinds.RepeatKind.TheVariants.{ZeroOrMore, OneOrMore, ZeroOrOne}
use Rattle.mbe_semantics.specs.Syntax.Op.{Separator, token, group, variable, repetition, expression, Ops, no_ops, op}
use Rattle.mbe_semantics.specs.Readings.Item.{Items, Rounds}
use Rattle.mbe_semantics.specs.Readings.Input.{Input}
use Rattle.mbe_semantics.specs.Readings.Reading.{Frame, inside, within, PartialReading, partial, offset}
use Rattle.mbe_semantics.specs.Readings.Reading.{IsPartialReading}
use Rattle.mbe_semantics.specs.Readings.Steps.{epsilons, Move, move, next, round_move}
use Rattle.mbe_semantics.specs.Matching.States.{state_count, state_number}
use Rattle.mbe_semantics.specs.Matching.Lists.{In}
use Rattle.mbe_laws.proofs.States.States.{number-within}
use Rattle.mbe_laws.proofs.Matching.Forest.{in_either}
use Rattle.mbe_matcher.specs.Expected.{Expected, expected}
use Rattle.mbe_matcher.specs.declared.readings.edges.Edge.{Edge}
use Rattle.mbe_matcher.specs.declared.readings.edges.NodeSteps.{NodeSteps}
use Rattle.mbe_matcher.specs.Readings.Divergence.{moved, steps, Leads, IsPrefixOf, ContinuesBy, at_end, over, after}
use Rattle.mbe_matcher.specs.Readings.Divergence.{StepsBy, at_once, later, DivergeAt, DivergeBy}
use Rattle.mbe_matcher.specs.Readings.States.{PatternState, ending, states, state_at, Transition, listed, transitions}
use Rattle.mbe_matcher.specs.Readings.Graph.{Path, none, along, is_marked, AreReached, node, target, step_at, edge}
use Rattle.mbe_matcher.specs.Readings.Graph.{edges_in}
use Rattle.mbe_matcher.specs.Readings.Graph.{flipped, is_live, diverges}
use Rattle.mbe_matcher.specs.Readings.Continuation.{expected_at, leads_to_live, live_edges, is_beyond, continues}
use Rattle.mbe_matcher.specs.Readings.Continuation.{next_at, first_some, next_at_offset}
use Rattle.mbe_matcher.specs.Readings.Continuation.{AreAhead}
use Rattle.mbe_matcher.proofs.Divergence.Numbers.{named, reached, ways-apart}
use Rattle.mbe_matcher.proofs.Divergence.Tails.{IsSpot, spot-there, one-spot, spots-length}
use Rattle.mbe_matcher.proofs.Divergence.PartialReadings.{from-map}
use Rattle.mbe_matcher.proofs.Divergence.Nodes.{node-one, spot-later}
use Rattle.mbe_matcher.proofs.Divergence.Right.{node_after, same-node, way-of, step-by, both-true, one-dot, all, ss}
use Rattle.mbe_matcher.proofs.Divergence.Right.{node_of, here, few, after-is}
use Rattle.mbe_matcher.proofs.Divergence.Right.{in-bounds, is-here, edge-of, step-of, only-reached, last, only-live}
use Rattle.mbe_matcher.proofs.Divergence.Right.{all-live}

-- ---- what is next at a dot

expected_there : (x : PartialReading) → expected x ≡ expected_at (state_at x)
expected_there (partial no_ops is []) = refl
expected_there (partial no_ops is (inside d b rest js ∷ up)) = refl
expected_there (partial no_ops is (within b s k rest js rs ∷ up)) = refl
expected_there (partial (op o rest) is up) = refl

no_round : (w : Option ℕ) (b : Ops) (s : Option Separator) (rest : Ops) (js : Items) (rs : Rounds) (up : List Frame)
    (is : Items) → round_move ZeroOrOne w b s rest js rs up is ≡ None
no_round None b s rest js rs up is = refl
no_round (Some w) b s rest js rs up is = refl

-- where nothing is next, no tokens are read
no_move : (i : Input) (q : ℕ) (x : PartialReading) → expected x ≡ None → next i q x ≡ None
no_move i q (partial no_ops is []) e = refl
no_move i q (partial no_ops is (inside d b rest js ∷ up)) e = cc
no_move i q (partial no_ops is (within b None k rest js rs ∷ up)) e = refl
no_move i q (partial no_ops is (within b (Some s) ZeroOrMore rest js rs ∷ up)) e = cc
no_move i q (partial no_ops is (within b (Some s) OneOrMore rest js rs ∷ up)) e = cc
no_move i q (partial no_ops is (within b (Some s) ZeroOrOne rest js rs ∷ up)) e =
    no_round (i.separator_at s q) b (Some s) rest js rs up is
no_move i q (partial (op (token t) rest) is up) e = cc
no_move i q (partial (op (variable name kind span) rest) is up) e = cc
no_move i q (partial (op (group d b) rest) is up) e = cc
no_move i q (partial (op (repetition b s k) rest) is up) e = refl
no_move i q (partial (op (expression o) rest) is up) e = refl

-- ---- places of steps

-- a step is over no token, or over some
over_none : (i : Input) (q : ℕ) (x : PartialReading) (s : ℕ × PartialReading) → In s (steps i q x)
    → (s.0 ≡ q) ⊎ ((m : Move) × (next i q x ≡ Some m))
over_none i q x s h = either (in_either s (map (λ y. (q, y)) (epsilons i q x)) (moved q (next i q x)) h)
  where
    by_move : (o : Option Move) → next i q x ≡ o → In s (moved q o)
        → (s.0 ≡ q) ⊎ ((m : Move) × (next i q x ≡ Some m))
    by_move None e n = absurd n
    by_move (Some m) e n = inr (m, e)

    either : In s (map (λ y. (q, y)) (epsilons i q x)) ⊎ In s (moved q (next i q x))
        → (s.0 ≡ q) ⊎ ((m : Move) × (next i q x ≡ Some m))
    either (inl a) =
        let r : (y : PartialReading) × In y (epsilons i q x) × ◌≡◌ {A = ℕ × PartialReading} s (q, y) =
        from-map (λ (y : PartialReading). (q, y)) s (epsilons i q x) a in
        inl (ap (λ (v : ℕ × PartialReading). v.0) r.2)
    either (inr b) = by_move (next i q x) refl b

-- no step goes back
no_less : (i : Input) (q : ℕ) (x : PartialReading) (s : ℕ × PartialReading) → In s (steps i q x) → q ≤ s.0
no_less i q x s h = either (in_either s (map (λ y. (q, y)) (epsilons i q x)) (moved q (next i q x)) h)
  where
    by_move : (o : Option Move) → In s (moved q o) → q ≤ s.0
    by_move None n = absurd n
    by_move (Some (move w f y)) (inl d) =
        let e : s.0 ≡ q + w = ap (λ (v : ℕ × PartialReading). v.0) d in omega arith
    by_move (Some (move w f y)) (inr n) = absurd n

    either : In s (map (λ y. (q, y)) (epsilons i q x)) ⊎ In s (moved q (next i q x)) → q ≤ s.0
    either (inl a) =
        let r : (y : PartialReading) × In y (epsilons i q x) × ◌≡◌ {A = ℕ × PartialReading} s (q, y) =
        from-map (λ (y : PartialReading). (q, y)) s (epsilons i q x) a in
        let e : s.0 ≡ q = ap (λ (v : ℕ × PartialReading). v.0) r.2 in omega arith
    either (inr b) = by_move (next i q x) b

-- what is read is next
some_next : (i : Input) (q : ℕ) (x : PartialReading) (s : ℕ × PartialReading) → In s (steps i q x) → q < s.0
    → expected x ≡ None → ⊥
some_next i q x s h l e =
    elim (over_none i q x s h) [
      | inl f ↦ absurd (omega (arith, f))
      | inr m ↦ none-some m.0 (sym (no_move i q x e) ∙ m.1)
    ]

-- ---- numbers of nodes

-- a node that isn't past a place's last is of no later place
not_later : (size q r n : ℕ) → 0 < n → n ≤ size → node size r n ≤ node size q size → r ≤ q
not_later size q r n a b e = either (let t : (r ≤ q) ⊎ (q < r) = grind arith in t)
  where
    either : ((r ≤ q) ⊎ (q < r)) → r ≤ q
    either (inl l) = l
    either (inr l) = let c : suc q * size ≤ r * size = mul-le-mul_right size l in absurd (omega arith)

is_later : (size q r n : ℕ) → n ≤ size → q ≤ r → node size q size < node size r n → q < r
is_later size q r n b l e = either (let t : (q ≡ r) ⊎ (q < r) = grind arith in t)
  where
    either : ((q ≡ r) ⊎ (q < r)) → q < r
    either (inl f) = let c : q * size ≡ r * size = ap (λ v. v * size) f in absurd (omega arith)
    either (inr m) = m

past_last : (size q r n : ℕ) → 0 < n → q < r → node size q size < node size r n
past_last size q r n a l = let c : suc q * size ≤ r * size = mul-le-mul_right size l in omega arith

-- ---- lists

from_staying : (live : List Bool) (m : ℕ) (e : Edge) (es : List Edge) → In e (live_edges live m es)
    → In e es × (leads_to_live live m e ≡ true)
from_staying live m e [] h = absurd h
from_staying live m e (x ∷ es) h = go (leads_to_live live m x) refl (from_staying live m e es) h
  where
    go : (b : Bool) → leads_to_live live m x ≡ b
        → (In e (live_edges live m es) → In e es × (leads_to_live live m e ≡ true))
        → In e (if b then x ∷ live_edges live m es else live_edges live m es) → In e (x ∷ es)
        × (leads_to_live live m e ≡ true)
    go true f more (inl g) = (inl g, ap (leads_to_live live m) g ∙ f)
    go true f more (inr k) = let r : In e es × (leads_to_live live m e ≡ true) = more k in (inr r.0, r.1)
    go false f more k = let r : In e es × (leads_to_live live m e ≡ true) = more k in (inr r.0, r.1)

in_staying : (live : List Bool) (m : ℕ) (e : Edge) (es : List Edge) → In e es → leads_to_live live m e ≡ true
    → In e (live_edges live m es)
in_staying live m e [] h k = absurd h
in_staying live m e (x ∷ es) (inl g) k = go (leads_to_live live m x) refl
  where
    go : (b : Bool) → leads_to_live live m x ≡ b → In e (if b then x ∷ live_edges live m es else live_edges live m es)
    go true f = inl g
    go false f = let c : true ≡ false = sym k ∙ ap (leads_to_live live m) g ∙ f in cc
in_staying live m e (x ∷ es) (inr h) k = go (leads_to_live live m x) (in_staying live m e es h k)
  where
    go : (b : Bool) → In e (live_edges live m es) → In e (if b then x ∷ live_edges live m es else live_edges live m es)
    go true r = inr r
    go false r = r

-- the ways that lead there
one_of : (f : Transition → ℕ) (o : Option Transition × Option Transition) (t : ℕ)
    → ((option_map f o.0 ≡ Some t) ⊎ (option_map f o.1 ≡ Some t)) → (w : Transition) × In w (listed o) × (f w ≡ t)
one_of f (Some a, p) t (inl e) = (a, inl refl, same_Some (f a) t e)
one_of f (None, p) t (inl e) = cc
one_of f (Some a, Some b) t (inr e) = (b, inr (inl refl), same_Some (f b) t e)
one_of f (None, Some b) t (inr e) = (b, inl refl, same_Some (f b) t e)
one_of f (p, None) t (inr e) = cc

some_target : (f : Transition → ℕ) (o : Option Transition × Option Transition) (w : Transition) → In w (listed o)
    → (option_map f o.0 ≡ Some (f w)) ⊎ (option_map f o.1 ≡ Some (f w))
some_target f (Some a, p) w (inl e) = inl (ap (λ v. Some (f v)) (sym e))
some_target f (Some a, Some b) w (inr (inl e)) = inr (ap (λ v. Some (f v)) (sym e))
some_target f (Some a, Some b) w (inr (inr h)) = absurd h
some_target f (Some a, None) w (inr h) = absurd h
some_target f (None, Some b) w (inl e) = inr (ap (λ v. Some (f v)) (sym e))
some_target f (None, Some b) w (inr h) = absurd h
some_target f (None, None) w h = absurd h

-- ---- tests

from_beyond : (live : List Bool) (m : ℕ) (o : Option ℕ) → is_beyond live m o ≡ true
    → (t : ℕ) × (o ≡ Some t) × (m < t) × (is_marked live t ≡ true)
from_beyond live m None e = cc
from_beyond live m (Some t) e =
    let r : (nat_lt m t ≡ true) × (is_marked live t ≡ true) = both-true (nat_lt m t) (is_marked live t) e in
    (t, refl, ltb-true m t r.0, r.1)

is_beyond_there : (live : List Bool) (m t : ℕ) (o : Option ℕ) → o ≡ Some t → m < t → is_marked live t ≡ true
    → is_beyond live m o ≡ true
is_beyond_there live m t o e l k =
    ap (is_beyond live m) e ∙ ap (λ b. b && is_marked live t) (lt-ltb m t l) ∙ k

either_true : (a b : Bool) → (a || b) ≡ true → (a ≡ true) ⊎ (b ≡ true)
either_true true b e = inl refl
either_true false b e = inr e

second_true : (a b : Bool) → b ≡ true → (a || b) ≡ true
second_true true b e = refl
second_true false b e = e

-- what was found at a place
abbrev Next : (ℕ → PatternState → Option Expected) → List PatternState → Option Expected → Type 0
Next f ss (Some w) = (n : ℕ) × (s : PatternState) × IsSpot ss n s × (f n s ≡ Some w)
Next f ss None = (n : ℕ) (s : PatternState) → IsSpot ss n s → f n s ≡ None

none_there : (s : PatternState) (more front : List PatternState) → front ++ (s ∷ more) ≡ [] → ⊥
none_there s more [] e = cc
none_there s more (x ∷ front) e = cc

next_found : (i : Input) (size q : ℕ) (marks live : List Bool) (end m : ℕ) (ss : List PatternState)
    → Next (λ n s. next_at marks live end m (step_at i size q n s) s) ss
    (next_at_offset i size q marks live end m ss)
next_found i size q marks live end m [] = λ n s a. absurd (none_there s a.more a.front a.are)
next_found i size q marks live end m (r ∷ ss) =
    go (f (length (r ∷ ss)) r) refl (next_at_offset i size q marks live end m ss)
    (next_found i size q marks live end m ss)
  where
    f : ℕ → PatternState → Option Expected
    f n s = next_at marks live end m (step_at i size q n s) s

    here_or : (n : ℕ) (s : PatternState) (front more : List PatternState) → front ++ (s ∷ more) ≡ r ∷ ss
        → length (s ∷ more) ≡ n
        → f (length (r ∷ ss)) r ≡ None → ((n : ℕ) (s : PatternState) → IsSpot ss n s → f n s ≡ None) → f n s ≡ None
    here_or n s [] more e l h k =
        let a : s ≡ r = cc in
        let b : n ≡ length (r ∷ ss) = sym l ∙ ap length e in
        ap (λ v. f v s) b ∙ ap (f (length (r ∷ ss))) a ∙ h
    here_or n s (x ∷ front) more e l h k =
        k n s (record { front = front; more = more; are = (let d : front ++ (s ∷ more) ≡ ss = cc in d); number = l })

    go : (o : Option Expected) → f (length (r ∷ ss)) r ≡ o → (p : Option Expected) → Next f ss p
        → Next f (r ∷ ss) (first_some o p)
    go (Some w) e p k =
        (length (r ∷ ss), r, record { front = []; more = ss; are = refl; number = refl }, e)
    go None e (Some w) k = (k.0, k.1, spot-later r ss k.0 k.1 k.2, k.3)
    go None e None k = λ n s a. here_or n s a.front a.more a.are a.number e k

from_next : (marks live : List Bool) (end m : ℕ) (s : NodeSteps) (r : PatternState) (w : Expected)
    → next_at marks live end m s r ≡ Some w
    → (is_marked marks s.source ≡ true) × (continues live end m s ≡ true) × (expected_at r ≡ Some w)
from_next marks live end m s r w e = go (is_marked marks s.source) (continues live end m s) refl refl e
  where
    go : (a b : Bool) → is_marked marks s.source ≡ a → continues live end m s ≡ b
        → (if a && b then expected_at r else None) ≡ Some w
        → (is_marked marks s.source ≡ true) × (continues live end m s ≡ true) × (expected_at r ≡ Some w)
    go true true f g h = (f, g, h)
    go true false f g h = cc
    go false b f g h = cc

is_next : (marks live : List Bool) (end m : ℕ) (s : NodeSteps) (r : PatternState) → is_marked marks s.source ≡ true
    → continues live end m s ≡ true → next_at marks live end m s r ≡ expected_at r
is_next marks live end m s r e f =
    ap (λ a. if a && continues live end m s then expected_at r else None) e
    ∙ ap (λ b. if b then expected_at r else None) f

-- a reading that goes on by something begins so
begins_so : (i : Input) (len : ℕ) (is : Items) (p : ℕ) (x : PartialReading) (w : Expected) → ContinuesBy i len is p x w
    → IsPrefixOf i len is p x
begins_so i len is p x w (at_end y e f) = (0, (e, f))
begins_so i len is p x w (over y s v h l r e) = (suc r.0, (s, h, r.1))
begins_so i len is p x w (after y s v h e g) =
    let r : IsPrefixOf i len is p s.1 = begins_so i len is p s.1 v g in
    (suc r.0, (s, h, subst (λ q. Leads r.0 i len is q s.1) (sym e) r.1))

-- two readings part at p by these
abbrev pub PartSome : Input → Ops → ℕ → ℕ → Option Expected → Option Expected → Type 0
PartSome i pat len p (Some v) (Some w) = DivergeBy i pat len p v w
PartSome i pat len p (Some v) None = ⊥
PartSome i pat len p None o = ⊥

module _ (i : Input) (pat : Ops) (len size : ℕ) (ends : (x : PartialReading) → IsPartialReading i pat x
    → offset x ≤ len)
    (size_is : size ≡ state_count pat) where
  -- the steps and the edges, all spots, and the end's node
  unfoldable pub edges : List Edge
  edges = edges_in (ss i pat len size ends size_is)

  unfoldable pub final : ℕ
  final = last i pat len size ends size_is

  at : PartialReading → ℕ
  at = node_of i pat len size ends size_is

  it : PartialReading → NodeSteps
  it = here i pat len size ends size_is

  -- the last node of a place
  unfoldable pub most : ℕ → ℕ
  most q = node size q size

  -- ---- where a step leads

  bounds_after : (x : PartialReading) (s : ℕ × PartialReading) → IsPartialReading i pat x → In s (steps i (offset x) x)
      → (0 < state_number s.1) × (state_number s.1 ≤ size) × (node_after size s ≡ node size s.0 (state_number s.1))
  unfolding node_after
  bounds_after x s b h =
      let a = after-is i pat len size ends size_is x s b h in
      let n : (0 < state_number s.1) × (state_number s.1 ≤ state_count pat) = number-within i pat s.1 a.0 in
      (n.0, few i pat len size ends size_is s.1 a.0, refl)

  stays_here : (x : PartialReading) (s : ℕ × PartialReading) → IsPartialReading i pat x → In s (steps i (offset x) x)
      → node_after size s ≤ node size (offset x) size → s.0 ≡ offset x
  stays_here x s b h l =
      let n = bounds_after x s b h in
      let k : s.0 ≤ offset x =
      not_later size (offset x) s.0 (state_number s.1) n.0 n.1 (subst (λ v. v ≤ node size (offset x) size) n.2 l) in
      let m : offset x ≤ s.0 = no_less i (offset x) x s h in
      omega arith

  leaves_here : (x : PartialReading) (s : ℕ × PartialReading) → IsPartialReading i pat x → In s (steps i (offset x) x)
      → node size (offset x) size < node_after size s → offset x < s.0
  leaves_here x s b h l =
      let n = bounds_after x s b h in
      is_later size (offset x) s.0 (state_number s.1) n.1 (no_less i (offset x) x s h)
      (subst (λ v. node size (offset x) size < v) n.2 l)

  target_here : (x : PartialReading) (s : ℕ × PartialReading) → IsPartialReading i pat x → In s (steps i (offset x) x)
      → s.0 ≡ offset x
      → node_after size s ≤ node size (offset x) size
  target_here x s b h e =
      let n = bounds_after x s b h in
      let m : state_number s.1 ≤ size = n.1 in
      subst (λ v. v ≤ node size (offset x) size) (sym n.2)
      (subst (λ v. node size v (state_number s.1) ≤ node size (offset x) size) (sym e) (omega arith))

  target_past : (x : PartialReading) (s : ℕ × PartialReading) → IsPartialReading i pat x → In s (steps i (offset x) x)
      → offset x < s.0
      → node size (offset x) size < node_after size s
  target_past x s b h l =
      let n = bounds_after x s b h in
      subst (λ v. node size (offset x) size < v) (sym n.2) (past_last size (offset x) s.0 (state_number s.1) n.0 l)

  -- a step of a beginning by its target
  step_to : (x : PartialReading) (t : ℕ) → (((it x).one ≡ Some t) ⊎ ((it x).other ≡ Some t))
      → (s : ℕ × PartialReading) × In s (steps i (offset x) x) × (t ≡ node_after size s)
  unfolding it here step_at
  step_to x t e =
      let w : (w : Transition) × In w (listed (transitions i (offset x) (state_at x) (state_number x - 1)))
      × (target size (offset x) w ≡ t) =
      one_of (target size (offset x)) (transitions i (offset x) (state_at x) (state_number x - 1)) t e in
      let s : (s : ℕ × PartialReading) × In s (steps i (offset x) x) × (reached (offset x) w.0 ≡ named s) =
      step-by i (offset x) x w.0 w.1 in
      (s.0, s.1, sym w.2 ∙ same-node size (offset x) w.0 s.0 s.2)

  target_of : (x : PartialReading) (s : ℕ × PartialReading) → In s (steps i (offset x) x)
      → ((it x).one ≡ Some (node_after size s)) ⊎ ((it x).other ≡ Some (node_after size s))
  unfolding it here step_at
  target_of x s h =
      let w : (w : Transition) × In w (listed (transitions i (offset x) (state_at x) (state_number x - 1)))
      × (named s ≡ reached (offset x) w) = way-of i (offset x) x s h in
      let e : target size (offset x) w.0 ≡ node_after size s = same-node size (offset x) w.0 s (sym w.2) in
      subst (λ t. ((it x).one ≡ Some t) ⊎ ((it x).other ≡ Some t)) e
      (some_target (target size (offset x)) (transitions i (offset x) (state_at x) (state_number x - 1)) w.0 w.1)

  module _ (lives : List Bool) (l : AreReached (flipped edges) final (node size len size + 1) lives) where
    goes : ℕ → NodeSteps → Bool
    goes q s = continues lives final (most q) s

    -- the reading after a step to a live node
    reading_after : (x : PartialReading) (s : ℕ × PartialReading) → IsPartialReading i pat x
        → In s (steps i (offset x) x)
        → is_marked lives (node_after size s) ≡ true → (is : Items) × IsPrefixOf i len is s.0 s.1
    unfolding edges final
    reading_after x s b h e =
        let a = after-is i pat len size ends size_is x s b h in
        let k : (is : Items) × IsPrefixOf i len is (offset s.1) s.1 =
        only-live i pat len size ends size_is (node_after size s) (l.from (node_after size s) e) s.1 a.0 a.2 in
        (k.0, subst (λ v. IsPrefixOf i len k.0 v s.1) a.1 k.1)

    -- ---- by what a reading goes on

    by_target : (x : PartialReading) (w : Expected) (t : ℕ) → IsPartialReading i pat x → expected x ≡ Some w
        → (((it x).one ≡ Some t) ⊎ ((it x).other ≡ Some t)) → most (offset x) < t → is_marked lives t ≡ true
        → (is : Items) × ContinuesBy i len is (offset x) x w
    unfolding most
    by_target x w t b e o m k =
        let s : (s : ℕ × PartialReading) × In s (steps i (offset x) x) × (t ≡ node_after size s) = step_to x t o in
        let r : (is : Items) × IsPrefixOf i len is s.0.0 s.0.1 =
        reading_after x s.0 b s.1 (subst (λ v. is_marked lives v ≡ true) s.2 k) in (
          r.0,
          over x s.0 w s.1
              (leaves_here x s.0 b s.1 (subst (λ v. node size (offset x) size < v) s.2 m)) r.1 e,
        )

    by_end : (x : PartialReading) (w : Expected) → IsPartialReading i pat x → expected x ≡ Some w → at x ≡ final
        → (is : Items) × ContinuesBy i len is (offset x) x w
    unfolding at final node_of last
    by_end x w b e f =
        let a : (0 < state_number x) × (state_number x ≤ state_count pat) = number-within i pat x b in
        let n : state_number x ≤ size = few i pat len size ends size_is x b in
        let two : (offset x ≡ len) × (state_number x ≡ 1) =
        node-one size (offset x) len (state_number x) 1 a.0 n (omega arith) (omega arith) f in
        let o : (is : Items) × (x ≡ partial no_ops is []) = one-dot x two.1 in (
          o.0,
          subst (ContinuesBy i len o.0 (offset x) x)
              (same_Some _ w (sym (ap expected o.1) ∙ e)) (at_end x two.0 o.1),
        )

    goes_by : (x : PartialReading) (w : Expected) → IsPartialReading i pat x → expected x ≡ Some w
        → goes (offset x) (it x) ≡ true
        → (is : Items) × ContinuesBy i len is (offset x) x w
    unfolding goes it here step_at at node_of final
    goes_by x w b e g = ended (either_true (at x == final)
        (is_beyond lives (most (offset x)) (it x).one || is_beyond lives (most (offset x)) (it x).other) g)
      where
        there : (is_beyond lives (most (offset x)) (it x).one ≡ true)
            ⊎ (is_beyond lives (most (offset x)) (it x).other ≡ true) → (is : Items)
            × ContinuesBy i len is (offset x) x w
        there (inl f) =
            let t = from_beyond lives (most (offset x)) (it x).one f in by_target x w t.0 b e (inl t.1) t.2 t.3
        there (inr f) =
            let t = from_beyond lives (most (offset x)) (it x).other f in by_target x w t.0 b e (inr t.1) t.2 t.3

        ended : (((at x == final) ≡ true) ⊎ ((is_beyond lives (most (offset x)) (it x).one
            || is_beyond lives (most (offset x)) (it x).other) ≡ true)) → (is : Items)
            × ContinuesBy i len is (offset x) x w
        ended (inl f) = by_end x w b e (eqb-true (at x) final f)
        ended (inr f) = there (either_true (is_beyond lives (most (offset x)) (it x).one)
            (is_beyond lives (most (offset x)) (it x).other) f)

    -- ---- along edges of the place

    unfoldable pub kept : ℕ → List Edge
    kept q = live_edges lives (most q) edges

    -- what is marked from a beginning is one that a reading of it comes to
    record Comes (q : ℕ) (x : PartialReading) (n : ℕ) : Type 0 where
      pub to : PartialReading
      pub begins : IsPartialReading i pat to
      pub same_token_offset : offset to ≡ q
      pub is : n ≡ at to
      pub by : (js : Items) (w : Expected) → ContinuesBy i len js q to w → ContinuesBy i len js q x w

    comes : (q start n : ℕ) (x : PartialReading) → IsPartialReading i pat x → offset x ≡ q → start ≡ at x
        → Path (kept q) start n
        → Comes q x n
    unfolding kept edges most at node_of
    comes q start n x b p e (none m f) =
        record { to = x; begins = b; same_token_offset = p; is = f ∙ e; by = λ js w g. g }
    comes q start n x b p e (along m a h r f) =
        let c : Comes q x a.source = comes q start a.source x b p e r in
        let k : In a (edges_in (ss i pat len size ends size_is)) × (leads_to_live lives (most q) a ≡ true) =
        from_staying lives (most q) a (edges_in (ss i pat len size ends size_is)) h in
        let s : (s : ℕ × PartialReading) × In s (steps i (offset c.to) c.to) × (a.target ≡ node_after size s) =
        step-of i pat len size ends size_is c.to a c.begins k.0 c.is in
        let z = after-is i pat len size ends size_is c.to s.0 c.begins s.1 in
        let low : a.target ≤ node size q size =
        leb-true a.target (node size q size) (both-true (nat_le a.target (most q)) (is_marked lives a.target) k.1).0 in
        let here_too : s.0.0 ≡ offset c.to =
        stays_here c.to s.0 c.begins s.1 (subst (λ v. v ≤ node size (offset c.to) size) s.2
        (subst (λ v. a.target ≤ node size v size) (sym c.same_token_offset) low)) in
        record {
          to = s.0.1;
          begins = z.0;
          same_token_offset = z.1 ∙ here_too ∙ c.same_token_offset;
          is = f ∙ s.2 ∙ z.2;
          by = λ js w g. c.by js w (after c.to s.0 w (subst (λ v. In s.0 (steps i v c.to)) c.same_token_offset s.1)
              (here_too ∙ c.same_token_offset) g);
        }

    -- a marked beginning from which a reading goes on
    record Ahead (q : ℕ) (marks : List Bool) : Type 0 where
      pub from : PartialReading
      pub begins : IsPartialReading i pat from
      pub same_token_offset : offset from ≡ q
      pub marked : is_marked marks (at from) ≡ true
      pub on : goes q (it from) ≡ true
      pub some : expected from ≡ None → ⊥

    -- where a step leads past the place, a reading goes on
    goes_past : (x : PartialReading) (s : ℕ × PartialReading) → IsPartialReading i pat x → In s (steps i (offset x) x)
        → offset x < s.0
        → is_marked lives (node_after size s) ≡ true → goes (offset x) (it x) ≡ true
    unfolding goes most
    goes_past x s b h m k =
        second_true ((it x).source == final)
        (is_beyond lives (most (offset x)) (it x).one || is_beyond lives (most (offset x)) (it x).other)
        (either (target_of x s h))
      where
        past : (o : Option ℕ) → o ≡ Some (node_after size s) → is_beyond lives (most (offset x)) o ≡ true
        past o e = is_beyond_there lives (most (offset x)) (node_after size s) o e (target_past x s b h m) k

        either : (((it x).one ≡ Some (node_after size s)) ⊎ ((it x).other ≡ Some (node_after size s)))
            → (is_beyond lives (most (offset x)) (it x).one || is_beyond lives (most (offset x)) (it x).other) ≡ true
        either (inl e) =
            ap (λ v. v || is_beyond lives (most (offset x)) (it x).other) (past (it x).one e)
        either (inr e) =
            second_true (is_beyond lives (most (offset x)) (it x).one)
            (is_beyond lives (most (offset x)) (it x).other) (past (it x).other e)

    ahead : (q start : ℕ) (marks : List Bool) → AreReached (kept q) start (node size len size + 1) marks
        → (n : ℕ) (x : PartialReading) (is : Items) → IsPartialReading i pat x → offset x ≡ q
        → Leads n i len is (offset x) x
        → is_marked marks (at x) ≡ true → Ahead q marks
    unfolding goes it here step_at at final last node_of kept edges most
    ahead q start marks r zero x is b p h k = record {
      from = x;
      begins = b;
      same_token_offset = p;
      marked = k;
      on = ap (λ v. v || (is_beyond lives (most q) (it x).one || is_beyond lives (most q) (it x).other))
          (eq-eqb (node size (offset x) (state_number x)) (node size len 1)
          (ap (λ v. node size v (state_number x)) h.0 ∙ ap (node size len) (ap state_number h.1)));
      some = λ e. none-some _ (sym e ∙ ap expected h.1);
    }
    ahead q start marks r (suc n) x is b p h k =
        elim (let a : offset x ≤ h.0.0 = no_less i (offset x) x h.0 h.1 in
        let t : (h.0.0 ≡ offset x) ⊎ (offset x < h.0.0) = grind arith in t) [
          | inl e ↦ on_here e (λ c d. ahead q start marks r n h.0.1 is z.0 c rest d)
          | inr m ↦ record {
            from = x;
            begins = b;
            same_token_offset = p;
            marked = k;
            on = subst (λ v. goes v (it x) ≡ true) p
                (goes_past x h.0 b h.1 m (subst (λ v. is_marked lives v ≡ true) (sym z.2) live));
            some = some_next i (offset x) x h.0 h.1 m;
          }
        ]
      where
        z : IsPartialReading i pat h.0.1 × (offset h.0.1 ≡ h.0.0) × (node_after size h.0 ≡ at h.0.1)
        z = after-is i pat len size ends size_is x h.0 b h.1

        rest : Leads n i len is (offset h.0.1) h.0.1
        rest = subst (λ v. Leads n i len is v h.0.1) (sym z.1) h.2

        live : is_marked lives (at h.0.1) ≡ true
        live = all-live i pat len size ends size_is lives l n h.0.1 is z.0 rest

        on_here : h.0.0 ≡ offset x → (offset h.0.1 ≡ q → is_marked marks (at h.0.1) ≡ true → Ahead q marks)
            → Ahead q marks
        on_here e further =
            let low : node_after size h.0 ≤ node size q size =
            subst (λ v. node_after size h.0 ≤ node size v size) p (target_here x h.0 b h.1 e) in
            let t : leads_to_live lives (most q) (edge (at x) (node_after size h.0)) ≡ true =
            ap (λ v. v && is_marked lives (node_after size h.0)) (le-leb (node_after size h.0) (node size q size) low)
            ∙ subst (λ v. is_marked lives v ≡ true) (sym z.2) live in
            let in_kept : In (edge (at x) (node_after size h.0)) (kept q) =
            in_staying lives (most q) (edge (at x) (node_after size h.0)) (edges_in (ss i pat len size ends size_is))
            (edge-of i pat len size ends size_is x h.0 b h.1) t in
            let fits : at h.0.1 < node size len size + 1 = in-bounds i pat len size ends size_is h.0.1 z.0 in
            let within : node_after size h.0 < length marks =
            (let c : length marks ≡ node size len size + 1 = r.size in let d = z.2 in omega arith) in
            let m : is_marked marks (node_after size h.0) ≡ true =
            r.closed (edge (at x) (node_after size h.0)) in_kept k within in
            further (z.1 ∙ e ∙ p) (subst (λ v. is_marked marks v ≡ true) z.2 m)

    -- ---- what is found

    -- the spot of a node that a beginning has
    is_it : (q n : ℕ) (state : PatternState) (y : PartialReading) → IsPartialReading i pat y → offset y ≡ q
        → IsSpot (all i pat len size ends size_is) n state → node size q n ≡ at y
        → (n ≡ state_number y) × (state ≡ state_at y) × (step_at i size q n state ≡ it y)
    unfolding all at node_of it here
    is_it q n state y b p a e =
        let m : length (state ∷ a.more) ≡ n = a.number in
        let c : length (a.front ++ (state ∷ a.more)) ≡ length (states pat ending) = ap length a.are in
        let d : length (a.front ++ (state ∷ a.more)) ≡ length a.front + length (state ∷ a.more) =
        length-append a.front (state ∷ a.more) in
        let f : length (states pat ending) ≡ state_count pat = spots-length pat ending in
        let two : (q ≡ offset y) × (n ≡ state_number y) =
        node-one size q (offset y) n (state_number y) (omega arith) (omega (arith, size_is)) (number-within i pat y b).0
        (few i pat len size ends size_is y b) e in
        let same : state ≡ state_at y =
        one-spot (states pat ending) (state_number y) state (state_at y)
        (subst (λ v. IsSpot (states pat ending) v state) two.1 a) (spot-there i pat y b) in (
          two.1,
          same,
          ap (λ v. step_at i size v n state) two.0 ∙ ap (λ v. step_at i size (offset y) v state) two.1
              ∙ ap (step_at i size (offset y) (state_number y)) same,
        )

    unfoldable pub found : ℕ → List Bool → Option Expected
    found q marks = next_at_offset i size q marks lives final (most q) (all i pat len size ends size_is)

    tells : ℕ → List Bool → ℕ → PatternState → Option Expected
    tells q marks n s = next_at marks lives final (most q) (step_at i size q n s) s

    is_found : (q : ℕ) (marks : List Bool)
        → Next (tells q marks) (all i pat len size ends size_is) (found q marks)
    unfolding found tells
    is_found q marks = next_found i size q marks lives final (most q) (all i pat len size ends size_is)

    -- one is found, if one is ahead
    some_found : (q : ℕ) (marks : List Bool) → Ahead q marks → found q marks ≡ None → ⊥
    unfolding tells at node_of it here step_at all final goes
    some_found q marks a e =
        let none_next : Next (tells q marks) (all i pat len size ends size_is) None =
        subst (Next (tells q marks) (all i pat len size ends size_is)) e (is_found q marks) in
        let t = none_next (state_number a.from) (state_at a.from) (spot-there i pat a.from a.begins) in
        let same : step_at i size q (state_number a.from) (state_at a.from) ≡ it a.from =
        ap (λ v. step_at i size v (state_number a.from) (state_at a.from)) (sym a.same_token_offset) in
        let n : next_at marks lives final (most q) (it a.from) (state_at a.from) ≡ expected_at (state_at a.from) =
        is_next marks lives final (most q) (it a.from) (state_at a.from) a.marked a.on in
        a.some (expected_there a.from ∙ sym n
        ∙ sym (ap (λ s. next_at marks lives final (most q) s (state_at a.from)) same) ∙ t)

    -- what is found is next after a marked beginning from which a reading goes on
    found_by : (P : PartialReading → Type 0) (q : ℕ) (marks : List Bool) (w : Expected) → found q marks ≡ Some w
        → ((n : ℕ) → is_marked marks n ≡ true
        → (y : PartialReading) × IsPartialReading i pat y × (offset y ≡ q) × (n ≡ at y) × P y)
        → (y : PartialReading) × IsPartialReading i pat y × (offset y ≡ q) × P y × (expected y ≡ Some w)
        × (goes (offset y) (it y) ≡ true)
    unfolding tells goes step_at
    found_by P q marks w e seen =
        let f : Next (tells q marks) (all i pat len size ends size_is) (Some w) =
        subst (Next (tells q marks) (all i pat len size ends size_is)) e (is_found q marks) in
        let t = from_next marks lives final (most q) (step_at i size q f.0 f.1) f.1 w f.3 in
        let y = seen (node size q f.0) t.0 in
        let same = is_it q f.0 f.1 y.0 y.1 y.2 f.2 y.3 in (
          y.0,
          y.1,
          y.2,
          y.4,
          expected_there y.0 ∙ ap expected_at (sym same.1) ∙ t.2,
          subst (λ v. continues lives final (most v) (it y.0) ≡ true) (sym y.2)
              (subst (λ v. continues lives final (most q) v ≡ true) same.2 t.1),
        )

    -- ---- after a step

    -- the reading that goes on by this after the step
    abbrev pub WayBy : PartialReading → ℕ × PartialReading → Option Expected → Type 0
    WayBy x s None = ⊥
    WayBy x s (Some w) =
        (is : Items) × IsPrefixOf i len is s.0 s.1 × StepsBy i len is (offset x) x s w

    -- what is read from one beginning is read from another before it
    abbrev pub Onto : ℕ → PartialReading → PartialReading → Type 0
    Onto q x y = (js : Items) (w : Expected) → ContinuesBy i len js q y w → ContinuesBy i len js q x w

    only_it : (start n : ℕ) → Path [] start n → n ≡ start
    only_it start n (none m f) = f
    only_it start n (along m a h r f) = absurd h

    module _ (x : PartialReading) (s : ℕ
        × PartialReading) (b : IsPartialReading i pat x) (h : In s (steps i (offset x) x))
        (live : is_marked lives (node_after size s) ≡ true) (marks : List Bool) where
      -- that stays at the place
      staying_step : AreReached (kept (offset x)) (node_after size s) (node size len size + 1) marks
          → node_after size s ≤ most (offset x) → (o : Option Expected) → found (offset x) marks ≡ o → WayBy x s o
      unfolding most at node_of
      staying_step r m = go
        where
          z : IsPartialReading i pat s.1 × (offset s.1 ≡ s.0) × (node_after size s ≡ at s.1)
          z = after-is i pat len size ends size_is x s b h

          still : s.0 ≡ offset x
          still = stays_here x s b h m

          first : (is : Items) × IsPrefixOf i len is s.0 s.1
          first = reading_after x s b h live

          come : (n : ℕ) → is_marked marks n ≡ true → Comes (offset x) s.1 n
          come n k = comes (offset x) (node_after size s) n s.1 z.0 (z.1 ∙ still) z.2 (r.from n k)

          go : (o : Option Expected) → found (offset x) marks ≡ o → WayBy x s o
          go None f = some_found (offset x) marks
              (ahead (offset x) (node_after size s) marks r first.1.0 s.1 first.0 z.0 (z.1 ∙ still)
              (subst (λ v. Leads first.1.0 i len first.0 v s.1) (sym z.1) first.1.1)
              (subst (λ v. is_marked marks v ≡ true) z.2 r.started)) f
          go (Some w) f =
              let y = found_by (Onto (offset x) s.1) (offset x) marks w f
              (λ n k. let c : Comes (offset x) s.1 n = come n k in (c.to, c.begins, c.same_token_offset, c.is, c.by)) in
              let g = goes_by y.0 w y.1 y.4 y.5 in
              let k : ContinuesBy i len g.0 (offset x) s.1 w =
              y.3 g.0 w (subst (λ v. ContinuesBy i len g.0 v y.0 w) y.2 g.1) in (
                g.0,
                subst (λ v. IsPrefixOf i len g.0 v s.1) (sym still) (begins_so i len g.0 (offset x) s.1 w k),
                later still k,
              )

      -- that leads past it
      past_step : AreReached [] (at x) (node size len size + 1) marks → offset x < s.0 → (o : Option Expected)
          → found (offset x) marks ≡ o → WayBy x s o
      past_step r m = go
        where
          go : (o : Option Expected) → found (offset x) marks ≡ o → WayBy x s o
          go None f = some_found (offset x) marks (record {
            from = x;
            begins = b;
            same_token_offset = refl;
            marked = r.started;
            on = goes_past x s b h m live;
            some = some_next i (offset x) x s h m;
          }) f
          go (Some w) f =
              let y = found_by (λ y. y ≡ x) (offset x) marks w f
              (λ n k. (x, b, refl, only_it (at x) n (r.from n k), refl)) in
              let k : (is : Items) × IsPrefixOf i len is s.0 s.1 = reading_after x s b h live in
              (k.0, k.1, at_once m (ap expected (sym y.3) ∙ y.4))

      continuation_by : AreAhead (nat_lt (most (offset x)) (node_after size s)) (kept (offset x)) (at x)
          (node_after size s)
          (node size len size + 1) marks → (o : Option Expected) → found (offset x) marks ≡ o → WayBy x s o
      unfolding most
      continuation_by = go (nat_lt (most (offset x)) (node_after size s)) refl
        where
          go : (c : Bool) → nat_lt (most (offset x)) (node_after size s) ≡ c
              → AreAhead c (kept (offset x)) (at x) (node_after size s) (node size len size + 1) marks
              → (o : Option Expected) → found (offset x) marks ≡ o → WayBy x s o
          go true f r = past_step r (leaves_here x s b h (ltb-true (most (offset x)) (node_after size s) f))
          go false f r = staying_step r (ltb-false (most (offset x)) (node_after size s) f)

    -- ---- where two part

    -- by what is ahead of two nodes after this step
    abbrev pub PartsBy : NodeSteps → Type 0
    PartsBy s = (t u : ℕ) → s.one ≡ Some t → s.other ≡ Some u → (marks more : List Bool)
        → AreAhead (nat_lt (most s.offset) t) (kept s.offset) s.source t (node size len size + 1) marks
        → AreAhead (nat_lt (most s.offset) u) (kept s.offset) s.source u (node size len size + 1) more
        → (v w : Option Expected) → found s.offset marks ≡ v → found s.offset more ≡ w → PartSome i pat len s.offset v w

    by_two : (x : PartialReading) (s t : ℕ × PartialReading) → In s (steps i (offset x) x) → In t (steps i (offset x) x)
        → IsPartialReading i pat x → (s.1 ≡ t.1 → ⊥) → (v w : Option Expected) → WayBy x s v → WayBy x t w
        → PartSome i pat len (offset x) v w
    by_two x s t h k b d (Some v) (Some w) e f = record {
      there = record {
        before = x;
        here = (b, refl);
        one = s;
        other = t;
        one_next = h;
        other_next = k;
        differ = d;
        reading = e.0;
        another = f.0;
        one_is = e.1;
        other_is = f.1;
      };
      one_by = e.2;
      other_by = f.2;
    }
    by_two x s t h k b d None w e f = e
    by_two x s t h k b d (Some v) None e f = f

    from_it : (x : PartialReading) → IsPartialReading i pat x → is_live lives (it x).one ≡ true
        → is_live lives (it x).other ≡ true
        → PartsBy (it x)
    unfolding it here step_at at node_of
    from_it x b = go (transitions i (offset x) (state_at x) (state_number x - 1)) refl
      where
        go : (o : Option Transition × Option Transition)
            → ◌≡◌ {A = Option Transition
            × Option Transition} (transitions i (offset x) (state_at x) (state_number x - 1)) o
            → is_live lives (option_map (target size (offset x)) o.0) ≡ true
            → is_live lives (option_map (target size (offset x)) o.1) ≡ true → PartsBy (it x)
        go (Some a, Some c) e m n = λ t u f g marks more r q v w k l.
            let s : (s : ℕ × PartialReading) × In s (steps i (offset x) x) × (reached (offset x) a ≡ named s) =
            step-by i (offset x) x a (subst (λ o. In a (listed o)) (sym e) (inl refl)) in
            let z : (s : ℕ × PartialReading) × In s (steps i (offset x) x) × (reached (offset x) c ≡ named s) =
            step-by i (offset x) x c (subst (λ o. In c (listed o)) (sym e) (inr (inl refl))) in
            let to_s : target size (offset x) a ≡ node_after size s.0 = same-node size (offset x) a s.0 s.2 in
            let to_z : target size (offset x) c ≡ node_after size z.0 = same-node size (offset x) c z.0 z.2 in
            let t_is : t ≡ node_after size s.0 =
            same_Some t (target size (offset x) a)
            (sym f ∙ ap (λ (o : Option Transition × Option Transition). option_map (target size (offset x)) o.0) e)
            ∙ to_s in
            let u_is : u ≡ node_after size z.0 =
            same_Some u (target size (offset x) c)
            (sym g ∙ ap (λ (o : Option Transition × Option Transition). option_map (target size (offset x)) o.1) e)
            ∙ to_z in
            by_two x s.0 z.0 s.1 z.1 b
            (λ d. ways-apart i (offset x) x a c e
            (ap (λ (p : ℕ × ℕ). p.0) s.2 ∙ ap state_number d ∙ sym (ap (λ (p : ℕ × ℕ). p.0) z.2)))
            v w
            (continuation_by x s.0 b s.1 (subst (λ j. is_marked lives j ≡ true) to_s m) marks
            (subst (λ j. AreAhead (nat_lt (most (offset x)) j) (kept (offset x)) (at x) j
            (node size len size + 1) marks) t_is r) v k)
            (continuation_by x z.0 b z.1 (subst (λ j. is_marked lives j ≡ true) to_z n) more
            (subst (λ j. AreAhead (nat_lt (most (offset x)) j) (kept (offset x)) (at x) j
            (node size len size + 1) more) u_is q) w l)
        go (None, o) e m n = let k : false ≡ true = m in cc
        go (Some a, None) e m n = let k : false ≡ true = n in cc

    pub part-by : (reaches : List Bool) → AreReached edges size (node size len size + 1) reaches → (s : NodeSteps)
        → In s (ss i pat len size ends size_is) → diverges reaches lives s ≡ true → PartsBy s
    unfolding edges at it
    part-by reaches r s h e =
        let f : (is_marked reaches s.source ≡ true) × ((is_live lives s.one && is_live lives s.other) ≡ true) =
        both-true (is_marked reaches s.source) (is_live lives s.one && is_live lives s.other) e in
        let g : (is_live lives s.one ≡ true) × (is_live lives s.other ≡ true) =
        both-true (is_live lives s.one) (is_live lives s.other) f.1 in
        let x : (x : PartialReading) × IsPartialReading i pat x × (s.source ≡ node_of i pat len size ends size_is x) =
        only-reached i pat len size ends size_is s.source (r.from s.source f.0) in
        let same : s ≡ it x.0 = is-here i pat len size ends size_is x.0 s x.1 h x.2 in
        subst PartsBy (sym same) (from_it x.0 x.1
        (subst (λ (v : NodeSteps). is_live lives v.one ≡ true) same g.0)
        (subst (λ (v : NodeSteps). is_live lives v.other ≡ true) same g.1))
