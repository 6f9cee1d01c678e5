-- The steps and edges of a match, as members of its lists.
use Rattle.std.proofs.Common.{ℕ, zero, suc, ◌+◌, ◌*◌, ◌≡◌, ◌⊎◌, ◌<◌, ◌≤◌, inl, inr, Bool, true, false, if◌then◌else◌}
use Rattle.std.proofs.Common.{Option, Some, None, option_to_list, List, [], ◌∷◌, ◌++◌, map, length, reverse, refl, sym}
use Rattle.std.proofs.Common.{◌∙◌, ap, subst, arith}
use Rattle.std.proofs.Math.Nat.{mul-le-mul_right}
use Rattle.std.proofs.lemmas.List.{reverse-append, reverse-reverse}
use Rattle.mbe_semantics.specs.Readings.Input.{Input}
use Rattle.mbe_semantics.specs.Matching.Lists.{In}
use Rattle.mbe_laws.proofs.Matching.Forest.{in_left, in_right, in_either}
use Rattle.mbe_matcher.specs.declared.readings.edges.Edge.{Edge}
use Rattle.mbe_matcher.specs.declared.readings.edges.NodeSteps.{NodeSteps}
use Rattle.mbe_matcher.specs.Readings.States.{PatternState}
use Rattle.mbe_matcher.specs.Readings.Graph.{node, step_at, steps_there, steps_before, edge, edges_of, edges_in, turned}
use Rattle.mbe_matcher.specs.Readings.Graph.{flipped, diverges, first_divergence}
use Rattle.mbe_matcher.proofs.Divergence.PartialReadings.{in-map, from-map}
use Rattle.mbe_matcher.proofs.Divergence.Tails.{IsSpot}

-- ---- numbers

before_next : (size q r n m : ℕ) → 0 < m → n ≤ size → node size q n ≡ node size r m → q < r → ⊥
before_next size q r n m a b e l =
    let c : suc q * size ≤ r * size = mul-le-mul_right size l in
    omega arith

pub node-one : (size q r n m : ℕ) → 0 < n → n ≤ size → 0 < m → m ≤ size → node size q n ≡ node size r m
    → (q ≡ r) × (n ≡ m)
node-one size q r n m a b c d e = either (let t : (q ≡ r) ⊎ ((q < r) ⊎ (r < q)) = grind arith in t)
  where
    either : ((q ≡ r) ⊎ ((q < r) ⊎ (r < q))) → (q ≡ r) × (n ≡ m)
    either (inl f) = (f, let g : q * size ≡ r * size = ap (λ v. v * size) f in omega arith)
    either (inr (inl l)) = absurd (before_next size q r n m c b e l)
    either (inr (inr l)) = absurd (before_next size r q m n a d (sym e) l)

pub node-within : (size q len n : ℕ) → q ≤ len → n ≤ size → node size q n < node size len size + 1
node-within size q len n l m = let c : q * size ≤ len * size = mul-le-mul_right size l in omega arith

-- ---- steps

-- a step of a dot at one of the first so many places
pub record IsStep (i : Input) (size : ℕ) (all : List PatternState) (len : ℕ) (s : NodeSteps) : Type 0 where
  pub q : ℕ
  pub n : ℕ
  pub state : PatternState
  pub there : IsSpot all n state
  pub within : q < len
  pub is : s ≡ step_at i size q n state

pub spot-later : (s : PatternState) (ss : List PatternState) (n : ℕ) (r : PatternState) → IsSpot ss n r
    → IsSpot (s ∷ ss) n r
spot-later s ss n r a = record {
  front = s ∷ a.front;
  more = a.more;
  are = ap (λ v. s ∷ v) a.are;
  number = a.number;
}

from_there : (i : Input) (size q len : ℕ) (ss : List PatternState) (s : NodeSteps) → q < len
    → In s (steps_there i size q ss)
    → IsStep i size ss len s
from_there i size q len [] s l h = absurd h
from_there i size q len (r ∷ ss) s l (inl e) = record {
  q = q;
  n = length (r ∷ ss);
  state = r;
  there = record { front = []; more = ss; are = refl; number = refl };
  within = l;
  is = e;
}
from_there i size q len (r ∷ ss) s l (inr h) =
    let a : IsStep i size ss len s = from_there i size q len ss s l h in
    record {
      q = a.q;
      n = a.n;
      state = a.state;
      there = spot-later r ss a.n a.state a.there;
      within = a.within;
      is =
          a.is;
    }

in_there : (i : Input) (size q : ℕ) (ss front more : List PatternState) (r : PatternState) → front ++ (r ∷ more) ≡ ss
    → In (step_at i size q (length (r ∷ more)) r) (steps_there i size q ss)
in_there i size q ss front more r e =
    subst (λ v. In (step_at i size q (length (r ∷ more)) r) (steps_there i size q v)) e (go front)
  where
    go : (front : List PatternState) → In (step_at i size q (length (r ∷ more)) r)
        (steps_there i size q (front ++ (r ∷ more)))
    go [] = inl refl
    go (x ∷ front) = inr (go front)

longer : (i : Input) (size len : ℕ) (all : List PatternState) (s : NodeSteps) → IsStep i size all len s
    → IsStep i size all (suc len) s
longer i size len all s a = record {
  q = a.q;
  n = a.n;
  state = a.state;
  there = a.there;
  within = let l : a.q < len = a.within in omega arith;
  is = a.is;
}

pub from-steps : (i : Input) (size : ℕ) (all : List PatternState) (len : ℕ) (s : NodeSteps)
    → In s (steps_before i size all len)
    → IsStep i size all len s
unfolding steps_before
from-steps i size all zero s h = absurd h
from-steps i size all (suc len) s h =
    elim (in_either s (steps_before i size all len) (steps_there i size len all) h) [
      | inl a ↦ longer i size len all s (from-steps i size all len s a)
      | inr b ↦ from_there i size len (suc len) all s (omega arith) b
    ]

pub in-steps : (i : Input) (size : ℕ) (all : List PatternState) (len q n : ℕ) (r : PatternState) → IsSpot all n r
    → q < len
    → In (step_at i size q n r) (steps_before i size all len)
unfolding steps_before
in-steps i size all zero q n r a l = absurd (omega arith)
in-steps i size all (suc len) q n r a l =
    elim (let t : (q ≡ len) ⊎ (q < len) = grind arith in t) [
      | inl e ↦ in_right (step_at i size q n r) (steps_before i size all len) (steps_there i size len all)
          (subst (λ v. In (step_at i size v n r) (steps_there i size len all)) (sym e)
          (subst (λ v. In (step_at i size len v r) (steps_there i size len all)) a.number
          (in_there i size len all a.front a.more r a.are)))
      | inr m ↦ in_left (step_at i size q n r) (steps_before i size all len) (steps_there i size len all)
          (in-steps i size all len q n r a m)
    ]

-- ---- edges

-- the edge is one of a step
pub record IsEdge (ss : List NodeSteps) (e : Edge) : Type 0 where
  pub step : NodeSteps
  pub one_of : In step ss
  pub source : e.source ≡ step.source
  pub target : In e.target (option_to_list step.one ++ option_to_list step.other)

edge_of_step : (s : NodeSteps) (e : Edge) → In e (edges_of s)
    → (e.source ≡ s.source) × In e.target (option_to_list s.one ++ option_to_list s.other)
edge_of_step s e h =
    elim (in_either e (map (edge s.source) (option_to_list s.one)) (map (edge s.source) (option_to_list s.other)) h) [
      | inl a ↦ there (option_to_list s.one) (λ t h. in_left t (option_to_list s.one) (option_to_list s.other) h)
          (from-map (edge s.source) e (option_to_list s.one) a)
      | inr b ↦ there (option_to_list s.other) (λ t h. in_right t (option_to_list s.one) (option_to_list s.other) h)
          (from-map (edge s.source) e (option_to_list s.other) b)
    ]
  where
    there : (ts : List ℕ) → ((t : ℕ) → In t ts → In t (option_to_list s.one ++ option_to_list s.other))
        → ((t : ℕ) × In t ts × (e ≡ edge s.source t))
        → (e.source ≡ s.source) × In e.target (option_to_list s.one ++ option_to_list s.other)
    there ts side r = (
      ap (λ (v : Edge). v.source) r.2,
      subst (λ v. In v (option_to_list s.one ++ option_to_list s.other)) (sym (ap (λ (v : Edge). v.target) r.2))
          (side r.0 r.1),
    )

pub from-edges : (ss : List NodeSteps) (e : Edge) → In e (edges_in ss) → IsEdge ss e
from-edges [] e h = absurd h
from-edges (s ∷ ss) e h = elim (in_either e (edges_of s) (edges_in ss) h) [
  | inl a ↦ this (edge_of_step s e a)
  | inr b
      ↦ later (from-edges ss e b)
]
  where
    this : (e.source ≡ s.source) × In e.target (option_to_list s.one ++ option_to_list s.other) → IsEdge (s ∷ ss) e
    this r = record { step = s; one_of = inl refl; source = r.0; target = r.1 }

    later : IsEdge ss e → IsEdge (s ∷ ss) e
    later r = record { step = r.step; one_of = inr r.one_of; source = r.source; target = r.target }

pub in-edges : (ss : List NodeSteps) (s : NodeSteps) (t : ℕ) → In s ss
    → In t (option_to_list s.one ++ option_to_list s.other)
    → In (edge s.source t) (edges_in ss)
in-edges [] s t h m = absurd h
in-edges (r ∷ ss) s t (inl e) m =
    in_left (edge s.source t) (edges_of r) (edges_in ss)
    (subst (λ v. In (edge s.source t) (edges_of v)) e
    (elim (in_either t (option_to_list s.one) (option_to_list s.other) m) [
      | inl a ↦ in_left (edge s.source t) (map (edge s.source) (option_to_list s.one))
          (map (edge s.source) (option_to_list s.other)) (in-map (edge s.source) t (option_to_list s.one) a)
      | inr b ↦ in_right (edge s.source t) (map (edge s.source) (option_to_list s.one))
          (map (edge s.source) (option_to_list s.other)) (in-map (edge s.source) t (option_to_list s.other) b)
    ]))
in-edges (r ∷ ss) s t (inr h) m = in_right (edge s.source t) (edges_of r) (edges_in ss) (in-edges ss s t h m)

in_reverse : (e : Edge) (es : List Edge) → In e es → In e (reverse es)
in_reverse e [] h = h
in_reverse e (x ∷ es) (inl f) = subst (λ l. In e l) (sym (reverse-append (x ∷ []) es))
    (in_right e (reverse es) (x ∷ []) (inl f))
in_reverse e (x ∷ es) (inr m) = subst (λ l. In e l) (sym (reverse-append (x ∷ []) es))
    (in_left e (reverse es) (x ∷ []) (in_reverse e es m))

pub from-flipped : (es : List Edge) (e : Edge) → In e (flipped es) → In (edge e.target e.source) es
from-flipped es e h =
    let r : (x : Edge) × In x (reverse es) × (e ≡ turned x) = from-map turned e (reverse es) h in
    let m : In r.0 es = subst (λ l. In r.0 l) (reverse-reverse es) (in_reverse r.0 (reverse es) r.1) in
    subst (λ (v : Edge). In v es) (sym (ap turned r.2)) m

pub in-flipped : (es : List Edge) (e : Edge) → In e es → In (edge e.target e.source) (flipped es)
in-flipped es e h = in-map turned e (reverse es) (in_reverse e es h)

-- ---- the first step that parts

-- what is known of what was found among steps
abbrev pub Found : List Bool → List Bool → List NodeSteps → Option NodeSteps → Type 0
Found reached live ss None = (r : NodeSteps) → In r ss → diverges reached live r ≡ true → ⊥
Found reached live ss (Some s) = In s ss × (diverges reached live s ≡ true)
    × ((r : NodeSteps) → In r ss → diverges reached live r ≡ true → s.offset ≤ r.offset)

-- by places
abbrev Sorted : List NodeSteps → Type 0
Sorted [] = Unit {0}
Sorted (s ∷ ss) = ((r : NodeSteps) → In r ss → s.offset ≤ r.offset) × Sorted ss

first_found : (reached live : List Bool) (ss : List NodeSteps) → Sorted ss
    → Found reached live ss (first_divergence reached live ss)
first_found reached live [] o = λ r h e. absurd h
first_found reached live (s ∷ ss) o = go (diverges reached live s) refl (first_found reached live ss o.1)
  where
    other : (r : NodeSteps) → diverges reached live s ≡ false → In r (s ∷ ss) → diverges reached live r ≡ true → In r ss
    other r e (inl f) g = let k : true ≡ false = sym g ∙ ap (diverges reached live) f ∙ e in cc
    other r e (inr h) g = h

    later : (p : Option NodeSteps) → diverges reached live s ≡ false → Found reached live ss p
        → Found reached live (s ∷ ss) p
    later None e f = λ r h g. f r (other r e h g) g
    later (Some p) e f = (inr f.0, f.1, λ r h g. f.2 r (other r e h g) g)

    least : (r : NodeSteps) → In r (s ∷ ss) → s.offset ≤ r.offset
    least r (inl f) = let e : s.offset ≡ r.offset = ap (λ (v : NodeSteps). v.offset) (sym f) in omega arith
    least r (inr h) = o.0 r h

    go : (b : Bool) → diverges reached live s ≡ b → Found reached live ss (first_divergence reached live ss) →
        Found reached live (s ∷ ss) (if b then Some s else first_divergence reached live ss)
    go true e ih = (inl refl, e, λ r h f. least r h)
    go false e ih = later (first_divergence reached live ss) e ih

sorted_append : (xs ys : List NodeSteps) → Sorted xs → Sorted ys
    → ((x y : NodeSteps) → In x xs → In y ys → x.offset ≤ y.offset) → Sorted (xs ++ ys)
sorted_append [] ys a b c = b
sorted_append (x ∷ xs) ys a b c = (first, sorted_append xs ys a.1 b (λ u v m n. c u v (inr m) n))
  where
    first : (r : NodeSteps) → In r (xs ++ ys) → x.offset ≤ r.offset
    first r h = elim (in_either r xs ys h) [ inl m ↦ a.0 r m | inr n ↦ c x r (inl refl) n ]

there_at : (i : Input) (size q : ℕ) (ss : List PatternState) (s : NodeSteps) → In s (steps_there i size q ss) → s.offset
    ≡ q
unfolding step_at
there_at i size q [] s h = absurd h
there_at i size q (r ∷ ss) s (inl e) = ap (λ (v : NodeSteps). v.offset) e
there_at i size q (r ∷ ss) s (inr h) = there_at i size q ss s h

sorted_there : (i : Input) (size q : ℕ) (ss : List PatternState) → Sorted (steps_there i size q ss)
unfolding step_at
sorted_there i size q [] = tt
sorted_there i size q (r ∷ ss) = (
  (λ s h. let e : s.offset ≡ q = there_at i size q ss s h in omega arith),
  sorted_there i size q ss,
)

pub place-below : (i : Input) (size : ℕ) (all : List PatternState) (len : ℕ) (s : NodeSteps)
    → In s (steps_before i size all len)
    → s.offset < len
unfolding step_at
place-below i size all len s h =
    let a : IsStep i size all len s = from-steps i size all len s h in
    let e : s.offset ≡ a.q = ap (λ (v : NodeSteps). v.offset) a.is in
    let l : a.q < len = a.within in
    omega arith

sorted_before : (i : Input) (size : ℕ) (all : List PatternState) (len : ℕ) → Sorted (steps_before i size all len)
unfolding steps_before
sorted_before i size all zero = tt
sorted_before i size all (suc len) =
    sorted_append (steps_before i size all len) (steps_there i size len all) (sorted_before i size all len)
    (sorted_there i size len all)
    (λ x y m n. let a : x.offset < len = place-below i size all len x m in
    let b : y.offset ≡ len = there_at i size len all y n in omega arith)

pub found-first : (reached live : List Bool) (i : Input) (size : ℕ) (all : List PatternState) (len : ℕ) →
    Found reached live (steps_before i size all len) (first_divergence reached live (steps_before i size all len))
found-first reached live i size all len =
    first_found reached live (steps_before i size all len) (sorted_before i size all len)
