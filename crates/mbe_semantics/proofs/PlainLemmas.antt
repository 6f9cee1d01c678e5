-- Patterns without a repetition: their beginnings follow one another in one row.
use Rattle.std.proofs.Common.{ℕ, zero, suc, ◌+◌, ◌≡◌, ◌⊎◌, ◌<◌, ◌≤◌, inl, inr, Option, Some, None, Bool, true, false}
use Rattle.std.proofs.Common.{List, [], ◌∷◌, refl, sym, ◌∙◌, ap, subst, arith}
use Rattle.std.specs.Prelude.{IsTrue}
use Rattle.std.proofs.lemmas.Option.{none-some}
use Rattle.mbe_semantics.specs.declared.fragment_kinds.RepeatKind.{RepeatKind}
use Rattle.mbe_tt.specs.Trees.Tree.{flat_len}
use Rattle.mbe_tt.proofs.Offsets.CutLemmas.{no_true, both_left, both_right}
use Rattle.mbe_semantics.specs.Syntax.Op.{Separator, Op, token, group, variable, repetition, expression, Ops, no_ops}
use Rattle.mbe_semantics.specs.Syntax.Op.{op, op_has_no_repetition, has_no_repetition}
use Rattle.mbe_semantics.specs.Readings.Item.{Item, Items, no_items, item, Rounds, item_width, items_width}
use Rattle.mbe_semantics.specs.Readings.Input.{Input, input_of}
use Rattle.mbe_semantics.specs.Readings.Reading.{ReadsFirst, Frame, inside, within, PartialReading, partial, body_of}
use Rattle.mbe_semantics.specs.Readings.Reading.{start_of, offset, AreOpen, IsPartialReading, EndsAt, start}
use Rattle.mbe_semantics.specs.Readings.Steps.{matched_item, bound_item, if_none, empty_item, epsilons, Move, move}
use Rattle.mbe_semantics.specs.Readings.Steps.{if_some, over_of, when, next}
use Rattle.mbe_semantics.specs.Matching.Lists.{In}
use Rattle.mbe_semantics.specs.Matching.Trace.{trace, steps}
use Rattle.mbe_semantics.specs.Readings.Ambiguity.{Ambiguous, StepsOver}
use Rattle.mbe_semantics.specs.Laws.Laws.{OneReading, ReadingsEnd, NeverAmbiguous}
use Rattle.mbe_semantics.proofs.Parents.{Idles, Moves, From, parents}
use Rattle.mbe_semantics.proofs.Traces.{idle-after, next-after}

pub plain_rest : (is : Items) (i : Input) (os : Ops) (p : ℕ) (rest : Ops) → ReadsFirst is i os p rest
    → IsTrue (has_no_repetition os) → IsTrue (has_no_repetition rest)
plain_rest no_items i os p rest h c = subst (λ v. IsTrue (has_no_repetition v)) h c
plain_rest (item is x) i os p rest h c =
    both_right (op_has_no_repetition h.0) (has_no_repetition rest) (plain_rest is i os p (op h.0 rest) h.1 c)

pub plain_op : (is : Items) (i : Input) (os : Ops) (p : ℕ) (o : Op) (rest : Ops) → ReadsFirst is i os p (op o rest)
    → IsTrue (has_no_repetition os) → IsTrue (op_has_no_repetition o)
plain_op is i os p o rest h c = both_left (op_has_no_repetition o) (has_no_repetition rest)
    (plain_rest is i os p (op o rest) h c)

plain_body : (i : Input) (pat : Ops) (up : List Frame) → AreOpen i pat up → IsTrue (has_no_repetition pat)
    → IsTrue (has_no_repetition (body_of pat up))
plain_body i pat [] h c = c
plain_body i pat (inside d b rest js ∷ up) h c =
    plain_op js i (body_of pat up) (start_of up) (group d b) rest h.1 (plain_body i pat up h.0 c)
plain_body i pat (within b s k rest js rs ∷ up) h c =
    no_true (plain_op js i (body_of pat up) (start_of up) (repetition b s k) rest h.1 (plain_body i pat up h.0 c))

no_frame : {A : Type 0} (i : Input) (pat b : Ops) (s : Option Separator) (k : RepeatKind) (rest : Ops) (js : Items)
    (rs : Rounds) (up : List Frame) →
    AreOpen i pat (within b s k rest js rs ∷ up) → IsTrue (has_no_repetition pat) → A
no_frame i pat b s k rest js rs up h c =
    no_true (plain_op js i (body_of pat up) (start_of up) (repetition b s k) rest h.1 (plain_body i pat up h.0 c))

no_repetition : {A : Type 0} (i : Input) (pat b : Ops) (s : Option Separator) (k : RepeatKind) (rest : Ops) (is : Items)
    (up : List Frame) →
    IsPartialReading i pat (partial (op (repetition b s k) rest) is up) → IsTrue (has_no_repetition pat) → A
no_repetition i pat b s k rest is up h c =
    no_true (plain_op is i (body_of pat up) (start_of up) (repetition b s k) rest h.1 (plain_body i pat up h.0 c))

-- ---- a beginning has one step at most

pub empty_same : (w : Option Item) (rest : Ops) (is : Items) (up : List Frame) (y z : PartialReading)
    → In y (empty_item w rest is up) → In z (empty_item w rest is up) → y ≡ z
empty_same None rest is up y z a b = absurd a
empty_same (Some x) rest is up y z a b = go (item_width x) a b
  where
    go : (n : ℕ) → In y (if_none n (partial rest (item is x) up)) → In z (if_none n (partial rest (item is x) up)) → y
        ≡ z
    go zero (inl e) (inl f) = e ∙ sym f
    go zero (inl e) (inr f) = absurd f
    go zero (inr e) f = absurd e
    go (suc n) e f = absurd e

pub empty_over : {A : Type 0} (f : Bool) (w : Option Item) (rest : Ops) (is : Items) (up : List Frame)
    (y : PartialReading)
    (m : Move) → In y (empty_item w rest is up) → over_of f w rest is up ≡ Some m → A
empty_over f None rest is up y m a b = absurd a
empty_over {A} f (Some x) rest is up y m a b = go (item_width x) a b
  where
    go : (n : ℕ) → In y (if_none n (partial rest (item is x) up)) → if_some f n (partial rest (item is x) up) ≡ Some m
        → A
    go zero a b = absurd (none-some m b)
    go (suc n) a b = absurd a

epsilon_same : (i : Input) (pat : Ops) (q : ℕ) (x y z : PartialReading) → IsPartialReading i pat x
    → IsTrue (has_no_repetition pat)
    → In y (epsilons i q x) → In z (epsilons i q x) → y ≡ z
epsilon_same i pat q (partial no_ops is []) y z h c a b = absurd a
epsilon_same i pat q (partial no_ops is (inside d b' rest js ∷ up)) y z h c a b = absurd a
epsilon_same i pat q (partial no_ops is (within b' s k rest js rs ∷ up)) y z h c a b =
    no_frame i pat b' s k rest js rs up h.0 c
epsilon_same i pat q (partial (op (token t) rest) is up) y z h c a b =
    empty_same (matched_item (i.token_at t q)) rest is up y z a b
epsilon_same i pat q (partial (op (variable name kind span) rest) is up) y z h c a b =
    empty_same (bound_item name (i.fragment_at kind q)) rest is up y z a b
epsilon_same i pat q (partial (op (group d b') rest) is up) y z h c a b = absurd a
epsilon_same i pat q (partial (op (repetition b' s k) rest) is up) y z h c a b =
    no_repetition i pat b' s k rest is up h c
epsilon_same i pat q (partial (op (expression e) rest) is up) y z h c a b = absurd a

epsilon_move : {A : Type 0} (i : Input) (pat : Ops) (q : ℕ) (x y : PartialReading) (m : Move) → IsPartialReading i pat x
    → IsTrue (has_no_repetition pat) → In y (epsilons i q x) → next i q x ≡ Some m → A
epsilon_move i pat q (partial no_ops is []) y m h c a b = absurd a
epsilon_move i pat q (partial no_ops is (inside d b' rest js ∷ up)) y m h c a b = absurd a
epsilon_move i pat q (partial no_ops is (within b' s k rest js rs ∷ up)) y m h c a b =
    no_frame i pat b' s k rest js rs up h.0 c
epsilon_move i pat q (partial (op (token t) rest) is up) y m h c a b =
    empty_over false (matched_item (i.token_at t q)) rest is up y m a b
epsilon_move i pat q (partial (op (variable name kind span) rest) is up) y m h c a b =
    empty_over true (bound_item name (i.fragment_at kind q)) rest is up y m a b
epsilon_move i pat q (partial (op (group d b') rest) is up) y m h c a b = absurd a
epsilon_move i pat q (partial (op (repetition b' s k) rest) is up) y m h c a b =
    no_repetition i pat b' s k rest is up h c
epsilon_move i pat q (partial (op (expression e) rest) is up) y m h c a b = absurd a

-- a step over tokens takes some
AtLeastOne : Option Move → Type 0
AtLeastOne None = Unit {0}
AtLeastOne (Some (move n f y)) = 0 < n

when_some : (b : Bool) (y : PartialReading) → AtLeastOne (when b (move 1 false y))
unfolding AtLeastOne
when_some true y = omega arith
when_some false y = tt

over_some : (f : Bool) (w : Option Item) (rest : Ops) (is : Items) (up : List Frame)
    → AtLeastOne (over_of f w rest is up)
unfolding AtLeastOne
over_some f None rest is up = tt
over_some f (Some x) rest is up = go (item_width x)
  where
    go : (n : ℕ) → AtLeastOne (if_some f n (partial rest (item is x) up))
    go zero = tt
    go (suc n) = omega arith

next_some : (i : Input) (pat : Ops) (q : ℕ) (x : PartialReading) → IsPartialReading i pat x
    → IsTrue (has_no_repetition pat)
    → AtLeastOne (next i q x)
unfolding AtLeastOne
next_some i pat q (partial no_ops is []) h c = tt
next_some i pat q (partial no_ops is (inside d b rest js ∷ up)) h c = when_some (i.closes_at q) _
next_some i pat q (partial no_ops is (within b s k rest js rs ∷ up)) h c = no_frame i pat b s k rest js rs up h.0 c
next_some i pat q (partial (op (token t) rest) is up) h c = over_some false (matched_item (i.token_at t q)) rest is up
next_some i pat q (partial (op (variable name kind span) rest) is up) h c =
    over_some true (bound_item name (i.fragment_at kind q)) rest is up
next_some i pat q (partial (op (group d b) rest) is up) h c = when_some (i.opens_at d.kind q) _
next_some i pat q (partial (op (repetition b s k) rest) is up) h c = tt
next_some i pat q (partial (op (expression e) rest) is up) h c = tt

at_least : (m : Option Move) (n : ℕ) (f : Bool) (y : PartialReading) → m ≡ Some (move n f y) → AtLeastOne m → 0 < n
unfolding AtLeastOne
at_least m n f y e h = let P : Option Move → Type 0 = λ v. AtLeastOne v in subst P e h

abbrev pub Steps : Input → PartialReading → PartialReading → Type 0
Steps i x y = Idles i x y ⊎ Moves i x y

pub steps_one : (i : Input) (x y : PartialReading) → Steps i x y → steps (trace y) ≡ suc (steps (trace x))
steps_one i x y (inl a) = (idle-after i (offset x) x y a.0).1
steps_one i x y (inr a) = (next-after i (offset x) a.0 a.1 x y a.2).1

pub same_move : (n m : ℕ) (f g : Bool) (y z : PartialReading) → Some (move n f y) ≡ Some (move m g z) → y ≡ z
same_move n m f g y z e = cc

module _ (i : Input) (pat : Ops) (plain : IsTrue (has_no_repetition pat)) where
  one_step : (x y z : PartialReading) → IsPartialReading i pat x → Steps i x y → Steps i x z → y ≡ z
  one_step x y z h (inl a) (inl b) = epsilon_same i pat (offset x) x y z h plain a.0 b.0
  one_step x y z h (inl a) (inr b) = epsilon_move i pat (offset x) x y (move b.0 b.1 z) h plain a.0 b.2
  one_step x y z h (inr a) (inl b) = epsilon_move i pat (offset x) x z (move a.0 a.1 y) h plain b.0 a.2
  one_step x y z h (inr a) (inr b) = same_move a.0 b.0 a.1 b.1 y z (sym a.2 ∙ b.2)

  start_steps : (y : PartialReading) → y ≡ start pat → steps (trace y) ≡ 0
  start_steps y e = ap (λ v. steps (trace v)) e

  -- beginnings after the same number of steps are one
  unique : (n : ℕ) (y z : PartialReading) → IsPartialReading i pat y → IsPartialReading i pat z → steps (trace y) ≡ n
      → steps (trace z) ≡ n
      → y ≡ z
  unique zero y z a b e f = turn (parents i pat y a) (parents i pat z b)
    where
      turn : (y ≡ start pat) ⊎ From i pat y → (z ≡ start pat) ⊎ From i pat z → y ≡ z
      turn (inl u) (inl v) = u ∙ sym v
      turn (inl u) (inr (x, h, v)) = let s : steps (trace z) ≡ suc (steps (trace x)) =
          steps_one i x z v in absurd (omega (arith, s, f))
      turn (inr (x, h, u)) v = let s : steps (trace y) ≡ suc (steps (trace x)) =
          steps_one i x y u in absurd (omega (arith, s, e))
  unique (suc n) y z a b e f = turn (λ u v g h k l. unique n u v g h k l) (parents i pat y a) (parents i pat z b)
    where
      turn : ((u v : PartialReading) → IsPartialReading i pat u → IsPartialReading i pat v → steps (trace u) ≡ n
          → steps (trace v) ≡ n → u ≡ v) →
          (y ≡ start pat) ⊎ From i pat y → (z ≡ start pat) ⊎ From i pat z → y ≡ z
      turn ih (inl u) v = let s : steps (trace y) ≡ 0 = start_steps y u in absurd (omega (arith, s, e))
      turn ih (inr (x, h, u)) (inl v) = let s : steps (trace z) ≡ 0 = start_steps z v in absurd (omega (arith, s, f))
      turn ih (inr (x, h, u)) (inr (w, g, v)) =
          let s : steps (trace y) ≡ suc (steps (trace x)) = steps_one i x y u in
          let t : steps (trace z) ≡ suc (steps (trace w)) = steps_one i w z v in
          let p : x ≡ w = ih x w h g (omega (arith, s, e)) (omega (arith, t, f)) in
          one_step w y z g (subst (λ r. Steps i r y) p u) v

  no_back : (x y : PartialReading) → Steps i x y → offset x ≤ offset y
  no_back x y (inl a) = let e : offset y ≡ offset x = a.1 in omega (arith, e)
  no_back x y (inr a) = let e : offset y ≡ offset x + a.0 = a.3 in omega (arith, e)

  -- after more steps, the step from x was one of them
  later : (n : ℕ) (x y : PartialReading) → IsPartialReading i pat x → IsPartialReading i pat y → steps (trace y) ≡ n
      → steps (trace x) < n
      → (z : PartialReading) × Steps i x z × (offset z ≤ offset y)
  later zero x y a b e l = absurd (omega (arith, l))
  later (suc n) x y a b e l = turn (λ v g k m. later n x v a g k m) (parents i pat y b)
    where
      split : (m : ℕ) → m < suc n → (m ≡ n) ⊎ (m < n)
      split m k = grind (arith, k)

      turn : ((v : PartialReading) → IsPartialReading i pat v → steps (trace v) ≡ n → steps (trace x) < n
          → (z : PartialReading) × Steps i x z × (offset z ≤ offset v)) →
          (y ≡ start pat) ⊎ From i pat y → (z : PartialReading) × Steps i x z × (offset z ≤ offset y)
      turn ih (inl u) = let s : steps (trace y) ≡ 0 = start_steps y u in absurd (omega (arith, s, e))
      turn ih (inr (p, h, u)) = go (split (steps (trace x)) l)
        where
          s : steps (trace y) ≡ suc (steps (trace p))
          s = steps_one i p y u

          go : (steps (trace x) ≡ n) ⊎ (steps (trace x) < n) → (z : PartialReading) × Steps i x z
              × (offset z ≤ offset y)
          go (inl k) =
              let t : steps (trace p) ≡ n = (let s' = s in omega (arith, s', e)) in
              (y, subst (λ r. Steps i r y) (sym (unique n x p a h k t)) u, omega arith)
          go (inr k) =
              let t : steps (trace p) ≡ n = (let s' = s in omega (arith, s', e)) in
              let r : (z : PartialReading) × Steps i x z × (offset z ≤ offset p) = ih p h t k in
              let m : offset r.0 ≤ offset p = r.2 in
              let o : offset p ≤ offset y = no_back p y u in
              (r.0, r.1, omega (arith, m, o))

  no_end : {A : Type 0} (is : Items) (z : PartialReading) → Steps i (partial no_ops is []) z → A
  no_end is z (inl a) = absurd a.0
  no_end is z (inr a) = absurd (none-some (move a.0 a.1 z) a.2)

  three : (a b : ℕ) → (a ≡ b) ⊎ ((a < b) ⊎ (b < a))
  three a b = grind arith

  same_items : (is js : Items) → partial no_ops is [] ≡ partial no_ops js [] → is ≡ js
  same_items is js e = cc

  pub one_reading_of : (is js : Items) → ReadsFirst is i pat 0 no_ops → ReadsFirst js i pat 0 no_ops → is ≡ js
  one_reading_of is js a b = turn (three (steps (trace (partial no_ops is []))) (steps (trace (partial no_ops js []))))
    where
      x : PartialReading
      x = partial no_ops is []

      y : PartialReading
      y = partial no_ops js []

      turn : (steps (trace x) ≡ steps (trace y))
          ⊎ ((steps (trace x) < steps (trace y)) ⊎ (steps (trace y) < steps (trace x))) → is ≡ js
      turn (inl e) = same_items is js (unique (steps (trace y)) x y (tt, a) (tt, b) e refl)
      turn (inr (inl l)) = let r = later (steps (trace y)) x y (tt, a) (tt, b) refl l in no_end is r.0 r.1
      turn (inr (inr l)) = let r = later (steps (trace x)) y x (tt, b) (tt, a) refl l in no_end js r.0 r.1

  past : {A : Type 0} (q n : ℕ) (f : Bool) (x y : PartialReading) → EndsAt i pat q x → EndsAt i pat q y
      → StepsOver i q n f x
      → steps (trace x) < steps (trace y) → A
  past {A} q n f x y a b g l = turn (later (steps (trace y)) x y a.0 b.0 refl l)
    where
      here : next i (offset x) x ≡ Some (move n f g.0)
      here = subst (λ p. next i p x ≡ Some (move n f g.0)) (sym a.1) g.1

      turn : ((z : PartialReading) × Steps i x z × (offset z ≤ offset y)) → A
      turn (z, inl s, m) = epsilon_move i pat (offset x) x z (move n f g.0) a.0 plain s.0 here
      turn (z, inr s, m) =
          let e : offset z ≡ offset x + s.0 = s.3 in
          let k : 0 < s.0 = at_least (next i (offset x) x) s.0 s.1 z s.2 (next_some i pat (offset x) x a.0 plain) in
          let u : offset x ≡ q = a.1 in
          let v : offset y ≡ q = b.1 in
          absurd (omega (arith, e, k, u, v, m))

  pub never_ambiguous_at : (q : ℕ) → Ambiguous i pat q → ⊥
  never_ambiguous_at q w = turn (three (steps (trace w.one)) (steps (trace w.other)))
    where
      turn : (steps (trace w.one) ≡ steps (trace w.other))
          ⊎ ((steps (trace w.one) < steps (trace w.other)) ⊎ (steps (trace w.other) < steps (trace w.one))) → ⊥
      turn (inl e) = w.differ (unique (steps (trace w.other)) w.one w.other w.one_at.0 w.other_at.0 e refl)
      turn (inr (inl l)) = past q w.n w.f w.one w.other w.one_at w.other_at w.one_steps l
      turn (inr (inr l)) = past q w.m w.g w.other w.one w.other_at w.one_at w.other_steps l

pub one_reading : OneReading
one_reading g pattern argument is others c a b = one_reading_of (input_of g argument) pattern c is others a.0 b.0

pub never_ambiguous : NeverAmbiguous
never_ambiguous g pattern argument q c w = never_ambiguous_at (input_of g argument) pattern c q w

pub readings_end : ReadingsEnd
readings_end g pattern argument is r = ((tt, r.0), let e : items_width is ≡ flat_len argument = r.1 in omega (arith, e))
