-- What is at the dot of a beginning is at the dot of its number in the pattern.
use Rattle.std.proofs.Common.{ℕ, ◌+◌, ◌≡◌, List, [], ◌∷◌, ◌++◌, length, refl, sym, ◌∙◌, ap, arith, append_assoc}
use Rattle.std.proofs.Common.{append-nil, length-append}
use Rattle.mbe_semantics.specs.Syntax.Op.{Op, token, group, variable, repetition, expression, Ops, no_ops, op}
use Rattle.mbe_semantics.specs.Readings.Item.{Items, no_items, item}
use Rattle.mbe_semantics.specs.Readings.Input.{Input}
use Rattle.mbe_semantics.specs.Readings.Reading.{ReadsFirst, Frame, inside, within, PartialReading, partial, body_of}
use Rattle.mbe_semantics.specs.Readings.Reading.{start_of, AreOpen, IsPartialReading}
use Rattle.mbe_semantics.specs.Matching.States.{op_state_count, state_count, states_after, state_number}
use Rattle.mbe_matcher.specs.Readings.States.{PatternState, ending, closing, round_end, before, op_states, states}
use Rattle.mbe_matcher.specs.Readings.States.{end_of, state_at}

abbrev IsTail : List PatternState → List PatternState → Type 0
IsTail all back = (front : List PatternState) × (front ++ back ≡ all)

-- what is at the dots after the open items
abbrev beyond : List Frame → List PatternState
beyond [] = []
beyond (inside d b rest is ∷ up) = states rest (end_of up) ++ beyond up
beyond (within b s k rest is rs ∷ up) = states rest (end_of up) ++ beyond up

abbrev ahead : PartialReading → List PatternState
ahead (partial rest is up) = states rest (end_of up) ++ beyond up

first_tail : (is : Items) (i : Input) (os : Ops) (p : ℕ) (rest : Ops) (e : PatternState) → ReadsFirst is i os p rest
    → IsTail (states os e) (states rest e)
first_tail no_items i os p rest e h = ([], ap (λ v. states v e) (sym h))
first_tail (item is x) i os p rest e h =
    let r : IsTail (states os e) (states (op h.0 rest) e) = first_tail is i os p (op h.0 rest) e h.1 in
    (r.0 ++ op_states h.0, append_assoc r.0 (op_states h.0) (states rest e) ∙ r.1)

-- past the front, and into what is there
deeper : (all front first back : List PatternState) (s : PatternState) (inner frame : List PatternState) →
    front ++ ((s ∷ inner) ++ frame) ≡ all → first ++ back ≡ inner → IsTail all (back ++ frame)
deeper all front first back s inner frame e f = (
  front ++ (s ∷ first),
  append_assoc front (s ∷ first) (back ++ frame)
      ∙ ap (λ v. front ++ (s ∷ v)) (sym (append_assoc first back frame) ∙ ap (λ v. v ++ frame) f) ∙ e,
)

frames_tail : (i : Input) (pat : Ops) (up : List Frame) (back : List PatternState) → AreOpen i pat up
    → IsTail (states (body_of pat up) (end_of up)) back → IsTail (states pat ending) (back ++ beyond up)
frames_tail i pat [] back h t = (t.0, ap (λ v. t.0 ++ v) (append-nil back) ∙ t.1)
frames_tail i pat (inside d b rest is ∷ up) back h t =
    let f : IsTail (states (body_of pat up) (end_of up)) (states (op (group d b) rest) (end_of up)) =
    first_tail is i (body_of pat up) (start_of up) (op (group d b) rest) (end_of up) h.1 in
    let m : IsTail (states (body_of pat up) (end_of up)) (back ++ states rest (end_of up)) =
    deeper (states (body_of pat up) (end_of up)) f.0 t.0 back (before (group d b) (state_count b)) (states b closing)
    (states rest (end_of up)) f.1 t.1 in
    let r : IsTail (states pat ending) ((back ++ states rest (end_of up)) ++ beyond up) =
    frames_tail i pat up (back ++ states rest (end_of up)) h.0 m in
    (r.0, ap (λ v. r.0 ++ v) (sym (append_assoc back (states rest (end_of up)) (beyond up))) ∙ r.1)
frames_tail i pat (within b s k rest is rs ∷ up) back h t =
    let f : IsTail (states (body_of pat up) (end_of up)) (states (op (repetition b s k) rest) (end_of up)) =
    first_tail is i (body_of pat up) (start_of up) (op (repetition b s k) rest) (end_of up) h.1 in
    let m : IsTail (states (body_of pat up) (end_of up)) (back ++ states rest (end_of up)) =
    deeper (states (body_of pat up) (end_of up)) f.0 t.0 back (before (repetition b s k) (state_count b))
    (states b (round_end s k (state_count b))) (states rest (end_of up)) f.1 t.1 in
    let r : IsTail (states pat ending) ((back ++ states rest (end_of up)) ++ beyond up) =
    frames_tail i pat up (back ++ states rest (end_of up)) h.0 m in
    (r.0, ap (λ v. r.0 ++ v) (sym (append_assoc back (states rest (end_of up)) (beyond up))) ∙ r.1)

-- ---- how many there are

mutual
  op_length : (o : Op) → length (op_states o) ≡ 1 + op_state_count o
  op_length (token t) = refl
  op_length (variable name kind span) = refl
  op_length (expression e) = refl
  op_length (group d b) = let e : length (states b closing) ≡ state_count b = spots-length b closing in omega arith
  op_length (repetition b s k) =
      let e : length (states b (round_end s k (state_count b))) ≡ state_count b =
      spots-length b (round_end s k (state_count b)) in omega
      arith

  pub spots-length : (os : Ops) (e : PatternState) → length (states os e) ≡ state_count os
  spots-length no_ops e = refl
  spots-length (op o os) e =
      let a : length (op_states o) ≡ 1 + op_state_count o = op_length o in
      let b : length (states os e) ≡ state_count os = spots-length os e in
      let c : length (op_states o ++ states os e) ≡ length (op_states o) + length (states os e) =
      length-append (op_states o) (states os e) in
      omega arith

beyond_length : (up : List Frame) → length (beyond up) ≡ states_after up
beyond_length [] = refl
beyond_length (inside d b rest is ∷ up) =
    let a : length (states rest (end_of up)) ≡ state_count rest = spots-length rest (end_of up) in
    let c : length (beyond up) ≡ states_after up = beyond_length up in
    let e : length (states rest (end_of up) ++ beyond up) ≡ length (states rest (end_of up)) + length (beyond up) =
    length-append (states rest (end_of up)) (beyond up) in
    omega arith
beyond_length (within b s k rest is rs ∷ up) =
    let a : length (states rest (end_of up)) ≡ state_count rest = spots-length rest (end_of up) in
    let c : length (beyond up) ≡ states_after up = beyond_length up in
    let e : length (states rest (end_of up) ++ beyond up) ≡ length (states rest (end_of up)) + length (beyond up) =
    length-append (states rest (end_of up)) (beyond up) in
    omega arith

ahead_length : (x : PartialReading) → length (ahead x) ≡ state_number x
ahead_length (partial rest is up) =
    let a : length (states rest (end_of up)) ≡ state_count rest = spots-length rest (end_of up) in
    let c : length (beyond up) ≡ states_after up = beyond_length up in
    let e : length (states rest (end_of up) ++ beyond up) ≡ length (states rest (end_of up)) + length (beyond up) =
    length-append (states rest (end_of up)) (beyond up) in
    omega arith

ahead_first : (x : PartialReading) → (more : List PatternState) × (ahead x ≡ state_at x ∷ more)
ahead_first (partial no_ops is up) = (beyond up, refl)
ahead_first (partial (op (token t) rest) is up) = (states rest (end_of up) ++ beyond up, refl)
ahead_first (partial (op (variable name kind span) rest) is up) = (states rest (end_of up) ++ beyond up, refl)
ahead_first (partial (op (expression e) rest) is up) = (states rest (end_of up) ++ beyond up, refl)
ahead_first (partial (op (group d b) rest) is up) = ((states b closing ++ states rest (end_of up)) ++ beyond up, refl)
ahead_first (partial (op (repetition b s k) rest) is up) =
    ((states b (round_end s k (state_count b)) ++ states rest (end_of up)) ++ beyond up, refl)

-- ---- by numbers

-- this is at the dot of the number, where these are at all dots
pub record IsSpot (all : List PatternState) (n : ℕ) (s : PatternState) : Type 0 where
  pub front : List PatternState
  pub more : List PatternState
  pub are : front ++ (s ∷ more) ≡ all
  pub number : length (s ∷ more) ≡ n

pub spot-there : (i : Input) (pat : Ops) (x : PartialReading) → IsPartialReading i pat x
    → IsSpot (states pat ending) (state_number x) (state_at x)
spot-there i pat (partial rest is up) h =
    let t : IsTail (states pat ending) (ahead (partial rest is up)) =
    frames_tail i pat up (states rest (end_of up)) h.0
    (first_tail is i (body_of pat up) (start_of up) rest (end_of up) h.1) in
    let f : (more : List PatternState) × (ahead (partial rest is up) ≡ state_at (partial rest is up) ∷ more) =
    ahead_first (partial rest is up) in
    record {
      front = t.0;
      more = f.0;
      are = ap (λ v. t.0 ++ v) (sym f.1) ∙ t.1;
      number = ap length (sym f.1) ∙ ahead_length (partial rest is up);
    }

same_pattern_state : (f g m n : List PatternState) (s r : PatternState) → f ++ (s ∷ m) ≡ g ++ (r ∷ n) → length m
    ≡ length n → s ≡ r
same_pattern_state [] [] m n s r e l = cc
same_pattern_state [] (x ∷ g) m n s r e l =
    let c : length m ≡ length (g ++ (r ∷ n)) = ap length (let d : m ≡ g ++ (r ∷ n) = cc in d) in
    let d : length (g ++ (r ∷ n)) ≡ length g + length (r ∷ n) = length-append g (r ∷ n) in
    absurd (omega arith)
same_pattern_state (x ∷ f) [] m n s r e l =
    let c : length (f ++ (s ∷ m)) ≡ length n = ap length (let d : f ++ (s ∷ m) ≡ n = cc in d) in
    let d : length (f ++ (s ∷ m)) ≡ length f + length (s ∷ m) = length-append f (s ∷ m) in
    absurd (omega arith)
same_pattern_state (x ∷ f) (y ∷ g) m n s r e l =
    same_pattern_state f g m n s r (let d : f ++ (s ∷ m) ≡ g ++ (r ∷ n) = cc in d) l

pub one-spot : (all : List PatternState) (n : ℕ) (s r : PatternState) → IsSpot all n s → IsSpot all n r → s ≡ r
one-spot all n s r a b =
    same_pattern_state a.front b.front a.more b.more s r (a.are ∙ sym b.are)
    (let c : length (s ∷ a.more) ≡ n = a.number in let d : length (r ∷ b.more) ≡ n = b.number in omega arith)
