-- A dot's number determines the dot, and a dot determines how a beginning goes on.
use Rattle.std.proofs.Common.{ℕ, zero, suc, ◌+◌, ◌-◌, ◌≡◌, ◌<◌, ◌≤◌, inl, inr, Option, Some, None, Bool, true, false}
use Rattle.std.proofs.Common.{List, [], ◌∷◌, ◌++◌, map, refl, sym, ◌∙◌, ap, subst, arith, option_map}
use Rattle.std.specs.Prelude.{nat_lt}
use Rattle.std.specs.List.{flat_map, cons_option}
use Rattle.std.proofs.lemmas.Bool.{lt-ltb, le-ltb}
use Rattle.std.proofs.lemmas.List.{map-append}
use Rattle.mbe_semantics.specs.declared.fragment_kinds.RepeatKind.{RepeatKind}
use Rattle.mbe_semantics.specs.declared.fragment_kinds.RepeatKind.TheVariants.{ZeroOrMore, OneOrMore, ZeroOrOne}
use Rattle.mbe_semantics.specs.Syntax.Op.{Separator, Op, token, group, variable, repetition, Ops, no_ops, op, names_of}
use Rattle.mbe_semantics.specs.Syntax.Op.{expression}
use Rattle.mbe_semantics.specs.Readings.Item.{Item, grouped, rounds, Items, no_items, item, Rounds, no_rounds, round}
use Rattle.mbe_semantics.specs.Readings.Item.{item_width, skipped}
use Rattle.mbe_semantics.specs.Readings.Input.{Input}
use Rattle.mbe_semantics.specs.Readings.Reading.{ReadsFirst, Frame, inside, within, PartialReading, partial, body_of}
use Rattle.mbe_semantics.specs.Readings.Reading.{start_of, AreOpen, IsPartialReading, EndsAt}
use Rattle.mbe_semantics.specs.Readings.Steps.{matched_item, bound_item, skip_of, another_round, if_none, empty_item}
use Rattle.mbe_semantics.specs.Readings.Steps.{epsilons, Move, move, if_some, over_of, when, round_move, separator_move}
use Rattle.mbe_semantics.specs.Readings.Steps.{next}
use Rattle.mbe_semantics.specs.Matching.Lists.{In}
use Rattle.mbe_semantics.specs.Syntax.Nullable.{Checked}
use Rattle.mbe_semantics.specs.Laws.Lawful.{Lawful}
use Rattle.mbe_semantics.specs.Matching.ThreadModel.{rank}
use Rattle.mbe_semantics.specs.Matching.Closure.{whole, closure, moves_of, targets}
use Rattle.mbe_laws.proofs.Matching.Rank.{idle-falls, whole-step}
use Rattle.mbe_semantics.specs.Matching.States.{op_state_count, state_count, states_after, state_number}
use Rattle.mbe_laws.specs.Bounded.States.{without_items, state_of}

-- ---- dots

blank_twice : (up : List Frame) → without_items (without_items up) ≡ without_items up
blank_twice [] = refl
blank_twice (inside d b rest is ∷ up) = ap (λ v. inside d b rest no_items ∷ v) (blank_twice up)
blank_twice (within b s k rest is rs ∷ up) = ap (λ v. within b s k rest no_items no_rounds ∷ v) (blank_twice up)

after_blank : (up : List Frame) → states_after (without_items up) ≡ states_after up
after_blank [] = refl
after_blank (inside d b rest is ∷ up) = ap (λ v. state_count rest + v) (after_blank up)
after_blank (within b s k rest is rs ∷ up) = ap (λ v. state_count rest + v) (after_blank up)

number_state : (x : PartialReading) → state_number (state_of x) ≡ state_number x
number_state (partial rest is up) = ap (λ v. state_count rest + v) (after_blank up)

numbers_states : (xs : List PartialReading) → map state_number (map state_of xs) ≡ map state_number xs
numbers_states [] = refl
numbers_states (x ∷ xs) = ap (λ v. v ∷ map state_number (map state_of xs)) (number_state x)
    ∙ ap (λ v. state_number x ∷ v) (numbers_states xs)

SameDots : List PartialReading → List PartialReading → Type 0
SameDots xs ys = map state_of xs ≡ map state_of ys

again_states : (s : Option Separator) (k : RepeatKind) (x y z w : PartialReading) → state_of x ≡ state_of y → state_of z
    ≡ state_of w
    → SameDots (another_round s k x ++ (z ∷ [])) (another_round s k y ++ (w ∷ []))
unfolding SameDots
again_states (Some c) k x y z w e f = ap (λ v. v ∷ []) f
again_states None ZeroOrMore x y z w e f = ap (λ v. v ∷ state_of z ∷ []) e ∙ ap (λ v. state_of y ∷ v ∷ []) f
again_states None OneOrMore x y z w e f = ap (λ v. v ∷ state_of z ∷ []) e ∙ ap (λ v. state_of y ∷ v ∷ []) f
again_states None ZeroOrOne x y z w e f = ap (λ v. v ∷ []) f

skip_states : (k : RepeatKind) (x y z w : PartialReading) → state_of x ≡ state_of y → state_of z ≡ state_of w
    → SameDots (x ∷ skip_of k z) (y ∷ skip_of k w)
unfolding SameDots
skip_states ZeroOrMore x y z w e f = ap (λ v. v ∷ state_of z ∷ []) e ∙ ap (λ v. state_of y ∷ v ∷ []) f
skip_states OneOrMore x y z w e f = ap (λ v. v ∷ []) e
skip_states ZeroOrOne x y z w e f = ap (λ v. v ∷ state_of z ∷ []) e ∙ ap (λ v. state_of y ∷ v ∷ []) f

same_up : (rest : Ops) (is js : Items) (up : List Frame) → state_of (partial rest is up)
    ≡ state_of (partial rest js (without_items up))
same_up rest is js up = ap (λ v. partial rest no_items v) (sym (blank_twice up))

same_within : (b : Ops) (s : Option Separator) (k : RepeatKind) (rest : Ops) (is js : Items) (rs ts : Rounds)
    (up : List Frame) →
    state_of (partial b no_items (within b s k rest is rs ∷ up))
    ≡ state_of (partial b no_items (within b s k rest js ts ∷ without_items up))
same_within b s k rest is js rs ts up =
    ap (λ v. partial b no_items (within b s k rest no_items no_rounds ∷ v)) (sym (blank_twice up))

empty_states : (w : Option Item) (rest : Ops) (is : Items) (up : List Frame)
    → SameDots (empty_item w rest is up) (empty_item w rest no_items (without_items up))
unfolding SameDots
empty_states None rest is up = refl
empty_states (Some x) rest is up = go (item_width x)
  where
    go : (n : ℕ) → map state_of (if_none n (partial rest (item is x) up))
        ≡ map state_of (if_none n (partial rest (item no_items x) (without_items up)))
    go zero = ap (λ v. v ∷ []) (same_up rest (item is x) (item no_items x) up)
    go (suc n) = refl

epsilon_states : (i : Input) (q : ℕ) (x : PartialReading) → SameDots (epsilons i q x) (epsilons i q (state_of x))
unfolding SameDots
epsilon_states i q (partial no_ops is []) = refl
epsilon_states i q (partial no_ops is (inside d b rest js ∷ up)) = refl
epsilon_states i q (partial no_ops is (within b s k rest js rs ∷ up)) =
    again_states s k
    (partial b no_items (within b s k rest js (round rs is 0) ∷ up))
    (partial b no_items (within b s k rest no_items (round no_rounds no_items 0) ∷ without_items up))
    (partial rest (item js (rounds rs is)) up)
    (partial rest (item no_items (rounds no_rounds no_items)) (without_items up))
    (same_within b s k rest js no_items (round rs is 0) (round no_rounds no_items 0) up)
    (same_up rest (item js (rounds rs is)) (item no_items (rounds no_rounds no_items)) up)
epsilon_states i q (partial (op (token t) rest) is up) = empty_states (matched_item (i.token_at t q)) rest is up
epsilon_states i q (partial (op (variable name kind span) rest) is up) =
    empty_states (bound_item name (i.fragment_at kind q)) rest is up
epsilon_states i q (partial (op (expression e) rest) is up) = refl
epsilon_states i q (partial (op (group d b) rest) is up) = refl
epsilon_states i q (partial (op (repetition b s k) rest) is up) =
    skip_states k
    (partial b no_items (within b s k rest is no_rounds ∷ up))
    (partial b no_items (within b s k rest no_items no_rounds ∷ without_items up))
    (partial rest (item is (skipped (names_of b))) up)
    (partial rest (item no_items (skipped (names_of b))) (without_items up))
    (same_within b s k rest is no_items no_rounds no_rounds up)
    (same_up rest (item is (skipped (names_of b))) (item no_items (skipped (names_of b))) up)

-- a move, to a dot
abbrev pub state_move : Move → Move
state_move (move n f y) = move n f (state_of y)

SameMove : Option Move → Option Move → Type 0
SameMove m o = option_map state_move m ≡ option_map state_move o

when_state : (b : Bool) (x y : PartialReading) → state_of x ≡ state_of y
    → SameMove (when b (move 1 false x)) (when b (move 1 false y))
unfolding SameMove
when_state true x y e = ap (λ v. Some (move 1 false v)) e
when_state false x y e = refl

over_state : (f : Bool) (w : Option Item) (rest : Ops) (is : Items) (up : List Frame)
    → SameMove (over_of f w rest is up) (over_of f w rest no_items (without_items up))
unfolding SameMove
over_state f None rest is up = refl
over_state f (Some x) rest is up = go (item_width x)
  where
    go : (n : ℕ) → option_map state_move (if_some f n (partial rest (item is x) up))
        ≡ option_map state_move (if_some f n (partial rest (item no_items x) (without_items up)))
    go zero = refl
    go (suc n) = ap (λ v. Some (move (suc n) f v)) (same_up rest (item is x) (item no_items x) up)

round_state : (k : RepeatKind) (w : Option ℕ) (b : Ops) (s : Option Separator) (rest : Ops) (js : Items) (rs : Rounds)
    (up : List Frame) (is : Items) →
    SameMove (round_move k w b s rest js rs up is)
    (round_move k w b s rest no_items no_rounds (without_items up) no_items)
unfolding SameMove
round_state k None b s rest js rs up is = refl
round_state ZeroOrMore (Some n) b s rest js rs up is =
    ap (λ v. Some (move n false v)) (same_within b s ZeroOrMore rest js no_items (round rs is n)
    (round no_rounds no_items n) up)
round_state OneOrMore (Some n) b s rest js rs up is =
    ap (λ v. Some (move n false v)) (same_within b s OneOrMore rest js no_items (round rs is n)
    (round no_rounds no_items n) up)
round_state ZeroOrOne (Some n) b s rest js rs up is = refl

separator_state : (i : Input) (q : ℕ) (s : Option Separator) (k : RepeatKind) (b rest : Ops) (js : Items) (rs : Rounds)
    (up : List Frame) (is : Items) →
    SameMove (separator_move i q s k b rest js rs up is)
    (separator_move i q s k b rest no_items no_rounds (without_items up) no_items)
unfolding SameMove
separator_state i q None k b rest js rs up is = refl
separator_state i q (Some c) k b rest js rs up is = round_state k (i.separator_at c q) b (Some c) rest js rs up is

next_state : (i : Input) (q : ℕ) (x : PartialReading) → SameMove (next i q x) (next i q (state_of x))
unfolding SameMove
next_state i q (partial no_ops is []) = refl
next_state i q (partial no_ops is (inside d b rest js ∷ up)) =
    when_state (i.closes_at q) _ _ (same_up rest (item js (grouped is)) (item no_items (grouped no_items)) up)
next_state i q (partial no_ops is (within b s k rest js rs ∷ up)) = separator_state i q s k b rest js rs up is
next_state i q (partial (op (token t) rest) is up) = over_state false (matched_item (i.token_at t q)) rest is up
next_state i q (partial (op (variable name kind span) rest) is up) =
    over_state true (bound_item name (i.fragment_at kind q)) rest is up
next_state i q (partial (op (expression e) rest) is up) = refl
next_state i q (partial (op (group d b) rest) is up) =
    when_state (i.opens_at d.kind q) _ _
    (ap (λ v. partial b no_items (inside d b rest no_items ∷ v)) (sym (blank_twice up)))
next_state i q (partial (op (repetition b s k) rest) is up) = refl

-- ---- numbers

states_some : (os : Ops) → 0 < state_count os
states_some no_ops = omega arith
states_some (op o os) = omega arith

abbrev choose : {A : Type 0} → Bool → A → A → A
choose true x y = x
choose false x y = y

-- the dot of the number, among ops and after open items
abbrev mutual
  find : Ops → List Frame → ℕ → PartialReading
  find no_ops up n = partial no_ops no_items up
  find (op o rest) up n =
      choose (nat_lt n (1 + op_state_count o + state_count rest))
      (choose (nat_lt (state_count rest) n) (find_op o rest up (n - state_count rest)) (find rest up n))
      (partial (op o rest) no_items up)

  find_op : Op → Ops → List Frame → ℕ → PartialReading
  find_op (token t) rest up n = partial rest no_items up
  find_op (variable name kind span) rest up n = partial rest no_items up
  find_op (expression e) rest up n = partial rest no_items up
  find_op (group d b) rest up n = find b (inside d b rest no_items ∷ up) n
  find_op (repetition b s k) rest up n = find b (within b s k rest no_items no_rounds ∷ up) n

find_here : (os : Ops) (up : List Frame) → find os up (state_count os) ≡ partial os no_items up
find_here no_ops up = refl
find_here (op o rest) up =
    ap (λ b. choose b (choose (nat_lt (state_count rest) (state_count (op o rest)))
    (find_op o rest up (state_count (op o rest) - state_count rest))
    (find rest up (state_count (op o rest)))) (partial (op o rest) no_items up))
    (le-ltb (state_count (op o rest)) (state_count (op o rest)) (omega arith))

find_rest : (o : Op) (rest : Ops) (up : List Frame) (n : ℕ) → n ≤ state_count rest → find (op o rest) up n
    ≡ find rest up n
find_rest o rest up n l =
    ap (λ b. choose b (choose (nat_lt (state_count rest) n) (find_op o rest up (n - state_count rest)) (find rest up n))
    (partial (op o rest) no_items up)) (lt-ltb n (1 + op_state_count o + state_count rest) (omega (arith, l)))
    ∙ ap (λ b. choose b (find_op o rest up (n - state_count rest)) (find rest up n)) (le-ltb (state_count rest) n l)

find_in : (o : Op) (rest : Ops) (up : List Frame) (n : ℕ) → 0 < n → n ≤ op_state_count o
    → find (op o rest) up (n + state_count rest) ≡ find_op o rest up n
find_in o rest up n p l =
    ap (λ b. choose b (choose (nat_lt (state_count rest) (n + state_count rest))
    (find_op o rest up (n + state_count rest - state_count rest))
    (find rest up (n + state_count rest))) (partial (op o rest) no_items up))
    (lt-ltb (n + state_count rest) (1 + op_state_count o + state_count rest) (omega (arith, l)))
    ∙ ap (λ b. choose b (find_op o rest up (n + state_count rest - state_count rest))
    (find rest up (n + state_count rest)))
    (lt-ltb (state_count rest) (n + state_count rest) (omega (arith, p)))
    ∙ ap (find_op o rest up) (let e : n + state_count rest - state_count rest ≡ n = omega arith in e)

find_first : (is : Items) (i : Input) (os : Ops) (p : ℕ) (rest : Ops) (up : List Frame) (n : ℕ)
    → ReadsFirst is i os p rest → n ≤ state_count rest → (state_count rest ≤ state_count os)
    × (find os up n ≡ find rest up n)
find_first no_items i os p rest up n h l =
    (subst (λ v. state_count rest ≤ state_count v) (sym h) (omega arith), ap (λ v. find v up n) h)
find_first (item is x) i os p rest up n h l =
    let r : (state_count (op h.0 rest) ≤ state_count os) × (find os up n ≡ find (op h.0 rest) up n) =
    find_first is i os p (op h.0 rest) up n h.1 (omega (arith, l)) in
    let a = r.0 in
    (omega (arith, a), r.1 ∙ find_rest h.0 rest up n l)

-- from the outside in
-- a dot with that many dots after it, and those after its frames
find_further : (pat : Ops) (up : List Frame) (n after : ℕ) (found : PartialReading)
    → find pat [] (n + after + states_after up) ≡ found → n + after + states_after up ≤ state_count pat
    → (find pat [] (n + (after + states_after up)) ≡ found) × (n + (after + states_after up) ≤ state_count pat)
find_further pat up n after found e l = (
  ap (find pat []) (let same : n + (after + states_after up) ≡ n + after + states_after up = omega arith in same) ∙ e,
  omega (arith, l),
)

find_frames : (i : Input) (pat : Ops) (up : List Frame) (n : ℕ) → AreOpen i pat up → 0 < n
    → n ≤ state_count (body_of pat up) →
    (find pat [] (n + states_after up) ≡ find (body_of pat up) (without_items up) n)
    × (n + states_after up ≤ state_count pat)
find_frames i pat [] n h p l = (ap (find pat []) (let e : n + 0 ≡ n = omega arith in e), omega (arith, l))
find_frames i pat (inside d b rest js ∷ up) n h p l =
    let m : n + state_count rest ≤ state_count (op (group d b) rest) = omega (arith, l) in
    let f : (state_count (op (group d b) rest) ≤ state_count (body_of pat up))
    × (find (body_of pat up) (without_items up) (n + state_count rest)
    ≡ find (op (group d b) rest) (without_items up) (n + state_count rest)) =
    find_first js i (body_of pat up) (start_of up) (op (group d b) rest) (without_items up) (n + state_count rest) h.1 m
    in
    let a = f.0 in
    let r : (find pat [] (n + state_count rest + states_after up)
    ≡ find (body_of pat up) (without_items up) (n + state_count rest))
    × (n + state_count rest + states_after up ≤ state_count pat) =
    find_frames i pat up (n + state_count rest) h.0 (omega (arith, p)) (omega (arith, a, m)) in
    find_further pat up n (state_count rest) (find_op (group d b) rest (without_items up) n)
    (r.0 ∙ f.1 ∙ find_in (group d b) rest (without_items up) n p l) r.1
find_frames i pat (within b s k rest js rs ∷ up) n h p l =
    let m : n + state_count rest ≤ state_count (op (repetition b s k) rest) = omega (arith, l) in
    let f : (state_count (op (repetition b s k) rest) ≤ state_count (body_of pat up))
    × (find (body_of pat up) (without_items up) (n + state_count rest)
    ≡ find (op (repetition b s k) rest) (without_items up) (n + state_count rest)) =
    find_first js i (body_of pat up) (start_of up) (op (repetition b s k) rest) (without_items up)
    (n + state_count rest) h.1 m in
    let a = f.0 in
    let r : (find pat [] (n + state_count rest + states_after up)
    ≡ find (body_of pat up) (without_items up) (n + state_count rest))
    × (n + state_count rest + states_after up ≤ state_count pat) =
    find_frames i pat up (n + state_count rest) h.0 (omega (arith, p)) (omega (arith, a, m)) in
    find_further pat up n (state_count rest) (find_op (repetition b s k) rest (without_items up) n)
    (r.0 ∙ f.1 ∙ find_in (repetition b s k) rest (without_items up) n p l) r.1

find_of : (i : Input) (pat : Ops) (x : PartialReading) → IsPartialReading i pat x
    → (find pat [] (state_number x) ≡ state_of x) × (state_number x ≤ state_count pat)
find_of i pat (partial rest is up) h =
    let f : (state_count rest ≤ state_count (body_of pat up))
    × (find (body_of pat up) (without_items up) (state_count rest) ≡ find rest (without_items up) (state_count rest)) =
    find_first is i (body_of pat up) (start_of up) rest (without_items up) (state_count rest) h.1 (omega arith) in
    let r : (find pat [] (state_count rest + states_after up)
    ≡ find (body_of pat up) (without_items up) (state_count rest))
    × (state_count rest + states_after up ≤ state_count pat) =
    find_frames i pat up (state_count rest) h.0 (states_some rest) f.0 in
    (r.0 ∙ f.1 ∙ find_here rest (without_items up), r.1)

-- the numbers of a pattern's beginnings
pub number-within : (i : Input) (pat : Ops) (x : PartialReading) → IsPartialReading i pat x
    → (0 < state_number x) × (state_number x ≤ state_count pat)
number-within i pat (partial rest is up) h =
    (let a : 0 < state_count rest = states_some rest in omega (arith, a), (find_of i pat (partial rest is up) h).1)

-- one number is one dot
pub same-dot : (i j : Input) (pat : Ops) (x y : PartialReading) → IsPartialReading i pat x → IsPartialReading j pat y
    → state_number x ≡ state_number y
    → state_of x ≡ state_of y
same-dot i j pat x y a b e = sym (find_of i pat x a).0 ∙ ap (find pat []) e ∙ (find_of j pat y b).0

pub same-number : (x y : PartialReading) → state_of x ≡ state_of y → state_number x ≡ state_number y
same-number x y e = sym (number_state x) ∙ ap state_number e ∙ number_state y

-- ---- how those of one number go on

module _ (i : Input) (pat : Ops) (q : ℕ) where
  pub epsilon_numbers : (x y : PartialReading) → EndsAt i pat q x → EndsAt i pat q y → state_number x ≡ state_number y
      → map state_number (epsilons i q x) ≡ map state_number (epsilons i q y)
  unfolding SameDots
  epsilon_numbers x y a b e =
      sym (numbers_states (epsilons i q x))
      ∙ ap (map state_number) (epsilon_states i q x
      ∙ ap (λ v. map state_of (epsilons i q v)) (same-dot i i pat x y a.0 b.0 e)
      ∙ sym (epsilon_states i q y))
      ∙ numbers_states (epsilons i q y)

  pub next_alike : (x y : PartialReading) → EndsAt i pat q x → EndsAt i pat q y → state_number x ≡ state_number y
      → option_map state_move (next i q x) ≡ option_map state_move (next i q y)
  unfolding SameMove
  next_alike x y a b e = next_state i q x
      ∙ ap (λ v. option_map state_move (next i q v)) (same-dot i i pat x y a.0 b.0 e)
      ∙ sym (next_state i q y)

-- where a step leads
abbrev pub led_to : Option Move → List PartialReading
led_to None = []
led_to (Some (move n f y)) = y ∷ []

abbrev pub onward : Input → ℕ → PartialReading → List PartialReading
onward i q x = led_to (next i q x)

pub targets-onward : (i : Input) (q : ℕ) (xs : List PartialReading) → targets (moves_of i q xs)
    ≡ flat_map (onward i q) xs
targets-onward i q [] = refl
targets-onward i q (x ∷ xs) = go (next i q x) (targets-onward i q xs)
  where
    go : (o : Option Move) → targets (moves_of i q xs) ≡ flat_map (onward i q) xs
        → targets (cons_option o (moves_of i q xs)) ≡ led_to o ++ flat_map (onward i q) xs
    go None e = e
    go (Some (move n f y)) e = ap (λ v. y ∷ v) e

led_numbers : (m o : Option Move) → option_map state_move m ≡ option_map state_move o
    → map state_number (led_to m) ≡ map state_number (led_to o)
led_numbers None None e = refl
led_numbers None (Some (move n f y)) e = cc
led_numbers (Some (move n f y)) None e = cc
led_numbers (Some (move n f y)) (Some (move m g z)) e = let d : state_of y ≡ state_of z =
    cc in ap (λ v. v ∷ []) (same-number y z d)

pub onward-alike : (i : Input) (pat : Ops) (q : ℕ) (x y : PartialReading) → EndsAt i pat q x → EndsAt i pat q y
    → state_number x ≡ state_number y → map state_number (onward i q x) ≡ map state_number (onward i q y)
onward-alike i pat q x y a b e = led_numbers (next i q x) (next i q y) (next_alike i pat q x y a b e)

flat_alike : (f : PartialReading → List PartialReading) (Good Low : PartialReading → Type 0) →
    ((x y : PartialReading) → Good x → Low x → Good y → state_number x ≡ state_number y
    → map state_number (f x) ≡ map state_number (f y)) →
    (xs ys : List PartialReading) → ((x : PartialReading) → In x xs → Good x × Low x)
    → ((y : PartialReading) → In y ys → Good y)
    → map state_number xs ≡ map state_number ys →
    map state_number (flat_map f xs) ≡ map state_number (flat_map f ys)
flat_alike f Good Low h [] [] a b e = refl
flat_alike f Good Low h [] (y ∷ ys) a b e = cc
flat_alike f Good Low h (x ∷ xs) [] a b e = cc
flat_alike f Good Low h (x ∷ xs) (y ∷ ys) a b e =
    let d : state_number x ≡ state_number y = cc in
    let c : map state_number xs ≡ map state_number ys = cc in
    map-append state_number (f x) (flat_map f xs)
    ∙ ap (λ v. v ++ map state_number (flat_map f xs)) (h x y (a x (inl refl)).0 (a x (inl refl)).1 (b y (inl refl)) d)
    ∙ ap (λ v. map state_number (f y) ++ v) (flat_alike f Good Low h xs ys (λ z m. a z (inr m)) (λ z m. b z (inr m)) c)
    ∙ sym (map-append state_number (f y) (flat_map f ys))

module _ (i : Input) (pat : Ops) (len : ℕ) (lawful : Lawful i len) (checked : Checked pat) (q : ℕ) where
  by_rank : (n : ℕ) (x y : PartialReading) → EndsAt i pat q x → rank q x < n → EndsAt i pat q y → state_number x
      ≡ state_number y
      → map state_number (whole i q x) ≡ map state_number (whole i q y)
  by_rank zero x y a l b e = absurd (omega (arith, l))
  by_rank (suc n) x y a l b e =
      ap (map state_number) (whole-step i pat q lawful checked x a)
      ∙ ap (λ v. v ∷ map state_number (closure i q (epsilons i q x))) e
      ∙ ap (λ v. state_number y ∷ v)
      (flat_alike (whole i q) (EndsAt i pat q) (λ v. rank q v < n) (λ u v g h c d. by_rank n u v g h c d)
      (epsilons i q x)
      (epsilons i q y)
      (λ z m. let f : EndsAt i pat q z × (rank q z < rank q x) = idle-falls i pat q lawful checked x z a m in let r =
      f.1 in
      (f.0, omega (arith, r, l)))
      (λ z m. (idle-falls i pat q lawful checked y z b m).0)
      (epsilon_numbers i pat q x y a b e))
      ∙ sym (ap (map state_number) (whole-step i pat q lawful checked y b))

  pub whole-alike : (x y : PartialReading) → EndsAt i pat q x → EndsAt i pat q y → state_number x ≡ state_number y
      → map state_number (whole i q x) ≡ map state_number (whole i q y)
  whole-alike x y a b e = by_rank (suc (rank q x)) x y a (omega arith) b e
