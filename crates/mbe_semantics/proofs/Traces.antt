-- What a step does to the story of a beginning.
use Rattle.std.proofs.Common.{ℕ, zero, suc, ◌≡◌, inl, inr, Option, Some, None, Bool, true, false, List, [], ◌∷◌, ◌++◌}
use Rattle.std.proofs.Common.{refl, sym, ◌∙◌, ap, subst, arith}
use Rattle.mbe_semantics.specs.declared.fragment_kinds.RepeatKind.{RepeatKind}
use Rattle.mbe_semantics.specs.declared.fragment_kinds.RepeatKind.TheVariants.{ZeroOrMore, OneOrMore, ZeroOrOne}
use Rattle.mbe_semantics.specs.Syntax.Op.{Separator, token, group, variable, repetition, expression, Ops, no_ops, op}
use Rattle.mbe_semantics.specs.Syntax.Op.{names_of}
use Rattle.mbe_semantics.specs.Readings.Item.{Item, skipped, rounds, Items, no_items, item, Rounds, no_rounds, round}
use Rattle.mbe_semantics.specs.Readings.Item.{item_width}
use Rattle.mbe_semantics.specs.Readings.Input.{Input}
use Rattle.mbe_semantics.specs.Readings.Reading.{Frame, inside, within, PartialReading, partial}
use Rattle.mbe_semantics.specs.Readings.Steps.{matched_item, bound_item, skip_of, another_round, if_none, empty_item}
use Rattle.mbe_semantics.specs.Readings.Steps.{epsilons, Move, move, if_some, over_of, when, round_move, separator_move}
use Rattle.mbe_semantics.specs.Readings.Steps.{next}
use Rattle.mbe_semantics.specs.Matching.Trace.{OpenItem, trace_of, in_round, trace, before, fresh, steps, is_positive}
use Rattle.mbe_semantics.specs.Matching.Trace.{open_items_of}
use Rattle.mbe_semantics.specs.Matching.Lists.{In, Distinct, NoneAt}
use Rattle.mbe_semantics.proofs.Taken.{IsTaken, matched-taken, bound-taken}

-- y comes from x by one step, and the step took a token or not
abbrev pub After : Bool → PartialReading → PartialReading → Type 0
After t x y = (before (trace y) ≡ trace x) × (steps (trace y) ≡ suc (steps (trace x))) × (fresh (trace y) ≡ t)

abbrev AllAfter : PartialReading → List PartialReading → Type 0
AllAfter x ys = (y : PartialReading) → In y ys → After false x y

after_one : (x y : PartialReading) → After false x y → AllAfter x (y ∷ [])
after_one x y a z (inl e) = subst (After false x) (sym e) a
after_one x y a z (inr h) = absurd h

after_two : (x y z : PartialReading) → After false x y → After false x z → AllAfter x (y ∷ z ∷ [])
after_two x y z a b v (inl e) = subst (After false x) (sym e) a
after_two x y z a b v (inr h) = after_one x z b v h

after_none : (x : PartialReading) → AllAfter x []
after_none x y h = absurd h

-- an item that a token or a variable reads
taken_after : (o rest : Ops) (is : Items) (up : List Frame) (y : Item) (m : ℕ) → IsTaken y → item_width y ≡ m
    → After (is_positive m) (partial o is up) (partial rest (item is y) up)
taken_after o rest is up y m (inl r) = subst
    (λ z. item_width z ≡ m → After (is_positive m) (partial o is up) (partial rest (item is z) up)) r.1
    (λ e. (refl, omega arith, ap is_positive e))
taken_after o rest is up y m (inr r) = subst
    (λ z. item_width z ≡ m → After (is_positive m) (partial o is up) (partial rest (item is z) up)) r.2
    (λ e. (refl, omega arith, ap is_positive e))

after_empty : (o : Ops) (w : Option Item) (rest : Ops) (is : Items) (up : List Frame)
    → ((y : Item) → w ≡ Some y → IsTaken y) → AllAfter (partial o is up) (empty_item w rest is up)
after_empty o None rest is up a = after_none (partial o is up)
after_empty o (Some y) rest is up a = go (item_width y) refl
  where
    go : (n : ℕ) → item_width y ≡ n → AllAfter (partial o is up) (if_none n (partial rest (item is y) up))
    go zero e = after_one (partial o is up) (partial rest (item is y) up) (taken_after o rest is up y 0 (a y refl) e)
    go (suc n) e = after_none (partial o is up)

after_again : (x y z : PartialReading) (s : Option Separator) (k : RepeatKind) → After false x y → After false x z
    → AllAfter x (another_round s k y ++ (z ∷ []))
after_again x y z (Some c) k a b = after_one x z b
after_again x y z None ZeroOrMore a b = after_two x y z a b
after_again x y z None OneOrMore a b = after_two x y z a b
after_again x y z None ZeroOrOne a b = after_one x z b

after_skip : (x y z : PartialReading) (k : RepeatKind) → After false x y → After false x z
    → AllAfter x (y ∷ skip_of k z)
after_skip x y z ZeroOrMore a b = after_two x y z a b
after_skip x y z OneOrMore a b = after_one x y a
after_skip x y z ZeroOrOne a b = after_two x y z a b

pub idle-after : (i : Input) (q : ℕ) (x y : PartialReading) → In y (epsilons i q x) → After false x y
idle-after i q (partial no_ops is []) y h = absurd h
idle-after i q (partial no_ops is (inside d b rest js ∷ up)) y h = absurd h
idle-after i q (partial no_ops is (within b s k rest js rs ∷ up)) y h =
    after_again (partial no_ops is (within b s k rest js rs ∷ up)) _ _ s k (refl, omega arith, refl)
    (refl, omega arith, refl) y h
idle-after i q (partial (op (token t) rest) is up) y h =
    after_empty (op (token t) rest) (matched_item (i.token_at t q)) rest is up (matched-taken (i.token_at t q)) y h
idle-after i q (partial (op (variable name kind span) rest) is up) y h =
    after_empty (op (variable name kind span) rest) (bound_item name (i.fragment_at kind q)) rest is up
    (bound-taken name (i.fragment_at kind q)) y h
idle-after i q (partial (op (expression e) rest) is up) y h = absurd h
idle-after i q (partial (op (group d b) rest) is up) y h = absurd h
idle-after i q (partial (op (repetition b s k) rest) is up) y h =
    after_skip (partial (op (repetition b s k) rest) is up) _ _ k (refl, omega arith, refl) (refl, omega arith, refl) y
    h

-- two steps from one beginning lead to different stories
distinct_two : (y z : PartialReading) → (trace y ≡ trace z → ⊥) → Distinct trace (y ∷ z ∷ [])
distinct_two y z n = (go, ((λ v h. absurd h), tt))
  where
    go : NoneAt trace (trace y) (z ∷ [])
    go v (inl e) = λ f. n (f ∙ ap trace e)
    go v (inr h) = absurd h

distinct_one : (y : PartialReading) → Distinct trace (y ∷ [])
distinct_one y = ((λ v h. absurd h), tt)

distinct_empty : (w : Option Item) (rest : Ops) (is : Items) (up : List Frame)
    → Distinct trace (empty_item w rest is up)
distinct_empty None rest is up = tt
distinct_empty (Some x) rest is up = go (item_width x)
  where
    go : (n : ℕ) → Distinct trace (if_none n (partial rest (item is x) up))
    go zero = distinct_one (partial rest (item is x) up)
    go (suc n) = tt

distinct_again : (y z : PartialReading) (s : Option Separator) (k : RepeatKind) → (trace y ≡ trace z → ⊥)
    → Distinct trace (another_round s k y ++ (z ∷ []))
distinct_again y z (Some c) k n = distinct_one z
distinct_again y z None ZeroOrMore n = distinct_two y z n
distinct_again y z None OneOrMore n = distinct_two y z n
distinct_again y z None ZeroOrOne n = distinct_one z

distinct_skip : (y z : PartialReading) (k : RepeatKind) → (trace y ≡ trace z → ⊥) → Distinct trace (y ∷ skip_of k z)
distinct_skip y z ZeroOrMore n = distinct_two y z n
distinct_skip y z OneOrMore n = distinct_one y
distinct_skip y z ZeroOrOne n = distinct_two y z n

apart : (is : Items) (x : Item) (us vs : List OpenItem) → trace_of no_items us ≡ trace_of (item is x) vs → ⊥
apart is x us vs e = cc

pub idle-distinct : (i : Input) (q : ℕ) (x : PartialReading) → Distinct trace (epsilons i q x)
idle-distinct i q (partial no_ops is []) = tt
idle-distinct i q (partial no_ops is (inside d b rest js ∷ up)) = tt
idle-distinct i q (partial no_ops is (within b s k rest js rs ∷ up)) =
    distinct_again (partial b no_items (within b s k rest js (round rs is 0) ∷ up))
    (partial rest (item js (rounds rs is)) up) s
    k
    (apart js (rounds rs is) (in_round js (round rs is 0) ∷ open_items_of up) (open_items_of up))
idle-distinct i q (partial (op (token t) rest) is up) = distinct_empty (matched_item (i.token_at t q)) rest is up
idle-distinct i q (partial (op (variable name kind span) rest) is up) =
    distinct_empty (bound_item name (i.fragment_at kind q)) rest is up
idle-distinct i q (partial (op (expression e) rest) is up) = tt
idle-distinct i q (partial (op (group d b) rest) is up) = tt
idle-distinct i q (partial (op (repetition b s k) rest) is up) =
    distinct_skip (partial b no_items (within b s k rest is no_rounds ∷ up))
    (partial rest (item is (skipped (names_of b))) up)
    k
    (apart is (skipped (names_of b)) (in_round is no_rounds ∷ open_items_of up) (open_items_of up))

-- the step that takes tokens
abbrev pub GoesAfter : PartialReading → Option Move → Type 0
GoesAfter x None = Unit {0}
GoesAfter x (Some (move n f y)) = After (is_positive n) x y

when_after : (x y : PartialReading) (b : Bool) → After true x y → GoesAfter x (when b (move 1 false y))
when_after x y true a = a
when_after x y false a = tt

over_after : (o : Ops) (f : Bool) (w : Option Item) (rest : Ops) (is : Items) (up : List Frame)
    → ((y : Item) → w ≡ Some y → IsTaken y) → GoesAfter (partial o is up) (over_of f w rest is up)
over_after o f None rest is up a = tt
over_after o f (Some y) rest is up a = go (item_width y) refl
  where
    go : (n : ℕ) → item_width y ≡ n → GoesAfter (partial o is up) (if_some f n (partial rest (item is y) up))
    go zero e = tt
    go (suc n) e = taken_after o rest is up y (suc n) (a y refl) e

round_after : (x : PartialReading) (k : RepeatKind) (w : Option ℕ) (b : Ops) (s : Option Separator) (rest : Ops)
    (js : Items)
    (rs : Rounds) (up : List Frame) (is : Items) →
    ((n : ℕ) (k' : RepeatKind) → After (is_positive n) x (partial b no_items (within b s k' rest js (round rs is n)
    ∷ up)))
    → GoesAfter x (round_move k w b s rest js rs up is)
round_after x k None b s rest js rs up is a = tt
round_after x ZeroOrMore (Some n) b s rest js rs up is a = a n ZeroOrMore
round_after x OneOrMore (Some n) b s rest js rs up is a = a n OneOrMore
round_after x ZeroOrOne (Some n) b s rest js rs up is a = tt

separator_after : (i : Input) (q : ℕ) (s : Option Separator) (k : RepeatKind) (b rest : Ops) (js : Items) (rs : Rounds)
    (up : List Frame) (is : Items) →
    GoesAfter (partial no_ops is (within b s k rest js rs ∷ up)) (separator_move i q s k b rest js rs up is)
separator_after i q None k b rest js rs up is = tt
separator_after i q (Some c) k b rest js rs up is =
    round_after (partial no_ops is (within b (Some c) k rest js rs ∷ up)) k (i.separator_at c q) b (Some c) rest js rs
    up is
    (λ n k'. (refl, omega arith, refl))

next_goes_after : (i : Input) (q : ℕ) (x : PartialReading) → GoesAfter x (next i q x)
next_goes_after i q (partial no_ops is []) = tt
next_goes_after i q (partial no_ops is (inside d b rest js ∷ up)) =
    when_after (partial no_ops is (inside d b rest js ∷ up)) _ (i.closes_at q) (refl, omega arith, refl)
next_goes_after i q (partial no_ops is (within b s k rest js rs ∷ up)) = separator_after i q s k b rest js rs up is
next_goes_after i q (partial (op (token t) rest) is up) =
    over_after (op (token t) rest) false (matched_item (i.token_at t q)) rest is up (matched-taken (i.token_at t q))
next_goes_after i q (partial (op (variable name kind span) rest) is up) =
    over_after (op (variable name kind span) rest) true (bound_item name (i.fragment_at kind q)) rest is up
    (bound-taken name (i.fragment_at kind q))
next_goes_after i q (partial (op (expression e) rest) is up) = tt
next_goes_after i q (partial (op (group d b) rest) is up) =
    when_after (partial (op (group d b) rest) is up) _ (i.opens_at d.kind q) (refl, omega arith, refl)
next_goes_after i q (partial (op (repetition b s k) rest) is up) = tt

pub next-after : (i : Input) (q n : ℕ) (f : Bool) (x y : PartialReading) → next i q x ≡ Some (move n f y)
    → After (is_positive n) x y
next-after i q n f x y e = let P : Option Move → Type 0 = λ m. GoesAfter x m in subst P e (next_goes_after i q x)
