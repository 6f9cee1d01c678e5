-- The first two partial readings of each state, and a walk by a stack that keeps no more.
use Rattle.std.specs.Prelude.{ℕ, zero, suc, ◌+◌, Bool, true, false, nat_eq, nat_lt, List, [], ◌∷◌}
use Rattle.std.specs.Prelude.{◌++◌, length}
use Rattle.mbe_semantics.specs.Readings.Input.{Input}
use Rattle.mbe_semantics.specs.Readings.Reading.{PartialReading}
use Rattle.mbe_semantics.specs.Readings.Steps.{epsilons}
use Rattle.mbe_semantics.specs.Matching.States.{state_number}

-- one more, if the test is true
abbrev pub plus_if : Bool → ℕ → ℕ
plus_if true n = suc n
plus_if false n = n

-- how often the number occurs in the list
abbrev pub times : ℕ → List ℕ → ℕ
times n [] = 0
times n (m ∷ ms) = plus_if (nat_eq n m) (times n ms)

-- the element in front, if the test is true
abbrev pub cons_if : {A : Type 0} → Bool → A → List A → List A
cons_if true x xs = x ∷ xs
cons_if false x xs = xs

-- the list in front, if the test is true
abbrev pub append_if : {A : Type 0} → Bool → List A → List A → List A
append_if true xs ys = xs ++ ys
append_if false xs ys = ys

-- The first k of each key, in order. The keys in `seen` came before and count.
abbrev pub first_of_each_key : {A : Type 0} → (A → ℕ) → ℕ → List ℕ → List A → List A
first_of_each_key key k seen [] = []
first_of_each_key key k seen (x ∷ xs) =
    cons_if (nat_lt (times (key x) seen) k) x (first_of_each_key key k (key x ∷ seen) xs)

-- the first two of each state
abbrev pub first_two_each : List PartialReading → List PartialReading
first_two_each xs = first_of_each_key state_number 2 [] xs

-- ---- the closure by a stack

-- The walk takes the element on top of the stack. If k elements of its key were seen, the walk
-- drops it. Else it emits the element, and pushes what `kids` gives for it. The first number bounds
-- the iterations.
unfoldable pub walk : {A : Type 0} → (A → List A) → (A → ℕ) → ℕ → ℕ → List ℕ → List A → List A
walk kids key k zero seen xs = []
walk kids key k (suc n) seen [] = []
walk kids key k (suc n) seen (x ∷ xs) =
    cons_if (nat_lt (times (key x) seen) k) x
    (walk kids key k n (cons_if (nat_lt (times (key x) seen) k) (key x) seen)
    (append_if (nat_lt (times (key x) seen) k) (kids x) xs))

-- the most iterations for a stack of n elements, where there are d states
abbrev pub turns : ℕ → ℕ → ℕ
turns n d = suc n + (d + d + d + d)

-- the bounded closure of the partial readings that arrive at an offset
abbrev pub closure_two_each : Input → ℕ → ℕ → List PartialReading → List PartialReading
closure_two_each i d q xs = walk (epsilons i q) state_number 2 (turns (length xs) d) [] xs
