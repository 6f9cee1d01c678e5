-- What the lists of threads in the program stand for.
use Rattle.std.specs.Prelude.{ℕ, ◌≡◌, Option, Some, None, Bool, false, ◌||◌, not, nat_eq, List, []}
use Rattle.std.specs.Prelude.{◌∷◌, map, reverse}
use Rattle.mbe_semantics.specs.Syntax.Op.{Ops}
use Rattle.mbe_semantics.specs.Readings.Input.{Input}
use Rattle.mbe_semantics.specs.Readings.Reading.{PartialReading, EndsAt}
use Rattle.mbe_semantics.specs.Matching.Lists.{In}
use Rattle.mbe_semantics.specs.Syntax.Nullable.{Checked}
use Rattle.mbe_semantics.specs.Matching.ThreadModel.{ThreadModel, Advance, advance, erase}
use Rattle.mbe_semantics.specs.Matching.ThreadModel.{erase_move}
use Rattle.mbe_semantics.specs.Matching.Closure.{closure, moves_of, completions}
use Rattle.mbe_semantics.specs.Bindings.Account.{Commands, commands_of}

-- The stack, with its top last, stands for partial readings that end at q, with that of the top
-- first.
pub record Stack (i : Input) (pat : Ops) (q : ℕ) (xs : List PartialReading)
    (thread_stack : List ThreadModel) : Type 0 where
  pub sound : (x : PartialReading) → In x xs → EndsAt i pat q x
  pub same : map erase xs ≡ reverse thread_stack

-- The closure of the stack `thread_stack` has these steps over tokens, and these commands at the
-- end of
-- the pattern.
abbrev pub Frontier : Input → ℕ → List ThreadModel → List Advance → List Commands → Type 0
Frontier i q thread_stack ws n =
    (pat : Ops) (xs : List PartialReading) → Checked pat → Stack i pat q xs thread_stack →
    (ws ≡ map erase_move (moves_of i q (closure i q xs)))
    × (n ≡ map commands_of (completions (closure i q xs)))

-- where a step leads
abbrev pub after_of : Advance → ThreadModel
after_of (advance n f o) = o

-- the test for a local ambiguity with a step over n flat tokens
abbrev pub ambiguous_with : ℕ → Bool → List Advance → Bool
ambiguous_with n f [] = false
ambiguous_with n f (advance m g o ∷ ws) = (f || g || not (nat_eq n m)) || ambiguous_with n f ws

-- two of the steps are a local ambiguity
abbrev pub ambiguity : List Advance → Bool
ambiguity [] = false
ambiguity (advance n f o ∷ ws) = ambiguous_with n f ws

-- how many flat tokens the first step consumes
abbrev pub first_width : List Advance → Option ℕ
first_width [] = None
first_width (advance n f o ∷ ws) = Some n
