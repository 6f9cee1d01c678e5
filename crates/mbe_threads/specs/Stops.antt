-- Where the threads of a match stop, and how they go on.
use Rattle.std.specs.Prelude.{ℕ, ◌==◌, if◌then◌else◌, Bool, false, ◌||◌, not, nat_eq, is_some, List}
use Rattle.std.specs.Prelude.{[], ◌∷◌, Option, Some, None}
use Rattle.mbe_semantics.specs.Readings.Verdict.{Verdict, one_reading, many_readings, ambiguous}
use Rattle.mbe_semantics.specs.Readings.Verdict.{stuck}
use Rattle.mbe_semantics.specs.Bindings.Account.{Handle}
use Rattle.mbe_threads.specs.declared.thread.Thread.{Thread}
use Rattle.mbe_threads.specs.declared.thread.TokenStep.{TokenStep}
use Rattle.mbe_threads.specs.declared.stops.Stop.{Stop}
use Rattle.mbe_threads.specs.declared.stops.Stop.TheVariants as variants

-- ---- steps over tokens

-- one of the steps, and a step over `n` tokens (by fragment or not), are a local ambiguity

abbrev pub is_ambiguous_with : {A : Type 0} → ℕ → Bool → List (TokenStep A) → Bool
is_ambiguous_with n f [] = false
is_ambiguous_with n f (w ∷ ws) = (f || is_some w.beyond || not (nat_eq n w.width))
    || is_ambiguous_with n f ws

-- two of the steps are a local ambiguity
abbrev pub is_ambiguity : {A : Type 0} → List (TokenStep A) → Bool
is_ambiguity [] = false
is_ambiguity (w ∷ ws) = is_ambiguous_with w.width (is_some w.beyond) ws

-- how many flat tokens the first step consumes
abbrev pub width_first : {A : Type 0} → List (TokenStep A) → Option ℕ
width_first [] = None
width_first (w ∷ ws) = Some w.width

abbrev pub thread_after : {A : Type 0} → TokenStep A → Thread A
thread_after w = w.after

-- ---- where the threads stop

abbrev pub verdict_in : Stop → Verdict
verdict_in (variants.OneReading h) = one_reading
verdict_in variants.ManyReadings = many_readings
verdict_in (variants.Ambiguous q) = ambiguous q
verdict_in (variants.Stuck q) = stuck q

-- the handle of the only reading
abbrev pub reading_in : Stop → Option Handle
reading_in (variants.OneReading h) = Some h
reading_in variants.ManyReadings = None
reading_in (variants.Ambiguous q) = None
reading_in (variants.Stuck q) = None

-- the verdict at the argument's end, with these handles at the pattern's end
abbrev pub verdict_at_end : ℕ → List Handle → Verdict
verdict_at_end offset [] = stuck offset
verdict_at_end offset (h ∷ []) = one_reading
verdict_at_end offset (h ∷ k ∷ hs) = many_readings

-- no thread has a step
abbrev pub stuck_at : {A : Type 0} → ℕ → List (TokenStep A) → Option Verdict
stuck_at q [] = Some (stuck q)
stuck_at q (w ∷ ws) = None

-- the verdict, if the threads stop at this offset of an argument of `len` flat tokens
abbrev pub stop_at : {A : Type 0} → ℕ → ℕ → List (TokenStep A) → List Handle → Option Verdict
stop_at q len ws hs =
    if q == len then Some (verdict_at_end q hs) else if is_ambiguity ws then Some (ambiguous q)
    else stuck_at q
    ws
