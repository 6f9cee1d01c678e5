-- Whether each state was visited at an offset.
use Rattle.std.specs.Prelude.{ℕ, suc, ◌-◌, ◌==◌, ◌≡◌, ◌<◌, ◌≤◌, if◌then◌else◌, Bool, false, Option}
use Rattle.std.specs.Prelude.{Some, None, List, [], length, slice_index_or}
use Rattle.std.specs.List.{sum_by}
use Rattle.mbe_laws.specs.Bounded.ClosureTwoEach.{times}

-- the state's last visit was at this offset
abbrev pub is_visited : ℕ → Option ℕ → Bool
is_visited offset None = false
is_visited offset (Some p) = p == offset

-- the number of visits at the offset: one at most
abbrev pub visits_at : ℕ → Option ℕ → ℕ
visits_at offset m = if is_visited offset m then 1 else 0

-- The states with these numbers were visited at the offset, and no others.
pub record AreVisited (offsets : List (Option ℕ)) (offset : ℕ) (visited : List ℕ) : Type 0 where
  pub counted : (n : ℕ) → n < length offsets → visits_at offset (slice_index_or offsets n None)
      ≡ times (suc n) visited

-- no state was visited at the offset or at a later one
abbrev pub AreUnvisitedFrom : List (Option ℕ) → ℕ → Type 0
AreUnvisitedFrom offsets offset = (q : ℕ) → offset ≤ q → AreVisited offsets q []

-- how many states may still be visited at the offset
abbrev pub unvisited : ℕ → List (Option ℕ) → ℕ
unvisited offset offsets = sum_by (λ m. 1 - visits_at offset m) offsets
