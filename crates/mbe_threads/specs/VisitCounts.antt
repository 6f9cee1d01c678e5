-- How often each state was visited at an offset.
use Rattle.std.specs.Prelude.{ℕ, suc, ◌-◌, ◌==◌, ◌≡◌, ◌<◌, ◌≤◌, if◌then◌else◌, List, [], length}
use Rattle.std.specs.Prelude.{slice_index_or}
use Rattle.std.specs.List.{sum_by}
use Rattle.mbe_laws.specs.Bounded.ClosureTwoEach.{times}
use Rattle.mbe_threads.specs.declared.visit_counts.Mark.{Mark}

-- the number of visits that the mark counts at the offset
abbrev pub count_at : ℕ → Mark → ℕ
count_at offset m = if m.offset == offset then m.count else 0

abbrev pub unvisited : Mark
unvisited = record { offset = 0; count = 0 }

-- The marks count these visits at the offset: each state as often as its number is in `visited`.
pub record AreCounted (marks : List Mark) (offset : ℕ) (visited : List ℕ) : Type 0 where
  pub counted : (n : ℕ) → n < length marks → count_at offset (slice_index_or marks n unvisited)
      ≡ times (suc n) visited

-- no state was visited at the offset or at a later one
abbrev pub NoVisitsFrom : List Mark → ℕ → Type 0
NoVisitsFrom marks offset = (q : ℕ) → offset ≤ q → AreCounted marks q []

-- how many more visits the marks allow at the offset, over all states
abbrev pub vacancies : ℕ → List Mark → ℕ
vacancies offset marks = sum_by (λ m. 2 - count_at offset m) marks
