-- The invariant of a walk along the links of a list.
use Rattle.std.specs.Prelude.{◌≡◌, ◌+◌, ℕ, List, ◌++◌, map, reverse, Option, Some, None}
use Rattle.mbe_semantics.specs.declared.list_prefix.ListPrefix.{ListPrefix}
use Rattle.mbe_log.specs.Chain.{Chain, IsWithin}
use Rattle.mbe_bindings.specs.FlatEntries.{Flat, entry_at}

-- the number of lists that may still come
abbrev pub left_of : Option ListPrefix → ℕ
left_of None = 0
left_of (Some p) = p.list + 1

module _ {T : Type 0} (lists : List (Chain T)) where
  -- the entries found, last first, and the part that is in front of them
  abbrev pub Collected : ListPrefix → Option ListPrefix → List T → Type 0
  Collected part None found = Flat lists part (reverse found)
  Collected part (Some next) found = IsWithin lists next
      × ((ys : List T) → Flat lists next ys → Flat lists part (ys ++ reverse found))

  -- the slots of the entries found, likewise
  abbrev pub SlotsCollected : ListPrefix → Option ListPrefix → List ListPrefix → Type 0
  SlotsCollected part next slots = (found : List T) × (map (entry_at lists) slots ≡ map Some found)
      × Collected part next found
