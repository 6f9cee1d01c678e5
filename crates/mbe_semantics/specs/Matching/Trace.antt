-- What a partial reading has read, without its ops. It is enough to tell two partial readings
-- apart, and to undo the last step.
use Rattle.std.specs.Prelude.{ℕ, zero, suc, ◌+◌, List, [], ◌∷◌, Bool, true, false}
use Rattle.mbe_tt.specs.Trees.Tree.{flat_len}
use Rattle.mbe_semantics.specs.Readings.Item.{Item, matched, bound, grouped, skipped, rounds, Items}
use Rattle.mbe_semantics.specs.Readings.Item.{no_items, item, Rounds, no_rounds, round}
use Rattle.mbe_semantics.specs.Readings.Reading.{Frame, inside, within, PartialReading, partial}

-- an open group or repetition, with what was read before it
pub data OpenItem : Type 0 where
  in_group : Items → OpenItem
  in_round : Items → Rounds → OpenItem

-- what was read in the innermost open group or repetition, and all open ones
pub data Trace : Type 0 where
  trace_of : Items → List OpenItem → Trace

-- an open group or repetition without its ops
abbrev pub open_item_of : Frame → OpenItem
open_item_of (inside d b rest is) = in_group is
open_item_of (within b s k rest is rs) = in_round is rs

-- all open groups and repetitions without their ops
abbrev pub open_items_of : List Frame → List OpenItem
open_items_of [] = []
open_items_of (f ∷ up) = open_item_of f ∷ open_items_of up

-- a partial reading without its ops
abbrev pub trace : PartialReading → Trace
trace (partial rest is up) = trace_of is (open_items_of up)

-- the last step undone
abbrev pub before : Trace → Trace
before (trace_of no_items []) = trace_of no_items []
before (trace_of no_items (in_group js ∷ up)) = trace_of js up
before (trace_of no_items (in_round js no_rounds ∷ up)) = trace_of js up
before (trace_of no_items (in_round js (round rs last w) ∷ up)) =
    trace_of last (in_round js rs ∷ up)
before (trace_of (item is (matched n)) up) = trace_of is up
before (trace_of (item is (bound name x)) up) = trace_of is up
before (trace_of (item is (skipped names)) up) = trace_of is up
before (trace_of (item is (grouped inner)) up) = trace_of inner (in_group is ∷ up)
before (trace_of (item is (rounds rs last)) up) = trace_of last (in_round is rs ∷ up)

-- the number isn't 0
abbrev pub is_positive : ℕ → Bool
is_positive zero = false
is_positive (suc n) = true

-- whether the last step consumed a token
abbrev pub fresh : Trace → Bool
fresh (trace_of no_items []) = false
fresh (trace_of no_items (in_group js ∷ up)) = true
fresh (trace_of no_items (in_round js no_rounds ∷ up)) = false
fresh (trace_of no_items (in_round js (round rs last w) ∷ up)) = is_positive w
fresh (trace_of (item is (matched n)) up) = is_positive n
fresh (trace_of (item is (bound name x)) up) = is_positive (flat_len x.trees)
fresh (trace_of (item is (skipped names)) up) = false
fresh (trace_of (item is (grouped inner)) up) = true
fresh (trace_of (item is (rounds rs last)) up) = false

-- how many steps were taken
abbrev mutual
  pub item_steps : Item → ℕ
  item_steps (matched n) = 1
  item_steps (bound name x) = 1
  item_steps (grouped is) = 2 + items_steps is
  item_steps (skipped names) = 1
  item_steps (rounds rs last) = 2 + rounds_steps rs + items_steps last

  pub items_steps : Items → ℕ
  items_steps no_items = 0
  items_steps (item is i) = items_steps is + item_steps i

  pub rounds_steps : Rounds → ℕ
  rounds_steps no_rounds = 0
  rounds_steps (round rs is w) = 1 + rounds_steps rs + items_steps is

-- the steps outside the innermost open group or repetition
abbrev pub open_items_steps : List OpenItem → ℕ
open_items_steps [] = 0
open_items_steps (in_group is ∷ up) = 1 + items_steps is + open_items_steps up
open_items_steps (in_round is rs ∷ up) = 1 + items_steps is + rounds_steps rs + open_items_steps up

-- all steps
abbrev pub steps : Trace → ℕ
steps (trace_of is up) = items_steps is + open_items_steps up
