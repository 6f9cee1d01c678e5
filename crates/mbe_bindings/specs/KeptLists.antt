-- The lists of a compacted log.
use Rattle.std.specs.Prelude.{◌≡◌, ◌≤◌, ◌<◌, ℕ, suc, List, [], ◌∷◌, map, take, slice_get, Option}
use Rattle.std.specs.Prelude.{Some, None, option_map}
use Rattle.mbe_semantics.specs.declared.list_prefix.ListPrefix.{ListPrefix}
use Rattle.mbe_semantics.specs.Bindings.Account.{Entry, RoundEntry}
use Rattle.mbe_log.specs.declared.log.Command as code
use Rattle.mbe_log.specs.Chain.{Chain, chain_len, link_in, own_in}
use Rattle.mbe_log.specs.LogEntries.{entry_seen}
use Rattle.mbe_log.specs.declared.log.LogSize.{LogSize}
use Rattle.mbe_bindings.specs.declared.log_compaction.HandleMap.{HandleMap}
use Rattle.mbe_bindings.specs.LogCompaction.{Table, moved, IsKeptIn}

-- ---- entries, by the tables of the lists of commands and of rounds

module _ (commands rounds : Table) where
  -- the entry with the numbers of the new lists
  abbrev pub moved_entry : Entry → Entry
  moved_entry (Entry.nests finished current) =
      Entry.nests (moved rounds finished) (moved commands current)
  moved_entry (Entry.links part) = Entry.links (moved commands part)
  moved_entry (Entry.binds name x) = Entry.binds name x
  moved_entry (Entry.binds_nothing name) = Entry.binds_nothing name
  moved_entry (Entry.skips name) = Entry.skips name
  moved_entry (Entry.misses name kind) = Entry.misses name kind

  abbrev pub moved_round : RoundEntry → RoundEntry
  moved_round (RoundEntry.finishes part) = RoundEntry.finishes (moved commands part)
  moved_round (RoundEntry.links part) = RoundEntry.links (moved rounds part)

  -- everything that the entry stands for is kept
  abbrev pub RefersToKept : Entry → Type 0
  RefersToKept (Entry.nests finished current) = IsKeptIn rounds finished × IsKeptIn commands current
  RefersToKept (Entry.links part) = IsKeptIn commands part
  RefersToKept (Entry.binds name x) = Unit {0}
  RefersToKept (Entry.binds_nothing name) = Unit {0}
  RefersToKept (Entry.skips name) = Unit {0}
  RefersToKept (Entry.misses name kind) = Unit {0}

  abbrev pub RoundRefersToKept : RoundEntry → Type 0
  RoundRefersToKept (RoundEntry.finishes part) = IsKeptIn commands part
  RoundRefersToKept (RoundEntry.links part) = IsKeptIn rounds part

  -- the same for the code's commands
  module _ {A : Type 0} where
    abbrev pub moved_command : code.Command A → code.Command A
    moved_command (code.TheVariants.Fragment name x) = code.TheVariants.Fragment name x
    moved_command (code.TheVariants.Optional name) = code.TheVariants.Optional name
    moved_command (code.TheVariants.Empty name) = code.TheVariants.Empty name
    moved_command (code.TheVariants.Missing name kind) = code.TheVariants.Missing name kind
    moved_command (code.TheVariants.Nested finished current) =
        code.TheVariants.Nested (moved rounds finished) (moved commands current)

    abbrev pub CommandRefersToKept : code.Command A → Type 0
    CommandRefersToKept x = RefersToKept (entry_seen x)

-- ---- lists

module _ {T : Type 0} (table : Table) where
  -- the first entries of the list, each moved
  abbrev pub cut_list : (T → T) → ℕ → Chain T → Chain T
  cut_list f first l = record {
    link = option_map (moved table) (link_in l.link first);
    own = map f (take (own_in l.link first) l.own);
  }

  -- the list has that many entries, and a link among them is kept
  abbrev pub IsLinkKept : ℕ → Chain T → Type 0
  IsLinkKept first l = (first ≤ chain_len l)
      × ((q : ListPrefix) → link_in l.link first ≡ Some q → IsKeptIn table q)

  -- the list has that many entries, and everything that they stand for is kept
  pub record IsCutKept (P : T → Type 0) (first : ℕ) (l : Chain T) : Type 0 where
    pub fits : first ≤ chain_len l
    pub link : (q : ListPrefix) → link_in l.link first ≡ Some q → IsKeptIn table q
    pub own : (j : ℕ) (x : T) → j < own_in l.link first → slice_get l.own j ≡ Some x → P x

  -- the lists that the second table keeps
  abbrev pub kept_lists : (T → T) → Table → List (Chain T) → List (Chain T)
  kept_lists f [] ls = []
  kept_lists f (k ∷ t) [] = []
  kept_lists f (None ∷ t) (l ∷ ls) = kept_lists f t ls
  kept_lists f (Some k ∷ t) (l ∷ ls) = cut_list f k.first l ∷ kept_lists f t ls

  -- the kept entries of one list
  abbrev pub cut_at : (T → T) → Option ListPrefix → Option (Chain T) → Option (Chain T)
  cut_at f None l = None
  cut_at f (Some k) None = None
  cut_at f (Some k) (Some l) = Some (cut_list f k.first l)

  -- if this list is kept, it exists, and everything that its kept entries stand for is kept
  abbrev pub IsListKept : (T → Type 0) → List (Chain T) → ℕ → Type 0
  IsListKept P ls i = (k : ListPrefix) → slice_get table i ≡ Some (Some k)
      → (l : Chain T) × (slice_get ls i ≡ Some l) × IsCutKept P k.first l

  -- each kept list exists, and everything that its kept entries stand for is kept
  abbrev pub AreCutKept : (T → Type 0) → List (Chain T) → Type 0
  AreCutKept P ls = (i : ℕ) (k : ListPrefix) → slice_get table i ≡ Some (Some k)
      → (l : Chain T) × (slice_get ls i ≡ Some l) × IsCutKept P k.first l

-- The new numbers go up from n in the order of the old ones.
abbrev pub IsNumbered : ℕ → Table → Type 0
IsNumbered n [] = Unit {0}
IsNumbered n (None ∷ t) = IsNumbered n t
IsNumbered n (Some k ∷ t) = (k.list ≡ n) × IsNumbered (suc n) t

-- the first `count` lists are kept as they are, with their numbers
abbrev pub AreUnmoved : {T : Type 0} → Table → List (Chain T) → ℕ → Type 0
AreUnmoved {T} table ls count = (i : ℕ) → i < count
    → (l : Chain T) × (slice_get ls i ≡ Some l) × (slice_get table i
    ≡ Some (Some (record { list = i; first = chain_len l })))

-- everything that kept entries stand for is kept, and the lists of the extent stay as they are
pub record IsSoundCompaction {A : Type 0} (commands : List (Chain (code.Command A)))
    (rounds : List (Chain ListPrefix)) (extent :
    LogSize)
    (moves : HandleMap A) : Type 0 where
  pub commands_stay : AreUnmoved moves.commands.items commands extent.commands
  pub rounds_stay : AreUnmoved moves.rounds.items rounds extent.rounds
  pub commands_kept : AreCutKept moves.commands.items
      (CommandRefersToKept moves.commands.items moves.rounds.items) commands
  pub rounds_kept : AreCutKept moves.rounds.items (IsKeptIn moves.commands.items) rounds
