-- Compaction: a log with the entries of another log that some handles need. Its lists have new
-- numbers, so each handle is replaced by another one.
use Rattle.std.specs.Prelude.{◌≡◌, ◌≤◌, ℕ, List, length, slice_get, Option, Some, None}
use Rattle.mbe_semantics.specs.declared.list_prefix.ListPrefix.{ListPrefix}
use Rattle.mbe_semantics.specs.Bindings.Account.{Account, Log, Handle, HasEntriesOf, IsAccount}
use Rattle.mbe_log.specs.declared.log.LogSize.{LogSize}
use Rattle.mbe_bindings.specs.declared.log_compaction.HandleMap.{HandleMap}

-- for each list: its new number and how many of its first entries are kept, or none if it isn't
-- kept
abbrev pub Table : Type 0
Table = List (Option ListPrefix)

-- the entry of a table for a list
abbrev pub kept_of : Option (Option ListPrefix) → Option ListPrefix
kept_of None = None
kept_of (Some kept) = kept

abbrev pub number_in : Option (Option ListPrefix) → ℕ
number_in None = 0
number_in (Some None) = 0
number_in (Some (Some kept)) = kept.list

-- the same entries in the new list
abbrev pub moved : Table → ListPrefix → ListPrefix
moved table part = record { list = number_in (slice_get table part.list); first = part.first }

-- the entries of the part are kept
abbrev pub IsKeptIn : Table → ListPrefix → Type 0
IsKeptIn table part = (kept : ListPrefix) × (slice_get table part.list ≡ Some (Some kept))
    × (part.first ≤ kept.first)

-- the entries of the handle are kept, and the other handle stands for them in the new log
abbrev pub Maps : {A : Type 0} → HandleMap A → Handle → Handle → Type 0
Maps moves before after =
    IsKeptIn moves.commands.items before.current × IsKeptIn moves.rounds.items before.finished
    × (after ≡ record {
      current = moved moves.commands.items before.current;
      finished = moved moves.rounds.items before.finished;
    })

-- The second handle stands for the same entries in the new log.
pub record IsMoved (old new : Log) (before after : Handle) : Type 0 where
  pub entries : HasEntriesOf old before → HasEntriesOf new after
  pub account : (a : Account) → IsAccount old before a → IsAccount new after a

-- the log has at most that many lists
abbrev pub HasAtMost : LogSize → Log → Type 0
HasAtMost extent log = (length log.commands ≤ extent.commands) × (length log.rounds ≤ extent.rounds)
