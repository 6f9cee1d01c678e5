-- What a call changes for the handles of a log.
use Rattle.std.specs.Prelude.{◌≡◌, ◌+◌, ℕ, zero, suc, List, [], ◌∷◌, ◌++◌, length, slice_get}
use Rattle.std.specs.Prelude.{Option, Some, None}
use Rattle.mbe_semantics.specs.declared.list_prefix.ListPrefix.{ListPrefix}
use Rattle.mbe_semantics.specs.Bindings.Account.{Account, no_account, Entry, RoundEntry, Log}
use Rattle.mbe_semantics.specs.Bindings.Account.{Handle, IsLive, HasEntriesOf, AreApart, IsAccount}

-- the part ends where its list ends
abbrev pub IsWhole : {E : Type 0} → List (List E) → ListPrefix → Type 0
IsWhole {E} lists part = (es : List E) × (slice_get lists part.list ≡ Some es)
    × (part.first ≡ length es)

-- both parts end where their lists end: nothing was pushed after them
abbrev pub IsAtEnd : Log → Handle → Type 0
IsAtEnd log h = IsWhole log.commands h.current × IsWhole log.rounds h.finished

-- Each live handle stays live, with its entries and its account.
pub record KeepsHandles (old new : Log) : Type 0 where
  pub stays : (k : Handle) → IsLive old k → IsLive new k
  pub entries : (k : Handle) → HasEntriesOf old k → HasEntriesOf new k
  pub others : (k : Handle) (a : Account) → IsAccount old k a → IsAccount new k a

-- A handle has no entries, in each log in which the other one has its entries.
pub record IsEmptied (held given : Handle) : Type 0 where
  pub entries : (log : Log) → HasEntriesOf log held → HasEntriesOf log given
  pub account : (log : Log) → HasEntriesOf log held → IsAccount log given no_account

-- A handle is new: it is live, and apart from all that were. Nothing changes for those.
pub record IsNewHandle (old new : Log) (given : Handle) : Type 0 where
  pub live : IsLive new given
  pub entries : HasEntriesOf new given
  pub ends : IsAtEnd new given
  pub apart : (k : Handle) → IsLive old k → AreApart given k
  pub kept : KeepsHandles old new
  pub still : (k : Handle) → IsAtEnd old k → IsAtEnd new k

-- A handle is replaced by a longer one, and its account is changed by `turned`. Nothing changes for
-- the live handles, including the old one. A handle that is apart from it stays apart, and at the
-- end of its lists.
pub record IsUpdatedHandle (old new : Log) (before after : Handle) (turned : Account
    → Account) : Type 0 where
  pub live : IsLive new after
  pub entries : HasEntriesOf new after
  pub account : (a : Account) → IsAccount old before a → IsAccount new after (turned a)
  pub ends : IsAtEnd old before → IsAtEnd new after
  pub apart : (k : Handle) → IsLive old k → AreApart before k → AreApart after k
  pub kept : KeepsHandles old new
  pub still : (k : Handle) → AreApart before k → IsAtEnd old k → IsAtEnd new k

-- A handle at the end of its lists gets one command more, in the same list.
abbrev pub WritesOne : Log → Handle → Handle → Type 0
WritesOne old before after =
    IsAtEnd old before → (after.current
    ≡ record { list = before.current.list; first = before.current.first + 1 })
    × (after.finished ≡ before.finished)

-- A handle at the end of its lists gets one finished round more; its new list of commands is empty.
abbrev pub WritesRound : Log → Handle → Handle → Type 0
WritesRound old before after =
    IsAtEnd old before → (after.current.first ≡ 0)
    × (after.finished ≡ record { list = before.finished.list; first = before.finished.first + 1 })

abbrev pub len_at : {E : Type 0} → Option (List E) → ℕ
len_at None = 0
len_at (Some es) = length es

-- the lengths of a handle's lists
abbrev pub current_len : Log → Handle → ℕ
current_len log h = len_at (slice_get log.commands h.current.list)

abbrev pub finished_len : Log → Handle → ℕ
finished_len log h = len_at (slice_get log.rounds h.finished.list)

-- the list at the index with one entry more
abbrev pub appended : {E : Type 0} → List (List E) → ℕ → E → List (List E)
appended [] i e = []
appended (es ∷ more) zero e = (es ++ e ∷ []) ∷ more
appended (es ∷ more) (suc i) e = es ∷ appended more i e

-- the entry refers to no other list
abbrev pub IsPlain : Entry → Type 0
IsPlain (Entry.nests finished current) = ⊥
IsPlain (Entry.links part) = ⊥
IsPlain _ = Unit {0}

-- the log with one list more
abbrev pub with_list : Log → List Entry → Log
with_list log es = record log { commands = log.commands ++ es ∷ [] }

abbrev pub with_round_list : Log → List RoundEntry → Log
with_round_list log fs = record log { rounds = log.rounds ++ fs ∷ [] }
