-- What a round binds, and invariants of the replay.
use Rattle.std.specs.Prelude.{◌≡◌, ◌≤◌, ℕ, List, [], map, drop, Some}
use Rattle.mbe_semantics.specs.declared.list_prefix.ListPrefix.{ListPrefix}
use Rattle.mbe_log.specs.declared.log.Command as code
use Rattle.mbe_log.specs.Chain.{Chain}
use Rattle.mbe_bindings.specs.FlatEntries.{entry_at}
use Rattle.mbe_log.specs.LogEntries.{entry_seen, log_of}
use Rattle.mbe_log.specs.Sound.{depth, command_depth, rounds_depth, GivesCommand}
use Rattle.mbe_semantics.specs.Bindings.Environment.{Environment}
use Rattle.mbe_semantics.specs.Bindings.Account.{Command, Commands, CommandRounds, no_commands}
use Rattle.mbe_semantics.specs.Bindings.Account.{no_command_rounds, command_round, Entry}
use Rattle.mbe_semantics.specs.Bindings.Account.{RoundEntry, Log, Gives, GivesRounds, PartGives}
use Rattle.mbe_semantics.specs.Bindings.Account.{PartGivesRounds, add_round_in, run, run_rounds}
use Rattle.mbe_semantics.specs.Bindings.Account.{round_count}

-- ---- preconditions: the commands nest at most `most` deep

abbrev pub IsPartGrounded : Log → ListPrefix → ℕ → Type 0
IsPartGrounded log part most = (cs : Commands) × PartGives log no_commands part cs
    × (depth cs ≤ most)

abbrev pub IsCommandGrounded : Log → Entry → ℕ → Type 0
IsCommandGrounded log e most = (c : Command) × GivesCommand log e c × (command_depth c ≤ most)

abbrev pub AreRoundsGrounded : Log → ListPrefix → ListPrefix → ℕ → Type 0
AreRoundsGrounded log finished last most =
    (rs : CommandRounds) × (ds : Commands) × PartGivesRounds log no_command_rounds finished rs
    × PartGives log no_commands last ds
    × (rounds_depth (command_round rs ds) ≤ most)

-- ---- results

-- the round of this number adds what its part of the log binds
abbrev pub BindsRound : {A : Type 0} → List (Chain (code.Command A)) → List (Chain ListPrefix)
    → ListPrefix → ℕ → Environment
    → Environment → Type 0
BindsRound commands rounds part number before after =
    (cs : Commands) → PartGives (log_of commands rounds) no_commands part cs →
    after ≡ add_round_in number (run cs []) before

module _ {A : Type 0} (commands : List (Chain (code.Command A))) (rounds : List (Chain ListPrefix))
    (slots : List ListPrefix)
    (i : ℕ) where
  -- the first i commands have bound this
  abbrev pub IsBuiltSoFar : Environment → Type 0
  IsBuiltSoFar env = (xs : List (code.Command A)) → map (entry_at commands) slots ≡ map Some xs
      → (cs : Commands)
      → Gives (log_of commands rounds) no_commands (map entry_seen xs) cs →
      (mid : Commands) × Gives (log_of commands rounds) mid (map entry_seen (drop i xs)) cs
      × (env ≡ run mid [])

  -- the first i rounds have bound this
  abbrev pub AreBoundSoFar : Environment → Environment → Type 0
  AreBoundSoFar before env = (xs : List ListPrefix) → map (entry_at rounds) slots ≡ map Some xs
      → (rs : CommandRounds)
      → GivesRounds (log_of commands rounds) no_command_rounds (map RoundEntry.finishes xs) rs →
      (mid : CommandRounds) × GivesRounds (log_of commands rounds) mid
      (map RoundEntry.finishes (drop i xs)) rs
      × (round_count mid ≡ i) × (env ≡ run_rounds mid before)
