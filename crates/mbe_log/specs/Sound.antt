-- Invariants of a log: each list gives commands, they nest no deeper than nested commands were
-- written, and each entry stands for earlier ones alone.
use Rattle.std.specs.Prelude.{◌≡◌, ◌≤◌, ℕ, suc, max, List, slice_get, Some}
use Rattle.mbe_semantics.specs.declared.list_prefix.ListPrefix.{ListPrefix}
use Rattle.mbe_log.specs.declared.log.Command as code
use Rattle.mbe_log.specs.Chain.{Chain, IsChained}
use Rattle.mbe_semantics.specs.Bindings.Account.{Command, Commands, CommandRounds, no_commands}
use Rattle.mbe_semantics.specs.Bindings.Account.{command, no_command_rounds, command_round, Entry}
use Rattle.mbe_semantics.specs.Bindings.Account.{RoundEntry, Log, Order, IsOrdered, Gives}
use Rattle.mbe_semantics.specs.Bindings.Account.{GivesRounds, PartGives, PartGivesRounds}
use Rattle.mbe_log.specs.LogEntries.{log_of}

-- how deep commands nest
abbrev mutual
  pub command_depth : Command → ℕ
  command_depth (Command.binds name x) = 0
  command_depth (Command.binds_nothing name) = 0
  command_depth (Command.skips name) = 0
  command_depth (Command.misses name kind) = 0
  command_depth (Command.nests rs) = suc (rounds_depth rs)

  pub depth : Commands → ℕ
  depth no_commands = 0
  depth (command cs c) = max (depth cs) (command_depth c)

  pub rounds_depth : CommandRounds → ℕ
  rounds_depth no_command_rounds = 0
  rounds_depth (command_round rs cs) = max (rounds_depth rs) (depth cs)

-- the entries have an order of writing
abbrev pub HasOrder : Log → Type 0
HasOrder log = (order : Order) × IsOrdered log order

-- each list gives commands or rounds, and the entries have an order of writing
pub record IsGrounded (log : Log) (most : ℕ) : Type 0 where
  pub commands : (i : ℕ) (es : List Entry) → slice_get log.commands i ≡ Some es
      → (cs : Commands) × Gives log no_commands es cs × (depth cs ≤ most)
  pub rounds : (i : ℕ) (es : List RoundEntry) → slice_get log.rounds i ≡ Some es
      → (rs : CommandRounds) × GivesRounds log no_command_rounds es rs × (rounds_depth rs ≤ most)
  pub ordered : HasOrder log

pub record IsSound {A : Type 0} (commands : List (Chain (code.Command A)))
    (rounds : List (Chain ListPrefix))
    (most : ℕ) : Type 0 where
  pub links : IsChained commands
  pub round_links : IsChained rounds
  pub grounded : IsGrounded (log_of commands rounds) most

-- the command that an entry gives, unless the entry is a link
abbrev pub GivesCommand : Log → Entry → Command → Type 0
GivesCommand log (Entry.binds name x) c = c ≡ Command.binds name x
GivesCommand log (Entry.binds_nothing name) c = c ≡ Command.binds_nothing name
GivesCommand log (Entry.skips name) c = c ≡ Command.skips name
GivesCommand log (Entry.misses name kind) c = c ≡ Command.misses name kind
GivesCommand log (Entry.nests finished current) c =
    (rs : CommandRounds) × (ds : Commands) × PartGivesRounds log no_command_rounds finished rs
    × PartGives log no_commands current ds
    × (c ≡ Command.nests (command_round rs ds))
GivesCommand log (Entry.links part) c = ⊥
