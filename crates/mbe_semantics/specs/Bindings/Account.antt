-- The log of bindings, the account of a handle, and what an account binds. This is the project's
-- own choice, after rust-analyzer's log.
use Rattle.std.specs.Prelude.{◌≡◌, ◌≢◌, ◌<◌, ◌≤◌, ℕ, zero, suc, List, [], ◌∷◌, ◌++◌, length, take}
use Rattle.std.specs.Prelude.{slice_get, Option, Some, None}
use Rattle.mbe_tt.specs.Trees.Tree.{none}
use Rattle.mbe_semantics.specs.declared.fragment_kinds.MetaVarKind.{MetaVarKind}
use Rattle.mbe_semantics.specs.declared.list_prefix.ListPrefix.{ListPrefix}
use Rattle.mbe_semantics.specs.Syntax.Op.{Name}
use Rattle.mbe_semantics.specs.Fragments.Kinds as fragments
use Rattle.mbe_semantics.specs.Readings.Item.{Fragment, Item, matched, bound, grouped, skipped}
use Rattle.mbe_semantics.specs.Readings.Item.{rounds, Items, no_items, item, Rounds, no_rounds}
use Rattle.mbe_semantics.specs.Readings.Item.{round}
use Rattle.mbe_semantics.specs.Bindings.Environment.{Value, fragment, list, empty, missing, Values}
use Rattle.mbe_semantics.specs.Bindings.Environment.{no_values, value, add_value, Environment}
use Rattle.mbe_semantics.specs.Bindings.Environment.{value_of, set_value}

-- Lists of commands and rounds grow at their end, as the log does.
mutual
  -- a command of the log
  pub data Command : Type 0 where
    binds : Name → Fragment → Command
    -- a variable with an empty fragment
    binds_nothing : Name → Command
    -- a repetition without rounds
    skips : Name → Command
    misses : Name → MetaVarKind → Command
    -- a repetition with rounds
    nests : CommandRounds → Command

  -- consecutive commands
  pub data Commands : Type 0 where
    no_commands : Commands
    command : Commands → Command → Commands

  -- consecutive rounds, each a list of commands
  pub data CommandRounds : Type 0 where
    no_command_rounds : CommandRounds
    command_round : CommandRounds → Commands → CommandRounds

-- an account: the rounds that are finished, and the commands of the current round
pub record Account : Type 0 where
  pub finished : CommandRounds
  pub current : Commands

-- the account of a new handle
abbrev pub no_account : Account
no_account = record { finished = no_command_rounds; current = no_commands }

-- the account with one more command
abbrev pub pushed : Command → Account → Account
pushed c a = record a { current = command a.current c }

-- all rounds, the current one as the last
abbrev pub all_rounds : Account → CommandRounds
all_rounds a = command_round a.finished a.current

-- the account with the child's rounds, as they are now
abbrev pub pushed_nested : Account → Account → Account
pushed_nested parent child = pushed (nests (all_rounds child)) parent

-- the current round is finished, and an empty one begins
abbrev pub pushed_default : Account → Account
pushed_default a = record { finished = all_rounds a; current = no_commands }

-- ---- what commands bind

-- an empty fragment
abbrev pub empty_fragment : Fragment
empty_fragment = record { trees = none; style = fragments.plain }

-- the list with empty lists after it, up to length n
abbrev pub filled : ℕ → Values → Values
filled zero vs = vs
filled (suc n) no_values = value (list no_values) (filled n no_values)
filled (suc n) (value v vs) = value v (filled n vs)

-- round i adds its value to the list of the name
abbrev pub grown_in : ℕ → Environment → Name → Value → Option Value → Environment
grown_in i env name v None = set_value env name (list (add_value (filled i no_values) v))
grown_in i env name v (Some (list vs)) = set_value env name (list (add_value (filled i vs) v))
grown_in i env name v (Some _) = env

-- each name of round i adds a value to its list
abbrev pub add_round_in : ℕ → Environment → Environment → Environment
add_round_in i [] env = env
add_round_in i (e ∷ more) env = add_round_in i more (grown_in i env e.0 e.1 (value_of env e.0))

-- how many rounds there are
abbrev pub round_count : CommandRounds → ℕ
round_count no_command_rounds = 0
round_count (command_round rs cs) = suc (round_count rs)

-- what the commands bind, in order, over earlier bindings
abbrev mutual
  pub run_command : Command → Environment → Environment
  run_command (binds name x) env = set_value env name (fragment x)
  run_command (binds_nothing name) env = set_value env name (fragment empty_fragment)
  run_command (skips name) env = set_value env name empty
  run_command (misses name kind) env = set_value env name (missing kind)
  run_command (nests rs) env = run_rounds rs env

  pub run : Commands → Environment → Environment
  run no_commands env = env
  run (command cs c) env = run_command c (run cs env)

  -- what rounds bind: each round is run by itself
  pub run_rounds : CommandRounds → Environment → Environment
  run_rounds no_command_rounds env = env
  run_rounds (command_round rs cs) env =
      add_round_in (round_count rs) (run cs []) (run_rounds rs env)

-- the environment of an account: that of its current list
abbrev pub environment_of_account : Account → Environment
environment_of_account a = run a.current []

-- ---- the commands of a reading

-- the commands that skip each name
abbrev pub skip_commands : List Name → Commands → Commands
skip_commands [] cs = cs
skip_commands (name ∷ names) cs = skip_commands names (command cs (skips name))

-- the commands of items, from left to right, after earlier commands
abbrev mutual
  pub write_item : Item → Commands → Commands
  write_item (matched n) cs = cs
  write_item (bound name x) cs = command cs (binds name x)
  write_item (grouped is) cs = write is cs
  write_item (skipped names) cs = skip_commands names cs
  write_item (rounds rs last) cs =
      command cs (nests (command_round (rounds_of_items rs) (write last no_commands)))

  pub write : Items → Commands → Commands
  write no_items cs = cs
  write (item is x) cs = write_item x (write is cs)

  pub rounds_of_items : Rounds → CommandRounds
  rounds_of_items no_rounds = no_command_rounds
  rounds_of_items (round rs is w) = command_round (rounds_of_items rs) (write is no_commands)

-- the commands of a whole reading
abbrev pub commands_of : Items → Commands
commands_of is = write is no_commands

-- ---- the log

-- an entry in a list of commands
pub data Entry : Type 0 where
  binds : Name → Fragment → Entry
  binds_nothing : Name → Entry
  skips : Name → Entry
  misses : Name → MetaVarKind → Entry
  -- the child's finished rounds, and its current list
  nests : ListPrefix → ListPrefix → Entry
  -- the commands of a prefix of another list
  links : ListPrefix → Entry

-- an entry in a list of rounds
pub data RoundEntry : Type 0 where
  -- a round: a prefix of a list of commands
  finishes : ListPrefix → RoundEntry
  -- the finished rounds of a prefix of another list
  links : ListPrefix → RoundEntry

-- all lists of the log
pub record Log : Type 0 where
  pub commands : List (List Entry)
  pub rounds : List (List RoundEntry)

-- a log without lists
abbrev pub no_lists : Log
no_lists = record { commands = []; rounds = [] }

-- a handle: a prefix of a list of commands, and a prefix of a list of rounds
pub record Handle : Type 0 where
  pub current : ListPrefix
  pub finished : ListPrefix

-- the list exists, and has at least as many entries as the prefix
abbrev pub IsIn : {E : Type 0} → List (List E) → ListPrefix → Type 0
IsIn {E} lists part = (es : List E) × (slice_get lists part.list ≡ Some es)
    × (part.first ≤ length es)

-- both lists of the handle exist
abbrev pub IsLive : Log → Handle → Type 0
IsLive log h = (h.current.list < length log.commands) × (h.finished.list < length log.rounds)

-- both lists of the handle exist, with as many entries as the handle says
abbrev pub HasEntriesOf : Log → Handle → Type 0
HasEntriesOf log h = IsIn log.commands h.current × IsIn log.rounds h.finished

-- two handles have no list in common
abbrev pub AreApart : Handle → Handle → Type 0
AreApart h k = (h.current.list ≢ k.current.list) × (h.finished.list ≢ k.finished.list)

-- For each entry, by its list and its index there, its number in the order of writing. The number
-- isn't stored.
pub record Order : Type 0 where
  pub commands : ℕ → ℕ → ℕ
  pub rounds : ℕ → ℕ → ℕ

module _ (log : Log) where
  mutual
    -- The commands after `cs` and the entries, if each part is replaced by what it stands for.
    pub data Gives : Commands → List Entry → Commands → Type 0 where
      gives_nothing : (cs : Commands) → Gives cs [] cs
      gives_binding : (cs : Commands) (name : Name) (x : Fragment) (es : List Entry)
          (all : Commands) →
          Gives (command cs (Command.binds name x)) es all → Gives cs (Entry.binds name x ∷ es) all
      gives_empty : (cs : Commands) (name : Name) (es : List Entry) (all : Commands) →
          Gives (command cs (Command.binds_nothing name)) es all
          → Gives cs (Entry.binds_nothing name ∷ es) all
      gives_skip : (cs : Commands) (name : Name) (es : List Entry) (all : Commands) →
          Gives (command cs (Command.skips name)) es all → Gives cs (Entry.skips name ∷ es) all
      gives_missing : (cs : Commands) (name : Name) (kind : MetaVarKind) (es : List Entry)
          (all : Commands) →
          Gives (command cs (Command.misses name kind)) es all
          → Gives cs (Entry.misses name kind ∷ es) all
      gives_nested : (cs : Commands) (finished current : ListPrefix) (es : List Entry)
          (rs : CommandRounds)
          (ds all : Commands) →
          PartGivesRounds no_command_rounds finished rs → PartGives no_commands current ds →
          Gives (command cs (Command.nests (command_round rs ds))) es all
          → Gives cs (Entry.nests finished current ∷ es) all
      gives_link : (cs : Commands) (part : ListPrefix) (es : List Entry) (ds all : Commands) →
          PartGives cs part ds → Gives ds es all → Gives cs (Entry.links part ∷ es) all

    -- the same for rounds
    pub data GivesRounds : CommandRounds → List RoundEntry → CommandRounds → Type 0 where
      gives_no_rounds : (rs : CommandRounds) → GivesRounds rs [] rs
      gives_round : (rs : CommandRounds) (part : ListPrefix) (es : List RoundEntry) (cs : Commands)
          (all : CommandRounds) →
          PartGives no_commands part cs → GivesRounds (command_round rs cs) es all
          → GivesRounds rs (RoundEntry.finishes part ∷ es) all
      gives_linked_rounds : (rs : CommandRounds) (part : ListPrefix) (es : List RoundEntry)
          (qs all : CommandRounds) →
          PartGivesRounds rs part qs → GivesRounds qs es all
          → GivesRounds rs (RoundEntry.links part ∷ es) all

    -- the commands after `cs` and the first entries of a list
    pub data PartGives : Commands → ListPrefix → Commands → Type 0 where
      part_gives : (cs : Commands) (part : ListPrefix) (all : Commands) (es : List Entry)
          → slice_get log.commands part.list ≡ Some es → part.first ≤ length es →
          Gives cs (take part.first es) all → PartGives cs part all

    -- the same for rounds
    pub data PartGivesRounds : CommandRounds → ListPrefix → CommandRounds → Type 0 where
      part_gives_rounds : (rs : CommandRounds) (part : ListPrefix) (all : CommandRounds)
          (es : List RoundEntry)
          → slice_get log.rounds part.list ≡ Some es → part.first ≤ length es →
          GivesRounds rs (take part.first es) all → PartGivesRounds rs part all

  -- the account of a handle
  pub record IsAccount (h : Handle) (a : Account) : Type 0 where
    pub current : PartGives no_commands h.current a.current
    pub finished : PartGivesRounds no_command_rounds h.finished a.finished

  -- ---- the order of writing

  module _ (order : Order) where
    -- all entries of the part have numbers below n
    abbrev pub IsBelow : ℕ → ListPrefix → Type 0
    IsBelow n part = IsIn log.commands part
        × ((j : ℕ) → j < part.first → order.commands part.list j < n)

    -- the same for rounds
    abbrev pub AreRoundsBelow : ℕ → ListPrefix → Type 0
    AreRoundsBelow n part = IsIn log.rounds part
        × ((j : ℕ) → j < part.first → order.rounds part.list j < n)

    -- the entry stands for entries with numbers below n
    abbrev pub NamesLower : ℕ → Entry → Type 0
    NamesLower n (Entry.nests finished current) = AreRoundsBelow n finished × IsBelow n current
    NamesLower n (Entry.links part) = IsBelow n part
    NamesLower n _ = Unit {0}

    -- the same for rounds
    abbrev pub RoundNamesLower : ℕ → RoundEntry → Type 0
    RoundNamesLower n (RoundEntry.finishes part) = IsBelow n part
    RoundNamesLower n (RoundEntry.links part) = AreRoundsBelow n part

    -- each entry stands for entries that were written before it
    pub record IsOrdered : Type 0 where
      pub commands : (i j : ℕ) (es : List Entry) (e : Entry) →
          slice_get log.commands i ≡ Some es → slice_get es j ≡ Some e
          → NamesLower (order.commands i j) e
      pub rounds : (i j : ℕ) (es : List RoundEntry) (e : RoundEntry) →
          slice_get log.rounds i ≡ Some es → slice_get es j ≡ Some e
          → RoundNamesLower (order.rounds i j) e

-- The log has one more list at its end, of at most three entries, and nothing else is changed.
abbrev pub HasOneListMore : {E : Type 0} → List (List E) → List (List E) → Type 0
HasOneListMore {E} old new = (es : List E) × (length es ≤ 3) × (new ≡ old ++ es ∷ [])
