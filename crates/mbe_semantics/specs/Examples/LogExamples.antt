-- What small lists of commands bind, and the trees for missing variables.
use Rattle.std.specs.Prelude.{◌≡◌, ℕ, zero, suc, List, [], ◌∷◌, codes, Some, None}
use Rattle.mbe_tt.specs.Trees.Tree.{none}
use Rattle.mbe_semantics.specs.declared.fragment_kinds.MetaVarKind.TheVariants as kinds
use Rattle.mbe_semantics.specs.declared.fragment_kinds.RepeatKind.TheVariants.{ZeroOrMore}
use Rattle.mbe_semantics.specs.Syntax.Op as ops
use Rattle.mbe_semantics.specs.Syntax.Op.{no_ops, op}
use Rattle.mbe_semantics.specs.Fragments.Kinds as fragments
use Rattle.mbe_semantics.specs.Readings.Item.{Fragment, Items, skipped, rounds, no_items, item}
use Rattle.mbe_semantics.specs.Readings.Item.{no_rounds, round}
use Rattle.mbe_semantics.specs.Bindings.Environment.{fragment, list, empty, missing, value}
use Rattle.mbe_semantics.specs.Bindings.Environment.{no_values, Environment, environment_of}
use Rattle.mbe_semantics.specs.Transcription.Rounds.{kept_rounds, finite, endless}
use Rattle.mbe_semantics.specs.Transcription.Substitution.{total_of}
use Rattle.mbe_semantics.specs.Bindings.Account.{Command, Commands, no_commands, command}
use Rattle.mbe_semantics.specs.Bindings.Account.{command_round, no_command_rounds, run, commands_of}
use Rattle.mbe_semantics.specs.Bindings.Account.{no_account, pushed, pushed_nested, pushed_default}
use Rattle.mbe_semantics.specs.Bindings.Account.{environment_of_account, Entry, HasOneListMore}
use Rattle.mbe_semantics.specs.Transcription.Concat.{if_identifier}
use Rattle.mbe_semantics.specs.Bindings.Missing.{default_trees}
use Rattle.mbe_semantics.specs.Examples.Sample.{at, taken, text_at, joint_at}

abbrev pub word_of : List ℕ → Fragment
word_of text = record { trees = text_at 1 0 text none; style = fragments.stripped }

abbrev pub binds_x : List ℕ → Command
binds_x text = Command.binds (codes "x") (word_of text)

abbrev pub one_command : Command → Commands
one_command c = command no_commands c

abbrev pub first_round : Items
first_round =
    item (item no_items (taken (codes "x") fragments.stripped (text_at 1 0 (codes "a") none)))
    (rounds no_rounds (item no_items
    (taken (codes "y") fragments.stripped (text_at 1 2 (codes "b") none))))

abbrev pub last_round : Items
last_round =
    item (item no_items (taken (codes "x") fragments.stripped (text_at 1 4 (codes "c") none)))
    (skipped (codes "y" ∷ []))

abbrev pub rounds_items : Items
rounds_items = item no_items (rounds (round no_rounds first_round 0) last_round)

-- a list with this many entries
abbrev pub entries : ℕ → List Entry
entries zero = []
entries (suc n) = Entry.skips (codes "x") ∷ entries n

pub record LogExamples : Type 0 where
  -- a copy may add a list of three entries, but not of four
  pub three_entries : HasOneListMore [] (entries 3 ∷ [])
  pub four_entries : HasOneListMore [] (entries 4 ∷ []) → ⊥
  -- a round that doesn't bind the name adds an empty list
  pub filled : run (one_command (Command.nests
      (command_round (command_round no_command_rounds no_commands)
      (one_command (binds_x (codes "a")))))) []
      ≡ (
        codes "x",
        list (value (list no_values)
            (value (fragment (word_of (codes "a"))) no_values)),
      ) ∷ []
  -- rounds don't change a value that isn't a list
  pub kept : run (command (one_command (binds_x (codes "a")))
      (Command.nests (command_round no_command_rounds (one_command (binds_x (codes "b")))))) []
      ≡ (codes "x", fragment (word_of (codes "a"))) ∷ []
  -- a later command replaces an earlier one
  pub replaced : run (command (one_command (binds_x (codes "a")))
      (Command.misses (codes "x") kinds.Ty)) []
      ≡ (codes "x", missing kinds.Ty) ∷ []
  -- a push comes after the pushes before it
  pub following : environment_of_account
      (pushed (Command.skips (codes "y")) (pushed (binds_x (codes "a")) no_account))
      ≡ (codes "x", fragment (word_of (codes "a"))) ∷ (codes "y", empty) ∷ []
  -- A child's rounds are pushed as they are. A later push to the child has no effect on them.
  pub nested : environment_of_account (pushed_nested no_account
      (pushed (binds_x (codes "b")) (pushed_default (pushed (binds_x (codes "a")) no_account))))
      ≡ (
        codes "x",
        list (value (fragment (word_of (codes "a")))
            (value (fragment (word_of (codes "b"))) no_values)),
      )
      ∷ []
  -- the commands of a reading bind the same as the reading
  pub alike : run (commands_of rounds_items) [] ≡ environment_of rounds_items

abbrev pub missing_x : Environment
missing_x = (codes "x", missing kinds.Ident) ∷ []

pub record DefaultExamples : Type 0 where
  pub tree : default_trees kinds.Tt (at 0 1 3) ≡ none
  pub visibility : default_trees kinds.Vis (at 0 1 3) ≡ none
  pub type : default_trees kinds.Ty (at 0 0 7) ≡ text_at 0 0 (codes "missing") none
  pub lifetime : default_trees kinds.Lifetime (at 0 0 1)
      ≡ joint_at 0 0 39 (default_trees kinds.Ident (at 0 0 1))
  -- A missing value ends a repetition that needs its fragment, but not one that only counts it.
  pub wanted : kept_rounds ZeroOrMore missing_x []
      (op (ops.variable (codes "x") None (at 0 0 1)) no_ops) ≡ finite 0
  pub counted : kept_rounds ZeroOrMore missing_x []
      (op (ops.expression (ops.count (codes "x") 0)) no_ops) ≡ endless
  pub number : total_of 0 (Some (missing kinds.Ident)) ≡ 1
  -- the characters that a joined identifier begins with
  pub digit : if_identifier (codes "1a") ≡ None
  pub nothing : if_identifier [] ≡ None
  pub underscore : if_identifier (codes "_1") ≡ Some (codes "_1")
