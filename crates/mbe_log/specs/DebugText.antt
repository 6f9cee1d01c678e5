-- The text that `{:?}` prints for a log.
use Rattle.std.specs.Prelude.{ℕ, List, ◌++◌, codes, length}
use Rattle.std.specs.Fmt.{decimal}
use Rattle.mbe_semantics.specs.Bindings.Account.{Log}

-- the number of lists of each sort, in decimal
abbrev pub log_text : Log → List ℕ
log_text log =
    codes "BindingLog { commands: " ++ (decimal (length log.commands)
    ++ (codes ", rounds: " ++ (decimal (length log.rounds) ++ codes " }")))
