-- What a step keeps of a match's log and open items.
use Rattle.mbe_semantics.specs.Bindings.Account.{Log}
use Rattle.mbe_matcher.specs.declared.closure.MatchState.{MatchState}
use Rattle.mbe_matcher.specs.Threads.{Keeps}

-- everything that was in the log and among the open items is still there
abbrev pub KeepsMatchState : {A : Type 0} → Log → Log → MatchState A → MatchState A → Type 0
KeepsMatchState old new before after = Keeps old new before.frames.items after.frames.items
