-- What a write into a log does to its handle and to all other handles.
use Rattle.mbe_semantics.specs.Bindings.Account.{Account, Log, Handle, IsAccount, HasEntriesOf}
use Rattle.mbe_log.specs.HandleChanges.{KeepsHandles}

-- The write turns the handle's account into another one, and keeps everything that was live.
pub record IsRewritten (old new : Log) (before after : Handle) (turned : Account
    → Account) : Type 0 where
  pub entries : HasEntriesOf new after
  pub account : (a : Account) → IsAccount old before a → IsAccount new after (turned a)
  pub kept : KeepsHandles old new
