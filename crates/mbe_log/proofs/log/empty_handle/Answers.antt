use Rattle.std.proofs.Common.{subst}
use Rattle.mbe_log.specs.HandleChanges.{IsEmptied}
use Rattle.mbe_log.proofs.ClientLemmas.{none_of, emptied-none}
use Rattle.mbe_log.proofs.log.empty_handle.Goals as goal

pub returns : goal.returns
returns c = subst (λ h. IsEmptied h (none_of
    (record { current = c.handle.inside.current; finished = c.handle.inside.finished }))) c.handle.view_is
    (emptied-none (record { current = c.handle.inside.current; finished = c.handle.inside.finished }))
