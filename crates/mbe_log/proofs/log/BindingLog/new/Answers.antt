use Rattle.std.proofs.Common.{[], subst, sym}
use Rattle.mbe_log.specs.Sound.{IsSound}
use Rattle.mbe_log.proofs.SoundLemmas.{sound-none}
use Rattle.mbe_log.proofs.log.BindingLog.new.Goals as goal

pub invariant_of-result : goal.invariant_of-result
invariant_of-result g c =
    subst (λ x. IsSound x c.new-2.result.items 0) (sym c.new.ensures.items)
    (subst (λ x. IsSound {A = g.row.A.Denot} [] x 0) (sym c.new-2.ensures.items) sound-none)
