use Rattle.std.proofs.Common.{ap, map}
use Rattle.mbe_session.specs.Explanation.{note_seen}
use Rattle.mbe_session.proofs.EmitterLemmas.{diagnostics_after}
use Rattle.mbe_session.proofs.session.Session.diagnostics.Goals as goal

pub returns : goal.returns
returns c =
    diagnostics_after _ _ _ _ _ _ _ _ c.push_diagnostics.new.diagnostics.items _ c.deref.ensures.value
    c.deref-3.ensures.value (ap (map note_seen) c.deref-2.ensures.value) (ap (map note_seen) c.deref-4.ensures.value)
    c.new-diagnostics.ensures.items c.in_ok-push_diagnostics.ensures c.in_ok-push_diagnostics-2.ensures
