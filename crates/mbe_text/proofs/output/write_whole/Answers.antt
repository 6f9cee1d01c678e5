use Rattle.mbe_text.proofs.WriterLemmas.{takes_on, takes_kept}
use Rattle.mbe_text.proofs.output.write_whole.Goals as goal
use Rattle.mbe_text.proofs.output.write_whole.Goals.{in-Ok, in-Err+else-ne}

pub calls-preserved : goal.calls-preserved
calls-preserved g c =
    elim c.match-write.branch [
      | in-Ok w ↦ rw w.rest-is (takes_on _ _ _ _ _ _ c.calls.invariant w.in-Ok.ensures.bytes)
      | in-Err+else-ne w ↦ rw w.rest-is (takes_kept _ _ _ _ _ c.calls.invariant w.in-Err.ensures.bytes)
    ]
