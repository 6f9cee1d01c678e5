use Rattle.mbe_transcriber.proofs.WritingLemmas.{push_next, push_end}
use Rattle.mbe_transcriber.proofs.transcriber.push_puncts.Goals as goal

pub loop-punct-preserved : goal.loop-punct-preserved
loop-punct-preserved g c =
    push_next c.args.puncts.now c.loop-punct.punct-index _ _ c.loop-punct.builder c.push.new.self c.loop-punct-test.true
    c.loop-punct.invariant c.in_ok-push.ensures.ok

pub returns : goal.returns
returns g c = push_end c.args.puncts.now c.loop-punct.punct-index _ c.loop-punct.builder c.loop-punct-test.false
    c.loop-punct.invariant
