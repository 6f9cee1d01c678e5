use Rattle.std.proofs.Common.{ap, ◌∙◌, length}
use Rattle.mbe_tt.proofs.Buffers.Built.{length-put}
use Rattle.mbe_transcriber.proofs.WritingLemmas.{writes_punct, writes_last_punct}
use Rattle.mbe_transcriber.proofs.transcriber.write_puncts.Goals as goal

pub loop-punct-preserved : goal.loop-punct-preserved
loop-punct-preserved g c = record {
  open_groups = ap length c.in_ok-push.ensures.ok
      ∙ (length-put c.loop-punct.builder _ ∙ c.loop-punct.invariant.open_groups);
  written = λ last w. c.loop-punct.invariant.written last
      (writes_punct _ c.args.puncts.now c.loop-punct.punct-index _ c.mark.result c.loop-punct.builder c.push.new.self
      last c.loop-punct-test.true
      c.mark.ensures c.in_ok-push.ensures.ok w);
}

pub returns-clause-written : goal.returns-clause-written
returns-clause-written g c =
    c.loop-punct.invariant.written c.loop-punct.builder
    (writes_last_punct _ c.args.puncts.now c.loop-punct.punct-index c.loop-punct.builder c.loop-punct-test.false)
