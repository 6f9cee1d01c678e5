use Rattle.std.proofs.Common.{◌≡◌, drop}
use Rattle.mbe_tt.specs.Buffers.GroupStack.{put}
use Rattle.mbe_semantics.specs.Transcription.Substitution.{punct_trees}
use Rattle.mbe_transcriber.proofs.transcriber.push_puncts.Given as goal

abbrev pub invariant-loop-punct : goal.invariant-loop-punct
invariant-loop-punct g l = put (punct_trees (drop l.punct-index l.puncts)) l.builder
    ≡ put (punct_trees l.puncts) l.initial.builder
