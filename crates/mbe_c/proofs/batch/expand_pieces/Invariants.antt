use Rattle.std.proofs.Common.{take}
use Rattle.mbe_program.specs.Replies.Requests.{source_of}
use Rattle.mbe_program.specs.Replies.ReadMacros.{AnswersBy}
use Rattle.mbe_c.specs.Batch.{AreJoined, answers_seen}
use Rattle.mbe_c.proofs.batch.expand_pieces.Given as goal

abbrev pub invariant-loop-piece : goal.invariant-loop-piece
invariant-loop-piece g l =
    AreJoined (AnswersBy l.rules) (source_of l.all) (take l.piece-index l.pieces) (answers_seen l.answers)
