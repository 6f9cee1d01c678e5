use Rattle.std.proofs.Common.{rules}
use Rattle.mbe_program.specs.Replies.Answers.{answer_of}
use Rattle.mbe_program.specs.Replies.Requests.{source_of}
use Rattle.mbe_program.specs.Replies.ReadMacros.{AnswersBy}
use Rattle.mbe_c.specs.Batch.{answers_seen}
use Rattle.mbe_c.proofs.EachLemmas.{one_answer_more}
use Rattle.mbe_c.proofs.batch.expand_pieces.Goals as goal

pub loop-piece-preserved : goal.loop-piece-preserved
loop-piece-preserved g c =
    one_answer_more (AnswersBy c.args.rules.now) (source_of c.args.all) c.args.pieces.now c.loop-piece.piece-index _
    (answer_of c.expand_piece.result) (answers_seen c.loop-piece.answers) (answers_seen c.add.new.self) (search rules)
    c.loop-piece.invariant
    c.expand_piece.ensures c.in_ok-add.ensures
