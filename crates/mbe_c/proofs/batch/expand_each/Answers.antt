use Rattle.std.proofs.Common.{inl}
use Rattle.mbe_program.specs.Replies.Requests.{source_of}
use Rattle.mbe_c.specs.Batch.{answers_seen}
use Rattle.mbe_c.proofs.EachLemmas.{joined_allowed}
use Rattle.mbe_c.proofs.batch.expand_each.Goals as goal

pub returns-in-Err-clause-fails : goal.returns-in-Err-clause-fails
returns-in-Err-clause-fails g c = inl c.in-Err.ensures.fails

pub returns-in-Ok-expand_pieces-clause-expands : goal.returns-in-Ok-expand_pieces-clause-expands
returns-in-Ok-expand_pieces-clause-expands g c =
    joined_allowed c.in-Ok.rules c.args.request.now c.args.grammar.now (source_of c.args.definition)
    c.in-Ok.ensures.read (source_of c.args.all)
    c.args.pieces.now (answers_seen c.in-Ok-expand_pieces.answers) c.in-Ok-expand_pieces.ensures
