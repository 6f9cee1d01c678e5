use Rattle.mbe_transcriber.proofs.WroteLemmas.{number_wrote}
use Rattle.mbe_transcriber.proofs.transcriber.expressions.write_count.Goals as goal

pub returns-in_ok-write_number-in-Ok-clause-wrote : goal.returns-in_ok-write_number-in-Ok-clause-wrote
returns-in_ok-write_number-in-Ok-clause-wrote g c =
    number_wrote _ c.in-Ok.number _ c.args.ctx.now.call_site c.args.builder.now c.write_number.new.builder
    c.in-Ok.ensures.found.0 c.in-Ok.ensures.found.1 c.in_ok-write_number-in-Ok.ensures
