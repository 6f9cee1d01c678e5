use Rattle.std.proofs.Common.{rules, refl, ◌+◌}
use Rattle.mbe_program.proofs.ReplyLemmas.FlatTokens.FaultLemmas.{refused_inside}
use Rattle.mbe_program.proofs.replies.flat.decoder.add_all.Goals as goal

pub returns-in-Err-clause-fails : goal.returns-in-Err-clause-fails
returns-in-Err-clause-fails g c =
    refused_inside c.args.text.now c.args.tokens.now c.loop-index.index (c.loop-index.index + 1) _
    c.args.builder.now c.loop-index.builder
    c.in-Err.refusal c.error_at.result (search rules) refl c.loop-index.invariant c.in-Err.ensures.fails
    c.error_at.ensures
