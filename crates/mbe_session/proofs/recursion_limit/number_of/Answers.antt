use Rattle.std.proofs.Common.{rules, ◌∙◌}
use Rattle.mbe_session.proofs.LimitLemmas.{reads_number}
use Rattle.mbe_session.proofs.recursion_limit.number_of.Goals as goal

pub returns : goal.returns
returns c = c.ok.ensures.value ∙ reads_number c.args.text.now c.parse.result c.parse.ensures.value.0
