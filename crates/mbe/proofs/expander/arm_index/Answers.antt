use Rattle.std.proofs.Common.{◌∙◌}
use Rattle.mbe.proofs.ChoiceLemmas.{arm_at}
use Rattle.mbe.proofs.expander.arm_index.Goals as goal

pub returns : goal.returns
returns c = c.ok.ensures.value ∙ arm_at c.try_from.result c.args.idx c.try_from.ensures
