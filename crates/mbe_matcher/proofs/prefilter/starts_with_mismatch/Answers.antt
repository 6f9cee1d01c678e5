use Rattle.std.proofs.Common.{sym, subst}
use Rattle.mbe_matcher.specs.Fronts.{StartsWithMismatch}
use Rattle.mbe_matcher.proofs.StepLemmas.{first_op}
use Rattle.mbe_matcher.proofs.prefilter.starts_with_mismatch.Goals as goal

pub returns-in-len1-up : goal.returns-in-len1-up
returns-in-len1-up g c = λ e h d.
    subst (λ os. StartsWithMismatch h os c.args.here.now)
    (sym (first_op c.args.ops.now c.op-item.result c.in-len1-up.len_at_least c.op-item.is))
    (c.is_mismatch.ensures e h d)
