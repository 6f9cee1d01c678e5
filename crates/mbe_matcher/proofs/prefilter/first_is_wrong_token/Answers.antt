use Rattle.std.proofs.Common.{◌∙◌, sym, ap, arith}
use Rattle.mbe_matcher.specs.Fronts.{starts_with_wrong_token}
use Rattle.mbe_matcher.proofs.StepLemmas.{first_op, no_op}
use Rattle.mbe_matcher.proofs.prefilter.first_is_wrong_token.Goals as goal

pub returns-in-empty : goal.returns-in-empty
returns-in-empty g c = ap (λ os. starts_with_wrong_token c.args.dialect os c.args.here.now)
    (sym (no_op c.args.ops.now (omega (arith, c.in-empty.len_below))))

pub returns-in-len1-up : goal.returns-in-len1-up
returns-in-len1-up g c =
    c.is_wrong_token.ensures ∙ ap (λ os. starts_with_wrong_token c.args.dialect os c.args.here.now)
    (sym (first_op c.args.ops.now c.op-item.result c.in-len1-up.len_at_least c.op-item.is))
