use Rattle.std.proofs.Common.{◌∙◌, sym, ap}
use Rattle.mbe_ops.specs.Views.{op_of}
use Rattle.mbe_matcher.specs.Fronts.{is_wrong_token}
use Rattle.mbe_matcher.proofs.Starts.{other_mismatched}
use Rattle.mbe_matcher.proofs.prefilter.is_mismatch.Goals as goal

pub returns-in_default : goal.returns-in_default
returns-in_default g c = λ e h d.
    other_mismatched h (op_of c.args.op.now) c.args.here.now
    (ap (λ x. is_wrong_token x (op_of c.args.op.now) c.args.here.now) d ∙ sym c.is_wrong_token.ensures ∙ e)
