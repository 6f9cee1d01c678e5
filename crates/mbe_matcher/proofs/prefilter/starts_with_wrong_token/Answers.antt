use Rattle.std.proofs.Common.{◌∙◌, ap}
use Rattle.mbe_ops.specs.Views.{ops_of, template_of}
use Rattle.mbe_matcher.specs.Fronts.{starts_with_wrong_token}
use Rattle.mbe_matcher.proofs.prefilter.starts_with_wrong_token.Goals as goal

pub returns : goal.returns
returns g c =
    c.first_is_wrong_token.ensures
    ∙ ap (λ l. starts_with_wrong_token c.args.dialect (ops_of l) c.iter.result) c.deref.ensures.value
    ∙ ap (starts_with_wrong_token c.args.dialect (template_of c.args.pattern.now)) c.iter.ensures
