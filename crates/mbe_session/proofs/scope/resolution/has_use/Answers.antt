use Rattle.std.proofs.Common.{◌∙◌}
use Rattle.mbe_session.specs.Resolution.{is_used_name}
use Rattle.mbe_session.specs.SessionViews.{declared_name_of}
use Rattle.mbe_session.proofs.ItemLemmas.{any_shown}
use Rattle.mbe_session.proofs.scope.resolution.has_use.Goals as goal

pub returns : goal.returns
returns g c =
    c.is_any_use.ensures ∙ any_shown declared_name_of (is_used_name c.args.name.now) c.args.declared.now
