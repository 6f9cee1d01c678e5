use Rattle.std.proofs.Common.{◌∙◌}
use Rattle.mbe_session.specs.Resolution.{is_module_name}
use Rattle.mbe_session.specs.SessionViews.{declared_name_of}
use Rattle.mbe_session.proofs.ItemLemmas.{any_shown}
use Rattle.mbe_session.proofs.scope.resolution.has_module.Goals as goal

pub returns : goal.returns
returns g c =
    c.is_any_module.ensures ∙ any_shown declared_name_of (is_module_name c.args.name.now) c.args.declared.now
