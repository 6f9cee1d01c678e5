use Rattle.std.proofs.Common.{◌∙◌, map}
use Rattle.mbe_session.specs.Resolution.{is_foreign_use}
use Rattle.mbe_session.specs.SessionViews.{declared_name_of}
use Rattle.mbe_session.proofs.ItemLemmas.{any_shown}
use Rattle.mbe_session.proofs.scope.resolution.is_foreign.Goals as goal

pub returns : goal.returns
returns g c =
    c.is_any_foreign.ensures
    ∙ any_shown declared_name_of (is_foreign_use c.args.name.now (map declared_name_of c.args.declared.now))
    c.args.declared.now
