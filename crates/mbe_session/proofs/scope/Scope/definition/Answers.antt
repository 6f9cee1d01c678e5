use Rattle.std.proofs.Common.{map, ap, ◌∙◌}
use Rattle.std.specs.List.{slice_get}
use Rattle.mbe_session.specs.SessionViews.{definition_of}
use Rattle.mbe_session.proofs.ItemLemmas.{item_shown}
use Rattle.mbe_session.proofs.scope.Scope.definition.Goals as goal

pub returns : goal.returns
returns g c =
    item_shown definition_of c.deref.result.now c.args.number c.get.result c.get.ensures.lookup.0
    c.get.ensures.lookup.1
    ∙ ap (λ items. slice_get (map definition_of items) c.args.number) c.deref.ensures.value
