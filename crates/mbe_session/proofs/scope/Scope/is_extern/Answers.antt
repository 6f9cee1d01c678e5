use Rattle.std.proofs.Common.{◌∙◌, ap}
use Rattle.std.specs.List.{list_any}
use Rattle.mbe_session.specs.Scopes.{is_within}
use Rattle.mbe_session.specs.SessionViews.{crate_definitions_of}
use Rattle.mbe_session.proofs.ItemLemmas.{any_shown}
use Rattle.mbe_session.proofs.scope.Scope.is_extern.Goals as goal

pub returns : goal.returns
returns g c =
    c.is_in_any_crate.ensures
    ∙ (ap (list_any (λ x. (is_within c.args.number) (crate_definitions_of x))) c.as_slice.ensures.value
    ∙ any_shown crate_definitions_of (is_within c.args.number) c.args.self.now.crates.items)
