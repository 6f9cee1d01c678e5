use Rattle.std.proofs.Common.{◌∙◌, ap}
use Rattle.std.specs.List.{list_any}
use Rattle.mbe_session.specs.Scopes.{contains_both}
use Rattle.mbe_session.specs.SessionViews.{crate_definitions_of}
use Rattle.mbe_session.proofs.ItemLemmas.{any_shown}
use Rattle.mbe_session.proofs.scope.Scope.is_in_same_crate.Goals as goal

pub returns : goal.returns
returns g c =
    c.are_in_same_crate.ensures
    ∙ (ap (list_any (λ x. contains_both c.args.other c.args.number (crate_definitions_of x))) c.as_slice.ensures.value
    ∙ any_shown crate_definitions_of (contains_both c.args.other c.args.number) c.args.self.now.crates.items)
