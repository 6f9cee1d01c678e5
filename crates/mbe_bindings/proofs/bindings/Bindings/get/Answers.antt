use Rattle.std.proofs.Common.{◌∙◌, ap, sym, option_map}
use Rattle.mbe_bindings.specs.BindingViews.{value_seen}
use Rattle.mbe_bindings.proofs.BindingLemmas.{found_by_name, copied_seen}
use Rattle.mbe_bindings.proofs.bindings.Bindings.get.Goals as goal

pub returns : goal.returns
returns g c =
    sym (copied_seen c.get.result) ∙ ap (option_map value_seen) c.get.ensures.value
    ∙ found_by_name c.args.self.now.inner.entries c.args.name.now
