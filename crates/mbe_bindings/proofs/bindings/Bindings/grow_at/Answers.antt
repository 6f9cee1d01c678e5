use Rattle.std.proofs.Common.{refl, sym}
use Rattle.indexmap.specs.IndexMap.{set_value_at}
use Rattle.mbe_bindings.specs.BindingViews.{value_seen}
use Rattle.mbe_bindings.proofs.RowLemmas.{grown-at}
use Rattle.mbe_bindings.proofs.bindings.Bindings.grow_at.Goals as goal

pub returns : goal.returns
returns g c =
    grown-at c.args.number c.args.self.now.inner.entries
    (set_value_at c.args.self.now.inner.entries c.args.index c.grow_value.new.binding) c.args.index c.args.name.now
    (value_seen c.args.value) c.in-Some.found.now c.grow_value.new.binding c.get_index_mut.ensures.unique
    (c.if-has_name_at.ensures refl) (sym c.in-Some.ensures.value) refl c.in_ok-grow_value.ensures
