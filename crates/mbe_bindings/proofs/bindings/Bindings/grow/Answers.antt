use Rattle.std.proofs.Common.{◌∙◌, ap}
use Rattle.mbe_semantics.specs.Bindings.Environment.{set_value}
use Rattle.mbe_bindings.specs.BindingViews.{value_seen}
use Rattle.mbe_bindings.proofs.BindingLemmas.{grown-found, grown-new, values_of}
use Rattle.mbe_bindings.proofs.bindings.Bindings.grow.Goals as goal

pub returns-in_ok-grow_value-in-Some : goal.returns-in_ok-grow_value-in-Some
returns-in_ok-grow_value-in-Some g c =
    grown-found c.args.number c.args.self.now.inner.entries c.args.name.now (value_seen c.args.value) _
    c.in-Some.found.now c.grow_value.new.binding
    c.in-Some.ensures.value (c.get_mut.follows.holds c.grow_value.new.binding).0 c.in_ok-grow_value-in-Some.ensures

pub returns-in_ok-put-in-None : goal.returns-in_ok-put-in-None
returns-in_ok-put-in-None g c =
    grown-new c.args.number c.args.self.now.inner.entries c.args.name.now (value_seen c.args.value) _ c.new.result
    c.grow_value-in-None.new.binding
    c.in-None.ensures.value c.new.ensures.items c.in_ok-grow_value-in-None.ensures
    (c.in_ok-put-in-None.ensures.ok
    ∙ ap (λ n. set_value (values_of c.get_mut.follows.lender-at-none.entries) n
    (value_seen c.grow_value-in-None.new.binding)) c.in_ok-clone-in-None.ensures.cases
    ∙ ap (λ m. set_value (values_of m.entries) c.args.name.now (value_seen c.grow_value-in-None.new.binding))
    c.get_mut.follows.holds-at-none)
