use Rattle.std.proofs.Common.{◌∙◌, ap}
use Rattle.mbe_bindings.proofs.BindingLemmas.{inserted, values_of}
use Rattle.mbe_bindings.proofs.bindings.Bindings.put.Goals as goal

pub returns-clause-ok : goal.returns-clause-ok
returns-clause-ok g c = ap values_of c.in_ok-_replaced.ensures.entries
    ∙ inserted c.args.self.now.inner.entries c.args.name c.args.value
