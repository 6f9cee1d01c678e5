use Rattle.mbe_bindings.proofs.RowLemmas.{name-found, name-none}
use Rattle.mbe_bindings.proofs.bindings.Bindings.name_at.Goals as goal

pub returns-in-Some : goal.returns-in-Some
returns-in-Some g c =
    name-found c.args.self.now.inner.entries c.args.index c.in-Some.name.now c.in-Some._binding.now
    c.in-Some.ensures.entry

pub returns-in-None : goal.returns-in-None
returns-in-None g c = name-none c.args.self.now.inner.entries c.args.index c.in-None.ensures.entry
