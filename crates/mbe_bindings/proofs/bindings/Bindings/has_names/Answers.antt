use Rattle.mbe_bindings.proofs.RowLemmas.{names-distinct}
use Rattle.mbe_bindings.proofs.bindings.Bindings.has_names.Goals as goal

pub returns-then-len-start-clause-distinct : goal.returns-then-len-start-clause-distinct
returns-then-len-start-clause-distinct g c = names-distinct c.args.self.now.inner.entries c.len-len.ensures.unique

pub returns-then-len-start-2-clause-distinct : goal.returns-then-len-start-2-clause-distinct
returns-then-len-start-2-clause-distinct g c = names-distinct c.args.self.now.inner.entries c.len-len.ensures.unique

pub returns-clause-distinct : goal.returns-clause-distinct
returns-clause-distinct g c = names-distinct c.args.self.now.inner.entries c.len-len.ensures.unique
