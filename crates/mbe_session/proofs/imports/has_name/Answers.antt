use Rattle.std.proofs.Common.{rules, sym, ◌∙◌}
use Rattle.mbe_session.proofs.ImportLemmas.{name_here, name_nowhere, name_further}
use Rattle.mbe_session.proofs.imports.has_name.Goals as goal

pub returns-then-is_name : goal.returns-then-is_name
returns-then-is_name g c =
    sym (name_here c.args.name.now c.trees.rest (search rules)) ∙ c.trees.invariant

pub returns-in-None : goal.returns-in-None
returns-in-None g c =
    sym (name_nowhere c.args.name.now c.trees.rest c.in-None.ensures.value) ∙ c.trees.invariant

pub trees-preserved : goal.trees-preserved
trees-preserved g c =
    name_further c.args.name.now c.trees.rest _ (search rules) (search rules) ∙ c.trees.invariant
