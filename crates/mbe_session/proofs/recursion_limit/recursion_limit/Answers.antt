use Rattle.std.proofs.Common.{rules, ◌∙◌}
use Rattle.mbe_session.proofs.LimitLemmas.{limit_further, limit_last}
use Rattle.mbe_session.proofs.recursion_limit.recursion_limit.Goals as goal

pub trees-preserved : goal.trees-preserved
trees-preserved g c =
    limit_further c.trees.rest _ c.trees.found c.or-found.result (search rules) (search rules) ∙ c.trees.invariant

pub returns-in-None : goal.returns-in-None
returns-in-None g c =
    limit_last c.trees.rest c.trees.found c.or-found.result (search rules) c.in-None.ensures.value ∙ c.trees.invariant
