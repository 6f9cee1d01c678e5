use Rattle.std.proofs.Common.{rules, sym, ◌∙◌}
use Rattle.mbe_session.proofs.ImportLemmas.{rules_here, use_here, use_nowhere, use_further}
use Rattle.mbe_session.proofs.imports.is_imported_in.Goals as goal

pub returns-then-is_use : goal.returns-then-is_use
returns-then-is_use g c =
    sym (use_here c.args.name.now c.trees.rest (search rules)) ∙ c.trees.invariant

pub returns-then-is_rules_of : goal.returns-then-is_rules_of
returns-then-is_rules_of g c =
    sym (rules_here c.args.name.now c.trees.rest (search rules) (search rules)) ∙ c.trees.invariant

pub returns-in-None : goal.returns-in-None
returns-in-None g c =
    sym (use_nowhere c.args.name.now c.trees.rest c.in-None.ensures.value) ∙ c.trees.invariant

pub trees-preserved : goal.trees-preserved
trees-preserved g c =
    use_further c.args.name.now c.trees.rest _ (search rules) (search rules) (search rules) ∙ c.trees.invariant
