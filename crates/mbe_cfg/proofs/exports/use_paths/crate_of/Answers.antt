use Rattle.std.proofs.Common.{rules, ◌∙◌}
use Rattle.mbe_cfg.proofs.ExportLemmas.{crate_here, crate_further, crate_last}
use Rattle.mbe_cfg.proofs.exports.use_paths.crate_of.Goals as goal

pub returns-in-Some : goal.returns-in-Some
returns-in-Some g c =
    crate_here c.args.name.now c.in-Some.found.now c.trees.rest (search rules) ∙ c.trees.invariant

pub trees-preserved : goal.trees-preserved
trees-preserved g c =
    crate_further c.args.name.now c.trees.rest _ (search rules) (search rules) ∙ c.trees.invariant

pub returns-in-None : goal.returns-in-None
returns-in-None g c = crate_last c.args.name.now c.trees.rest c.in-None.ensures.value ∙ c.trees.invariant
