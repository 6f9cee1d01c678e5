use Rattle.std.proofs.Common.{rules, arith}
use Rattle.mbe_cfg.proofs.BelowLemmas.{added_on, added_here, added_none}
use Rattle.mbe_cfg.proofs.crates.module_items.first_added_path.Goals as goal

pub added-preserved : goal.added-preserved
added-preserved g c = added_on c.added.left _ _ _ (omega arith) c.added.invariant (search rules) (search rules)

pub returns-in-Some : goal.returns-in-Some
returns-in-Some g c =
    added_here c.added.left _ _ _ _ (omega arith) c.added.invariant c.after_next_comma-rest.ensures (search rules)

pub returns : goal.returns
returns g c = added_none c.added.left _ _ (omega arith) c.added.invariant
