use Rattle.std.proofs.Common.{rules}
use Rattle.mbe_cfg.proofs.FollowLemmas.{nothing_alone}
use Rattle.mbe_cfg.proofs.crates.module_inliner.copy_tree.Goals as goal

pub returns-in_default-clause-kept : goal.returns-in_default-clause-kept
returns-in_default-clause-kept g c = nothing_alone _ _ (search rules)
