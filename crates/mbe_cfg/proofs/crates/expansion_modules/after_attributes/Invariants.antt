use Rattle.std.proofs.Common.{◌≡◌}
use Rattle.mbe_tt.specs.Views.View.{trees}
use Rattle.mbe_cfg.specs.Crates.ExpansionModules.{past_attributes, after_attributes}
use Rattle.mbe_cfg.proofs.crates.expansion_modules.after_attributes.Given as goal

abbrev pub invariant-attributes : goal.invariant-attributes
invariant-attributes g l = past_attributes l.left (trees l.rest) ≡ after_attributes (trees l.fn.tokens)

abbrev pub decreases-attributes : goal.decreases-attributes
decreases-attributes g l = l.left
