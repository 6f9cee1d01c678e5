use Rattle.std.proofs.Common.{sym, arith}
use Rattle.mbe_tt.specs.Views.View.{trees}
use Rattle.mbe_cfg.specs.CfgViews.{group_shown}
use Rattle.mbe_cfg.proofs.DeclareLemmas.{all_attributes, no_attribute, one_attribute}
use Rattle.mbe_cfg.proofs.crates.expansion_modules.after_attributes.Goals as goal

pub attributes-preserved : goal.attributes-preserved
attributes-preserved g c =
    one_attribute c.attributes.left (trees c.attributes.rest) (group_shown c.in-Some.group) _ (omega arith)
    (sym c.in-Some.ensures) c.attributes.invariant

pub returns-in-None : goal.returns-in-None
returns-in-None g c =
    no_attribute c.attributes.left (trees c.attributes.rest) _ (omega arith) (sym c.in-None.ensures)
    c.attributes.invariant

pub returns : goal.returns
returns g c = all_attributes c.attributes.left (trees c.attributes.rest) _ (omega arith) c.attributes.invariant
