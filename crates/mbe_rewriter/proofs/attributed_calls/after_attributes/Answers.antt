use Rattle.std.proofs.Common.{sym, arith}
use Rattle.mbe_tt.specs.Views.View.{trees}
use Rattle.mbe_rewriter.proofs.SubjectLemmas.{all_past, no_past, one_past}
use Rattle.mbe_rewriter.proofs.attributed_calls.after_attributes.Goals as goal

pub attributes-preserved : goal.attributes-preserved
attributes-preserved g c =
    one_past c.attributes.left (trees c.attributes.rest) _ _ (omega arith) (sym c.in-Some.ensures)
    c.attributes.invariant

pub returns-in-None : goal.returns-in-None
returns-in-None g c =
    no_past c.attributes.left (trees c.attributes.rest) _ (omega arith) (sym c.in-None.ensures) c.attributes.invariant

pub returns : goal.returns
returns g c = all_past c.attributes.left (trees c.attributes.rest) _ (omega arith) c.attributes.invariant
