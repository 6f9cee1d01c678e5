use Rattle.std.proofs.Common.{sym, ◌∙◌}
use Rattle.mbe_tt.specs.Views.View.{trees}
use Rattle.mbe_rewriter.proofs.Worded.GroupLemmas.{peel_end, peel_less, peel_on}
use Rattle.mbe_rewriter.proofs.whole_fragments.fragment_groups.peeled.Goals as goal

pub groups-preserved : goal.groups-preserved
groups-preserved g c =
    sym (peel_on (trees c.groups.left) (trees c.in-Some.inside) (sym c.in-Some.ensures)) ∙ c.groups.invariant

pub groups-smaller : goal.groups-smaller
groups-smaller g c = peel_less (trees c.groups.left) (trees c.in-Some.inside) (sym c.in-Some.ensures)

pub returns : goal.returns
returns g c = sym (peel_end (trees c.groups.left) (sym c.in_default.ensures)) ∙ c.groups.invariant
