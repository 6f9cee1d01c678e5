use Rattle.std.proofs.Common.{sym, subst}
use Rattle.mbe_matcher.specs.declared.report_pass.Visit.TheVariants.{Enter}
use Rattle.mbe_matcher.specs.Compaction.{CarriesVisit}
use Rattle.mbe_matcher.proofs.Keeping.{each_next}
use Rattle.mbe_matcher.proofs.report_pass.moved_visits.Goals as goal

pub loop-visit-preserved : goal.loop-visit-preserved
loop-visit-preserved g c =
    let m = c.args.moved.now in
    each_next (CarriesVisit m) c.args.visits.now c.loop-visit.visit-index c.visit-item.result c.loop-visit.entered.items
    (Enter c.in-Some.next) c.push.new.self.items c.loop-visit-test.true c.visit-item.is c.loop-visit.invariant
    (subst (λ v. CarriesVisit m v (Enter c.in-Some.next)) (sym c.in-Enter.is) c.in-Some.ensures)
    c.in_ok-push.ensures.items
