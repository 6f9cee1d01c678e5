use Rattle.std.proofs.Common.{refl, sym}
use Rattle.mbe_matcher.proofs.Carrying.{report_carried}
use Rattle.mbe_matcher.proofs.match_report.MatchReport.relocate.Goals as goal

pub returns-clause-carries : goal.returns-clause-carries
returns-clause-carries g c = λ yes. report_carried c.args.moves.now c.args.self.now _ c.in-Some.last
    c.in-Some-get.handle (sym c.in-Some.ensures.value) c.in-Some-get.ensures refl
