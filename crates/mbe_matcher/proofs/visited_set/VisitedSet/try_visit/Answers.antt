use Rattle.std.proofs.Common.{◌-◌, arith}
use Rattle.mbe_matcher.proofs.Visits.{unvisited_set}
use Rattle.mbe_matcher.proofs.visited_set.VisitedSet.try_visit.Goals as goal

pub returns-clause-unvisited : goal.returns-clause-unvisited
returns-clause-unvisited g c =
    λ h. unvisited_set c.args.self.now.offsets.items c.args.offset (c.args.number - 1) (omega arith) h
