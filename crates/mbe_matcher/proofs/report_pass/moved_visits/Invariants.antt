use Rattle.std.proofs.Common.{take}
use Rattle.mbe_matcher.specs.Threads.{Each}
use Rattle.mbe_matcher.specs.Compaction.{CarriesVisit}
use Rattle.mbe_matcher.proofs.report_pass.moved_visits.Given as goal

abbrev pub invariant-loop-visit : goal.invariant-loop-visit
invariant-loop-visit g l = Each (CarriesVisit l.moved) (take l.visit-index l.visits) l.entered.items
