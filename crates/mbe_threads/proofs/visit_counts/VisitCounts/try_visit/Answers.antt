use Rattle.std.proofs.Common.{◌+◌, ◌-◌, refl, arith}
use Rattle.mbe_threads.proofs.Counting.{blank_set, vacancy_falls}
use Rattle.mbe_threads.proofs.visit_counts.VisitCounts.try_visit.Goals as goal

pub returns-clause-no_visits : goal.returns-clause-no_visits
returns-clause-no_visits g c = λ h. blank_set c.args.self.now.marks.items c.args.offset (c.args.number - 1)
    (record { offset = c.args.offset; count = c.at-count.result + 1 }) refl (omega arith) h

pub returns-clause-falls : goal.returns-clause-falls
returns-clause-falls g c = λ e. vacancy_falls c.args.offset c.args.self.now.marks.items (c.args.number - 1)
    c.index.result.now c.at-count.result (omega arith) c.index.ensures c.at-count.ensures c.if-count-ge2.false
