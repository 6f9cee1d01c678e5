use Rattle.mbe_page.proofs.trace_values.+write_bound.Given as goal

abbrev pub decreases-write_bound : goal.decreases-write_bound
decreases-write_bound l = l.levels
