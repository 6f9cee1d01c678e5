use Rattle.mbe_page.proofs.match_view.+write_binding.Given as goal

abbrev pub decreases-write_binding : goal.decreases-write_binding
decreases-write_binding l = l.levels
