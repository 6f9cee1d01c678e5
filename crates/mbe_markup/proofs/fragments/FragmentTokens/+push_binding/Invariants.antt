use Rattle.mbe_markup.proofs.fragments.FragmentTokens.+push_binding.Given as goal

abbrev pub decreases-push_binding : goal.decreases-push_binding
decreases-push_binding l = l.levels
