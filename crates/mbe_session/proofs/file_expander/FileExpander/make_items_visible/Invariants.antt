use Rattle.std.proofs.Common.{◌≡◌}
use Rattle.mbe_tt.specs.Trees.Tree.{flat_len}
use Rattle.mbe_tt.specs.Views.View.{trees}
use Rattle.mbe_session.specs.SessionViews.{setting_of, state_of}
use Rattle.mbe_session.proofs.ReplaceLemmas.{Showing}
use Rattle.mbe_session.proofs.file_expander.FileExpander.make_items_visible.Given as goal

abbrev pub invariant-trees : goal.invariant-trees
invariant-trees g l =
    Showing (trees l.fn.tokens) (state_of l.initial.self) (trees l.rest) (state_of l.self)
    × (setting_of l.self ≡ setting_of l.initial.self)

abbrev pub decreases-trees : goal.decreases-trees
decreases-trees g l = flat_len (trees l.rest)
