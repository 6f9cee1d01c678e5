use Rattle.std.proofs.Common.{◌≡◌}
use Rattle.mbe_rewriter.specs.MacroItems.{longer, full_path}
use Rattle.mbe_rewriter.specs.MacroItemViews.{path_shown}
use Rattle.mbe_rewriter.proofs.macro_items.full_path.Given as goal

abbrev pub invariant-names : goal.invariant-names
invariant-names g l = longer l.left (path_shown l.longer) ≡ full_path (path_shown l.fn.path)

abbrev pub decreases-names : goal.decreases-names
decreases-names g l = l.left
