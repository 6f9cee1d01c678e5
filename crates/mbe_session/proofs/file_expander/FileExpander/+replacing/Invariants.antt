use Rattle.std.proofs.Common.{◌≡◌, ◌+◌, ◌*◌, map}
use Rattle.mbe_tt.specs.Trees.Tree.{flat_len}
use Rattle.mbe_tt.specs.Views.View.{trees}
use Rattle.mbe_rewriter.specs.ReplacementViews.{part_of}
use Rattle.mbe_session.specs.SessionViews.{setting_of, state_of}
use Rattle.mbe_session.proofs.ReplaceLemmas.{Adding}
use Rattle.mbe_session.proofs.file_expander.FileExpander.+replacing.Given as goal

abbrev pub decreases-replace_in : goal.decreases-replace_in
decreases-replace_in g l = 4 * l.levels + 3

abbrev pub decreases-replace_call : goal.decreases-replace_call
decreases-replace_call g l = 4 * l.levels + 2

abbrev pub decreases-replace_argument : goal.decreases-replace_argument
decreases-replace_argument g l = 4 * l.levels + 1

abbrev pub decreases-replace_tree : goal.decreases-replace_tree
decreases-replace_tree g l = 4 * l.levels + 1

abbrev pub decreases-replace_inside : goal.decreases-replace_inside
decreases-replace_inside g l = 4 * l.levels

abbrev pub decreases-replace_in-trees : goal.decreases-replace_in-trees
decreases-replace_in-trees g l = flat_len (trees l.rest)

abbrev pub invariant-replace_in-trees : goal.invariant-replace_in-trees
invariant-replace_in-trees g l =
    Adding (setting_of l.initial.self) l.fn.levels (trees l.fn.tokens) (state_of l.initial.self)
    (map part_of l.initial.replacements.items) (trees l.rest) (state_of l.self) (map part_of l.replacements.items)
    × (setting_of l.self ≡ setting_of l.initial.self)
