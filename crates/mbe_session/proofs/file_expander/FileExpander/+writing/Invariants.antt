use Rattle.std.proofs.Common.{◌≡◌, ◌+◌, ◌*◌, length}
use Rattle.mbe_tt.specs.Trees.Tree.{flat_len}
use Rattle.mbe_tt.specs.Views.View.{trees}
use Rattle.mbe_session.specs.SessionViews.{setting_of, state_of}
use Rattle.mbe_session.proofs.StepLemmas.{Done}
use Rattle.mbe_session.proofs.file_expander.FileExpander.+writing.Given as goal

abbrev pub decreases-write : goal.decreases-write
decreases-write g l = 6 * l.levels + 5

abbrev pub decreases-write_call : goal.decreases-write_call
decreases-write_call g l = 6 * l.levels + 4

abbrev pub decreases-write_expansion : goal.decreases-write_expansion
decreases-write_expansion g l = 6 * l.levels + 3

abbrev pub decreases-write_wrapped : goal.decreases-write_wrapped
decreases-write_wrapped g l = 6 * l.levels + 2

abbrev pub decreases-write_kept : goal.decreases-write_kept
decreases-write_kept g l = 6 * l.levels + 3

abbrev pub decreases-write_tree : goal.decreases-write_tree
decreases-write_tree g l = 6 * l.levels + 3

abbrev pub decreases-write_group : goal.decreases-write_group
decreases-write_group g l = 6 * l.levels + 2

abbrev pub decreases-write_inside : goal.decreases-write_inside
decreases-write_inside g l = 6 * l.levels + 1

abbrev pub decreases-write-trees : goal.decreases-write-trees
decreases-write-trees g l = flat_len (trees l.rest)

abbrev pub invariant-write-trees : goal.invariant-write-trees
invariant-write-trees g l =
    Done (setting_of l.initial.self) l.fn.levels l.fn.depth (trees l.fn.tokens) (state_of l.initial.self)
    l.initial.builder (trees l.rest) (state_of l.self) l.builder
    × (setting_of l.self ≡ setting_of l.initial.self) × (length l.builder ≡ length l.initial.builder)
