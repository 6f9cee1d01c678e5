use Rattle.std.proofs.Common.{◌+◌, ◌*◌}
use Rattle.mbe_session.proofs.file_expander.FileExpander.+recording_files.Given as goal

abbrev pub decreases-record_trees : goal.decreases-record_trees
decreases-record_trees g l = 4 * l.levels + 2

abbrev pub decreases-record_tree : goal.decreases-record_tree
decreases-record_tree g l = 4 * l.levels + 1

abbrev pub decreases-record_file_call : goal.decreases-record_file_call
decreases-record_file_call g l = 4 * l.levels + 1

abbrev pub decreases-record_inside : goal.decreases-record_inside
decreases-record_inside g l = 4 * l.levels
