use Rattle.std.proofs.Common.{◌+◌, ◌*◌}
use Rattle.mbe_session.proofs.file_expander.FileExpander.+recording.Given as goal

abbrev pub decreases-record_call : goal.decreases-record_call
decreases-record_call g l = 4 * l.levels + 1

abbrev pub decreases-record_written : goal.decreases-record_written
decreases-record_written g l = 4 * l.levels

abbrev pub decreases-record_written_call : goal.decreases-record_written_call
decreases-record_written_call g l = 4 * l.levels + 2

abbrev pub decreases-record_written_tree : goal.decreases-record_written_tree
decreases-record_written_tree g l = 4 * l.levels + 2

abbrev pub decreases-record_group : goal.decreases-record_group
decreases-record_group g l = 4 * l.levels + 1
