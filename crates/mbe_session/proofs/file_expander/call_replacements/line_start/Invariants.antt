use Rattle.mbe_session.proofs.file_expander.call_replacements.line_start.Given as goal

abbrev pub decreases-bytes : goal.decreases-bytes
decreases-bytes l = l.start
