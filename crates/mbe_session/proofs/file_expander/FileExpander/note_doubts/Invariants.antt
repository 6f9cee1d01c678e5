use Rattle.std.proofs.Common.{◌≡◌}
use Rattle.mbe_session.specs.SessionViews.{setting_of, state_of}
use Rattle.mbe_session.proofs.file_expander.FileExpander.note_doubts.Given as goal

abbrev pub invariant-loop-doubt : goal.invariant-loop-doubt
invariant-loop-doubt g l =
    (setting_of l.self ≡ setting_of l.initial.self) × (state_of l.self ≡ state_of l.initial.self)
