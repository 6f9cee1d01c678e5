-- The levels of notes.
use Rattle.std.specs.Prelude.{Bool, true, false}
use Rattle.mbe_session.specs.declared.notes.Level.{Level}
use Rattle.mbe_session.specs.declared.notes.Level.TheVariants as levels
use Rattle.mbe_session.specs.declared.notes.Note.{Note}

-- Whether a note is an error.
abbrev pub is_error_level : Level → Bool
is_error_level levels.Error = true
is_error_level levels.Note = false
is_error_level levels.Help = false

abbrev pub is_error : {A : Type 0} → Note A → Bool
is_error note = is_error_level note.level
