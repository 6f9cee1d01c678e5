-- The line on a file that can't be read.
use Rattle.std.specs.Prelude.{ℕ, ◌≡◌, ◌≢◌, List}
use Rattle.std.specs.declared.io.ErrorKind.{ErrorKind}
use Rattle.std.specs.declared.io.ErrorKind.TheVariants as kinds
use Rattle.mbe_program.specs.declared.failure.Failure.{Failure}
use Rattle.mbe_program.specs.declared.failure.Failure.TheVariants.{CannotRead, OutOfMemory}

-- The line on an error of that kind: that memory ran out, or else that the file of that name can't
-- be read.
abbrev pub IsUnread : {A : Type 0} → ErrorKind → List ℕ → Failure A → Type 0
IsUnread kind file (CannotRead name) = (kind ≢ kinds.OutOfMemory) × (name.now ≡ file)
IsUnread kind file OutOfMemory = kind ≡ kinds.OutOfMemory
IsUnread kind file failure = ⊥

-- The line on an error of some kind.
abbrev pub CannotBeRead : {A : Type 0} → List ℕ → Failure A → Type 0
CannotBeRead file failure = (kind : ErrorKind) × IsUnread kind file failure
