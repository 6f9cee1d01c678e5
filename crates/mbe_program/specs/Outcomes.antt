-- How a run ends: its exit status, and the line on standard error.
use Rattle.std.specs.Prelude.{ℕ, ⊤, ◌≡◌, ◌≤◌, List, ◌++◌, Option, codes}
use Rattle.std.specs.Fmt.{decimal}
use Rattle.mbe_semantics.specs.Expansion.Error.{text_of_fault}
use Rattle.mbe_ops.specs.Errors.ErrorViews.{parse_error_of}
use Rattle.mbe_program.specs.declared.program.Outcome.{Outcome}
use Rattle.mbe_program.specs.declared.program.Outcome.TheVariants.{Expanded, Linted, Faulted}
use Rattle.mbe_program.specs.declared.program.Outcome.TheVariants.{Refused, CannotLex, CannotWrite}
use Rattle.mbe_program.specs.declared.program.Outcome.TheVariants.{OutOfMemory}
use Rattle.mbe_program.specs.declared.failure.Failure.{Failure}
use Rattle.mbe_program.specs.declared.failure.Failure.TheVariants as says
use Rattle.mbe_program.specs.declared.options.Options.{Options}
use Rattle.mbe_program.specs.Options.{name_of}

-- the exit status of a run
abbrev pub status_of : {A : Type 0} → Outcome A → ℕ
status_of Expanded = 0
status_of Linted = 0
status_of Faulted = 1
status_of (Refused error) = 2
status_of CannotWrite = 3
status_of (CannotLex file offset) = 4
status_of OutOfMemory = 5

-- A run without an expansion and without verdicts writes nothing. A run that ends as `CannotWrite`
-- had one of them.
abbrev pub IsSilent : {A : Type 0} → Outcome A → Option (List ℕ) → Option (List ℕ) → Type 0
IsSilent Expanded before after = ⊤
IsSilent Linted before after = ⊤
IsSilent Faulted before after = ⊤
IsSilent (Refused error) before after = after ≡ before
IsSilent CannotWrite before after = ⊤
IsSilent (CannotLex file offset) before after = after ≡ before
IsSilent OutOfMemory before after = after ≡ before

-- A text that can't be lexed is at fault in that file, at a byte of its `len` bytes or at its end.
abbrev pub FaultsIn : {A : Type 0} → ℕ → ℕ → Outcome A → Type 0
FaultsIn file len Expanded = ⊤
FaultsIn file len Linted = ⊤
FaultsIn file len Faulted = ⊤
FaultsIn file len (Refused error) = ⊤
FaultsIn file len CannotWrite = ⊤
FaultsIn file len (CannotLex f offset) = (f ≡ file) × (offset ≤ len)
FaultsIn file len OutOfMemory = ⊤

-- The exit status of a program that prints this line.
abbrev pub failure_status : {A : Type 0} → Failure A → ℕ
failure_status (says.Refused error) = 2
failure_status says.Usage = 3
failure_status (says.CannotRead name) = 3
failure_status says.CannotWrite = 3
failure_status (says.CannotLex name offset) = 4
failure_status says.OutOfMemory = 5

-- A line says how a run with these options ended. It has the error of the definition, or the name
-- of the file that can't be lexed and the byte at fault.
abbrev pub IsFailureOf : {A : Type 0} → Options → Outcome A → Failure A → Type 0
IsFailureOf o (Refused error) (says.Refused reported) = reported.now ≡ error
IsFailureOf o (CannotLex file offset) (says.CannotLex name at) =
    (name.now ≡ name_of o file) × (at ≡ offset)
IsFailureOf o CannotWrite says.CannotWrite = ⊤
IsFailureOf o OutOfMemory says.OutOfMemory = ⊤
IsFailureOf o outcome failure = ⊥

-- The text of the line.
abbrev pub failure_text : {A : Type 0} → Failure A → List ℕ
failure_text says.Usage = codes "usage: mbex [--lint] DEF-FILE ARG-FILE [EDITION]"
failure_text (says.CannotRead name) = codes "cannot read " ++ name.now
failure_text (says.Refused error) =
    codes "definition refused: " ++ text_of_fault (parse_error_of error.now)
failure_text (says.CannotLex name offset) =
    codes "cannot lex " ++ (name.now ++ (codes " at " ++ decimal offset))
failure_text says.CannotWrite = codes "cannot write"
failure_text says.OutOfMemory = codes "out of memory"
