-- Diagnostics as they are written: text in rustc's style, or JSON.
use Rattle.std.specs.Prelude.{◌≡◌, ◌++◌, ◌&&◌, ⊤, ℕ, Bool, true, false, not, if◌then◌else◌, codes}
use Rattle.std.specs.Prelude.{◌+◌, List, [], ◌∷◌, length, min, take, slice_get, Option, Some, None}
use Rattle.std.specs.String.{string_bytes}
use Rattle.mbe_tt.specs.declared.span.Span.{Span}
use Rattle.mbe_diagnostics.specs.declared.diagnostic.Level.{Level}
use Rattle.mbe_diagnostics.specs.declared.diagnostic.Level.TheVariants as level
use Rattle.mbe_diagnostics.specs.declared.diagnostic.Diagnostic.{Diagnostic}
use Rattle.mbe_diagnostics.specs.declared.diagnostic.FilePart.{FilePart}
use Rattle.mbe_diagnostics.specs.Diagnostics.{text}
use Rattle.mbe_diagnostics.specs.Json.{json_line, plain_line}
use Rattle.mbe_diagnostics.specs.LineLimit.{text_within}
use Rattle.mbe_session.specs.declared.notes.Level as notes
use Rattle.mbe_session.specs.Explanation.{Note}
use Rattle.mbe_diagnostics.specs.Lints.Lint.{Lint, is_child_level}
use Rattle.mbe_session.specs.declared.source_files.SourceFile.{SourceFile}
use Rattle.mbe_session.specs.declared.emitter.MessageFormat.{MessageFormat}
use Rattle.mbe_session.specs.declared.emitter.MessageFormat.TheVariants.{Text, Colours, Brief}
use Rattle.mbe_session.specs.declared.emitter.MessageFormat.TheVariants.{Json}
use Rattle.mbe_session.specs.Locations.{IsLocation}

abbrev pub level_shown : notes.Level → Level
level_shown notes.TheVariants.Error = level.Error
level_shown notes.TheVariants.Note = level.Note
level_shown notes.TheVariants.Help = level.Help

-- A diagnostic with its children, as it is written in that form. The brief form shows at most 60
-- lines, unless the diagnostic itself has more.
abbrev pub written : MessageFormat → Diagnostic → List Diagnostic → List ℕ
written Text d children = text d children false
written Colours d children = text d children true
written (Brief is_coloured) d children =
    text_within 60 (codes "`--explain=all` shows them") d children is_coloured
written Json d children = json_line d children ++ codes "\n"

-- How many children are at the front of diagnostics.
abbrev pub child_count : List Diagnostic → ℕ
child_count [] = 0
child_count (d ∷ ds) = if d.is_child then 1 + child_count ds else 0

-- The children at the front of diagnostics.
abbrev pub children : List Diagnostic → List Diagnostic
children ds = take (child_count ds) ds

-- The first of these diagnostics with its children, unless it is a child itself. A child is written
-- as if it were none, if no diagnostic is before it.
abbrev pub first_written : MessageFormat → Bool → List Diagnostic → List ℕ
first_written form is_first [] = []
first_written form is_first (d ∷ ds) =
    if d.is_child && not is_first then [] else written form d (children ds)

-- Diagnostics as they are written, in order. A child is written with the last diagnostic before it
-- that is none.
abbrev pub all_written : MessageFormat → Bool → List Diagnostic → List ℕ
all_written form is_first [] = []
all_written form is_first (d ∷ ds) =
    first_written form is_first (d ∷ ds) ++ all_written form false ds

-- An error that belongs to no file, as it is written.
abbrev pub error_written : Option MessageFormat → List ℕ → List ℕ
error_written None message = codes "error: " ++ (message ++ codes "\n")
error_written (Some Text) message = codes "error: " ++ (message ++ codes "\n")
error_written (Some Colours) message = codes "error: " ++ (message ++ codes "\n")
error_written (Some (Brief is_coloured)) message = codes "error: " ++ (message ++ codes "\n")
error_written (Some Json) message = plain_line level.Error message ++ codes "\n"

-- A note that belongs to no file, as it is written.
abbrev pub note_written : Option MessageFormat → List ℕ → List ℕ
note_written None message = codes "note: " ++ (message ++ codes "\n")
note_written (Some Text) message = codes "note: " ++ (message ++ codes "\n")
note_written (Some Colours) message = codes "note: " ++ (message ++ codes "\n")
note_written (Some (Brief is_coloured)) message = codes "note: " ++ (message ++ codes "\n")
note_written (Some Json) message = plain_line level.Note message ++ codes "\n"

-- The part of a file at a span: at its first byte, or at the end of the text if the span begins
-- beyond it.
abbrev pub IsPart : {A : Type 0} → SourceFile A → Span → FilePart → Type 0
IsPart file place p =
    let lines = string_bytes file.lines.text in
    (p.file.now ≡ file.name.now) × IsLocation lines (min place.start (length lines)) p.start.line
    p.start.column p.line.now

-- The part that a diagnostic on a span shows: of that file, or none without a file.
abbrev pub IsPlace : {A : Type 0} → Option (SourceFile A) → Span → Option FilePart → Type 0
IsPlace None place None = ⊤
IsPlace None place (Some p) = ⊥
IsPlace (Some file) place None = ⊥
IsPlace (Some file) place (Some p) = IsPart file place p

-- A diagnostic of that level and text on that span, which is a child or none. Its code isn't
-- specified.
pub record IsDiagnostic {A : Type 0} (files : List (SourceFile A)) (level : Level) (place : Span)
    (text : List ℕ) (is_child : Bool)
    (d : Diagnostic) : Type 0 where
  pub level_is : d.level ≡ level
  pub message : d.message.now ≡ text
  pub child : d.is_child ≡ is_child
  pub at : IsPlace (slice_get files place.file) place d.place

-- The list `after` is `before` with the diagnostics of the notes appended.
abbrev pub AreDiagnostics : {A : Type 0} → List (SourceFile A) → List Note → List Diagnostic
    → List Diagnostic → Type 0
AreDiagnostics files [] before after = after ≡ before
AreDiagnostics files (n ∷ ns) before after =
    (d : Diagnostic) × IsDiagnostic files (level_shown n.level) n.place n.text n.is_child d
    × AreDiagnostics files ns (before ++ d ∷ []) after

-- The list is the diagnostics of the first notes, and then the diagnostics of the other notes.
abbrev pub AreDiagnosticsOf : {A : Type 0} → List (SourceFile A) → List Note → List Note
    → List Diagnostic → Type 0
AreDiagnosticsOf files first others all =
    (mid : List Diagnostic) × AreDiagnostics files first [] mid
    × AreDiagnostics files others mid all

-- The text `after` is `before` with the diagnostics of the notes appended, each with its children.
abbrev pub EmittedNotes : {A : Type 0} → MessageFormat → List (SourceFile A) → List Note → List ℕ
    → List ℕ → Type 0
EmittedNotes form files notes before after =
    (ds : List Diagnostic) × AreDiagnostics files notes [] ds
    × (after ≡ before ++ all_written form true ds)

-- The text is the diagnostics of the first notes, and then the diagnostics of the other notes. The
-- short form isn't specified.
abbrev pub EmittedIn : {A : Type 0} → Option MessageFormat → List (SourceFile A) → List Note
    → List Note → List ℕ → Type 0
EmittedIn None files first others text = ⊤
EmittedIn (Some form) files first others text =
    (mid : List ℕ) × EmittedNotes form files first [] mid × EmittedNotes form files others mid text

-- The list `after` is `before` with the diagnostics of the lints appended.
abbrev pub AreLintDiagnostics : {A : Type 0} → List (SourceFile A) → List Lint → List Diagnostic
    → List Diagnostic → Type 0
AreLintDiagnostics files [] before after = after ≡ before
AreLintDiagnostics files (l ∷ ls) before after =
    (d : Diagnostic) × IsDiagnostic files l.level l.place l.text (is_child_level l.level) d
    × AreLintDiagnostics files ls (before ++ d ∷ []) after

-- The text `after` is `before` with the diagnostics of the lints appended, each with its children.
abbrev pub EmittedLints : {A : Type 0} → MessageFormat → List (SourceFile A) → List Lint → List ℕ
    → List ℕ → Type 0
EmittedLints form files lints before after =
    (ds : List Diagnostic) × AreLintDiagnostics files lints [] ds
    × (after ≡ before ++ all_written form true ds)

-- The text is the diagnostics of the notes, and then the diagnostics of the lints. The short form
-- of notes isn't specified. The lints are in rustc's style then.
abbrev pub EmittedWithLints : {A : Type 0} → Option MessageFormat → List (SourceFile A) → List Note
    → List Lint → List ℕ → Type 0
EmittedWithLints None files notes lints text =
    (mid : List ℕ) × EmittedLints Text files lints mid text
EmittedWithLints (Some form) files notes lints text =
    (mid : List ℕ) × EmittedNotes form files notes [] mid × EmittedLints form files lints mid text
