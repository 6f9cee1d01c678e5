-- What a match that fails reports, as in rust-analyzer: why it fails, and what was bound. Threads
-- are followed in a fixed order. The first and the last one that fail decide the report.
use Rattle.std.specs.Prelude.{ℕ, ◌+◌, ◌==◌, ◌≡◌, Bool, true, false, ◌||◌, not, is_some}
use Rattle.std.specs.Prelude.{if◌then◌else◌, Option, Some, None, unwrap_or, List, [], ◌∷◌, map}
use Rattle.std.specs.Prelude.{reverse}
use Rattle.std.specs.List.{filter_map}
use Rattle.mbe_tt.specs.declared.span.DelimSpan.{DelimSpan}
use Rattle.mbe_tt.specs.Trees.Tree.{Forest, flat_len, rest_at}
use Rattle.mbe_tt.specs.Grammars.Grammar.{Grammar}
use Rattle.mbe_semantics.specs.Syntax.Op.{Op, token, group, variable, repetition, expression, Ops}
use Rattle.mbe_semantics.specs.Syntax.Op.{no_ops, op}
use Rattle.mbe_semantics.specs.Readings.Input.{Input, input_of}
use Rattle.mbe_semantics.specs.Readings.Reading.{PartialReading, start}
use Rattle.mbe_semantics.specs.Readings.Steps.{Move, move}
use Rattle.mbe_semantics.specs.Readings.Verdict.{Verdict, stop_of}
use Rattle.mbe_semantics.specs.Bindings.Account.{Commands, no_commands, command}
use Rattle.mbe_semantics.specs.Expansion.Error.{ExpandErrorKind, ExpandError, unexpected_token}
use Rattle.mbe_semantics.specs.Expansion.Error.{leftover_tokens}
use Rattle.mbe_semantics.specs.Expansion.MatchError.{match_error, failed_command}
use Rattle.mbe_semantics.specs.Matching.Closure.{closure, moves_of, targets, has_ambiguity}
use Rattle.mbe_semantics.specs.Matching.ThreadModel.{ThreadModel, thread_model, erase, epsilons_of}
use Rattle.mbe_semantics.specs.Matching.ThreadModel.{next_of, finished_of}

-- the list has a member
abbrev pub is_any : {A : Type 0} → List A → Bool
is_any [] = false
is_any (x ∷ xs) = true

-- ---- one thread at an offset

-- the thread has a step at the offset, or is at the pattern's end
abbrev pub has_step : Input → ℕ → ThreadModel → Bool
has_step i q o = is_any (epsilons_of i q o) || (is_some (next_of i q o) || is_some (finished_of o))

-- the op notes an error if it doesn't fit: a token does, and a variable of a known kind
abbrev pub reports_error : Op → Bool
reports_error (token t) = true
reports_error (variable name (Some kind) span) = true
reports_error (variable name None span) = false
reports_error (group d b) = false
reports_error (repetition b s k) = false
reports_error (expression e) = false

-- an op that doesn't fit at an offset, and what was bound before it
pub record Mismatch : Type 0 where
  pub op : Op
  pub offset : ℕ
  pub bound : Commands

-- the thread fails if it has no step and is before an op that notes an error
abbrev pub mismatch_unless : Bool → ℕ → ThreadModel → Option Mismatch
mismatch_unless continues q (thread_model no_ops a up) = None
mismatch_unless continues q (thread_model (op o rest) a up) =
    if continues || not (reports_error o) then None else Some
    (record { op = o; offset = q; bound = a.current })

-- the remaining ops of a thread, and what it has bound
abbrev pub remaining_ops : ThreadModel → Ops
remaining_ops (thread_model rest a up) = rest

abbrev pub bound_by : ThreadModel → Commands
bound_by (thread_model rest a up) = a.current

abbrev pub mismatch : Input → ℕ → ThreadModel → Option Mismatch
mismatch i q o = mismatch_unless (has_step i q o) q o

-- ---- what is noted from offset to offset

-- what the bindings come from: a thread that failed, or a thread at the pattern's end
pub data Source : Type 0 where
  failed : Mismatch → Source
  ended : Commands → Source

-- the first thread that failed; and the last thread that failed, or the first thread at the
-- pattern's end if none failed at that offset
pub record Notes : Type 0 where
  pub first : Option Mismatch
  pub last : Option Source

abbrev pub no_notes : Notes
no_notes = record { first = None; last = None }

-- the optional value, or else the first member
abbrev pub or_first : {A : Type 0} → Option A → List A → Option A
or_first (Some x) xs = Some x
or_first None [] = None
or_first None (x ∷ xs) = Some x

abbrev pub last_of : {A : Type 0} → A → List A → A
last_of x [] = x
last_of x (y ∷ ys) = last_of y ys

-- the source after an offset: from the threads that fail there, from what is bound at the pattern's
-- end there, or from the offsets before
abbrev pub source_of : List Mismatch → List Commands → Option Source → Option Source
source_of [] [] before = before
source_of [] (cs ∷ more) before = Some (ended cs)
source_of (m ∷ ms) ends before = Some (failed (last_of m ms))

-- what is noted after that offset
abbrev pub noted_with : List Mismatch → List Commands → Notes → Notes
noted_with ms ends before =
    record { first = or_first before.first ms; last = source_of ms ends before.last }

-- what is noted after these threads were followed at the offset, in this order
abbrev pub noted_at : Input → ℕ → List ThreadModel → Notes → Notes
noted_at i q os before =
    noted_with (filter_map (mismatch i q) os) (filter_map finished_of os) before

-- ---- over all partial readings

-- The offsets that a match reaches, with the partial readings that come there, in the order in
-- which they are followed, and what was noted before. Steps over tokens are pushed in order, so the
-- partial reading after the last step is followed first.
pub data ReachesWith (i : Input) (pattern : Ops) : ℕ → List PartialReading → Notes → Type 0 where
  at_start : ReachesWith i pattern 0 (start pattern ∷ []) no_notes
  at_next : (q m n : ℕ) (f : Bool) (y : PartialReading) (ms : List Move) (xs : List PartialReading)
      (before : Notes) →
      ReachesWith i pattern q xs before → moves_of i q (closure i q xs) ≡ move n f y ∷ ms
      → has_ambiguity (move n f y ∷ ms) ≡ false → m ≡ q + n →
      ReachesWith i pattern m (reverse (targets (move n f y ∷ ms)))
      (noted_at i q (map erase (closure i q xs)) before)

-- what is noted up to an offset, including it
abbrev pub AreNotes : Input → Ops → ℕ → Notes → Type 0
AreNotes i pattern q notes =
    (xs : List PartialReading) × (before : Notes) × ReachesWith i pattern q xs before
    × (notes ≡ noted_at i q (map erase (closure i q xs)) before)

-- ---- what is reported

-- the error if nothing was noted: the tokens end too early, or too late
abbrev pub stop_kind : Bool → ExpandErrorKind
stop_kind true = unexpected_token
stop_kind false = leftover_tokens

abbrev pub noted_error : Grammar → Forest → DelimSpan → Option Mismatch → Option ExpandError
noted_error g argument around None = None
noted_error g argument around (Some m) = match_error g m.op (rest_at argument m.offset) around

-- the first error that was noted, or the error of the stop, at the argument's opening
abbrev pub error_of_notes : Grammar → Forest → DelimSpan → Bool → Notes → ExpandError
error_of_notes g argument around at_end notes =
    unwrap_or (noted_error g argument around notes.first)
    (record { span = around.opening; kind = stop_kind at_end })

-- a variable that fails is bound too
abbrev pub bound_at : Grammar → Op → Forest → Commands → Commands
bound_at g (variable name (Some kind) span) here cs = command cs (failed_command g name kind here)
bound_at g (variable name None span) here cs = cs
bound_at g (token t) here cs = cs
bound_at g (group d b) here cs = cs
bound_at g (repetition b s k) here cs = cs
bound_at g (expression e) here cs = cs

abbrev pub commands_of_notes : Grammar → Forest → Option Source → Commands
commands_of_notes g argument None = no_commands
commands_of_notes g argument (Some (ended cs)) = cs
commands_of_notes g argument (Some (failed m)) = bound_at g m.op (rest_at argument m.offset) m.bound

-- What a match without exactly one reading reports when it stops at the verdict's offset: an error,
-- and what is bound.
pub record Reports (g : Grammar) (pattern : Ops) (argument : Forest) (around : DelimSpan)
    (v : Verdict)
    (err : ExpandError) (bound : Commands) : Type 0 where
  pub notes : Notes
  pub error_at : AreNotes (input_of g argument) pattern (stop_of argument v) notes
  pub error : err ≡ error_of_notes g argument around (stop_of argument v == flat_len argument) notes
  pub bindings : bound ≡ commands_of_notes g argument notes.last
