-- Compaction keeps what threads and reports stand for, in a smaller log and with fewer open items.
use Rattle.std.specs.Prelude.{◌≡◌, ◌<◌, ℕ, List, length, slice_get, Option, Some, None}
use Rattle.mbe_tt.specs.Trees.Tree.{Forest}
use Rattle.mbe_semantics.specs.Readings.Input.{Input}
use Rattle.mbe_semantics.specs.Bindings.Account.{Log, Handle}
use Rattle.mbe_semantics.specs.Matching.ThreadModel.{ModelFrame, ThreadModel}
use Rattle.mbe_log.specs.declared.log.LogSize.{LogSize}
use Rattle.mbe_bindings.specs.declared.log_compaction.HandleMap.{HandleMap}
use Rattle.mbe_bindings.specs.LogCompaction.{Maps, IsMoved, HasAtMost}
use Rattle.mbe_log.specs.HandleChanges.{KeepsHandles}
use Rattle.mbe_threads.specs.declared.thread.ThreadFrame.{ThreadFrame}
use Rattle.mbe_threads.specs.declared.thread.Thread.{Thread}
use Rattle.mbe_threads.specs.declared.thread.OpenRepetition.{OpenRepetition}
use Rattle.mbe_matcher.specs.declared.compaction.CompactedThreads.{CompactedThreads}
use Rattle.mbe_matcher.specs.declared.report_pass.Visit as declared
use Rattle.mbe_matcher.specs.declared.report_pass.Visit.TheVariants as variants
use Rattle.mbe_matcher.specs.declared.match_report.MatchReport.{MatchReport}
use Rattle.mbe_matcher.specs.Threads.{Each, Both, AreFrames, Shows}
use Rattle.mbe_matcher.specs.ReportPass.{VisitShows}
use Rattle.mbe_matcher.specs.Failures.{Mismatch, Notes}
use Rattle.mbe_matcher.specs.Reports.{IsReportOf}
use Rattle.mbe_matcher.specs.FirstAndLast.{Visit}

-- ---- what compaction keeps

-- threads stand for the same models in another log, with other open items
abbrev pub ThreadsStay : {A : Type 0} → Log → Log → List (ThreadFrame A) → List (ThreadFrame A)
    → List (Thread A)
    → List (Thread A) → Type 0
ThreadsStay old new before after ps qs =
    (os : List ThreadModel) → Each (Shows old before) ps os → Each (Shows new after) qs os

-- so do threads that are entered
abbrev pub VisitsStay : {A : Type 0} → Log → Log → List (ThreadFrame A) → List (ThreadFrame A)
    → List (declared.Visit A)
    → List (declared.Visit A) → Type 0
VisitsStay old new before after us vs =
    (i : Input) (here : Forest) (q : ℕ) (os : List Visit)
    → Each (VisitShows i here q old before) us os
    → Each (VisitShows i here q new after) vs os

-- the report stands for the same in another log
abbrev pub ReportStays : {A : Type 0} → Log → Log → MatchReport A → MatchReport A → Type 0
ReportStays old new r s = (argument : Forest) (ms : List Mismatch) (before : Notes)
    → IsReportOf old argument r ms before
    → IsReportOf new argument s ms before

-- what was in the log at the start of a match, when it had no more lists than that, is still there
abbrev pub StartStays : LogSize → Log → Log → Type 0
StartStays extent old new = (first : Log) → KeepsHandles first old → HasAtMost extent first
    → KeepsHandles first new

-- ---- how compaction works

-- the new handles stand for what the old ones do
abbrev pub AreHandles : {A : Type 0} → HandleMap A → Log → Log → Type 0
AreHandles moves old new = (h k : Handle) → Maps moves h k → IsMoved old new h k

-- the table maps the old index to the new one; or both are none
abbrev pub IsNumbered : List (Option ℕ) → Option ℕ → Option ℕ → Type 0
IsNumbered numbers None v = v ≡ None
IsNumbered numbers (Some n) v = (m : ℕ) × (slice_get numbers n ≡ Some (Some m)) × (v ≡ Some m)

-- the same repetition, with another handle
abbrev pub AreSent : {A : Type 0} → HandleMap A → OpenRepetition A → OpenRepetition A → Type 0
AreSent moves r s = (k : Handle) × Maps moves r.outside k × (s ≡ record r { outside = k })

-- the same open item, with another handle, and with the new index of the item around it
pub record IsCarried {A : Type 0} (moves : HandleMap A) (numbers : List (Option ℕ))
    (o p : ThreadFrame A) : Type 0 where
  pub rounds : Both (AreSent moves) o.rounds p.rounds
  pub rest : p.rest ≡ o.rest
  pub up : IsNumbered numbers o.up p.up

-- The open items that have new indices are there, with what is around them.
pub record AreCarried {A : Type 0} (old new : Log) (before after : List (ThreadFrame A))
    (numbers : List (Option ℕ)) : Type 0 where
  pub below : (n m : ℕ) → slice_get numbers n ≡ Some (Some m) → m < length after
  pub edges : (n m : ℕ) → slice_get numbers n ≡ Some (Some m) → (es : List ModelFrame)
      → AreFrames old before (Some n) es → AreFrames new after (Some m) es

-- The result of compacting a log and open items.
pub record Carries {A : Type 0} (old : Log) (before : List (ThreadFrame A))
    (m : CompactedThreads A) : Type 0 where
  pub handles : AreHandles m.moves old m.log
  pub items : AreCarried old m.log before m.frames.items m.numbers.items

-- the new thread stands for the same model as the old one
abbrev pub CarriesThread : {A : Type 0} → CompactedThreads A → Thread A → Thread A → Type 0
CarriesThread {A} m p q = (old : Log) (before : List (ThreadFrame A)) → Carries old before m
    → (o : ThreadModel)
    → Shows old before p o → Shows m.log m.frames.items q o

-- both are threads to be entered
abbrev pub CarriesVisit : {A : Type 0} → CompactedThreads A → declared.Visit A → declared.Visit A
    → Type 0
CarriesVisit m (variants.Enter p) (variants.Enter q) = CarriesThread m p q
CarriesVisit m (variants.Enter p) (variants.Leave l) = ⊥
CarriesVisit m (variants.Leave l) v = ⊥

-- the report stands for the same, with another handle
abbrev pub CarriesReport : {A : Type 0} → HandleMap A → MatchReport A → MatchReport A → Type 0
CarriesReport moves r s = (old new : Log) → AreHandles moves old new → ReportStays old new r s
