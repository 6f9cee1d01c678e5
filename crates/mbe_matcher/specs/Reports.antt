-- What threads report on the way.
use Rattle.std.specs.Prelude.{ℕ, ◌≡◌, Option, Some, None, false, List, [], ◌∷◌, map, reverse}
use Rattle.mbe_tt.specs.declared.span.DelimSpan.{DelimSpan}
use Rattle.mbe_tt.specs.Trees.Tree.{Forest, rest_at}
use Rattle.mbe_semantics.specs.Bindings.Account.{Commands, Log, Handle, HasEntriesOf}
use Rattle.mbe_semantics.specs.Expansion.Error.{ExpandError}
use Rattle.mbe_semantics.specs.Readings.Verdict.{Verdict, stop_of}
use Rattle.mbe_tt.specs.Views.View.{trees}
use Rattle.mbe_tt.specs.Grammars.Grammar.{Grammar, IsLawful}
use Rattle.mbe_semantics.specs.Syntax.Op.{Ops}
use Rattle.mbe_semantics.specs.Readings.Input.{input_of}
use Rattle.mbe_semantics.specs.Matching.States.{state_count}
use Rattle.mbe_semantics.specs.Syntax.Nullable.{Checked}
use Rattle.mbe_semantics.specs.Readings.Reading.{PartialReading, EndsAt}
use Rattle.mbe_semantics.specs.Matching.Closure.{closure}
use Rattle.mbe_semantics.specs.Matching.Lists.{In}
use Rattle.mbe_semantics.specs.Matching.ThreadModel.{ThreadModel, erase}
use Rattle.mbe_laws.specs.Loop.StackClosure.{kept as kept_at}
use Rattle.mbe_ops.specs.Views.{op_of}
use Rattle.mbe_threads.specs.declared.source.Source.{Source as Argument}
use Rattle.mbe_matcher.specs.declared.simulation.FirstPassResult.{FirstPassResult}
use Rattle.mbe_matcher.specs.declared.closure.Frontier.{Frontier}
use Rattle.mbe_matcher.specs.declared.closure.MatchState.{MatchState}
use Rattle.mbe_matcher.specs.declared.match_report.Mismatch as kept
use Rattle.mbe_matcher.specs.declared.match_report.MatchReport.{MatchReport}
use Rattle.mbe_matcher.specs.declared.match_report.ReportedThread.{ReportedThread}
use Rattle.mbe_matcher.specs.Threads.{Both, Holds}
use Rattle.mbe_threads.specs.declared.thread.ThreadFrame.{ThreadFrame}
use Rattle.mbe_threads.specs.declared.thread.TokenStep.{TokenStep}
use Rattle.mbe_threads.specs.declared.thread.Thread.{Thread}
use Rattle.mbe_matcher.specs.MatchResults.{IsStackOf, IsFrontier, IsFrontierAt, states_in}
use Rattle.mbe_threads.specs.declared.stops.Stop.{Stop}
use Rattle.mbe_threads.specs.VisitCounts.{NoVisitsFrom}
use Rattle.mbe_threads.specs.Stops.{verdict_in}
use Rattle.mbe_matcher.specs.Failures.{Mismatch, Source, failed, ended, Notes, no_notes, is_any}
use Rattle.mbe_matcher.specs.Failures.{or_first, source_of, noted_at, AreNotes, Reports}

-- the bindings of the report are in the log
abbrev pub IsLast : {A : Type 0} → Log → Option (ReportedThread A) → Type 0
IsLast log None = Unit {0}
IsLast log (Some l) = HasEntriesOf log l.handle

abbrev pub IsReport : {A : Type 0} → Log → MatchReport A → Type 0
IsReport log r = IsLast log r.last

-- ---- what a report stands for

-- the op and the trees at the offset
pub record IsMismatch {A : Type 0} (argument : Forest) (m : kept.Mismatch A) (s : Mismatch) : Type 0
  where
    pub op : op_of m.op.now ≡ s.op
    pub here : m.here ≡ rest_at argument s.offset

-- what a thread that failed had bound, or a thread at the pattern's end
abbrev pub IsSource : {A : Type 0} → Log → Forest → ReportedThread A → Source → Type 0
IsSource {A} log argument l (failed s) =
    ((m : kept.Mismatch A) × (l.mismatch ≡ Some m) × IsMismatch argument m s)
    × Holds log l.handle s.bound
IsSource log argument l (ended cs) = (l.mismatch ≡ None) × Holds log l.handle cs

-- these threads failed at the offset, and this was noted before
pub record IsReportOf {A : Type 0} (log : Log) (argument : Forest) (r : MatchReport A)
    (ms : List Mismatch)
    (before : Notes) : Type 0 where
  pub first : Both (IsMismatch argument) r.first (or_first before.first ms)
  pub last : Both (IsSource log argument) r.last (source_of ms [] before.last)
  pub here : r.failed_here ≡ is_any ms

-- The report notes the source's offset, with the threads that are followed there.
abbrev pub NotesOffset : {A : Type 0} → Grammar → Argument A → Ops → List ThreadModel → Log → Log
    → MatchState A → MatchState A
    → Type 0
NotesOffset g source pattern thread_stack old new before after =
    (notes : Notes) → IsReportOf old (trees source.whole) before.report [] notes →
    IsReportOf new (trees source.whole) after.report []
    (noted_at (input_of g (trees source.whole)) source.offset
    (kept_at (input_of g (trees source.whole)) (state_count pattern) source.offset
    (reverse thread_stack)) notes)

-- All threads are followed there: none is dropped.
abbrev pub FollowsAll : {A : Type 0} → Grammar → Argument A → Ops → List ThreadModel → Type 0
FollowsAll g source pattern thread_stack =
    Checked pattern → (xs : List PartialReading)
    → ((x : PartialReading) → In x xs
    → EndsAt (input_of g (trees source.whole)) pattern source.offset x)
    → map erase xs ≡ reverse thread_stack →
    kept_at (input_of g (trees source.whole)) (state_count pattern) source.offset
    (reverse thread_stack)
    ≡ map erase (closure (input_of g (trees source.whole)) source.offset xs)

-- One thread goes on by this step. The closure has no other step, and nothing is to be noted.
pub record AdvancesAlone {A : Type 0} (g : Grammar) (source : Argument A) (pattern : Ops)
    (thread_stack : List ThreadModel)
    (log : Log) (frames : List (ThreadFrame A)) (w : TokenStep A) : Type 0 where
  pub steps : IsFrontier (input_of g (trees source.whole)) source.offset pattern thread_stack log
      frames
      (rest_at (trees source.whole) source.offset) (w ∷ []) []
  pub notes : (n : Notes) → noted_at (input_of g (trees source.whole)) source.offset
      (kept_at (input_of g (trees source.whole)) (state_count pattern) source.offset
      (reverse thread_stack)) n ≡ n
  pub all : IsLawful g → FollowsAll g source pattern thread_stack

-- The only thread of a stack goes on by this step.
abbrev pub StepsAlone : {A : Type 0} → Grammar → Argument A → Log → Log → List (ThreadFrame A)
    → List (ThreadFrame A)
    → List (Thread A) → TokenStep A → Type 0
StepsAlone g source old new before after todo w =
    (size : ℕ) (s : IsStackOf g source size old before todo)
    → AdvancesAlone g source s.pattern s.thread_stack new after w

-- The steps of two threads of each state are followed, and the offset is noted.
pub record MakesFrontier {A : Type 0} (g : Grammar) (source : Argument A) (pattern : Ops)
    (thread_stack : List ThreadModel)
    (old new : Log) (before after : MatchState A) (frontier : Frontier A) : Type 0 where
  pub steps : IsFrontierAt g source pattern thread_stack new after frontier
  pub notes : NotesOffset g source pattern thread_stack old new before after
  pub all : after.has_dropped ≡ false → (before.has_dropped ≡ false)
      × FollowsAll g source pattern thread_stack

-- the report has what all partial readings note up to the offset
abbrev pub IsFullReport : {A : Type 0} → Grammar → Ops → Forest → Log → ℕ → MatchReport A → Type 0
IsFullReport g pattern argument log q r =
    (notes : Notes) × AreNotes (input_of g argument) pattern q notes
    × IsReportOf log argument r [] notes

-- The state before the first offset, for a pattern with `number` states: no state was visited,
-- nothing is reported, and there is no thread.
pub record IsFresh {A : Type 0} (number : ℕ) (state : MatchState A) (todo : List (Thread A)) : Type
    0 where
  pub size : states_in state ≡ number
  pub no_visits : NoVisitsFrom state.counts.marks.items 0
  pub notes : (log : Log) (f : Forest) → IsReportOf log f state.report [] no_notes
  pub none : todo ≡ []

-- The report where the threads stop, if no third thread of a state was dropped.
abbrev pub IsReportAt : {A : Type 0} → Grammar → Ops → Forest → Log → Stop → MatchState A → Type 0
IsReportAt g pattern argument log stop state = state.has_dropped ≡ false
    → IsFullReport g pattern argument log (stop_of argument (verdict_in stop)) state.report

-- The same for the result of the first pass.
abbrev pub IsReportIn : {A : Type 0} → Grammar → Ops → Forest → Log → FirstPassResult A → Type 0
IsReportIn g pattern argument log r = r.has_dropped ≡ false
    → IsFullReport g pattern argument log (stop_of argument (verdict_in r.stop)) r.report

-- What a match without exactly one reading returns beside its verdict: why, and what was bound.
abbrev pub IsReported : Grammar → Ops → Forest → DelimSpan → Log → Verdict → ExpandError → Handle
    → Type 0
IsReported g pattern argument around log v err h =
    (bound : Commands) × Holds log h bound × Reports g pattern argument around v err bound
