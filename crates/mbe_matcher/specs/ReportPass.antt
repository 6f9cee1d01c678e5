-- What the lists of the second pass stand for.
--
-- The pass keeps two stacks: one for the first thread of each state, and one for the last.
use Rattle.std.specs.Prelude.{ℕ, ◌≡◌, ◌+◌, Bool, true, is_some, Option, Some, None, List, [], ◌∷◌}
use Rattle.std.specs.Prelude.{◌++◌, map, length, reverse}
use Rattle.std.specs.List.{filter_map}
use Rattle.mbe_tt.specs.Trees.Tree.{Forest, rest_at}
use Rattle.mbe_tt.specs.Views.View.{trees}
use Rattle.mbe_tt.specs.Grammars.Grammar.{Grammar}
use Rattle.mbe_semantics.specs.Syntax.Op.{Ops}
use Rattle.mbe_semantics.specs.Readings.Input.{Input, input_of}
use Rattle.mbe_semantics.specs.Readings.Reading.{PartialReading, EndsAt}
use Rattle.mbe_semantics.specs.Readings.Verdict.{Verdict, IsVerdict, stop_of}
use Rattle.mbe_semantics.specs.Bindings.Account.{Log, Handle}
use Rattle.mbe_semantics.specs.Matching.Lists.{In}
use Rattle.mbe_semantics.specs.Matching.States.{state_count}
use Rattle.mbe_semantics.specs.Matching.ThreadModel.{ThreadModel, erase, epsilons_of, next_of}
use Rattle.mbe_semantics.specs.Matching.ThreadModel.{finished_of}
use Rattle.mbe_ops.specs.Views.{ops_of}
use Rattle.mbe_matcher.specs.declared.visited_set.VisitedSet.{VisitedSet}
use Rattle.mbe_threads.specs.declared.thread.ThreadFrame.{ThreadFrame}
use Rattle.mbe_threads.specs.declared.thread.Thread.{Thread}
use Rattle.mbe_threads.specs.declared.thread.TokenStep.{TokenStep}
use Rattle.mbe_threads.specs.declared.source.Source.{Source}
use Rattle.mbe_matcher.specs.declared.report_pass.FailedThread.{FailedThread}
use Rattle.mbe_matcher.specs.declared.report_pass.FirstThreads.{FirstThreads}
use Rattle.mbe_matcher.specs.declared.report_pass.LastThreads.{LastThreads}
use Rattle.mbe_matcher.specs.declared.report_pass.ThreadExit.{ThreadExit}
use Rattle.mbe_matcher.specs.declared.report_pass.ReportPass.{ReportPass}
use Rattle.mbe_matcher.specs.declared.report_pass.Visit as declared
use Rattle.mbe_matcher.specs.declared.report_pass.Visit.TheVariants as variants
use Rattle.mbe_matcher.specs.VisitedSet.{AreUnvisitedFrom}
use Rattle.mbe_matcher.specs.Threads.{Each, Both, Shows, LeadsTo, Holds, Keeps}
use Rattle.mbe_matcher.specs.Failures.{Mismatch, Notes, has_step, mismatch, mismatch_unless}
use Rattle.mbe_matcher.specs.Failures.{remaining_ops, bound_by}
use Rattle.mbe_matcher.specs.Reports.{IsReportOf}
use Rattle.mbe_matcher.specs.FirstAndLast.{Visit, enter, leave, only_first, model_first}
use Rattle.mbe_matcher.specs.FirstAndLast.{first_moves, model_back, back_moves}

-- the model of a partial reading that ends at the offset
abbrev pub IsHere : Input → Ops → ℕ → ThreadModel → Type 0
IsHere i pattern q o = (x : PartialReading) × EndsAt i pattern q x × (erase x ≡ o)

-- The stack, the first on top, stands for thread models of a pattern with `size` states.
pub record IsFirstStack {A : Type 0} (i : Input) (offset size : ℕ) (log : Log)
    (frames : List (ThreadFrame A))
    (stack : List (Thread A)) : Type 0 where
  pub pattern : Ops
  pub size_is : state_count pattern ≡ size
  pub models : List ThreadModel
  pub here : (o : ThreadModel) → In o models → IsHere i pattern offset o
  pub shown : Each (Shows log frames) stack (reverse models)

-- What the first thread of each state leads to: steps over tokens of `here`, and commands at the
-- pattern's end.
pub record AreFirsts {A : Type 0} (i : Input) (offset : ℕ) (pattern : Ops) (os : List ThreadModel)
    (log : Log)
    (frames : List (ThreadFrame A)) (here : Forest) (token_steps : List (TokenStep A))
    (ends : List Handle) : Type 0 where
  pub continues : Each (LeadsTo log frames here) token_steps
      (first_moves i (state_count pattern) offset os)
  pub ended : Each (Holds log) ends
      (filter_map finished_of (model_first i (state_count pattern) offset os))

-- the stack at the offset of a source
abbrev pub IsFirstStackAt : {A : Type 0} → Grammar → Source A → Log → ReportPass A → List (Thread A)
    → Type 0
IsFirstStackAt g source log pass stack =
    IsFirstStack (input_of g (trees source.whole)) source.offset
    (length pass.first_visited.offsets.items) log
    pass.frames.items stack

abbrev pub AreFirstsAt : {A : Type 0} → Grammar → Source A → Ops → List ThreadModel → Log
    → ReportPass A → FirstThreads A → Type 0
AreFirstsAt g source pattern os log pass firsts =
    AreFirsts (input_of g (trees source.whole)) source.offset pattern os log pass.frames.items
    (rest_at (trees source.whole) source.offset) firsts.token_steps.items firsts.ends.items

-- the threads that fail are noted
abbrev pub NotesFirsts : {A : Type 0} → Grammar → Source A → Ops → List ThreadModel → Log → Log
    → ReportPass A → ReportPass A → Type 0
NotesFirsts g source pattern os old new before after =
    (notes : Notes) → IsReportOf old (trees source.whole) before.report [] notes →
    IsReportOf new (trees source.whole) after.report
    (filter_map (mismatch (input_of g (trees source.whole)) source.offset)
    (model_first (input_of g (trees source.whole)) (state_count pattern) source.offset os)) notes

-- no state was visited at a later offset
abbrev pub AreUnvisitedAfter : {A : Type 0} → VisitedSet A → ℕ → Type 0
AreUnvisitedAfter visited offset = AreUnvisitedFrom visited.offsets.items (offset + 1)

-- both sets have the same number of states
abbrev pub AreAsMany : {A : Type 0} → VisitedSet A → VisitedSet A → Type 0
AreAsMany new old = length new.offsets.items ≡ length old.offsets.items

-- everything in the log and among the open items is kept
abbrev pub PassKeeps : {A : Type 0} → Log → Log → ReportPass A → ReportPass A → Type 0
PassKeeps old new before after = Keeps old new before.frames.items after.frames.items

-- ---- the last thread of each state

-- the failed thread stands for the model, which has no step; or there is none, and the
-- model doesn't fail
abbrev pub FailsBy : {A : Type 0} → Bool → ℕ → Log → Option (FailedThread A) → ThreadModel → Type 0
FailsBy continues q log None o = mismatch_unless continues q o ≡ None
FailsBy continues q log (Some f) o =
    (is_some (mismatch_unless continues q o) ≡ true) × (ops_of f.tail.now ≡ remaining_ops o)
    × Holds log f.handle (bound_by o)

-- what remains of the model after its epsilon steps at the offset, over tokens of `here`
pub record Leaves {A : Type 0} (i : Input) (here : Forest) (q : ℕ) (log : Log)
    (frames : List (ThreadFrame A)) (l : ThreadExit A)
    (o : ThreadModel) : Type 0 where
  pub next : Both (LeadsTo log frames here) l.next (next_of i q o)
  pub failed : FailsBy (has_step i q o) q log l.failed o

abbrev pub VisitShows : {A : Type 0} → Input → Forest → ℕ → Log → List (ThreadFrame A)
    → declared.Visit A → Visit → Type 0
VisitShows i here q log frames (variants.Enter p) (enter o) = Shows log frames p o
VisitShows i here q log frames (variants.Leave l) (leave o) = Leaves i here q log frames l o
VisitShows i here q log frames (variants.Enter p) (leave o) = ⊥
VisitShows i here q log frames (variants.Leave l) (enter o) = ⊥

-- The stack, the first on top, stands for thread models that are entered.
pub record IsLastStack {A : Type 0} (i : Input) (here : Forest) (offset size : ℕ) (log : Log)
    (frames : List (ThreadFrame A))
    (stack : List (declared.Visit A)) : Type 0 where
  pub pattern : Ops
  pub size_is : state_count pattern ≡ size
  pub models : List ThreadModel
  pub are_here : (o : ThreadModel) → In o models → IsHere i pattern offset o
  pub shown : Each (VisitShows i here offset log frames) stack (reverse (map enter models))

-- the thread, to be entered
abbrev pub to_enter : {A : Type 0} → Thread A → declared.Visit A
to_enter p = variants.Enter p

-- what entering a thread model pushes: what remains of it, and on top of that its epsilon steps
pub record Enters {A : Type 0} (i : Input) (here : Forest) (q : ℕ) (old new : Log)
    (before after : List (ThreadFrame A))
    (o : ThreadModel) (todo pushed : List (declared.Visit A)) : Type 0 where
  pub left : ThreadExit A
  pub steps : List (Thread A)
  pub are : pushed ≡ todo ++ (variants.Leave left ∷ map to_enter steps)
  pub shown : Each (Shows new after) steps (epsilons_of i q o)
  pub leaves : Leaves i here q new after left o
  pub kept : Keeps old new before after

abbrev pub GivesEntered : {A : Type 0} → Grammar → Source A → Log → Log → List (ThreadFrame A)
    → List (ThreadFrame A) → Thread A
    → List (declared.Visit A) → List (declared.Visit A) → Type 0
GivesEntered g source old new before after p todo pushed =
    (o : ThreadModel) → Shows old before p o →
    Enters (input_of g (trees source.whole)) (rest_at (trees source.whole) source.offset)
    source.offset old new before
    after o todo pushed

-- the first of these models that fails, or none fails
abbrev pub FirstFails : {A : Type 0} → Input → ℕ → Log → Option (FailedThread A) → List ThreadModel
    → Type 0
FirstFails i q log None os = filter_map (mismatch i q) os ≡ []
FirstFails i q log (Some f) os =
    (o : ThreadModel) × (m : Mismatch) × (mismatch i q o ≡ Some m)
    × (ops_of f.tail.now ≡ remaining_ops o)
    × Holds log f.handle (bound_by o)
    × (only_first (filter_map (mismatch i q) os) ≡ m ∷ [])

-- What the last thread of each state leads to, the last first.
pub record AreLasts {A : Type 0} (i : Input) (offset : ℕ) (pattern : Ops) (os : List ThreadModel)
    (log : Log)
    (frames : List (ThreadFrame A)) (here : Forest) (token_steps : List (TokenStep A))
    (failed : Option (FailedThread A)) : Type 0 where
  pub continues : Each (LeadsTo log frames here) token_steps
      (back_moves i (state_count pattern) offset os)
  pub fails : FirstFails i offset log failed (model_back i (state_count pattern) offset os)

abbrev pub IsLastStackAt : {A : Type 0} → Grammar → Source A → Log → ReportPass A
    → List (declared.Visit A) → Type 0
IsLastStackAt g source log pass stack =
    IsLastStack (input_of g (trees source.whole)) (rest_at (trees source.whole) source.offset)
    source.offset
    (length pass.last_visited.offsets.items) log pass.frames.items stack

abbrev pub AreLastsAt : {A : Type 0} → Grammar → Source A → Ops → List ThreadModel → Log
    → ReportPass A → LastThreads A → Type 0
AreLastsAt g source pattern os log pass lasts =
    AreLasts (input_of g (trees source.whole)) source.offset pattern os log pass.frames.items
    (rest_at (trees source.whole) source.offset) lasts.token_steps.items lasts.failed

-- the thread after a step, to be entered
abbrev pub visit_after : {A : Type 0} → TokenStep A → declared.Visit A
visit_after w = to_enter w.after

-- ---- the whole pass

-- the offset where the match stops
abbrev pub IsStop : Grammar → Ops → Forest → ℕ → Type 0
IsStop g pattern argument q = (v : Verdict) × IsVerdict g pattern argument v
    × (q ≡ stop_of argument v)
