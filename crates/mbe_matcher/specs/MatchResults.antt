-- The closure of the threads at an offset, and what a match returns.
use Rattle.std.specs.Prelude.{ℕ, ◌≡◌, List, [], length, reverse}
use Rattle.mbe_tt.specs.Trees.Tree.{Forest, rest_at}
use Rattle.mbe_tt.specs.Views.View.{trees}
use Rattle.mbe_tt.specs.Grammars.Grammar.{Grammar}
use Rattle.mbe_semantics.specs.Syntax.Op.{Ops}
use Rattle.mbe_semantics.specs.Readings.Item.{Items}
use Rattle.mbe_semantics.specs.Readings.Ambiguity.{Fits}
use Rattle.mbe_semantics.specs.Readings.Verdict.{Verdict, one_reading, many_readings, ambiguous}
use Rattle.mbe_semantics.specs.Readings.Verdict.{stuck}
use Rattle.mbe_semantics.specs.Bindings.Account.{Log, Handle, commands_of, no_account}
use Rattle.mbe_matcher.specs.declared.matcher.Verdict as verdicts
use Rattle.mbe_semantics.specs.Readings.Input.{Input, input_of}
use Rattle.mbe_semantics.specs.Readings.Reading.{PartialReading}
use Rattle.mbe_semantics.specs.Matching.States.{state_count}
use Rattle.mbe_semantics.specs.Matching.ThreadModel.{ThreadModel}
use Rattle.mbe_semantics.specs.Matching.Frontier.{Stack}
use Rattle.mbe_laws.specs.Loop.StackClosure.{stack_moves, stack_ends}
use Rattle.mbe_threads.specs.declared.thread.ThreadFrame.{ThreadFrame}
use Rattle.mbe_threads.specs.declared.thread.Thread.{Thread}
use Rattle.mbe_threads.specs.declared.thread.TokenStep.{TokenStep}
use Rattle.mbe_matcher.specs.declared.closure.Frontier.{Frontier}
use Rattle.mbe_matcher.specs.declared.closure.MatchState.{MatchState}
use Rattle.mbe_threads.specs.declared.source.Source.{Source}
use Rattle.mbe_matcher.specs.Threads.{Each, IsModelled, Shows, LeadsTo, Holds}

-- ---- the threads at an offset

-- The threads, the last on top, stand for partial readings of a pattern with `size` states. The
-- partial readings end at the offset.
pub record IsStack {A : Type 0} (i : Input) (offset size : ℕ) (log : Log)
    (frames : List (ThreadFrame A))
    (todo : List (Thread A)) : Type 0 where
  pub pattern : Ops
  pub size_is : state_count pattern ≡ size
  pub partial_readings : List PartialReading
  pub thread_stack : List ThreadModel
  pub stack : Stack i pattern offset partial_readings thread_stack
  pub shown : Each (Shows log frames) todo thread_stack

-- What a stack leads to if two threads of each state are followed: steps over tokens of `here`, and
-- commands at the pattern's end.
pub record IsFrontier {A : Type 0} (i : Input) (offset : ℕ) (pattern : Ops)
    (thread_stack : List ThreadModel) (log : Log)
    (frames : List (ThreadFrame A)) (here : Forest) (token_steps : List (TokenStep A))
    (ends : List Handle) : Type 0 where
  pub continues : Each (LeadsTo log frames here) token_steps
      (stack_moves i (state_count pattern) offset (reverse thread_stack))
  pub ended : Each (Holds log) ends
      (stack_ends i (state_count pattern) offset (reverse thread_stack))

-- the thread is before the first op of the pattern, and has bound nothing
abbrev pub IsAtStart : {A : Type 0} → Log → Ops → Thread A → Type 0
IsAtStart {A} log pattern p = (frames : List (ThreadFrame A))
    → IsModelled log frames p pattern no_account []

-- the number of states of the match's pattern
abbrev pub states_in : {A : Type 0} → MatchState A → ℕ
states_in state = length state.counts.marks.items

-- the stack at the offset of a source
abbrev pub IsStackOf : {A : Type 0} → Grammar → Source A → ℕ → Log → List (ThreadFrame A)
    → List (Thread A) → Type 0
IsStackOf g source size log frames todo =
    IsStack (input_of g (trees source.whole)) source.offset size log frames todo

-- the stack of a match at the offset of a source
abbrev pub IsStackAt : {A : Type 0} → Grammar → Source A → Log → MatchState A → List (Thread A)
    → Type 0
IsStackAt g source log state todo =
    IsStack (input_of g (trees source.whole)) source.offset (states_in state) log
    state.frames.items todo

abbrev pub IsFrontierAt : {A : Type 0} → Grammar → Source A → Ops → List ThreadModel → Log
    → MatchState A → Frontier A → Type 0
IsFrontierAt g source pattern thread_stack log state frontier =
    IsFrontier (input_of g (trees source.whole)) source.offset pattern thread_stack log
    state.frames.items
    (rest_at (trees source.whole) source.offset) frontier.token_steps.items frontier.ends.items

-- ---- what a match returns

-- the verdict that a match returns
abbrev pub verdict_seen : verdicts.Verdict → Verdict
verdict_seen verdicts.TheVariants.OneReading = one_reading
verdict_seen verdicts.TheVariants.ManyReadings = many_readings
verdict_seen (verdicts.TheVariants.Ambiguous q) = ambiguous q
verdict_seen (verdicts.TheVariants.Stuck q) = stuck q

-- The handle's current commands are what the only reading binds.
abbrev pub Binds : Grammar → Ops → Forest → Log → Handle → Type 0
Binds g pattern argument log h = (is : Items) × Fits g pattern argument is
    × Holds log h (commands_of is)
