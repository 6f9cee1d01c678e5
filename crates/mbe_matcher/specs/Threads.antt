-- What the matcher's threads stand for: thread models.
use Rattle.std.specs.Prelude.{ℕ, zero, suc, ◌+◌, ◌<◌, ◌≡◌, Bool, Option, Some, None, option_map}
use Rattle.std.specs.Prelude.{is_some, option_to_list, List, [], ◌∷◌, ◌++◌, slice_get, Result, Ok}
use Rattle.std.specs.Prelude.{IfOk, IfSome}
use Rattle.std.specs.declared.alloc.AllocError.{AllocError}
use Rattle.mbe_semantics.specs.declared.fragment_kinds.RepeatKind.{RepeatKind}
use Rattle.mbe_tt.specs.Trees.Tree.{Forest, rest_at}
use Rattle.mbe_tt.specs.Views.View.{trees}
use Rattle.mbe_tt.specs.Grammars.Grammar.{Grammar}
use Rattle.mbe_tt.specs.declared.grammar.Dialect.{Dialect}
use Rattle.mbe_semantics.specs.Syntax.Op.{Op, token, group, variable, repetition, expression, Ops}
use Rattle.mbe_semantics.specs.Syntax.Op.{names_of}
use Rattle.mbe_semantics.specs.Readings.Input.{Input, input_of}
use Rattle.mbe_semantics.specs.Readings.Steps.{skip_of}
use Rattle.mbe_semantics.specs.Bindings.Account.{Account, Commands, Log, Handle, IsAccount}
use Rattle.mbe_semantics.specs.Matching.States.{state_count, frames_after}
use Rattle.mbe_semantics.specs.Matching.ThreadModel.{ModelFrame, group_frame, repetition_frame}
use Rattle.mbe_semantics.specs.Matching.ThreadModel.{ThreadModel, thread_model, Advance, advance}
use Rattle.mbe_semantics.specs.Matching.ThreadModel.{skipped, epsilons_of, next_of, finished_of}
use Rattle.mbe_log.specs.HandleChanges.{KeepsHandles}
use Rattle.mbe_ops.specs.Views.{ops_of, separator_seen}
use Rattle.mbe_threads.specs.declared.source.Source.{Source}
use Rattle.mbe_threads.specs.declared.thread.Thread.{Thread}
use Rattle.mbe_threads.specs.declared.thread.ThreadFrame.{ThreadFrame}
use Rattle.mbe_threads.specs.declared.thread.OpenRepetition.{OpenRepetition}
use Rattle.mbe_threads.specs.declared.thread.TokenStep.{TokenStep}
use Rattle.mbe_threads.specs.declared.thread.Steps.{Steps}
use Rattle.mbe_threads.specs.Remainder.{IsRemainder}

-- ---- lists, member by member

-- both lists have the same length, and `R` holds for each pair of members
abbrev pub Each : {X Y : Type 0} → (X → Y → Type 0) → List X → List Y → Type 0
Each R [] [] = Unit {0}
Each R (x ∷ xs) (y ∷ ys) = R x y × Each R xs ys
Each R [] (y ∷ ys) = ⊥
Each R (x ∷ xs) [] = ⊥

-- both values are there and `R` holds for them, or neither is there
abbrev pub Both : {X Y : Type 0} → (X → Y → Type 0) → Option X → Option Y → Type 0
Both R None None = Unit {0}
Both R (Some x) (Some y) = R x y
Both R None (Some y) = ⊥
Both R (Some x) None = ⊥

-- the new list is the old one with members added at the end
abbrev pub Grows : {X : Type 0} → List X → List X → Type 0
Grows {X} old new = (more : List X) × (new ≡ old ++ more)

-- ---- threads

-- the model of an open repetition, with the offset where its round began and the account outside
abbrev pub frame_in : {A : Type 0} → OpenRepetition A → Ops → ℕ → Account → ModelFrame
frame_in r rest began outside =
    repetition_frame (ops_of r.body.now) (option_map (λ s. separator_seen s.now) r.separator) r.kind
    rest
    began outside

-- What the program keeps of an open repetition: the account outside, and the number of the state
-- before its body.
pub record AreRounds {A : Type 0} (log : Log) (r : OpenRepetition A) (rest : Ops)
    (outside : Account)
    (up : List ModelFrame) : Type 0 where
  pub account : IsAccount log r.outside outside
  pub front : r.front ≡ state_count (ops_of r.body.now) + (state_count rest + frames_after up)

-- the index, if there is one, is less than `n`
abbrev pub IsBelow : Option ℕ → ℕ → Type 0
IsBelow u n = IfSome u (λ m. m < n)

-- how many items of the list may be open around a thread whose innermost open item has this index
abbrev pub open_items : Option ℕ → ℕ
open_items None = 0
open_items (Some n) = n + 1

module _ {A : Type 0} (log : Log) (frames : List (ThreadFrame A)) where
  -- The open items from this index outwards, innermost first. Each one comes after the one around
  -- it in the list. The program doesn't keep the offset where a round began.
  pub data AreFrames : Option ℕ → List ModelFrame → Type 0 where
    none_open : AreFrames None []
    group_open : (n : ℕ) (o : ThreadFrame A) (es : List ModelFrame) → slice_get frames n ≡ Some o
        → o.rounds ≡ None
        → IsBelow o.up n → AreFrames o.up es →
        AreFrames (Some n) (group_frame (ops_of o.rest.now) ∷ es)
    repetition_open : (n : ℕ) (o : ThreadFrame A) (r : OpenRepetition A) (began : ℕ)
        (outside : Account) (es : List ModelFrame) →
        slice_get frames n ≡ Some o → o.rounds ≡ Some r
        → AreRounds log r (ops_of o.rest.now) outside es
        → IsBelow o.up n → AreFrames o.up es →
        AreFrames (Some n) (frame_in r (ops_of o.rest.now) began outside ∷ es)

  -- the thread has these remaining ops, this account, and these open items
  pub record IsModelled (p : Thread A) (rest : Ops) (a : Account) (up : List ModelFrame) : Type 0
    where
      pub tail : ops_of p.tail.now ≡ rest
      pub number : p.number ≡ state_count rest + frames_after up
      pub account : IsAccount log p.handle a
      pub around : AreFrames p.up up

  -- the thread stands for this model
  abbrev pub Shows : Thread A → ThreadModel → Type 0
  Shows p (thread_model rest a up) = IsModelled p rest a up

  -- the thread stands for some model
  abbrev pub IsThread : Thread A → Type 0
  IsThread p = (o : ThreadModel) × Shows p o

  -- ---- steps

  -- the step over tokens of `here` has this width and leads to this model
  pub record Leads (here : Forest) (w : TokenStep A) (width : ℕ) (by_fragment : Bool)
      (o : ThreadModel) : Type 0 where
    pub width_is : w.width ≡ width
    pub fragment_is : is_some w.beyond ≡ by_fragment
    pub left : IsRemainder here w.width w.beyond
    pub after : Shows w.after o

  abbrev pub LeadsTo : Forest → TokenStep A → Advance → Type 0
  LeadsTo here w (advance width by_fragment o) = Leads here w width by_fragment o

-- the handle has these current commands
abbrev pub Holds : Log → Handle → Commands → Type 0
Holds log h cs = (a : Account) × IsAccount log h a × (a.current ≡ cs)

-- the threads after epsilon steps, in order
abbrev pub epsilons_in : {A : Type 0} → Steps A → List (Thread A)
epsilons_in s = option_to_list s.first ++ option_to_list s.second

-- The steps of a thread model at an offset of the argument, with the log and the open items as they
-- are now.
pub record AreStepsNow {A : Type 0} (i : Input) (argument : Forest) (q : ℕ) (log : Log)
    (frames : List (ThreadFrame A))
    (o : ThreadModel) (s : Steps A) : Type 0 where
  pub epsilons : Each (Shows log frames) (epsilons_in s) (epsilons_of i q o)
  pub next : Both (LeadsTo log frames (rest_at argument q)) s.next (next_of i q o)
  pub done : Both (Holds log) s.done (finished_of o)

-- a step keeps everything that was in the log and among the open items
pub record Keeps {A : Type 0} (old new : Log) (before after : List (ThreadFrame A)) : Type 0 where
  pub log : KeepsHandles old new
  pub frames : Grows before after

-- The steps of a thread model, with what they wrote.
pub record AreSteps {A : Type 0} (i : Input) (argument : Forest) (q : ℕ) (old new : Log)
    (before after : List (ThreadFrame A))
    (o : ThreadModel) (s : Steps A) : Type 0 where
  pub now : AreStepsNow i argument q new after o s
  pub kept : Keeps old new before after

-- The answer has the steps of the thread, unless memory is out.
abbrev pub GivesStepsAt : {A : Type 0} → Input → Forest → ℕ → Log → Log → List (ThreadFrame A)
    → List (ThreadFrame A) → Thread A
    → Result (Steps A) AllocError → Type 0
GivesStepsAt i argument q old new before after p answer =
    (o : ThreadModel) → Shows old before p o
    → IfOk answer (λ s. AreSteps i argument q old new before after o s)

-- at the offset of a source
abbrev pub GivesSteps : {A : Type 0} → Grammar → Source A → Log → Log → List (ThreadFrame A)
    → List (ThreadFrame A) → Thread A
    → Result (Steps A) AllocError → Type 0
GivesSteps g source old new before after p answer =
    GivesStepsAt (input_of g (trees source.whole)) (trees source.whole) source.offset old new before
    after p answer

-- for any open items, to which nothing is added
abbrev pub GivesStepsIn : {A : Type 0} → Grammar → Source A → Log → Log → Thread A
    → Result (Steps A) AllocError
    → Type 0
GivesStepsIn {A} g source old new p answer =
    (frames : List (ThreadFrame A)) → GivesSteps g source old new frames frames p answer

-- for any log and any grammar of the dialect
abbrev pub GivesStepsOver : {A : Type 0} → Dialect → Source A → List (ThreadFrame A)
    → List (ThreadFrame A) → Thread A
    → Result (Steps A) AllocError → Type 0
GivesStepsOver d source before after p answer =
    (g : Grammar) (log : Log) → g.dialect ≡ d → GivesSteps g source log log before after p answer

-- for any argument
abbrev pub GivesStepsFor : {A : Type 0} → Log → Log → List (ThreadFrame A) → List (ThreadFrame A)
    → Thread A
    → Result (Steps A) AllocError → Type 0
GivesStepsFor old new before after p answer =
    (i : Input) (argument : Forest) (q : ℕ)
    → GivesStepsAt i argument q old new before after p answer

-- for any grammar of the dialect, log and open items, where nothing is written
abbrev pub AreStepsOf : {A : Type 0} → Dialect → Source A → Thread A → Steps A → Type 0
AreStepsOf {A} d source p s =
    (g : Grammar) (log : Log) (frames : List (ThreadFrame A)) (o : ThreadModel)
    → g.dialect ≡ d → Shows log frames p o →
    AreStepsNow (input_of g (trees source.whole)) (trees source.whole) source.offset log frames o s

-- ---- parts of them

-- an op that binds nothing and has no ops inside
abbrev pub IsPlain : Op → Type 0
IsPlain (token t) = Unit {0}
IsPlain (expression e) = Unit {0}
IsPlain (group d b) = ⊥
IsPlain (variable name kind span) = ⊥
IsPlain (repetition b s k) = ⊥

-- one step, over `n` flat tokens: an epsilon step for 0
abbrev pub over_steps : {A : Type 0} → ℕ → Option Forest → Thread A → Steps A
over_steps zero beyond p = record { first = Some p; second = None; next = None; done = None }
over_steps (suc n) beyond p = record {
  first = None;
  second = None;
  next = Some (record { width = suc n; beyond = beyond; after = p });
  done = None;
}

-- one step, over some tokens
abbrev pub only_step : {A : Type 0} → TokenStep A → Steps A
only_step w = record { first = None; second = None; next = Some w; done = None }

-- if there is a step over tokens, it is the only step
abbrev pub IsAtMostOver : {A : Type 0} → Steps A → Type 0
IsAtMostOver s = IfSome s.next (λ w. s ≡ only_step w)

-- the thread after a repetition without rounds, if the repetition may have none
pub record IsSkip {A : Type 0} (kind : RepeatKind) (body rest : Ops) (old new : Log)
    (before : Thread A)
    (p : Option (Thread A)) : Type 0 where
  pub is : (frames : List (ThreadFrame A)) (a : Account) (up : List ModelFrame)
      → AreFrames old frames before.up up
      → IsAccount old before.handle a →
      before.number ≡ 1 + state_count body + (state_count rest + frames_after up) →
      Each (Shows new frames) (option_to_list p)
      (skip_of kind (thread_model rest (skipped (names_of body) a) up))
  pub kept : KeepsHandles old new

-- the innermost open item of the thread is this repetition
abbrev pub IsInRounds : {A : Type 0} → List (ThreadFrame A) → Thread A → ThreadFrame A
    → OpenRepetition A → Type 0
IsInRounds frames p frame rounds = (n : ℕ) × (p.up ≡ Some n) × (slice_get frames n ≡ Some frame)
    × (frame.rounds ≡ Some rounds)

-- the steps out of the group of this open item
abbrev pub GivesClosingSteps : {A : Type 0} → Source A → ThreadFrame A → Thread A → Steps A → Type 0
GivesClosingSteps {A} source frame p s =
    (g : Grammar) (log : Log) (frames : List (ThreadFrame A)) (n : ℕ) → p.up ≡ Some n
    → slice_get frames n ≡ Some frame
    → GivesSteps g source log log frames frames p (Ok s)

-- the answer, if there is one, is the only step of the thread
abbrev pub GivesAlone : {A : Type 0} → Grammar → Source A → Log → Log → List (ThreadFrame A)
    → List (ThreadFrame A) → Thread A
    → Result (Option (TokenStep A)) AllocError → Type 0
GivesAlone g source old new before after p answer = (o : ThreadModel) → Shows old before p o →
    IfOk answer (λ n. Keeps old new before after × IfSome n (λ w.
    AreStepsNow (input_of g (trees source.whole)) (trees source.whole) source.offset new after o
    (only_step w)))

-- the steps at the end of a round, in the repetition of this open item
abbrev pub GivesRoundSteps : {A : Type 0} → Dialect → Source A → Log → Log → ThreadFrame A
    → OpenRepetition A → Thread A
    → Result (Steps A) AllocError → Type 0
GivesRoundSteps {A} d source old new frame rounds p answer =
    (g : Grammar) (frames : List (ThreadFrame A)) → g.dialect ≡ d
    → IsInRounds frames p frame rounds
    → GivesSteps g source old new frames frames p answer
