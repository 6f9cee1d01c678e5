-- The bounded closure by the program's stack of threads, and how the numbers of threads change.
use Rattle.std.specs.Prelude.{ℕ, suc, ◌+◌, ◌≡◌, ◌<◌, List, [], ◌∷◌, length, map}
use Rattle.std.specs.List.{filter_map}
use Rattle.mbe_tt.specs.declared.tt.Delimiter.{Delimiter}
use Rattle.mbe_semantics.specs.declared.fragment_kinds.RepeatKind.{RepeatKind}
use Rattle.mbe_semantics.specs.Syntax.Op.{Separator, Op, repetition, Ops, no_ops, op}
use Rattle.mbe_semantics.specs.Readings.Input.{Input}
use Rattle.mbe_semantics.specs.Matching.ThreadModel.{ModelFrame, group_frame, repetition_frame}
use Rattle.mbe_semantics.specs.Matching.ThreadModel.{ThreadModel, thread_model, Advance}
use Rattle.mbe_semantics.specs.Matching.ThreadModel.{epsilons_of, next_of, finished_of}
use Rattle.mbe_semantics.specs.Bindings.Account.{Commands, Account}
use Rattle.mbe_semantics.specs.Matching.States.{op_state_count, thread_state}
use Rattle.mbe_laws.specs.Bounded.ClosureTwoEach.{walk, turns}

-- What the stack gives, the top first. d is the number of states.
abbrev pub kept : Input → ℕ → ℕ → List ThreadModel → List ThreadModel
kept i d q thread_stack =
    walk (epsilons_of i q) thread_state 2 (turns (length thread_stack) d) [] thread_stack

-- the steps over tokens of these threads
abbrev pub stack_moves : Input → ℕ → ℕ → List ThreadModel → List Advance
stack_moves i d q thread_stack = filter_map (next_of i q) (kept i d q thread_stack)

-- the commands of these threads at the end of the pattern
abbrev pub stack_ends : Input → ℕ → ℕ → List ThreadModel → List Commands
stack_ends i d q thread_stack = filter_map finished_of (kept i d q thread_stack)

-- how the number of a thread changes: after an op, on entering a group or repetition, and on
-- leaving it
pub record StateNumbersStep : Type 0 where
  pub past : (o : Op) (rest : Ops) (e f : Account) (up : List ModelFrame)
      → thread_state (thread_model (op o rest) e up)
      ≡ 1 + op_state_count o + thread_state (thread_model rest f up)
  pub into_group : (d : Delimiter) (b rest : Ops) (e f : Account) (up : List ModelFrame) →
      thread_state (thread_model (op (Rattle.mbe_semantics.specs.Syntax.Op.Op.group d b) rest) e up)
      ≡ 1 + thread_state (thread_model b f (group_frame rest ∷ up))
  pub into_repetition : (b rest : Ops) (s : Rattle.std.specs.Prelude.Option Separator)
      (k : RepeatKind) (p : ℕ)
      (e f g : Account) (up : List ModelFrame) →
      thread_state (thread_model (op (repetition b s k) rest) e up)
      ≡ 1 + thread_state (thread_model b f (repetition_frame b s k rest p g ∷ up))
  pub out_of_group : (rest : Ops) (e f : Account) (up : List ModelFrame)
      → thread_state (thread_model no_ops e (group_frame rest ∷ up))
      ≡ 1 + thread_state (thread_model rest f up)
  pub out_of_repetition : (b rest : Ops) (s : Rattle.std.specs.Prelude.Option Separator)
      (k : RepeatKind) (p : ℕ)
      (e f g : Account) (up : List ModelFrame) →
      thread_state (thread_model no_ops e (repetition_frame b s k rest p g ∷ up))
      ≡ 1 + thread_state (thread_model rest f up)
