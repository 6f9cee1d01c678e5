-- The states of a pattern: the points in it where a partial reading may be. Each has a number.
use Rattle.std.specs.Prelude.{ℕ, ◌+◌, List, [], ◌∷◌}
use Rattle.mbe_semantics.specs.Syntax.Op.{Op, token, group, variable, repetition, expression, Ops}
use Rattle.mbe_semantics.specs.Syntax.Op.{no_ops, op}
use Rattle.mbe_semantics.specs.Readings.Reading.{Frame, inside, within, PartialReading, partial}
use Rattle.mbe_semantics.specs.Matching.ThreadModel.{ModelFrame, group_frame, repetition_frame}
use Rattle.mbe_semantics.specs.Matching.ThreadModel.{ThreadModel, thread_model}

-- The number of states in ops, at any depth: one before each op, and one after the last.
abbrev mutual
  pub op_state_count : Op → ℕ
  op_state_count (token t) = 0
  op_state_count (variable name kind span) = 0
  op_state_count (expression e) = 0
  op_state_count (group d b) = state_count b
  op_state_count (repetition b s k) = state_count b

  pub state_count : Ops → ℕ
  state_count no_ops = 1
  state_count (op o os) = 1 + op_state_count o + state_count os

-- the number of states after the open groups and repetitions
abbrev pub states_after : List Frame → ℕ
states_after [] = 0
states_after (inside d b rest is ∷ up) = state_count rest + states_after up
states_after (within b s k rest is rs ∷ up) = state_count rest + states_after up

-- The number of a partial reading's state: how many states there are from it to the end of the
-- pattern.
abbrev pub state_number : PartialReading → ℕ
state_number (partial rest is up) = state_count rest + states_after up

-- the number of states after the open groups and repetitions of a thread
abbrev pub frames_after : List ModelFrame → ℕ
frames_after [] = 0
frames_after (group_frame rest ∷ up) = state_count rest + frames_after up
frames_after (repetition_frame b s k rest p e ∷ up) = state_count rest + frames_after up

-- the number of a thread's state
abbrev pub thread_state : ThreadModel → ℕ
thread_state (thread_model rest e up) = state_count rest + frames_after up
