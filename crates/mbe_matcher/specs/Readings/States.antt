-- What stands at the states of a pattern, and the transitions between states.
use Rattle.std.specs.Prelude.{ℕ, ◌+◌, ◌-◌, Bool, true, false, Option, Some, None, List, [], ◌∷◌}
use Rattle.std.specs.Prelude.{◌++◌, option_to_list}
use Rattle.mbe_tt.specs.Trees.Tree.{flat_len}
use Rattle.mbe_semantics.specs.declared.fragment_kinds.RepeatKind.{RepeatKind}
use Rattle.mbe_semantics.specs.declared.fragment_kinds.RepeatKind.TheVariants.{ZeroOrMore}
use Rattle.mbe_semantics.specs.declared.fragment_kinds.RepeatKind.TheVariants.{OneOrMore, ZeroOrOne}
use Rattle.mbe_semantics.specs.Syntax.Op.{Separator, Op, token, group, variable, repetition}
use Rattle.mbe_semantics.specs.Syntax.Op.{expression, Ops, no_ops, op}
use Rattle.mbe_semantics.specs.Readings.Item.{Fragment}
use Rattle.mbe_semantics.specs.Readings.Input.{Input}
use Rattle.mbe_semantics.specs.Readings.Reading.{Frame, inside, within, PartialReading, partial}
use Rattle.mbe_semantics.specs.Matching.States.{op_state_count, state_count}

-- what stands at a state
pub data PatternState : Type 0 where
  -- the pattern's end
  ending : PatternState
  -- a group's end
  closing : PatternState
  -- the end of a repetition's body, which has this number of states
  round_end : Option Separator → RepeatKind → ℕ → PatternState
  -- an op, with this number of states inside
  before : Op → ℕ → PatternState

-- What stands at all states of ops, in order. `end` stands at their end. For one op: what stands
-- before it and inside it.
abbrev mutual
  pub op_states : Op → List PatternState
  op_states (token t) = before (token t) 0 ∷ []
  op_states (variable name kind span) = before (variable name kind span) 0 ∷ []
  op_states (expression e) = before (expression e) 0 ∷ []
  op_states (group d b) = before (group d b) (state_count b) ∷ states b closing
  op_states (repetition b s k) = before (repetition b s k) (state_count b)
      ∷ states b (round_end s k (state_count b))

  pub states : Ops → PatternState → List PatternState
  states no_ops end = end ∷ []
  states (op o os) end = op_states o ++ states os end

-- the ops inside an op, and what stands at their end
abbrev pub inside_of : Op → Option (Ops × PatternState)
inside_of (token t) = None
inside_of (variable name kind span) = None
inside_of (expression e) = None
inside_of (group d b) = Some (b, closing)
inside_of (repetition b s k) = Some (b, round_end s k (state_count b))

-- what stands at the end of the innermost open item
abbrev pub end_of : List Frame → PatternState
end_of [] = ending
end_of (inside d b rest is ∷ up) = closing
end_of (within b s k rest is rs ∷ up) = round_end s k (state_count b)

-- what stands at the state of a partial reading
abbrev pub state_at : PartialReading → PatternState
state_at (partial no_ops is up) = end_of up
state_at (partial (op o rest) is up) = before o (op_state_count o)

-- ---- the transitions of a state, by numbers

-- A transition leads to the state with the first number, and consumes the second number of flat
-- tokens.
abbrev pub Transition : Type 0
Transition = ℕ × ℕ

-- a state has two transitions at most
abbrev pub listed : {A : Type 0} → Option A × Option A → List A
listed o = option_to_list o.0 ++ option_to_list o.1

-- to state `n` over this number of flat tokens
abbrev pub over : ℕ → Option ℕ → Option Transition
over n None = None
over n (Some w) = Some (n, w)

-- to state `n` over one flat token, if the condition holds
abbrev pub over_one : ℕ → Bool → Option Transition
over_one n true = Some (n, 1)
over_one n false = None

-- to state `n` over a fragment
abbrev pub over_fragment : ℕ → Option Fragment → Option Transition
over_fragment n None = None
over_fragment n (Some x) = Some (n, flat_len x.trees)

-- into another round; `?` has none
abbrev pub again : RepeatKind → Option Transition → Option Transition
again ZeroOrMore w = w
again OneOrMore w = w
again ZeroOrOne w = None

-- past a repetition; `+` needs a round
abbrev pub past : RepeatKind → Option Transition → Option Transition
past ZeroOrMore w = w
past OneOrMore w = None
past ZeroOrOne w = w

-- The transitions at the end of a round: out of the repetition, and into another round. `m` is the
-- number of states of the body, and `n` states follow.
abbrev pub round_transitions : Input → ℕ → Option Separator → RepeatKind → ℕ → ℕ → Option Transition
    × Option Transition
round_transitions i q None k m n = (again k (Some (n + m, 0)), Some (n, 0))
round_transitions i q (Some s) k m n = (Some (n, 0), again k (over (n + m) (i.separator_at s q)))

-- the transitions before an op
abbrev pub op_transitions : Input → ℕ → Op → ℕ → ℕ → Option Transition × Option Transition
op_transitions i q (token t) m n = (over n (i.token_at t q), None)
op_transitions i q (variable name kind span) m n = (over_fragment n (i.fragment_at kind q), None)
op_transitions i q (group d b) m n = (over_one n (i.opens_at d.kind q), None)
op_transitions i q (repetition b s k) m n = (Some (n, 0), past k (Some (n - m, 0)))
op_transitions i q (expression e) m n = (None, None)

-- The transitions at offset `q` of a state. `n` states follow it.
unfoldable pub transitions : Input → ℕ → PatternState → ℕ → Option Transition × Option Transition
transitions i q ending n = (None, None)
transitions i q closing n = (over_one n (i.closes_at q), None)
transitions i q (round_end s k m) n = round_transitions i q s k m n
transitions i q (before o m) n = op_transitions i q o m n

-- the width of what stands between two rounds at the offset
abbrev pub between_at : Input → ℕ → Option Separator → Option ℕ
between_at i q None = Some 0
between_at i q (Some s) = i.separator_at s q
