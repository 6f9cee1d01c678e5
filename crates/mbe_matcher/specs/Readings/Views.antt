-- What the program's values stand for in the specification.
use Rattle.std.specs.Prelude.{Option, option_map}
use Rattle.mbe_ops.specs.Views.{op_of, separator_seen}
use Rattle.mbe_matcher.specs.declared.readings.state.PatternState as declared
use Rattle.mbe_matcher.specs.declared.readings.state.PatternState.TheVariants as code
use Rattle.mbe_matcher.specs.declared.readings.state.Transition as steps
use Rattle.mbe_matcher.specs.declared.readings.state.Transitions.{Transitions}
use Rattle.mbe_matcher.specs.Expected.{expected_seen}
use Rattle.mbe_matcher.specs.declared.readings.divergence.Divergence as parted
use Rattle.mbe_matcher.specs.Readings.Divergence.{Divergence}
use Rattle.mbe_matcher.specs.Readings.States.{PatternState, ending, closing, round_end, before}
use Rattle.mbe_matcher.specs.Readings.States.{Transition}

abbrev pub state_seen : {A : Type 0} → declared.PatternState A → PatternState
state_seen code.End = ending
state_seen code.Closing = closing
state_seen (code.RoundEnd s k n) = round_end (option_map (λ v. separator_seen v.now) s) k n
state_seen (code.Before o n) = before (op_of o.now) n

abbrev pub transition_seen : steps.Transition → Transition
transition_seen w = (w.number, w.width)

abbrev pub transitions_seen : Transitions → Option Transition × Option Transition
transitions_seen w = (option_map transition_seen w.one, option_map transition_seen w.other)

abbrev pub divergence_seen : {A : Type 0} → parted.Divergence A → Divergence
divergence_seen p =
    record { offset = p.offset; one = expected_seen p.one; other = expected_seen p.other }
