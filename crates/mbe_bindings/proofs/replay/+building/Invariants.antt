use Rattle.std.proofs.Common.{◌+◌, ◌*◌}
use Rattle.mbe_bindings.specs.BindingViews.{env_of}
use Rattle.mbe_bindings.specs.Replay.{IsBuiltSoFar, AreBoundSoFar}
use Rattle.mbe_bindings.proofs.replay.+building.Given as goal

abbrev pub decreases-build_part : goal.decreases-build_part
decreases-build_part g l = 4 * l.depth + 3

abbrev pub decreases-bind_command : goal.decreases-bind_command
decreases-bind_command g l = 4 * l.depth + 2

abbrev pub decreases-bind_rounds : goal.decreases-bind_rounds
decreases-bind_rounds g l = 4 * l.depth + 5

abbrev pub decreases-bind_round : goal.decreases-bind_round
decreases-bind_round g l = 4 * l.depth + 4

abbrev pub invariant-build_part-loop-slot : goal.invariant-build_part-loop-slot
invariant-build_part-loop-slot g l = IsBuiltSoFar l.commands l.rounds l.slot-items l.slot-index (env_of l.bindings)

abbrev pub invariant-bind_rounds-loop-number : goal.invariant-bind_rounds-loop-number
invariant-bind_rounds-loop-number g l =
    AreBoundSoFar l.commands l.rounds l.slot-items l.number (env_of l.fn.bindings) (env_of l.bindings)
