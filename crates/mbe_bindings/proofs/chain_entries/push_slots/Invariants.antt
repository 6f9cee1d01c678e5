use Rattle.std.proofs.Common.{◌≡◌, ◌++◌}
use Rattle.mbe_bindings.specs.FlatEntries.{slots_down}
use Rattle.mbe_bindings.proofs.chain_entries.push_slots.Given as goal

abbrev pub invariant-loop-first : goal.invariant-loop-first
invariant-loop-first g l = l.slots.items ++ slots_down l.list l.first
    ≡ l.fn.slots.items ++ slots_down l.list l.count

abbrev pub decreases-loop-first : goal.decreases-loop-first
decreases-loop-first g l = l.first
