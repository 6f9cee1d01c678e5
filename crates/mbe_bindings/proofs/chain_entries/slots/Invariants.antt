use Rattle.mbe_bindings.specs.LinkTraversal.{SlotsCollected, left_of}
use Rattle.mbe_bindings.proofs.chain_entries.slots.Given as goal

abbrev pub invariant-loop-next : goal.invariant-loop-next
invariant-loop-next g l = SlotsCollected l.lists l.fn.part l.next l.slots.items

abbrev pub decreases-loop-next : goal.decreases-loop-next
decreases-loop-next g l = left_of l.next
