use Rattle.std.proofs.Common.{◌≡◌, length}
use Rattle.mbe_semantics.specs.Syntax.Op.{mentions_of_elements}
use Rattle.mbe_ops.specs.Expressions.{elements_seen}
use Rattle.mbe_ops.proofs.expression.next_variable.Given as goal

abbrev pub invariant-elements : goal.invariant-elements
invariant-elements g l =
    mentions_of_elements (elements_seen l.left) ≡ mentions_of_elements (elements_seen l.elements)

abbrev pub decreases-elements : goal.decreases-elements
decreases-elements g l = length l.left
