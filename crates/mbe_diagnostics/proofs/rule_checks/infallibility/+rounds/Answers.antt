use Rattle.mbe_ops.proofs.OpViews.{view-subtree, view-repeat}
use Rattle.mbe_diagnostics.proofs.rule_checks.infallibility.+rounds.Goals as goal

pub has_repeating_variable_op-returns-in-Subtree : goal.has_repeating_variable_op-returns-in-Subtree
has_repeating_variable_op-returns-in-Subtree g t c =
    rw (c.in-Subtree.is, view-subtree) (rw c.deref.ensures.value at c.has_repeating_variable.ensures)

pub has_repeating_variable_op-returns-in-Repeat : goal.has_repeating_variable_op-returns-in-Repeat
has_repeating_variable_op-returns-in-Repeat g t c =
    rw (c.in-Repeat.is, view-repeat) (rw c.deref-in-Repeat.ensures.value at c.has_repeating_variable-in-Repeat.ensures)
