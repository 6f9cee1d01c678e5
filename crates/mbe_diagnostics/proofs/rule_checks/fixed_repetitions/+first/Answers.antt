use Rattle.mbe_ops.proofs.OpViews.{view-repeat}
use Rattle.mbe_diagnostics.proofs.rule_checks.fixed_repetitions.+first.Goals as goal

pub first_span_op-returns-in-Repeat : goal.first_span_op-returns-in-Repeat
first_span_op-returns-in-Repeat g t c =
    rw (c.in-Repeat.is, view-repeat) (rw c.deref.ensures.value at c.first_span.ensures)
