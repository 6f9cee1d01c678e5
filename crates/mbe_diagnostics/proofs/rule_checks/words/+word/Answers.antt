use Rattle.mbe_ops.proofs.OpViews.{view-subtree, view-repeat}
use Rattle.mbe_diagnostics.proofs.rule_checks.words.+word.Goals as goal

pub has_word_op-returns-in-Subtree : goal.has_word_op-returns-in-Subtree
has_word_op-returns-in-Subtree g t c =
    rw (c.in-Subtree.is, view-subtree) (rw c.deref.ensures.value at c.has_word_in.ensures)

pub has_word_op-returns-in-Repeat : goal.has_word_op-returns-in-Repeat
has_word_op-returns-in-Repeat g t c =
    rw (c.in-Repeat.is, view-repeat) (rw c.deref-in-Repeat.ensures.value at c.has_word_in-in-Repeat.ensures)
