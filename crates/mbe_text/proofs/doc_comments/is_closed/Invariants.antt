use Rattle.std.proofs.Common.{◌≡◌, ◌≤◌, chars, length, drop}
use Rattle.mbe_text.specs.RustText.DocComments.{is_closed}
use Rattle.mbe_text.proofs.doc_comments.is_closed.Given as goal

abbrev pub invariant-loop-char : goal.invariant-loop-char
invariant-loop-char l = record {
  few : l.depth ≤ length l.yielded;
  exact : is_closed l.last l.depth (drop (length l.yielded) (chars l.text)) ≡ is_closed 0 0 (chars l.text);
}
