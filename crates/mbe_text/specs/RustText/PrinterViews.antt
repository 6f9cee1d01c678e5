-- A printer and a doc comment as clauses see them, whatever memory holds their texts.
use Rattle.std.specs.String.{string_bytes}
use Rattle.mbe_text.specs.RustText.DocComments as spec
use Rattle.mbe_text.specs.RustText.Printer.{PrinterState}
use Rattle.mbe_text.specs.declared.doc_comments.DocComment.{DocComment}
use Rattle.mbe_text.specs.declared.rust_printer.RustPrinter.{RustPrinter}

abbrev pub printer_state : {A : Type 0} → RustPrinter A → PrinterState
printer_state w =
    record { text = string_bytes w.text; last = w.last; token_span = w.token_span; depth = w.depth }

abbrev pub doc_comment_of : DocComment → spec.DocComment
doc_comment_of c = record { is_inner = c.is_inner; is_block = c.is_block; text = c.text.now }
