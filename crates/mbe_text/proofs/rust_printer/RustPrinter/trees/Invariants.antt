use Rattle.std.proofs.Common.{◌≡◌, ◌+◌, reverse}
use Rattle.mbe_tt.specs.Trees.Tree.{flat_len}
use Rattle.mbe_tt.specs.Views.View.{trees}
use Rattle.mbe_text.specs.RustText.PrinterViews.{printer_state}
use Rattle.mbe_text.specs.RustText.Printer.{written, written_around}
use Rattle.mbe_text.proofs.WalkLemmas.{tokens_around}
use Rattle.mbe_text.proofs.rust_printer.RustPrinter.trees.Given as goal

abbrev pub invariant-tokens : goal.invariant-tokens
invariant-tokens g l =
    written_around (reverse l.around.items) (written l.iter (printer_state l.self))
    ≡ written (trees l.fn.tokens) (printer_state l.initial.self)

abbrev pub decreases-tokens : goal.decreases-tokens
decreases-tokens g l = flat_len l.iter + tokens_around (reverse l.around.items)
