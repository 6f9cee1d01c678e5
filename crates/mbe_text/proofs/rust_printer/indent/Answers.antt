use Rattle.std.proofs.Common.{rules, arith}
use Rattle.mbe_text.proofs.IndentLemmas.{indents, indented}
use Rattle.mbe_text.proofs.rust_printer.indent.Goals as goal

pub spaces-preserved : goal.spaces-preserved
spaces-preserved g c = indents c.spaces.left _ _ _ (omega arith) (search rules) c.spaces.invariant

pub returns : goal.returns
returns g c = indented c.spaces.left _ _ (omega arith) c.spaces.invariant
