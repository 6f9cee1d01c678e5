use Rattle.std.proofs.Common.{◌-◌, ◌++◌}
use Rattle.mbe_text.specs.TreeDump.{indentation}
use Rattle.mbe_text.proofs.WriterLemmas.{Grows}
use Rattle.mbe_text.proofs.output.indent.Given as goal

abbrev pub invariant-groups : goal.invariant-groups
invariant-groups g l =
    Grows (g.W.Write.contents l.initial.out) (g.W.Write.contents l.out) l.line.items
    (l.initial.line.items ++ indentation l.depth) (indentation (l.depth - l._group))
