use Rattle.mbe_tt.specs.Trees.Top.{top_group}
use Rattle.mbe_text.proofs.Printed.{Printed}
use Rattle.mbe_text.proofs.tree_dump.print_tree.Given as goal

abbrev pub invariant-tokens : goal.invariant-tokens
invariant-tokens g l =
    Printed (top_group l.fn.tree) (g.W.Write.contents l.initial.out) (g.W.Write.contents l.out) l.cursor l._offset
    l.depth
