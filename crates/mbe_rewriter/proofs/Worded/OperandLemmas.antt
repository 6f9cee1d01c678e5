-- What trees are, one tree after another.
use Rattle.std.proofs.Common.{◌≡◌, Some, None, ap, sym, ◌∙◌}
use Rattle.mbe_tt.specs.Trees.Tree.{Forest, Tree, Leaf_tree, Group_tree, first, rest_of}
use Rattle.mbe_tt.proofs.Trees.Firsts.{nothing, whole}
use Rattle.mbe_rewriter.specs.WholeFragments.Operands.{after_tree, operand_from}
use Rattle.mbe_rewriter.specs.declared.whole_fragments.operands.Operand.{Operand}

operand_step : (o : Operand) (f : Forest) (t : Tree) → first f ≡ Some t
    → operand_from o f ≡ operand_from (after_tree t o) (rest_of f)
operand_step o f (Leaf_tree l) e = ap (operand_from o) (whole f (Leaf_tree l) e)
operand_step o f (Group_tree d inside) e = ap (operand_from o) (whole f (Group_tree d inside) e)

-- a tree was passed
pub operand_on : (all o p : Operand) (f next : Forest) (t : Tree) → operand_from o f ≡ all → first f ≡ Some t
    → next ≡ rest_of f → p ≡ after_tree t o → operand_from p next ≡ all
operand_on all o p f next t h is e x =
    ap (operand_from p) e ∙ ap (λ q. operand_from q (rest_of f)) x ∙ sym (operand_step o f t is) ∙ h

-- no tree is left
pub operand_end : (all o : Operand) (f : Forest) → operand_from o f ≡ all → first f ≡ None → o ≡ all
operand_end all o f h is = sym (ap (operand_from o) (nothing f is)) ∙ h
