use Rattle.std.proofs.Common.{sym, ap}
use Rattle.mbe_tt.specs.Views.Element.{element_tree}
use Rattle.mbe_rewriter.specs.WholeFragments.Operands.{operand_from}
use Rattle.mbe_rewriter.specs.declared.whole_fragments.operands.Operand.TheVariants as so
use Rattle.mbe_rewriter.proofs.Worded.OperandLemmas.{operand_on, operand_end}
use Rattle.mbe_rewriter.proofs.whole_fragments.operands.operand_of.Goals as goal

pub trees-init : goal.trees-init
trees-init g c = ap (operand_from so.Start) c.iter-rest.ensures

pub trees-preserved : goal.trees-preserved
trees-preserved g c =
    operand_on _ c.trees.so_far c.after_tree-so_far.result c.trees.rest _ (element_tree c.in-Some.tree)
    c.trees.invariant (sym c.in-Some.ensures.value) c.in-Some.ensures.rest c.after_tree-so_far.ensures

pub returns : goal.returns
returns g c = operand_end _ c.trees.so_far c.trees.rest c.trees.invariant (sym c.in_default.ensures.value)
