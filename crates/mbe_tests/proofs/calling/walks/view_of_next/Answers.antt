use Rattle.std.proofs.Common.{◌∙◌, ap, sym}
use Rattle.mbe_tt.specs.Trees.Tree.{Tree, tree, none, append}
use Rattle.mbe_tt.specs.Views.Element.{element_tree}
use Rattle.mbe_tt.proofs.Buffers.Spelled.{first_rest}
use Rattle.mbe_tests.proofs.calling.walks.view_of_next.Goals as goal

pub from_savepoint-requires : goal.from_savepoint-requires
from_savepoint-requires g c =
    let t : Tree = element_tree c.in_ok-_tree._tree in (
      tree t none,
      c.savepoint-savepoint.ensures
          ∙ (first_rest _ _ (sym c.in_ok-_tree.ensures.value)
          ∙ ap (append (tree t none)) (sym c.in_ok-_tree.ensures.rest)),
    )
