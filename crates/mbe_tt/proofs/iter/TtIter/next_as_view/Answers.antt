use Rattle.std.proofs.Common.{◌∙◌, sym, ap, Some}
use Rattle.mbe_tt.specs.Trees.Tree.{Tree, tree, none, append}
use Rattle.mbe_tt.specs.Views.Element.{element_tree}
use Rattle.std.specs.Option.{option_map}
use Rattle.mbe_tt.proofs.Buffers.Spelled.{first_rest}
use Rattle.mbe_tt.proofs.iter.TtIter.next_as_view.Goals as goal

pub from_savepoint-requires : goal.from_savepoint-requires
from_savepoint-requires g c =
    let t : Tree = element_tree c.in_ok-_tree._tree in (
      tree t none,
      c.savepoint-savepoint.ensures
          ∙ (first_rest _ _ (sym c.in_ok-_tree.ensures.value)
          ∙ ap (append (tree t none)) (sym c.in_ok-_tree.ensures.rest)),
    )

pub returns-clause-value : goal.returns-clause-value
returns-clause-value g c =
    let t : Tree = element_tree c.in_ok-_tree._tree in
    ap Some (c.from_savepoint.ensures (tree t none)
    (c.savepoint-savepoint.ensures ∙ (first_rest _ _ (sym c.in_ok-_tree.ensures.value)
    ∙ ap (append (tree t none)) (sym c.in_ok-_tree.ensures.rest))))
    ∙ ap (option_map (λ (x : Tree). tree x none)) c.in_ok-_tree.ensures.value
