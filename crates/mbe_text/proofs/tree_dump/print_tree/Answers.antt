use Rattle.std.proofs.Common.{◌≡◌, ◌<◌, ap, ◌∙◌, arith, option_map}
use Rattle.std.proofs.lemmas.Result.{err_from_is_err_and}
use Rattle.mbe_tt.specs.Trees.Tree.{Forest, flat_len}
use Rattle.mbe_tt.specs.Trees.Top.{top_group}
use Rattle.mbe_tt.specs.Views.Element.{element_tree}
use Rattle.mbe_text.proofs.WriterLemmas.{writes_failed}
use Rattle.mbe_text.proofs.Printed.{printed_off, printed_fits, printed_on, printed_last}
use Rattle.mbe_text.proofs.tree_dump.print_tree.Goals as goal

pub returns-in_err-print_flat_token : goal.returns-in_err-print_flat_token
returns-in_err-print_flat_token g c =
    let f : Forest = top_group c.args.tree.now in
    let p = err_from_is_err_and c.from_residual.result c.from_residual.ensures.1 in
    let len : c.flat_len-offset-end.result ≡ flat_len f =
    c.flat_len-offset-end.ensures ∙ ap flat_len c.view-view.ensures in
    let lt : c.tokens._offset < flat_len f = omega (arith, c.tokens-test.true, len) in
    writes_failed _ _ _ _ _ p.1 (printed_off f _ _ _ c.tokens.cursor c.tokens._offset c.tokens.depth _
    c.tokens.invariant lt c.token_tree-tree.ensures c.in_err-print_flat_token.ensures)

pub next_depth-depth-requires : goal.next_depth-depth-requires
next_depth-depth-requires g c =
    let f : Forest = top_group c.args.tree.now in
    let len : c.flat_len-offset-end.result ≡ flat_len f =
    c.flat_len-offset-end.ensures ∙ ap flat_len c.view-view.ensures in
    let lt : c.tokens._offset < flat_len f = omega (arith, c.tokens-test.true, len) in
    let fits = printed_fits f _ _ c.tokens.cursor c.tokens._offset c.tokens.depth
    (option_map element_tree c.token_tree-tree.result)
    c.tokens.invariant lt c.token_tree-tree.ensures in
    let range = c.flat_len-offset-end.type_inv in
    omega (arith, fits, len)

pub tokens-preserved : goal.tokens-preserved
tokens-preserved g c =
    let f : Forest = top_group c.args.tree.now in
    let len : c.flat_len-offset-end.result ≡ flat_len f =
    c.flat_len-offset-end.ensures ∙ ap flat_len c.view-view.ensures in
    let lt : c.tokens._offset < flat_len f = omega (arith, c.tokens-test.true, len) in
    rw c.next_depth-depth.ensures (printed_on f _ _ _ c.tokens.cursor _ c.tokens._offset c.tokens.depth _
    c.tokens.invariant lt c.token_tree-tree.ensures c.in_ok-print_flat_token.ensures c.bump_or_end.ensures)

pub returns : goal.returns
returns g c =
    let f : Forest = top_group c.args.tree.now in
    let len : c.flat_len-offset-end.result ≡ flat_len f =
    c.flat_len-offset-end.ensures ∙ ap flat_len c.view-view.ensures in
    let at : c.tokens._offset ≡ flat_len f = omega (arith, len, c.tokens-test.false) in
    printed_last f _ _ c.tokens.cursor c.tokens._offset c.tokens.depth c.tokens.invariant at
