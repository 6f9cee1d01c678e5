use Rattle.std.proofs.Common.{◌≡◌, Some, rules}
use Rattle.mbe_tt.specs.Trees.Leaf as leaves
use Rattle.mbe_tt.specs.Views.LeafViews.{literal_of, ident_of}
use Rattle.mbe_tt.specs.Trees.Tree.{Leaf_tree, first, rest_of, front_char, any_ident}
use Rattle.mbe_ops.proofs.Fragments.{first_tree}
use Rattle.mbe_parser.proofs.ExpressionLemmas.{literal_in_front, ident_in_front, variable_in_front}
use Rattle.mbe_parser.proofs.parser.metavar_expr.parse_element.Goals as goal

pub returns-in-Some-Leaf-Literal-clause-element : goal.returns-in-Some-Leaf-Literal-clause-element
returns-in-Some-Leaf-Literal-clause-element g c =
    let front : Some (Leaf_tree (leaves.literal (literal_of c.in_ok-clone.field-0))) ≡ first c.args.src.now =
    search rules in
    let at = first_tree c.args.src.now c.next-passed.new.self _ front c.next-passed.ensures.rest in
    literal_in_front c.args.src.now c.next-passed.new.self _ at

pub returns-then-is_var-clause-element : goal.returns-then-is_var-clause-element
returns-then-is_var-clause-element g c =
    let f = c.args.src.now in
    let following = c.expect_dollar.new.self in
    let left = c.expect_ident_or_underscore.new.self in
    let i = ident_of c.in_ok-ident.ident in
    let dollar : front_char f ≡ Some 36 = search rules in
    let passed : following ≡ rest_of f = search rules in
    let name : Some i ≡ any_ident following = search rules in
    let rest : left ≡ rest_of following = search rules in
    variable_in_front f following left i dollar passed name rest

pub returns-else-is_var-clause-element : goal.returns-else-is_var-clause-element
returns-else-is_var-clause-element g c =
    let f = c.args.src.now in
    let left = c.expect_ident_or_underscore.new.self in
    let i = ident_of c.in_ok-ident.ident in
    let name : Some i ≡ any_ident f = search rules in
    let rest : left ≡ rest_of f = search rules in
    ident_in_front f left i name rest
