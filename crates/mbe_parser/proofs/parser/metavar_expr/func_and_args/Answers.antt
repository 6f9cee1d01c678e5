use Rattle.std.proofs.Common.{◌≡◌, Some, sym, rules}
use denote.Enum.Bare.{same_true}
use Rattle.mbe_tt.specs.Views.LeafViews.{ident_of}
use Rattle.mbe_tt.specs.Trees.Tree.{rest_of, front_ident, front_group}
use Rattle.mbe_tt.specs.contracts.tt.DelimiterKind.{the_type}
use Rattle.mbe_tt.specs.declared.tt.DelimiterKind.TheVariants.{Parenthesis}
use Rattle.mbe_parser.proofs.ExpressionLemmas.{call_in_front}
use Rattle.mbe_parser.proofs.parser.metavar_expr.func_and_args.Goals as goal

pub returns-then-eq : goal.returns-then-eq
returns-then-eq g c =
    let f = c.args.src in
    let left = c.expect_ident.new.self in
    let d = c.in_ok-subtree.subtree.now.delimiter in
    let word : Some (ident_of c.in_ok-func.func.now) ≡ front_ident f = search rules in
    let following : left ≡ rest_of f = search rules in
    let arguments : Some (d, c.in_ok-subtree.args) ≡ front_group left = search rules in
    let kind : d.kind ≡ Parenthesis = same_true the_type (search rules) _ _ (sym c.if-eq.ensures) in
    call_in_front f left c.in_ok-subtree.args (ident_of c.in_ok-func.func.now) d word following arguments kind
