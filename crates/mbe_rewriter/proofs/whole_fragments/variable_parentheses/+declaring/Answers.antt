use Rattle.std.proofs.Common.{◌-◌, ◌<◌, sym, ◌∙◌, arith}
use Rattle.mbe_tt.specs.Views.Element.{element_tree}
use Rattle.mbe_tt.specs.Views.View.{trees}
use Rattle.mbe_rewriter.specs.WholeFragments.VariableParentheses.{declares_at, declares}
use Rattle.mbe_rewriter.proofs.Worded.SearchLemmas.{looks_at, looks_ended, tree_found, tree_passed}
use Rattle.mbe_rewriter.proofs.Worded.TypeLemmas.{looks_begin, looks_nowhere}
use Rattle.mbe_rewriter.proofs.whole_fragments.variable_parentheses.+declaring.Goals as goal

pub declares-returns-then-levels-eq0 : goal.declares-returns-then-levels-eq0
declares-returns-then-levels-eq0 g t c =
    looks_nowhere c.args.levels c.args.role c.args.name.now (trees c.args.tokens) c.if-levels-eq0.true

pub declares-trees-init : goal.declares-trees-init
declares-trees-init g t c =
    let not_zero = c.if-levels-eq0.false in
    let some : 0 < c.args.levels = omega (arith, not_zero) in
    looks_at _ _ (trees c.args.tokens) _
    (looks_begin c.args.levels c.args.role c.args.name.now (trees c.args.tokens) some)
    c.iter-rest.ensures

pub declares-returns-then-declares_at : goal.declares-returns-then-declares_at
declares-returns-then-declares_at g t c =
    tree_found (declares_at (declares (c.args.levels - 1) c.args.role c.args.name.now) c.args.role c.args.name.now) _
    c.trees.rest
    (trees c.remaining.result) (element_tree c.in-Some.tree) c.declares_at.result c.trees.invariant
    (sym c.in-Some.ensures.value) c.declares_at.ensures (c.remaining.ensures ∙ c.in-Some.ensures.rest)
    c.if-declares_at.true

pub declares-trees-preserved : goal.declares-trees-preserved
declares-trees-preserved g t c =
    tree_passed (declares_at (declares (c.args.levels - 1) c.args.role c.args.name.now) c.args.role c.args.name.now) _
    c.trees.rest
    (trees c.remaining.result) _ (element_tree c.in-Some.tree) c.declares_at.result c.trees.invariant
    (sym c.in-Some.ensures.value) c.declares_at.ensures (c.remaining.ensures ∙ c.in-Some.ensures.rest)
    c.if-declares_at.false
    c.in-Some.ensures.rest

pub declares-returns : goal.declares-returns
declares-returns g t c =
    looks_ended (declares_at (declares (c.args.levels - 1) c.args.role c.args.name.now) c.args.role c.args.name.now) _
    c.trees.rest c.trees.invariant
    (sym c.in_default.ensures.value)
