use Rattle.std.proofs.Common.{◌-◌, ◌<◌, refl, sym, arith}
use Rattle.mbe_tt.specs.Views.Element.{element_tree}
use Rattle.mbe_tt.specs.Views.View.{trees}
use Rattle.mbe_rewriter.specs.WholeFragments.BuiltinNames.{tree_has_builtin_name, has_builtin_name}
use Rattle.mbe_rewriter.proofs.Worded.NameLemmas.{names_begin, names_nowhere}
use Rattle.mbe_rewriter.proofs.Worded.SearchLemmas.{looks_at, looks_ended, tree_found, tree_passed}
use Rattle.mbe_rewriter.proofs.whole_fragments.builtin_names.+naming.Goals as goal

pub has_builtin_name-returns-then-levels-eq0 : goal.has_builtin_name-returns-then-levels-eq0
has_builtin_name-returns-then-levels-eq0 g t c = names_nowhere c.args.levels (trees c.args.tokens) c.if-levels-eq0.true

pub has_builtin_name-trees-init : goal.has_builtin_name-trees-init
has_builtin_name-trees-init g t c =
    let not_zero = c.if-levels-eq0.false in
    let some : 0 < c.args.levels = omega (arith, not_zero) in
    looks_at _ _ (trees c.args.tokens) _ (names_begin c.args.levels (trees c.args.tokens) some) c.iter-rest.ensures

pub has_builtin_name-returns-then-tree_has_builtin_name : goal.has_builtin_name-returns-then-tree_has_builtin_name
has_builtin_name-returns-then-tree_has_builtin_name g t c =
    tree_found (λ t rest. tree_has_builtin_name (has_builtin_name (c.args.levels - 1)) t) _ c.trees.rest _
    (element_tree c.in-Some.tree)
    c.tree_has_builtin_name.result c.trees.invariant (sym c.in-Some.ensures.value) c.tree_has_builtin_name.ensures refl
    c.if-tree_has_builtin_name.true

pub has_builtin_name-trees-preserved : goal.has_builtin_name-trees-preserved
has_builtin_name-trees-preserved g t c =
    tree_passed (λ t rest. tree_has_builtin_name (has_builtin_name (c.args.levels - 1)) t) _ c.trees.rest _ _
    (element_tree c.in-Some.tree)
    c.tree_has_builtin_name.result c.trees.invariant (sym c.in-Some.ensures.value) c.tree_has_builtin_name.ensures refl
    c.if-tree_has_builtin_name.false
    c.in-Some.ensures.rest

pub has_builtin_name-returns : goal.has_builtin_name-returns
has_builtin_name-returns g t c =
    looks_ended (λ t rest. tree_has_builtin_name (has_builtin_name (c.args.levels - 1)) t) _ c.trees.rest
    c.trees.invariant
    (sym c.in_default.ensures.value)
