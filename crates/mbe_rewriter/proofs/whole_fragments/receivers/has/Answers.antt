use Rattle.std.proofs.Common.{refl, sym, ◌∙◌}
use Rattle.mbe_tt.specs.Views.Element.{element_tree}
use Rattle.mbe_tt.specs.Views.View.{trees}
use Rattle.mbe_rewriter.specs.WholeFragments.Receivers.{is_found}
use Rattle.mbe_rewriter.proofs.Worded.SearchLemmas.{looks_at, looks_ended, tree_found, tree_passed}
use Rattle.mbe_rewriter.proofs.whole_fragments.receivers.has.Goals as goal

pub trees-init : goal.trees-init
trees-init g c = looks_at (is_found c.args.search) _ (trees c.args.tokens) _ refl c.iter-rest.ensures

pub returns-then-is_found : goal.returns-then-is_found
returns-then-is_found g c =
    tree_found (is_found c.args.search) _ c.trees.rest _ (element_tree c.in-Some.tree) c.is_found.result
    c.trees.invariant (sym c.in-Some.ensures.value) c.is_found.ensures
    (c.remaining.ensures ∙ c.in-Some.ensures.rest) c.if-is_found.true

pub trees-preserved : goal.trees-preserved
trees-preserved g c =
    tree_passed (is_found c.args.search) _ c.trees.rest _ _ (element_tree c.in-Some.tree) c.is_found.result
    c.trees.invariant (sym c.in-Some.ensures.value) c.is_found.ensures
    (c.remaining.ensures ∙ c.in-Some.ensures.rest) c.if-is_found.false c.in-Some.ensures.rest

pub returns : goal.returns
returns g c =
    looks_ended (is_found c.args.search) _ c.trees.rest c.trees.invariant (sym c.in_default.ensures.value)
