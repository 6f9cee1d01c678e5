use Rattle.std.proofs.Common.{◌∙◌, ◌-◌, ◌++◌, ◌∷◌, [], map, ap, sym, arith, append-nil}
use Rattle.std.proofs.lemmas.List.{map-append}
use Rattle.mbe_tt.specs.Views.Element.{element_tree}
use Rattle.mbe_tt.specs.Views.View.{trees}
use Rattle.mbe_rewriter.specs.declared.macro_items.FrontItem.TheVariants as v
use Rattle.mbe_rewriter.specs.MacroItemViews.{call_shown, macro_definition_shown, front_item_shown}
use Rattle.mbe_diagnostics.specs.Lints.Definitions.{defined_in_tree, defined_by_fronts, definitions}
use Rattle.mbe_diagnostics.proofs.LintLemmas.DefinitionLemmas.{front_is, too_deep, deeper, at_end, none_left}
use Rattle.mbe_diagnostics.proofs.LintLemmas.DefinitionLemmas.{at_definition, at_call, at_tree}
use Rattle.mbe_diagnostics.proofs.lints.definitions.+defined.Goals as goal

pub push_defined-fronts-init : goal.push_defined-fronts-init
push_defined-fronts-init g t c =
    let before = map macro_definition_shown c.args.found.now.items in
    let within = defined_in_tree (definitions (c.args.levels - 1)) in
    let some = c.if-levels-eq0.false in
    ap (λ n. before ++ defined_by_fronts within n (trees c.args.tokens)) c.flat_len-left.ensures
    ∙ ap (λ l. before ++ l)
    (sym (deeper c.args.levels (c.args.levels - 1) (trees c.args.tokens) (omega (arith, some))))

pub push_defined-returns-then-levels-eq0 : goal.push_defined-returns-then-levels-eq0
push_defined-returns-then-levels-eq0 g t c =
    let before = map macro_definition_shown c.args.found.now.items in
    sym (append-nil before)
    ∙ ap (λ l. before ++ l) (sym (too_deep c.args.levels (trees c.args.tokens) c.if-levels-eq0.true))

pub push_defined-returns-in-End : goal.push_defined-returns-in-End
push_defined-returns-in-End g t c =
    let some = c.fronts-test.true in
    at_end (defined_in_tree (definitions (c.args.levels - 1))) c.fronts.left (c.fronts.left - 1) (trees c.fronts.rest)
    _ _ (omega (arith, some))
    (front_is front_item_shown c.front_of.result v.End (trees c.fronts.rest) c.front_of.ensures c.in-End.is)
    c.fronts.invariant

pub push_defined-fronts-preserved-in-Definition : goal.push_defined-fronts-preserved-in-Definition
push_defined-fronts-preserved-in-Definition g t c =
    let some = c.fronts-test.true in
    at_definition (defined_in_tree (definitions (c.args.levels - 1))) c.fronts.left (c.fronts.left - 1)
    (trees c.fronts.rest) (macro_definition_shown c.in-Definition.defined) _ _ _ (omega (arith, some))
    (front_is front_item_shown c.front_of.result (v.Definition c.in-Definition.defined) (trees c.fronts.rest)
    c.front_of.ensures c.in-Definition.is)
    (ap (map macro_definition_shown) c.in_ok-push-in-Definition.ensures.items
    ∙ map-append macro_definition_shown c.fronts.found.items (c.in-Definition.defined ∷ []))
    c.fronts.invariant

pub push_defined-fronts-preserved-in-MacroCall : goal.push_defined-fronts-preserved-in-MacroCall
push_defined-fronts-preserved-in-MacroCall g t c =
    let some = c.fronts-test.true in
    at_call (defined_in_tree (definitions (c.args.levels - 1))) c.fronts.left (c.fronts.left - 1)
    (trees c.fronts.rest) (call_shown c.in-MacroCall.call) _ _ (omega (arith, some))
    (front_is front_item_shown c.front_of.result (v.MacroCall c.in-MacroCall.call) (trees c.fronts.rest)
    c.front_of.ensures
    c.in-MacroCall.is)
    c.fronts.invariant

pub push_defined-fronts-preserved : goal.push_defined-fronts-preserved
push_defined-fronts-preserved g t c =
    let some = c.fronts-test.true in
    at_tree (defined_in_tree (definitions (c.args.levels - 1))) c.fronts.left (c.fronts.left - 1)
    (trees c.fronts.rest) (trees c.in-Tree.after) (element_tree c.in-Tree.tree) _ _ _ (omega (arith, some))
    (front_is front_item_shown c.front_of.result (v.Tree c.in-Tree.tree c.in-Tree.after) (trees c.fronts.rest)
    c.front_of.ensures c.in-Tree.is) c.in_ok-push_defined_in_tree-in-Tree.ensures
    c.fronts.invariant

pub push_defined-returns : goal.push_defined-returns
push_defined-returns g t c =
    let none = c.fronts-test.false in
    none_left (defined_in_tree (definitions (c.args.levels - 1))) c.fronts.left (trees c.fronts.rest) _ _
    (omega (arith, none)) c.fronts.invariant
