use Rattle.std.proofs.Common.{◌∙◌, ap}
use Rattle.std.specs.Prelude.{option_map}
use Rattle.mbe_ops.specs.Views.{op_of, ops_of, separator_seen}
use Rattle.mbe_ops.proofs.OpViews.{view-open_repeat}
use Rattle.mbe_diagnostics.proofs.RuleLemmas.Sizes.{trees_seen}
use Rattle.mbe_diagnostics.proofs.rule_checks.unreachable_rules.is_tt_list.Goals as goal

pub returns-then-is_list : goal.returns-then-is_list
returns-then-is_list g c =
    let here = c.in-Repeat in
    let seen = ap op_of here.is ∙ view-open_repeat here.tokens here.kind here.separator in
    trees_seen _ (ops_of here.tokens.0.items) _ (option_map separator_seen here.separator) here.kind
    c.is_list.result c.is_some_tt_variable.result _ seen (ap ops_of c.deref.ensures.value) c.is_list.ensures
    c.if-is_list.true
    c.only_op.ensures c.is_some_tt_variable.ensures
