use Rattle.std.proofs.Common.{◌∙◌, arith}
use Rattle.std.proofs.lemmas.Result.{err_from_is_err_and}
use Rattle.mbe_tt.specs.Views.View.{trees}
use Rattle.mbe_cfg.specs.CfgViews.{group_shown}
use Rattle.mbe_cfg.proofs.AttributeLemmas.{attributes_end, attributes_fail, attributes_none, attributes_on}
use Rattle.mbe_cfg.proofs.attributes.attributes.Goals as goal

pub returns-in_default : goal.returns-in_default
returns-in_default g c =
    let l = c.attributes in
    attributes_end c.args.settings.now l.left l.all (trees l.rest) (omega arith) c.in_default.ensures ∙ l.invariant

pub returns-in_err-one : goal.returns-in_err-one
returns-in_err-one g c =
    let l = c.attributes in
    let p = err_from_is_err_and c.from_residual.result c.from_residual.ensures.1 in
    rw (p.1, p.2) (attributes_fail c.args.settings.now l.left l.all (trees l.rest) (group_shown c.in-Some.group) _
    (omega arith) c.in-Some.ensures c.in_err-one.ensures ∙ l.invariant)

pub attributes-preserved : goal.attributes-preserved
attributes-preserved g c =
    let l = c.attributes in
    attributes_on c.args.settings.now l.left l.all (trees l.rest) (group_shown c.in-Some.group) _ _ (omega arith)
    c.in-Some.ensures c.in_ok-one.ensures c.both-all.ensures ∙ l.invariant

pub returns : goal.returns
returns g c =
    let l = c.attributes in
    attributes_none c.args.settings.now l.left l.all (trees l.rest) (omega arith) ∙ l.invariant
