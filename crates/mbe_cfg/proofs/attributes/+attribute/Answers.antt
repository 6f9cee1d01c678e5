use Rattle.std.proofs.Common.{◌≡◌, ◌<◌, None, rules, refl, sym, ap, ◌∙◌, arith}
use Rattle.std.proofs.lemmas.Result.{err_from_is_err_and}
use Rattle.mbe_tt.specs.Trees.Tree.{rest_of, front_ident}
use Rattle.mbe_tt.specs.Views.LeafViews.{ident_of}
use Rattle.mbe_tt.specs.Views.View.{trees}
use Rattle.mbe_cfg.specs.Attributes.{attribute}
use Rattle.mbe_cfg.proofs.AttributeLemmas.{attribute_by, attribute_named, attribute_none, metas_end, metas_fail}
use Rattle.mbe_cfg.proofs.AttributeLemmas.{metas_none, metas_on}
use Rattle.mbe_cfg.proofs.attributes.+attribute.Goals as goal

pub attribute-returns-then-depth-eq0 : goal.attribute-returns-then-depth-eq0
attribute-returns-then-depth-eq0 g t c =
    attribute_none c.args.settings.now c.args.depth c.args.close (trees c.args.tokens) _
    c.if-depth-eq0.true (search rules)

pub attribute-returns-in_default : goal.attribute-returns-in_default
attribute-returns-in_default g t c =
    let f = trees c.args.tokens in
    let some = c.if-depth-eq0.false in
    let left : 0 < c.args.depth = omega (arith, some) in
    let no_name : None ≡ front_ident f = search rules in
    attribute_by c.args.settings.now c.args.depth c.args.close f None _ left no_name refl

pub attribute-returns-in-PlainCfg : goal.attribute-returns-in-PlainCfg
attribute-returns-in-PlainCfg g t c =
    let some = c.if-depth-eq0.false in
    let after : c.expect_ident.new.self ≡ rest_of (trees c.args.tokens) =
    c.in-Ok.ensures.rest ∙ ap rest_of c.iter-iter.ensures in
    attribute_named c.args.settings.now c.args.depth c.args.close _ _ (ident_of c.in-Ok.name.now) _
    (omega (arith, some)) c.in-Ok.ensures.value c.iter-iter.ensures (search (rules, after))

pub attribute-returns-in-CfgAttr : goal.attribute-returns-in-CfgAttr
attribute-returns-in-CfgAttr g t c =
    let some = c.if-depth-eq0.false in
    let after : c.expect_ident.new.self ≡ rest_of (trees c.args.tokens) =
    c.in-Ok.ensures.rest ∙ ap rest_of c.iter-iter.ensures in
    attribute_named c.args.settings.now c.args.depth c.args.close _ _ (ident_of c.in-Ok.name.now) _
    (omega (arith, some)) c.in-Ok.ensures.value c.iter-iter.ensures (search (rules, after))

pub attribute-returns-in-Test : goal.attribute-returns-in-Test
attribute-returns-in-Test g t c =
    let some = c.if-depth-eq0.false in
    let after : c.expect_ident.new.self ≡ rest_of (trees c.args.tokens) =
    c.in-Ok.ensures.rest ∙ ap rest_of c.iter-iter.ensures in
    attribute_named c.args.settings.now c.args.depth c.args.close _ _ (ident_of c.in-Ok.name.now) _
    (omega (arith, some)) c.in-Ok.ensures.value c.iter-iter.ensures (search (rules, after))

pub attribute-returns-in-Other : goal.attribute-returns-in-Other
attribute-returns-in-Other g t c =
    let some = c.if-depth-eq0.false in
    attribute_named c.args.settings.now c.args.depth c.args.close _ _ (ident_of c.in-Ok.name.now) _
    (omega (arith, some)) c.in-Ok.ensures.value c.iter-iter.ensures (search rules)

pub metas-returns-then-is_empty : goal.metas-returns-then-is_empty
metas-returns-then-is_empty g t c =
    let l = c.metas in
    let inner = attribute c.args.settings.now c.args.depth c.args.close in
    metas_end inner l.left l.all (trees l.rest)
    (omega arith) (sym c.if-is_empty.ensures) ∙ l.invariant

pub metas-returns-in_err-one : goal.metas-returns-in_err-one
metas-returns-in_err-one g t c =
    let l = c.metas in
    let inner = attribute c.args.settings.now c.args.depth c.args.close in
    let p = err_from_is_err_and c.from_residual.result c.from_residual.ensures.1 in
    rw (p.1, p.2) (metas_fail inner l.left l.all (trees l.rest) _
    (omega arith) (sym c.if-is_empty.ensures) c.in_err-one.ensures ∙ l.invariant)

pub metas-metas-preserved : goal.metas-metas-preserved
metas-metas-preserved g t c =
    let l = c.metas in
    let inner = attribute c.args.settings.now c.args.depth c.args.close in
    metas_on inner l.left l.all (trees l.rest) _ _ _
    (omega arith) (sym c.if-is_empty.ensures) c.in_ok-one.ensures c.both-all.ensures c.after_next_comma-rest.ensures
    ∙ l.invariant

pub metas-returns : goal.metas-returns
metas-returns g t c =
    let l = c.metas in
    let inner = attribute c.args.settings.now c.args.depth c.args.close in
    metas_none inner l.left l.all (trees l.rest) (omega arith) ∙ l.invariant
