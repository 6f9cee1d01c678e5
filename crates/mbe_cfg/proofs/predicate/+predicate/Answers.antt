use Rattle.std.proofs.Common.{◌≡◌, ◌-◌, ◌<◌, Some, None, rules, sym, ap, ◌∙◌, arith}
use Rattle.std.proofs.lemmas.Result.{err_from_is_err_and}
use Rattle.mbe_tt.specs.Trees.Tree.{rest_of, front_ident}
use Rattle.mbe_tt.specs.Views.LeafViews.{ident_of}
use Rattle.mbe_tt.specs.Views.View.{trees}
use Rattle.mbe_cfg.specs.Predicates.{named_predicate, predicate}
use Rattle.mbe_cfg.proofs.PredicateLemmas.{items_end, items_fail, items_none, items_on, predicate_by, predicate_none}
use Rattle.mbe_cfg.proofs.predicate.+predicate.Goals as goal

pub predicate-returns-then-depth-eq0 : goal.predicate-returns-then-depth-eq0
predicate-returns-then-depth-eq0 g t c =
    predicate_none c.args.settings.now c.args.depth c.args.close (trees c.args.tokens) _
    c.if-depth-eq0.true (search rules)

pub predicate-returns-in-Ok : goal.predicate-returns-in-Ok
predicate-returns-in-Ok g t c =
    let s = c.args.settings.now in
    let n = c.args.depth in
    let f = trees c.args.tokens in
    let name = ident_of c.in-Ok.name.now in
    let some = c.if-depth-eq0.false in
    let left : 0 < n = omega (arith, some) in
    let word : Some name ≡ front_ident f = c.in-Ok.ensures.value ∙ ap front_ident c.iter-iter.ensures in
    let after : trees c.remaining.result ≡ rest_of f =
    c.remaining.ensures ∙ (c.in-Ok.ensures.rest ∙ ap rest_of c.iter-iter.ensures) in
    predicate_by s n c.args.close f (Some name) _ left word
    (c.named_predicate.ensures ∙ ap (named_predicate s (predicate s (n - 1)) c.args.close name) after)

pub predicate-returns-in-Err : goal.predicate-returns-in-Err
predicate-returns-in-Err g t c =
    let f = trees c.args.tokens in
    let some = c.if-depth-eq0.false in
    let left : 0 < c.args.depth = omega (arith, some) in
    let no_name : None ≡ front_ident f = c.in-Err.ensures.value ∙ ap front_ident c.iter-iter.ensures in
    predicate_by c.args.settings.now c.args.depth c.args.close f None _ left no_name (search rules)

pub items-returns-then-is_empty : goal.items-returns-then-is_empty
items-returns-then-is_empty g t c =
    let l = c.items in
    let inner = predicate c.args.settings.now c.args.depth c.args.close in
    items_end inner c.args.every c.args.close l.left l.predicate_value.holds (trees l.predicate_value.rest)
    (omega arith) (sym c.if-is_empty.ensures) ∙ l.invariant

pub items-returns-in_err-predicate_value : goal.items-returns-in_err-predicate_value
items-returns-in_err-predicate_value g t c =
    let l = c.items in
    let inner = predicate c.args.settings.now c.args.depth c.args.close in
    let p = err_from_is_err_and c.from_residual.result c.from_residual.ensures.1 in
    rw (p.1, p.2) (items_fail inner c.args.every c.args.close l.left l.predicate_value.holds
    (trees l.predicate_value.rest) _ (omega arith) (sym c.if-is_empty.ensures) c.in_err-predicate_value.ensures
    ∙ l.invariant)

pub items-items-preserved : goal.items-items-preserved
items-items-preserved g t c =
    let l = c.items in
    let inner = predicate c.args.settings.now c.args.depth c.args.close in
    items_on inner c.args.every c.args.close l.left l.predicate_value.holds (trees l.predicate_value.rest)
    _ _ (omega arith) (sym c.if-is_empty.ensures) c.in_ok-predicate_value.ensures ∙ l.invariant

pub items-returns : goal.items-returns
items-returns g t c =
    let l = c.items in
    let inner = predicate c.args.settings.now c.args.depth c.args.close in
    items_none inner c.args.every c.args.close l.left l.predicate_value.holds (trees l.predicate_value.rest)
    (omega arith) ∙ l.invariant
