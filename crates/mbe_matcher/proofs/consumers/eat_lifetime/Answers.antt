use Rattle.std.proofs.Common.{◌≡◌, sym, ap, ◌∙◌, Some, rules}
use Rattle.mbe_tt.specs.Trees.Tree.{cut_trees, rest_of, skip, any_ident, front_char}
use Rattle.mbe_ops.proofs.Fragments.{passed_to, left_following, taken, lifetime_in_front}
use Rattle.mbe_matcher.proofs.consumers.eat_lifetime.Goals as goal

pub from_savepoint-requires : goal.from_savepoint-requires
from_savepoint-requires g c =
    let f = c.args.src.now in
    let following : c.expect_char.new.self ≡ rest_of f = search rules in
    let left : c.expect_ident_or_underscore.new.self ≡ skip 2 f = c.in-Ok.ensures.rest ∙ ap rest_of following in
    ((cut_trees 2 f).front, passed_to 2 f _ _ c.savepoint-savepoint.ensures left)

pub returns-in-Ok : goal.returns-in-Ok
returns-in-Ok g c =
    let f = c.args.src.now in
    let quote : front_char f ≡ Some 39 = search rules in
    let following : c.expect_char.new.self ≡ rest_of f = search rules in
    let left : c.expect_ident_or_underscore.new.self ≡ skip 2 f = c.in-Ok.ensures.rest ∙ ap rest_of following in
    let name = sym c.in-Ok.ensures.value in
    let here = lifetime_in_front f _ quote (ap any_ident (sym following) ∙ name) in
    let whole = passed_to 2 f _ _ c.savepoint-savepoint.ensures left in
    taken c.from_savepoint.result _ (cut_trees 2 f) _ here (c.from_savepoint.ensures _ whole)
    (left_following 2 f _ left)
