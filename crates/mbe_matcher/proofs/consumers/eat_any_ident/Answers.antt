use Rattle.std.proofs.Common.{sym}
use Rattle.mbe_tt.specs.Trees.Tree.{cut_trees}
use Rattle.mbe_ops.proofs.Fragments.{passed_to, left_following, taken, ident_in_front}
use Rattle.mbe_matcher.proofs.consumers.eat_any_ident.Goals as goal

pub from_savepoint-requires : goal.from_savepoint-requires
from_savepoint-requires g c =
    let f = c.args.src.now in
    ((cut_trees 1 f).front, passed_to 1 f _ _ c.savepoint-savepoint.ensures c.in-Ok.ensures.rest)

pub returns-in-Ok : goal.returns-in-Ok
returns-in-Ok g c =
    let f = c.args.src.now in
    let whole = passed_to 1 f _ _ c.savepoint-savepoint.ensures c.in-Ok.ensures.rest in
    taken c.from_savepoint.result _ (cut_trees 1 f) _ (ident_in_front f _ (sym c.in-Ok.ensures.value))
    (c.from_savepoint.ensures _ whole) (left_following 1 f _ c.in-Ok.ensures.rest)
