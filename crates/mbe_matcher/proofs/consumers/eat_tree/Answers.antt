use Rattle.std.proofs.Common.{◌≡◌, ap, ◌∙◌, length, Some, option_map, rules}
use Rattle.mbe_tt.specs.Trees.Tree.{Forest, none, tree, first, cut_trees, rest_of, front_char}
use Rattle.mbe_tt.specs.Trees.Glue.{glue}
use Rattle.mbe_ops.proofs.Fragments.{passed_to, left_following, taken, quoted, puncts_in_front, one_tree, no_puncts}
use Rattle.mbe_matcher.proofs.consumers.eat_tree.Goals as goal

pub returns-then-is_ok : goal.returns-then-is_ok
returns-then-is_ok g c =
    let f = c.args.src.now in
    let quote : front_char f ≡ Some 39 = search rules in
    rw (quoted f quote) c.eat_lifetime.ensures

pub from_savepoint-requires : goal.from_savepoint-requires
from_savepoint-requires g c =
    let f = c.args.src.now in (
      (cut_trees (length (glue f)) f).front,
      passed_to (length (glue f)) f _ _ c.savepoint-savepoint.ensures c.expect_glued_punct.ensures.rest,
    )

pub returns-in-Ok : goal.returns-in-Ok
returns-in-Ok g c =
    let f = c.args.src.now in
    let no_quote : front_char f ≡ Some 39 → ⊥ = search rules in
    let here = puncts_in_front f _ no_quote c.in-Ok.ensures.value in
    let whole = passed_to (length (glue f)) f _ _ c.savepoint-savepoint.ensures c.expect_glued_punct.ensures.rest in
    taken c.from_savepoint.result _ (cut_trees (length (glue f)) f) _ here
    (c.from_savepoint.ensures _ whole) (left_following (length (glue f)) f _ c.expect_glued_punct.ensures.rest)

pub returns-in-Err : goal.returns-in-Err
returns-in-Err g c =
    let f = c.args.src.now in
    let no_punct = c.in-Err.ensures.value in
    let following : c.expect_glued_punct.new.self ≡ f = no_puncts f _ no_punct c.expect_glued_punct.ensures.rest in
    one_tree c.next_as_view.result f _ no_punct
    (c.next_as_view.ensures.value ∙ ap (λ (h : Forest). option_map (λ t. tree t none) (first h)) following)
    (c.next_as_view.ensures.rest ∙ ap rest_of following)
