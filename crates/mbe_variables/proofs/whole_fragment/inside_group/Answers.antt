use Rattle.std.proofs.Common.{◌∙◌, sym}
use Rattle.std.proofs.lemmas.Bool.{true≢false}
use Rattle.mbe_tt.specs.Views.View.{trees}
use Rattle.mbe_variables.proofs.WholeLemmas.{group_stripped, not_one_group, group_kept}
use Rattle.mbe_variables.proofs.whole_fragment.inside_group.Goals as goal

pub returns-in_default : goal.returns-in_default
returns-in_default g c =
    not_one_group c.args.group (trees c.args.tree) (rw c.iter-iter.ensures at c.in_default.ensures.value)

pub returns-then-not-is_empty : goal.returns-then-not-is_empty
returns-then-not-is_empty g c =
    group_kept c.args.group (trees c.args.tree) _ c.in-Ok.found.now.delimiter c.in-Ok.inside
    (rw c.iter-iter.ensures at c.in-Ok.ensures.value) (rw c.iter-iter.ensures at c.in-Ok.ensures.rest)
    (λ z. absurd (true≢false (sym (c.is_empty.ensures.1 z) ∙ c.if-not-is_empty.true)))

pub returns-then-not-is_around : goal.returns-then-not-is_around
returns-then-not-is_around g c =
    group_kept c.args.group (trees c.args.tree) _ c.in-Ok.found.now.delimiter c.in-Ok.inside
    (rw c.iter-iter.ensures at c.in-Ok.ensures.value) (rw c.iter-iter.ensures at c.in-Ok.ensures.rest)
    (λ z. sym c.is_around.ensures ∙ c.if-not-is_around.true)

pub returns : goal.returns
returns g c =
    c.remaining.ensures
    ∙ group_stripped c.args.group (trees c.args.tree) _ c.in-Ok.found.now.delimiter c.in-Ok.inside
    (rw c.iter-iter.ensures at c.in-Ok.ensures.value) (rw c.iter-iter.ensures at c.in-Ok.ensures.rest)
    (c.is_empty.ensures.0 c.if-not-is_empty.false) (sym c.is_around.ensures ∙ c.if-not-is_around.false)
