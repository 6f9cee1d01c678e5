use Rattle.std.proofs.Common.{◌∙◌, sym}
use Rattle.mbe_tt.specs.Views.LeafViews.{leaf_of}
use Rattle.mbe_variables.proofs.WholeLemmas.{leaf_alone, no_leaf, group_alone, other_group, neither_alone}
use Rattle.mbe_variables.proofs.whole_fragment.is_one_literal.Goals as goal

pub returns-then-is_ok : goal.returns-then-is_ok
returns-then-is_ok g c =
    leaf_alone c.expect_literal.result (λ l. leaf_of l.now) c.args.iter.now _ c.is_empty.result
    (rw c.fork-ahead.ensures at c.expect_literal.ensures.value)
    (rw c.fork-ahead.ensures at c.expect_literal.ensures.rest) (sym c.is_ok.ensures.value ∙ c.if-is_ok.true)
    c.is_empty.ensures

pub returns-in_default : goal.returns-in_default
returns-in_default g c =
    let n = no_leaf c.expect_literal.result (λ l. leaf_of l.now) c.args.iter.now _
    (rw c.fork-ahead.ensures at c.expect_literal.ensures.value)
    (rw c.fork-ahead.ensures at c.expect_literal.ensures.rest) (sym c.is_ok.ensures.value ∙ c.if-is_ok.false) in
    neither_alone c.args.iter.now n.0 (rw n.1 at c.in_default.ensures.value)

pub returns-then-not-is_literal_group : goal.returns-then-not-is_literal_group
returns-then-not-is_literal_group g c =
    let n = no_leaf c.expect_literal.result (λ l. leaf_of l.now) c.args.iter.now _
    (rw c.fork-ahead.ensures at c.expect_literal.ensures.value)
    (rw c.fork-ahead.ensures at c.expect_literal.ensures.rest) (sym c.is_ok.ensures.value ∙ c.if-is_ok.false) in
    other_group c.args.iter.now c.in-Ok.group.now.delimiter c.in-Ok._inside (rw n.1 at c.in-Ok.ensures.value)
    (sym c.is_literal_group.ensures ∙ c.if-not-is_literal_group.true)

pub returns : goal.returns
returns g c =
    let n = no_leaf c.expect_literal.result (λ l. leaf_of l.now) c.args.iter.now _
    (rw c.fork-ahead.ensures at c.expect_literal.ensures.value)
    (rw c.fork-ahead.ensures at c.expect_literal.ensures.rest) (sym c.is_ok.ensures.value ∙ c.if-is_ok.false) in
    group_alone c.args.iter.now _ c.in-Ok.group.now.delimiter c.in-Ok._inside c.is_empty-2.result
    (rw n.1 at c.in-Ok.ensures.value) (rw n.1 at c.in-Ok.ensures.rest) c.is_empty-2.ensures
    (sym c.is_literal_group.ensures ∙ c.if-not-is_literal_group.false)
