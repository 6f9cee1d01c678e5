use Rattle.std.proofs.Common.{◌∙◌, sym}
use Rattle.mbe_tt.specs.Views.LeafViews.{leaf_of}
use Rattle.mbe_matcher.proofs.Literals.{literal_passes, no_literal, group_passes, nothing_passes}
use Rattle.mbe_matcher.proofs.consumers.eat_unsigned.Goals as goal

pub returns-then-is_ok : goal.returns-then-is_ok
returns-then-is_ok g c =
    literal_passes c.args.dialect c.expect_literal.result (λ l. leaf_of l.now) c.args.src.now _
    c.expect_literal.ensures.value c.expect_literal.ensures.rest (sym c.is_ok.ensures.value ∙ c.if-is_ok.true)

pub returns-in-Ok : goal.returns-in-Ok
returns-in-Ok g c =
    let f = c.args.src.now in
    let n = no_literal c.expect_literal.result (λ l. leaf_of l.now) f _ c.expect_literal.ensures.value
    c.expect_literal.ensures.rest (sym c.is_ok.ensures.value ∙ c.if-is_ok.false) in
    group_passes c.args.dialect f _ c.in-Ok.group.now.delimiter c.in-Ok._inside c.is_literal_in.result
    c.is_literal_in.ensures (rw n.1 at c.in-Ok.ensures.value) (rw n.1 at c.in-Ok.ensures.rest)

pub returns-in-Err : goal.returns-in-Err
returns-in-Err g c =
    let f = c.args.src.now in
    let n = no_literal c.expect_literal.result (λ l. leaf_of l.now) f _ c.expect_literal.ensures.value
    c.expect_literal.ensures.rest (sym c.is_ok.ensures.value ∙ c.if-is_ok.false) in
    nothing_passes c.args.dialect f _ n.0 (rw n.1 at c.in-Err.ensures.value)
