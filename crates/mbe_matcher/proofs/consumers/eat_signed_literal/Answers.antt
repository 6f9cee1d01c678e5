use Rattle.std.proofs.Common.{◌∙◌, true, false}
use Rattle.mbe_ops.proofs.Fragments.{taken}
use Rattle.mbe_matcher.proofs.Literals.{signed_passes, consumed_literal, not_consumed}
use Rattle.mbe_matcher.proofs.consumers.eat_signed_literal.Goals as goal

pub from_savepoint-requires : goal.from_savepoint-requires
from_savepoint-requires g c =
    let d = c.args.dialect in
    let f = c.args.src.now in
    let w = signed_passes d c.expect_char-sign.result f _ c.eat_unsigned.new.src true c.expect_char-sign.ensures.value
    c.expect_char-sign.ensures.rest (rw c.if-eat_unsigned.true at c.eat_unsigned.ensures) in
    let t = consumed_literal d f _ w in
    (t.cut.front, c.savepoint-savepoint.ensures ∙ t.whole)

pub returns-then-eat_unsigned : goal.returns-then-eat_unsigned
returns-then-eat_unsigned g c =
    let d = c.args.dialect in
    let f = c.args.src.now in
    let w = signed_passes d c.expect_char-sign.result f _ c.eat_unsigned.new.src true c.expect_char-sign.ensures.value
    c.expect_char-sign.ensures.rest (rw c.if-eat_unsigned.true at c.eat_unsigned.ensures) in
    let t = consumed_literal d f _ w in
    taken c.from_savepoint.result _ t.cut _ t.is (c.from_savepoint.ensures _ (c.savepoint-savepoint.ensures ∙ t.whole))
    t.left_is

pub returns-else-eat_unsigned : goal.returns-else-eat_unsigned
returns-else-eat_unsigned g c =
    let d = c.args.dialect in
    let f = c.args.src.now in
    not_consumed g.row.A.Denot _ _
    (signed_passes d c.expect_char-sign.result f _ c.eat_unsigned.new.src false c.expect_char-sign.ensures.value
    c.expect_char-sign.ensures.rest (rw c.if-eat_unsigned.false at c.eat_unsigned.ensures))
