use Rattle.std.proofs.Common.{◌≡◌, ◌+◌, sym, ap, refl, arith}
use Rattle.mbe_tt.specs.Trees.Tree.{flat_len}
use Rattle.mbe_parser.proofs.StopLemmas.{group_len, char_len}
use Rattle.mbe_parser.proofs.rules.eat_rule_groups.Goals as goal
use Rattle.mbe_parser.proofs.rules.eat_rule_groups.Goals.{In-Ok-expect_subtree}

-- two groups and an arrow
long : (g : _) (c : In-Ok-expect_subtree g) → flat_len c.args.src.now
    ≡ 6 + flat_len c.in-Ok.pattern + flat_len c.in-Ok-expect_subtree.template + flat_len c.expect_subtree-2.new.self
long g c =
    let pattern = group_len c.args.src.now c.in-Ok.pattern c.in-Ok._subtree.now.delimiter
    (sym c.in-Ok.ensures.value) in
    let equals = char_len c.expect_subtree.new.self 61 (c.in-Ok-expect_char.ensures.value.0 refl) in
    let greater = char_len c.expect_char.new.self 62 (c.in-Ok-expect_char-2.ensures.value.0 refl) in
    let template = group_len c.expect_char-2.new.self c.in-Ok-expect_subtree.template
    c.in-Ok-expect_subtree._subtree.now.delimiter (sym c.in-Ok-expect_subtree.ensures.value) in
    omega (
      arith,
      pattern,
      equals,
      greater,
      template,
      ap flat_len c.in-Ok.ensures.rest,
      ap flat_len c.in-Ok-expect_char.ensures.rest,
      ap flat_len c.in-Ok-expect_char-2.ensures.rest,
      ap flat_len c.in-Ok-expect_subtree.ensures.rest,
    )

pub returns-clause-shorter : goal.returns-clause-shorter
returns-clause-shorter g c =
    let all = long g (goal.at.returns-clause-shorter g c).In-Ok-expect_subtree in omega (arith, all)

pub returns-clause-room : goal.returns-clause-room
returns-clause-room g c =
    let all = long g (goal.at.returns-clause-room g c).In-Ok-expect_subtree in omega (arith, all)
