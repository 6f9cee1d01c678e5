use Rattle.std.proofs.Common.{◌∙◌, ap, arith}
use Rattle.std.specs.Prelude.{option_map}
use Rattle.mbe_ops.specs.Views.{op_of, ops_of, separator_seen}
use Rattle.mbe_ops.proofs.OpViews.{view-open, view-open_repeat}
use Rattle.mbe_diagnostics.proofs.RuleLemmas.Sizes.{first_smaller, rest_smaller, groups_alike, repetitions_alike}
use Rattle.mbe_diagnostics.proofs.rule_checks.equivalence.+alike.Goals as goal

pub are_equivalent-is_equivalent-requires : goal.are_equivalent-is_equivalent-requires
are_equivalent-is_equivalent-requires g t c κs within =
    let here = c.in-Some-Some in
    let smaller = first_smaller c.args.one.now here.ops.now here.op.now here.ensures.cases.0 in
    (omega (arith, c.decreases, smaller), within)

pub are_equivalent-are_equivalent-requires : goal.are_equivalent-are_equivalent-requires
are_equivalent-are_equivalent-requires g t c κs within =
    let here = c.in-Some-Some in
    let smaller = rest_smaller c.args.one.now here.ops.now here.op.now here.ensures.cases.0 in
    (omega (arith, c.decreases, smaller), within)

pub is_equivalent-returns-then-repeats_equivalently : goal.is_equivalent-returns-then-repeats_equivalently
is_equivalent-returns-then-repeats_equivalently g t c =
    let here = c.in-Repeat-Repeat in
    let one = ap op_of here.is-0 ∙ view-open_repeat here.tokens here.kind here.separator in
    let two = ap op_of here.is-1 ∙ view-open_repeat here.ts here.k here.s in
    repetitions_alike _ _ (ops_of here.tokens.0.items) (ops_of here.ts.0.items) _ _
    (option_map separator_seen here.separator) (option_map separator_seen here.s) here.kind here.k
    c.repeats_equivalently.result c.are_equivalent.result one two
    (ap ops_of c.deref.ensures.value) (ap ops_of c.deref-then-repeats_equivalently.ensures.value)
    c.repeats_equivalently.ensures
    c.if-repeats_equivalently.true c.are_equivalent.ensures

pub is_equivalent-returns-then-same_delimiter_kind : goal.is_equivalent-returns-then-same_delimiter_kind
is_equivalent-returns-then-same_delimiter_kind g t c =
    let here = c.in-Subtree-Subtree in
    let one = ap op_of here.is-0 ∙ view-open here.tokens here.delimiter in
    let two = ap op_of here.is-1 ∙ view-open here.ts here.d in
    groups_alike _ _ here.delimiter here.d (ops_of here.tokens.0.items) (ops_of here.ts.0.items) _ _
    c.same_delimiter_kind.result c.are_equivalent-then-same_delimiter_kind.result one two
    (ap ops_of c.deref-then-same_delimiter_kind.ensures.value)
    (ap ops_of c.deref-then-same_delimiter_kind-2.ensures.value)
    c.same_delimiter_kind.ensures c.if-same_delimiter_kind.true c.are_equivalent-then-same_delimiter_kind.ensures
