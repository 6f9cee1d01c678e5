use Rattle.std.proofs.Common.{arith}
use Rattle.std.specs.String.{string_bytes}
use Rattle.mbe_session.proofs.BindingTextLemmas.{in_parentheses, round_smaller, rounds_smaller, nested_smaller}
use Rattle.mbe_session.proofs.binding_text.+values.Goals as goal

pub push_values-push_value-requires : goal.push_values-push_value-requires
push_values-push_value-requires g t c κs within =
    let smaller = round_smaller c.args.rounds.now c.in-Some.rest.now c.in-Some.first.now c.in-Some.ensures.cases.0 in
    (omega (arith, c.decreases, smaller), within)

pub push_values-push_values-requires : goal.push_values-push_values-requires
push_values-push_values-requires g t c κs within =
    let smaller = rounds_smaller c.args.rounds.now c.in-Some.rest.now c.in-Some.first.now c.in-Some.ensures.cases.0 in
    (omega (arith, c.decreases, smaller), within)

pub push_value-push_values-requires : goal.push_value-push_values-requires
push_value-push_values-requires g t c κs within =
    let smaller = nested_smaller c.args.binding.now c.in-Nested.rounds c.deref.result.now c.in-Nested.is
    c.deref.ensures.value in
    (omega (arith, c.decreases, smaller), within)

pub push_value-returns-in_ok-push_values-in-Nested : goal.push_value-returns-in_ok-push_values-in-Nested
push_value-returns-in_ok-push_values-in-Nested g t c =
    in_parentheses c.push_str-in-Nested-2.result c.args.binding.now c.in-Nested.rounds c.deref.result.now
    (string_bytes c.args.text.now) (string_bytes c.push_str-in-Nested.new.self) (string_bytes c.push_values.new.text)
    (string_bytes c.push_str-in-Nested-2.new.self) c.in-Nested.is c.deref.ensures.value
    c.in_ok-push_str-in-Nested.ensures.bytes c.in_ok-push_values-in-Nested.ensures
    c.push_str-in-Nested-2.ensures.bytes
