use Rattle.std.proofs.Common.{◌≡◌, ◌∙◌, ap, subst, arith}
use Rattle.std.specs.Prelude.{IfSome}
use Rattle.mbe_semantics.specs.Matching.States.{state_count}
use Rattle.mbe_ops.specs.Views.{ops_of, template_of}
use Rattle.mbe_matcher.proofs.expectations.continuations_at_stop.Goals as goal
use Rattle.mbe_matcher.proofs.expectations.continuations_at_stop.Goals.{In_ok-number}

-- the dots are counted
counted : (g : _) (c : In_ok-number g) → c.in_ok-number.number ≡ state_count (template_of c.args.pattern.now)
counted g c =
    subst (λ r. IfSome r (λ n. n ≡ state_count (ops_of c.deref.result.now))) c.in_ok-number.ensures.ok_part
    c.count_states.ensures
    ∙ ap (λ l. state_count (ops_of l)) c.deref.ensures.value

pub run_to_stop-requires : goal.run_to_stop-requires
run_to_stop-requires g c = (
  omega arith,
  (
    omega arith,
    (
      c.requires,
      record {
        size = c.in_ok-state.ensures.size ∙ counted g (goal.at.run_to_stop-requires g c).In_ok-number;
        no_visits = c.in_ok-state.ensures.no_visits;
        notes = c.in_ok-state.ensures.notes;
        none = c.new-todo.ensures.items;
      },
    ),
  ),
)
