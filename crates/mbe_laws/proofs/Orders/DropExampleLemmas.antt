-- The two examples of reports that differ, computed.
use Rattle.std.specs.Prelude.{refl, ◌≡◌, Some, None, [], ◌∷◌, codes}
use Rattle.mbe_tt.specs.Grammars.Grammar.{Grammar}
use Rattle.mbe_semantics.specs.Readings.Input.{input_of}
use Rattle.mbe_semantics.specs.Readings.Reading.{start}
use Rattle.mbe_semantics.specs.Matching.Closure.{closure}
use Rattle.mbe_semantics.specs.Syntax.Op.{ident}
use Rattle.mbe_semantics.specs.Examples.Sample.{at, ident_of, open_grammar}
use Rattle.mbe_semantics.specs.Readings.Steps.{tree}
use Rattle.mbe_semantics.specs.Bindings.Environment.{empty, list, value, no_values}
use Rattle.mbe_semantics.specs.Readings.Verdict.{stuck}
use Rattle.mbe_semantics.specs.Matching.States.{state_count}
use Rattle.mbe_laws.specs.Bounded.ClosureTwoEach.{closure_two_each, walk}
use Rattle.mbe_laws.specs.Reports.Ends.{first_that, last_that, reversed_targets}
use Rattle.mbe_laws.specs.Orders.Order.{verdict_reversed, verdict_in, run_in}
use Rattle.mbe_laws.specs.Orders.DropExample.{DropExample, three_partial, comma, fails, bound_in, DropFirstExample}
use Rattle.mbe_laws.specs.Orders.DropExample.{many_partial, one_c, waits_for}

drop_verdict : (g : Grammar) → verdict_reversed (open_grammar g) three_partial comma ≡ stuck 0
unfolding verdict_in run_in walk
drop_verdict g = refl

drop_all : (g : Grammar) → bound_in (last_that (fails (input_of (open_grammar g) comma) 0)
    (closure (input_of (open_grammar g) comma) 0 (start three_partial ∷ []))) ≡ Some ((codes "x", empty) ∷ [])
unfolding tree
drop_all g = refl

drop_two : (g : Grammar) → bound_in (last_that (fails (input_of (open_grammar g) comma) 0)
    (closure_two_each (input_of (open_grammar g) comma) (state_count three_partial) 0 (start three_partial ∷ [])))
    ≡ Some ((codes "x", list (value empty no_values)) ∷ [])
unfolding walk
drop_two g = refl

pub drop_example : DropExample
drop_example = record { checked = refl; verdict = drop_verdict; all = drop_all; two = drop_two }

first_verdict : (g : Grammar) → verdict_reversed (open_grammar g) many_partial one_c ≡ stuck 1
unfolding verdict_in run_in walk
first_verdict g = refl

first_none : (g : Grammar) → first_that (fails (input_of (open_grammar g) one_c) 0)
    (closure (input_of (open_grammar g) one_c) 0 (start many_partial
    ∷ []))
    ≡ None
unfolding tree
first_none g = refl

first_all : (g : Grammar) → waits_for (first_that (fails (input_of (open_grammar g) one_c) 1)
    (closure (input_of (open_grammar g) one_c) 1 (reversed_targets (input_of (open_grammar g) one_c) 0
    (closure (input_of (open_grammar g) one_c) 0 (start many_partial ∷ [])))))
    ≡ Some (ident (ident_of (codes "b") (at 0 0 1)))
unfolding tree
first_all g = refl

first_two : (g : Grammar) →
    waits_for (first_that (fails (input_of (open_grammar g) one_c) 1)
    (closure_two_each (input_of (open_grammar g) one_c) (state_count many_partial) 1
    (reversed_targets (input_of (open_grammar g) one_c) 0
    (closure_two_each (input_of (open_grammar g) one_c) (state_count many_partial) 0 (start many_partial ∷ [])))))
    ≡ Some (ident (ident_of (codes "c") (at 0 0 1)))
unfolding walk
first_two g = refl

pub drop_first_example : DropFirstExample
drop_first_example = record {
  checked = refl;
  verdict = first_verdict;
  none_fails = first_none;
  all = first_all;
  two = first_two;
}
