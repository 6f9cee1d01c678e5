-- Two matches that fail, where the full run and the bounded run differ in the thread that a report
-- would name: once in the last thread that fails, and once in the first.
use Rattle.std.specs.Prelude.{◌≡◌, ℕ, Bool, true, false, Option, Some, None, List, [], ◌∷◌, codes}
use Rattle.mbe_semantics.specs.declared.fragment_kinds.MetaVarKind.TheVariants as kinds
use Rattle.mbe_semantics.specs.declared.fragment_kinds.RepeatKind.TheVariants.{ZeroOrMore}
use Rattle.mbe_semantics.specs.declared.fragment_kinds.RepeatKind.TheVariants.{OneOrMore, ZeroOrOne}
use Rattle.mbe_tt.specs.Trees.Tree.{Forest, none}
use Rattle.mbe_tt.specs.Grammars.Grammar.{Grammar}
use Rattle.mbe_semantics.specs.Syntax.Op.{Separator, ident_separator, Token, ident, Op, Ops, no_ops}
use Rattle.mbe_semantics.specs.Syntax.Op.{op, token, variable, repetition}
use Rattle.mbe_semantics.specs.Examples.Sample.{at, alone_at, ident_at, ident_of, open_grammar, word}
use Rattle.mbe_semantics.specs.Readings.Input.{Input, input_of}
use Rattle.mbe_semantics.specs.Readings.Reading.{PartialReading, partial, start}
use Rattle.mbe_semantics.specs.Syntax.Nullable.{Checked}
use Rattle.mbe_semantics.specs.Matching.Closure.{closure}
use Rattle.mbe_semantics.specs.Matching.ThreadModel.{ThreadModel, thread_model, erase}
use Rattle.mbe_semantics.specs.Bindings.Account.{environment_of_account}
use Rattle.mbe_semantics.specs.Bindings.Environment.{Environment, empty, list, value, no_values}
use Rattle.mbe_semantics.specs.Readings.Verdict.{stuck}
use Rattle.mbe_semantics.specs.Matching.States.{state_count}
use Rattle.mbe_laws.specs.Bounded.ClosureTwoEach.{closure_two_each}
use Rattle.mbe_laws.specs.Reports.Ends.{first_that, last_that, reversed_targets}
use Rattle.mbe_laws.specs.Orders.Order.{verdict_reversed}
use Rattle.mbe_laws.specs.Bounded.DeepExample.{semicolon}

abbrev pub is_missing : {A : Type 0} → Option A → Bool
is_missing None = true
is_missing (Some x) = false

-- the partial reading expects a token or a fragment that isn't there
abbrev pub fails : Input → ℕ → PartialReading → Bool
fails i q (partial no_ops is up) = false
fails i q (partial (op (token t) rest) is up) = is_missing (i.token_at t q)
fails i q (partial (op (variable name kind span) rest) is up) = is_missing (i.fragment_at kind q)
fails i q (partial (op _ rest) is up) = false

-- what is bound in the innermost repetition of a thread
abbrev pub bound_now : ThreadModel → Environment
bound_now (thread_model rest a up) = environment_of_account a

abbrev pub bound_in : Option PartialReading → Option Environment
bound_in None = None
bound_in (Some x) = Some (bound_now (erase x))

-- `$($($($x:ident)?);*);* end`
abbrev pub three_partial : Ops
three_partial =
    op (repetition (op (repetition
    (op (repetition (op (variable (codes "x") (Some kinds.Ident) (at 0 0 1)) no_ops) None
    ZeroOrOne) no_ops) (Some semicolon) ZeroOrMore) no_ops) (Some semicolon) ZeroOrMore)
    (op (ident_at 9 (codes "end")) no_ops)

-- `,`
abbrev pub comma : Forest
comma = alone_at 1 0 44 none

-- At the start, three partial readings expect `end`. The last that fails is the one without rounds
-- outside. The last of the first two has one round outside, and none inside. The first that fails
-- expects `x`.
pub record DropExample : Type 0 where
  pub checked : Checked three_partial
  pub verdict : (g : Grammar) → verdict_reversed (open_grammar g) three_partial comma ≡ stuck 0
  pub all : (g : Grammar) → bound_in (last_that (fails (input_of (open_grammar g) comma) 0)
      (closure (input_of (open_grammar g) comma) 0 (start three_partial ∷ []))) ≡ Some ((codes "x", empty) ∷ [])
  pub two : (g : Grammar) → bound_in (last_that (fails (input_of (open_grammar g) comma) 0)
      (closure_two_each (input_of (open_grammar g) comma) (state_count three_partial) 0 (start three_partial
      ∷ [])))
      ≡ Some ((codes "x", list (value empty no_values)) ∷ [])

-- ---- where the first thread differs

abbrev pub name_op : List ℕ → Op
name_op text = token (ident (ident_of text (at 0 0 1)))

abbrev pub b_separator : Option Separator
b_separator = Some (ident_separator (ident_of (codes "b") (at 0 0 1)))

-- `$($($(c)b?)b? $($(c)b*)b* $($(c b)b+)+)b*`
abbrev pub many_partial : Ops
many_partial =
    op (repetition
    (op (repetition (op (repetition (op (name_op (codes "c")) no_ops) b_separator ZeroOrOne) no_ops)
    b_separator
    ZeroOrOne)
    (op (repetition (op (repetition (op (name_op (codes "c")) no_ops) b_separator ZeroOrMore)
    no_ops) b_separator
    ZeroOrMore)
    (op (repetition (op (repetition (op (name_op (codes "c")) (op (name_op (codes "b")) no_ops))
    b_separator OneOrMore)
    no_ops) None OneOrMore) no_ops)))
    b_separator ZeroOrMore) no_ops

-- `c`
abbrev pub one_c : Forest
one_c = word (codes "c") (at 1 0 1) none

-- the token that a partial reading expects
abbrev pub waits_for : Option PartialReading → Option Token
waits_for (Some (partial (op (token t) rest) is up)) = Some t
waits_for _ = None

-- At the start none fails, and more than two of one state can step. After `c`, in the full run the
-- first that fails expects `b`. In the bounded run it expects `c`. So one reports "expected ident:
-- `b`", and the other "expected ident: `c`".
pub record DropFirstExample : Type 0 where
  pub checked : Checked many_partial
  pub verdict : (g : Grammar) → verdict_reversed (open_grammar g) many_partial one_c ≡ stuck 1
  pub none_fails : (g : Grammar) → first_that (fails (input_of (open_grammar g) one_c) 0)
      (closure (input_of (open_grammar g) one_c) 0 (start many_partial ∷ [])) ≡ None
  pub all : (g : Grammar) → waits_for (first_that (fails (input_of (open_grammar g) one_c) 1)
      (closure (input_of (open_grammar g) one_c) 1
      (reversed_targets (input_of (open_grammar g) one_c) 0
      (closure (input_of (open_grammar g) one_c) 0 (start many_partial
      ∷ [])))))
      ≡ Some (ident (ident_of (codes "b") (at 0 0 1)))
  pub two : (g : Grammar) →
      waits_for (first_that (fails (input_of (open_grammar g) one_c) 1)
      (closure_two_each (input_of (open_grammar g) one_c) (state_count many_partial) 1
      (reversed_targets (input_of (open_grammar g) one_c) 0
      (closure_two_each (input_of (open_grammar g) one_c) (state_count many_partial) 0
      (start many_partial ∷ [])))))
      ≡ Some (ident (ident_of (codes "c") (at 0 0 1)))
