-- Repetitions of a template that have no variable that repeats there. Nothing says how many rounds
-- they have, so rustc refuses each call that expands one.
use Rattle.std.specs.Prelude.{ℕ, ◌+◌, Bool, false, ◌||◌, if◌then◌else◌, List, [], ◌∷◌, ◌++◌, Option}
use Rattle.std.specs.Prelude.{None}
use Rattle.std.specs.Option.{option_or}
use Rattle.mbe_tt.specs.declared.span.Span.{Span}
use Rattle.mbe_semantics.specs.Syntax.Op.{Op, token, group, variable, repetition, expression, Ops}
use Rattle.mbe_semantics.specs.Syntax.Op.{no_ops, op}
use Rattle.mbe_diagnostics.specs.Outcome.{op_place}
use Rattle.mbe_diagnostics.specs.RuleChecks.Variables.{PatternVariable, VariableUse, variables_in}
use Rattle.mbe_diagnostics.specs.RuleChecks.Variables.{uses_in}
use Rattle.mbe_diagnostics.specs.RuleChecks.Findings.{first_of_name}
use Rattle.mbe_diagnostics.specs.RuleChecks.Infallibility.{still_repeats}
use Rattle.mbe_diagnostics.specs.declared.rule_checks.fixed_repetitions.FixedRepetition.{FixedRepetition}

-- One of the variables still repeats in that many repetitions.
abbrev pub is_any_repeating : List PatternVariable → ℕ → List VariableUse → Bool
is_any_repeating bound depth [] = false
is_any_repeating bound depth (u ∷ us) =
    still_repeats depth (first_of_name u.name bound) || is_any_repeating bound depth us

-- The span of the first token or variable, if there is one.
abbrev mutual
  pub first_span_op : Op → Option Span
  first_span_op (repetition body s k) = first_span body
  first_span_op (token t) = op_place (token t)
  first_span_op (group d body) = op_place (group d body)
  first_span_op (variable name kind span) = op_place (variable name kind span)
  first_span_op (expression e) = op_place (expression e)

  pub first_span : Ops → Option Span
  first_span no_ops = None
  first_span (op o os) = option_or (first_span_op o) (first_span os)

-- One of the variables in the body of a repetition still repeats there.
abbrev pub repeats : List PatternVariable → ℕ → Ops → Bool
repeats bound depth body = is_any_repeating bound depth (uses_in 0 body)

-- A repetition with that body.
abbrev pub one : ℕ → Ops → List FixedRepetition
one depth body = record { depth = depth; place = first_span body } ∷ []

-- The outermost of these repetitions, in the order of the text: rustc comes to no other one.
abbrev mutual
  pub fixed_in_op : List PatternVariable → ℕ → Op → List FixedRepetition
  fixed_in_op bound depth (token t) = []
  fixed_in_op bound depth (group d body) = fixed_in bound depth body
  fixed_in_op bound depth (variable name kind span) = []
  fixed_in_op bound depth (repetition body s k) =
      if repeats bound depth body then fixed_in bound (depth + 1) body else one depth body
  fixed_in_op bound depth (expression e) = []

  pub fixed_in : List PatternVariable → ℕ → Ops → List FixedRepetition
  fixed_in bound depth no_ops = []
  fixed_in bound depth (op o os) = fixed_in_op bound depth o ++ fixed_in bound depth os

abbrev pub fixed_repetitions : Ops → Ops → List FixedRepetition
fixed_repetitions pattern template = fixed_in (variables_in 0 pattern) 0 template
