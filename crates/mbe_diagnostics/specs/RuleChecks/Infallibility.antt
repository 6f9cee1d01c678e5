-- Templates that fail under no match of their pattern.
use Rattle.std.specs.Prelude.{ℕ, ◌+◌, Bool, true, false, not, ◌&&◌, ◌||◌, nat_lt, nat_le, List, []}
use Rattle.std.specs.Prelude.{◌∷◌, Option, Some, None, is_some}
use Rattle.mbe_semantics.specs.declared.fragment_kinds.RepeatKind.{RepeatKind}
use Rattle.mbe_semantics.specs.declared.fragment_kinds.RepeatKind.TheVariants.{OneOrMore}
use Rattle.mbe_semantics.specs.Syntax.Op.{Op, token, group, variable, repetition, expression, Ops}
use Rattle.mbe_semantics.specs.Syntax.Op.{no_ops, op}
use Rattle.mbe_diagnostics.specs.RuleChecks.Variables.{PatternVariable, variables_in}
use Rattle.mbe_diagnostics.specs.RuleChecks.Findings.{first_of_name}

-- No two variables have the same name.
abbrev pub are_distinct : List PatternVariable → Bool
are_distinct [] = true
are_distinct (b ∷ bs) = not (is_some (first_of_name b.name bs)) && are_distinct bs

-- The variable is one fragment in that many repetitions. A name that isn't bound is emitted as it
-- is.
abbrev pub is_single : ℕ → Option PatternVariable → Bool
is_single depth None = true
is_single depth (Some b) = nat_le b.depth depth

-- The variable still repeats in that many repetitions.
abbrev pub still_repeats : ℕ → Option PatternVariable → Bool
still_repeats depth None = false
still_repeats depth (Some b) = nat_lt depth b.depth

-- The repetition may have no round.
abbrev pub allows_zero_rounds : RepeatKind → Bool
allows_zero_rounds OneOrMore = false
allows_zero_rounds _ = true

-- A variable that still repeats in that many repetitions decides the number of rounds.
abbrev mutual
  pub has_repeating_variable_op : List PatternVariable → ℕ → Op → Bool
  has_repeating_variable_op bound depth (group d body) = has_repeating_variable bound depth body
  has_repeating_variable_op bound depth (variable name kind span) =
      still_repeats depth (first_of_name name bound)
  has_repeating_variable_op bound depth (repetition body s k) =
      has_repeating_variable bound depth body
  has_repeating_variable_op bound depth _ = false

  pub has_repeating_variable : List PatternVariable → ℕ → Ops → Bool
  has_repeating_variable bound depth no_ops = false
  has_repeating_variable bound depth (op o os) =
      has_repeating_variable_op bound depth o || has_repeating_variable bound depth os

-- The rounds of a repetition are those of a variable in it, and there may be none.
abbrev pub repeats_with_variable : List PatternVariable → ℕ → RepeatKind → Ops → Bool
repeats_with_variable bound depth k body =
    allows_zero_rounds k && has_repeating_variable bound depth body

-- Each variable is emitted as one fragment, and the rounds of each repetition are those of a
-- variable in it. Only 65536 rounds are a fault, as for every repetition.
abbrev mutual
  pub is_infallible_op : List PatternVariable → ℕ → Op → Bool
  is_infallible_op bound depth (token t) = true
  is_infallible_op bound depth (group d body) = are_infallible bound depth body
  is_infallible_op bound depth (variable name kind span) =
      is_single depth (first_of_name name bound)
  is_infallible_op bound depth (repetition body s k) =
      repeats_with_variable bound depth k body && are_infallible bound (depth + 1) body
  is_infallible_op bound depth (expression e) = false

  pub are_infallible : List PatternVariable → ℕ → Ops → Bool
  are_infallible bound depth no_ops = true
  are_infallible bound depth (op o os) =
      is_infallible_op bound depth o && are_infallible bound depth os

-- The variables of the pattern are emitted without a fault.
abbrev pub is_infallible : Ops → Ops → Bool
is_infallible pattern template = are_distinct (variables_in 0 pattern)
    && are_infallible (variables_in 0 pattern) 0 template
