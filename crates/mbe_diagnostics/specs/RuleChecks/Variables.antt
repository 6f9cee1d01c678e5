-- The variables of a pattern and their uses in a template, in the order of the text.
use Rattle.std.specs.Prelude.{ℕ, ◌+◌, List, [], ◌∷◌, ◌++◌, map, Option, Some}
use Rattle.mbe_tt.specs.declared.span.Span.{Span}
use Rattle.mbe_semantics.specs.declared.fragment_kinds.MetaVarKind.{MetaVarKind}
use Rattle.mbe_semantics.specs.Syntax.Op as ops
use Rattle.mbe_semantics.specs.Syntax.Op.{Name, Expression, Op, Ops, no_ops, op, used_name, Mention}
use Rattle.mbe_semantics.specs.Syntax.Op.{mentions_of_expression}
use Rattle.mbe_diagnostics.specs.declared.rule_checks.variables.PatternVariable as bound
use Rattle.mbe_diagnostics.specs.declared.rule_checks.variables.VariableUse as used

-- A variable of a pattern: its kind, `None` if the specifier is unknown; the number of repetitions
-- around it; and the span of its name.
pub record PatternVariable : Type 0 where
  pub name : Name
  pub kind : Option MetaVarKind
  pub depth : ℕ
  pub place : Span

-- A use of a name in a template. It has a span if the template emits the variable's fragment there.
pub record VariableUse : Type 0 where
  pub name : Name
  pub depth : ℕ
  pub place : Option Span

abbrev mutual
  -- The variables of a pattern with that many repetitions around it.
  pub variables_in_op : ℕ → Op → List PatternVariable
  variables_in_op depth (ops.token t) = []
  variables_in_op depth (ops.group d body) = variables_in depth body
  variables_in_op depth (ops.variable name kind span) =
      record { name = name; kind = kind; depth = depth; place = span } ∷ []
  variables_in_op depth (ops.repetition body separator repeat) = variables_in (depth + 1) body
  variables_in_op depth (ops.expression e) = []

  pub variables_in : ℕ → Ops → List PatternVariable
  variables_in depth no_ops = []
  variables_in depth (op o os) = variables_in_op depth o ++ variables_in depth os

-- A variable of a metavariable expression.
abbrev pub variable_use : ℕ → Mention → VariableUse
variable_use depth m = record { name = used_name m.used; depth = depth; place = m.offset }

-- All variables of a metavariable expression.
abbrev pub uses_in_expression : ℕ → Expression → List VariableUse
uses_in_expression depth e = map (variable_use depth) (mentions_of_expression e)

abbrev mutual
  -- The uses of names in a template with that many repetitions around it.
  pub uses_in_op : ℕ → Op → List VariableUse
  uses_in_op depth (ops.token t) = []
  uses_in_op depth (ops.group d body) = uses_in depth body
  uses_in_op depth (ops.variable name kind span) =
      record { name = name; depth = depth; place = Some span } ∷ []
  uses_in_op depth (ops.repetition body separator repeat) = uses_in (depth + 1) body
  uses_in_op depth (ops.expression e) = uses_in_expression depth e

  pub uses_in : ℕ → Ops → List VariableUse
  uses_in depth no_ops = []
  uses_in depth (op o os) = uses_in_op depth o ++ uses_in depth os

-- ---- what the program's values mean

abbrev pub variable_seen : bound.PatternVariable → PatternVariable
variable_seen b = record { name = b.name.now; kind = b.kind; depth = b.depth; place = b.place }

abbrev pub use_seen : used.VariableUse → VariableUse
use_seen u = record { name = u.name.now; depth = u.depth; place = u.place }
