-- How messages display a variable.
use Rattle.std.specs.Prelude.{codes, List, ◌++◌, ℕ, Option, Some, None}
use Rattle.mbe_tt.specs.declared.span.Span.{Span}
use Rattle.mbe_tt.specs.Trees.Leaf.{Ident}
use Rattle.mbe_semantics.specs.declared.fragment_kinds.MetaVarKind.{MetaVarKind}
use Rattle.mbe_semantics.specs.Fragments.Kinds.{facts}
use Rattle.mbe_semantics.specs.Syntax.Op.{Name}
use Rattle.mbe_rewriter.specs.MacroItems.{MacroDefinition}
use Rattle.mbe_diagnostics.specs.Lints.VariableSyntax.{VariableSyntax, find_variable}
use Rattle.mbe_diagnostics.specs.declared.lints.variable_display.VariableDisplay as code

pub record VariableDisplay : Type 0 where
  -- The span of its `$` and its name.
  pub name_span : Span
  -- The span of its `$`, its name and its specifier.
  pub full_span : Span
  -- Its specifier, and the span of that.
  pub specifier : Name
  pub specifier_span : Span

-- The specifier of a kind, or `?` if the kind is unknown.
abbrev pub kind_text : Option MetaVarKind → Name
kind_text None = codes "?"
kind_text (Some kind) = (facts kind).specifier

abbrev pub display_from : Span → Span → Option MetaVarKind → Option Ident → VariableDisplay
display_from name_span full_span kind None =
    record {
      name_span = name_span;
      full_span = full_span;
      specifier = kind_text kind;
      specifier_span = full_span;
    }
display_from name_span full_span kind (Some i) =
    record {
      name_span = name_span;
      full_span = full_span;
      specifier = i.sym;
      specifier_span =
          i.span;
    }

-- As it is written. If it isn't found, by the span of its name and by its kind.
abbrev pub display_by : Span → Option MetaVarKind → Option VariableSyntax → VariableDisplay
display_by place kind None = display_from place place kind None
display_by place kind (Some w) = display_from w.name_span w.full_span kind w.specifier

-- How to display the variable of a definition whose name begins at `place`.
unfoldable pub variable_display : MacroDefinition → Span → Option MetaVarKind → VariableDisplay
variable_display d place kind = display_by place kind (find_variable d place)

-- `$name:specifier`
abbrev pub variable_text : Name → Name → List ℕ
variable_text name specifier = codes "`$" ++ (name ++ (codes ":" ++ (specifier ++ codes "`")))

-- What the program's value stands for.
abbrev pub display_seen : code.VariableDisplay → VariableDisplay
display_seen s =
    record {
      name_span = s.name_span;
      full_span = s.full_span;
      specifier = s.specifier.now;
      specifier_span = s.specifier_span;
    }
