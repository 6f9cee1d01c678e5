-- A variable as it is written in a definition, with its `$` and its specifier.
use Rattle.std.specs.Prelude.{ℕ, zero, suc, ◌==◌, ◌&&◌, Bool, if◌then◌else◌, Option, Some, None}
use Rattle.std.specs.Prelude.{option_and_then, option_map}
use Rattle.std.specs.Option.{option_or}
use Rattle.mbe_tt.specs.declared.span.Span.{Span}
use Rattle.mbe_tt.specs.declared.tt.Punct.{Punct}
use Rattle.mbe_tt.specs.Trees.Leaf.{Ident}
use Rattle.mbe_tt.specs.Trees.Tree.{Forest, Tree, Leaf_tree, Group_tree, none, leaf, group, rest_of}
use Rattle.mbe_tt.specs.Trees.Tree.{front_punct, front_ident}
use Rattle.mbe_rewriter.specs.MacroItems.{after_char, DefinitionForm, Rules, Body, Arguments}
use Rattle.mbe_rewriter.specs.MacroItems.{MacroDefinition}
use Rattle.mbe_semantics.specs.Syntax.Op.{Name}
use Rattle.mbe_tt.specs.Views.LeafViews.{ident_of}
use Rattle.mbe_diagnostics.specs.declared.lints.variable_syntax.VariableSyntax as code

pub record VariableSyntax : Type 0 where
  -- The span of its `$` and its name.
  pub name_span : Span
  -- The span of its `$`, its name and its specifier, if it has one.
  pub full_span : Span
  pub specifier : Option Ident

-- ---- at the front of trees

-- Whether a name begins at `place`.
abbrev pub begins_at : Span → Ident → Bool
begins_at place i = i.span.file == place.file && i.span.start == place.start

-- The span from the start of one span to the end of another.
abbrev pub up_to : Span → Span → Span
up_to start end = record start { end = end.end }

-- A variable with that `$`, name and specifier.
abbrev pub make_variable : Span → Ident → Option Ident → VariableSyntax
make_variable dollar name None =
    record {
      name_span = up_to dollar name.span;
      full_span = up_to dollar name.span;
      specifier =
          None;
    }
make_variable dollar name (Some s) =
    record {
      name_span = up_to dollar name.span;
      full_span = up_to dollar s.span;
      specifier = Some s;
    }

-- The name after a `:`.
abbrev pub specifier_at : Forest → Option Ident
specifier_at f = option_and_then front_ident (after_char 58 f)

-- The variable that a `$` before these trees begins, if its name begins at `place`.
abbrev pub variable_after : Span → Span → Forest → Option VariableSyntax
variable_after place dollar f =
    option_and_then (λ i. if begins_at place i then Some
    (make_variable dollar i (specifier_at (rest_of f))) else None)
    (front_ident f)

-- The variable that a punct begins.
abbrev pub variable_with : Span → Forest → Punct → Option VariableSyntax
variable_with place rest p = if p.char == 36 then variable_after place p.span rest else None

-- The variable at the front of these trees, if its name begins at `place`.
abbrev pub variable_at : Span → Forest → Option VariableSyntax
variable_at place f = option_and_then (variable_with place (rest_of f)) (front_punct f)

-- ---- among trees

-- The variable at the front of these trees, or the one in their first tree.
abbrev pub find_at_front : (Forest → Option VariableSyntax) → Span → Tree → Forest
    → Option VariableSyntax
find_at_front within place (Leaf_tree l) f = variable_at place f
find_at_front within place (Group_tree d inside) f = within inside

abbrev pub find_among : (Forest → Option VariableSyntax) → Span → Forest → Option VariableSyntax
find_among within place none = None
find_among within place (leaf l rest) =
    option_or (find_at_front within place (Leaf_tree l) (leaf l rest))
    (find_among within place rest)
find_among within place (group d inside rest) =
    option_or (find_at_front within place (Group_tree d inside) (group d inside rest))
    (find_among within place rest)

-- The first variable whose name begins at `place`, where groups may be nested that deep.
unfoldable pub find_in : ℕ → Span → Forest → Option VariableSyntax
find_in zero place f = None
find_in (suc levels) place f = find_among (find_in levels place) place f

-- ---- in a definition

-- The variable in the pattern of `macro name(pattern) { template }`.
abbrev pub find_in_arguments : Span → DefinitionForm → Option VariableSyntax
find_in_arguments place Rules = None
find_in_arguments place Body = None
find_in_arguments place (Arguments d pattern) = find_in 1000 place pattern

abbrev pub find_variable : MacroDefinition → Span → Option VariableSyntax
find_variable d place = option_or (find_in_arguments place d.form) (find_in 1000 place d.rules)

-- What the program's value stands for.
abbrev pub syntax_seen : {A : Type 0} → code.VariableSyntax A → VariableSyntax
syntax_seen w = record {
  name_span = w.name_span;
  full_span = w.full_span;
  specifier = option_map (λ i. ident_of i.now) w.specifier;
}
