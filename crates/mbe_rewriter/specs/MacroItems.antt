-- The front of trees: a definition of a macro, a call of a macro, or any other tree.
use Prim.Native.String.{String}
use Rattle.std.specs.Prelude.{ℕ, zero, suc, Bool, true, false, not, ◌==◌, if◌then◌else◌, codes}
use Rattle.std.specs.Prelude.{List, [], ◌∷◌, map, Option, Some, None, option_map, option_and_then}
use Rattle.std.specs.Prelude.{unwrap_or}
use Rattle.std.specs.List.{list_any}
use Rattle.mbe_tt.specs.Trees.Leaf.{Ident, is_text}
use Rattle.mbe_tt.specs.Trees.Tree.{Forest, Tree, first, rest_of, first_span, flat_len, front_punct}
use Rattle.mbe_tt.specs.Trees.Tree.{front_ident, front_group}
use Rattle.mbe_tt.specs.declared.span.Span.{Span}
use Rattle.mbe_tt.specs.declared.tt.Delimiter.{Delimiter}
use Rattle.mbe_tt.specs.declared.tt.DelimiterKind.{DelimiterKind}
use Rattle.mbe_tt.specs.declared.tt.DelimiterKind.TheVariants.{Parenthesis, Brace, Bracket}
use Rattle.mbe_tt.specs.declared.tt.DelimiterKind.TheVariants.{Invisible}
use Rattle.mbe_tt.specs.declared.tt.IdentIsRaw.{IdentIsRaw}
use Rattle.mbe_tt.specs.declared.tt.IdentIsRaw.TheVariants.{No, Yes}

-- ---- paths

-- A path of names: the first name, the last name, whether the path is more than a single name, and
-- the trees after it.
pub record Path : Type 0 where
  pub first : Ident
  pub name : Ident
  pub is_path : Bool
  pub rest : Forest

-- The trees after a punct of that char.
abbrev pub after_char : ℕ → Forest → Option Forest
after_char char f =
    option_and_then (λ p. if p.char == char then Some (rest_of f) else None) (front_punct f)

-- The trees after a `::`.
abbrev pub after_path_separator : Forest → Option Forest
after_path_separator f = option_and_then (after_char 58) (after_char 58 f)

-- The path of the single name at the front.
abbrev pub path_of_name : Bool → Forest → Option Path
path_of_name is_path f =
    option_map (λ i. record { first = i; name = i; is_path = is_path; rest = rest_of f })
    (front_ident f)

-- The path from a name to the name at the front.
abbrev pub path_with_next : Ident → Forest → Option Path
path_with_next first f =
    option_map (λ i. record { first = first; name = i; is_path = true; rest = rest_of f })
    (front_ident f)

-- A path, extended by the name after a `::`. Without a `::` the path is complete.
abbrev pub path_goes_further : (Path → Option Path) → Path → Option Forest → Option Path
path_goes_further more path None = Some path
path_goes_further more path (Some after) = option_and_then more (path_with_next path.first after)

-- A path with at most `n` more names.
unfoldable pub longer : ℕ → Path → Option Path
longer zero path = Some path
longer (suc n) path = path_goes_further (longer n) path (after_path_separator path.rest)

-- A path with all its names. Each name takes trees, so there are no more names than flat tokens.
abbrev pub full_path : Path → Option Path
full_path path = longer (flat_len path.rest) path

-- The path at the front, if one is there. It may begin with a `::`.
abbrev pub path_from : Forest → Option Forest → Option Path
path_from f None = option_and_then full_path (path_of_name false f)
path_from f (Some after) = option_and_then full_path (path_of_name true after)

abbrev pub path_of : Forest → Option Path
path_of f = path_from f (after_path_separator f)

-- ---- calls

-- A call has the first and the last name of its path, and whether the path is more than a single
-- name. It has the group with its content, and the trees after the call. It also has the start of
-- the path, and the start of the call's attributes, or of the path if there are none.
pub record MacroCall : Type 0 where
  pub first : Ident
  pub name : Ident
  pub is_path : Bool
  pub delimiter : Delimiter
  pub argument : Forest
  pub rest : Forest
  pub start : Span
  pub begin : Span

-- Keywords. A `!` after one of them belongs to no call.
abbrev pub keywords : List String
keywords =
    "as" ∷ "async" ∷ "await" ∷ "box" ∷ "break" ∷ "const" ∷ "continue" ∷ "do" ∷ "dyn" ∷ "else"
    ∷ "enum" ∷ "extern" ∷ "fn"
    ∷ "for"
    ∷ "if" ∷ "impl" ∷ "in" ∷ "let" ∷ "loop" ∷ "match" ∷ "mod" ∷ "move" ∷ "mut" ∷ "pub" ∷ "ref"
    ∷ "return" ∷ "static"
    ∷ "struct"
    ∷ "trait" ∷ "type" ∷ "unsafe" ∷ "use" ∷ "where" ∷ "while" ∷ "yield" ∷ []

-- A macro may have that name: any raw identifier, and any identifier that is no keyword.
abbrev pub can_name_macro : IdentIsRaw → List ℕ → Bool
can_name_macro Yes sym = true
can_name_macro No sym = not (list_any (is_text sym) (map codes keywords))

-- The group has delimiters in the text.
abbrev pub is_visible : DelimiterKind → Bool
is_visible Invisible = false
is_visible Parenthesis = true
is_visible Brace = true
is_visible Bracket = true

-- The call by a path whose group is at the front.
abbrev pub call_with_group : Span → Path → Forest → Option MacroCall
call_with_group start path f =
    option_and_then (λ g. if is_visible g.0.kind then Some (record {
      first = path.first;
      name = path.name;
      is_path = path.is_path;
      delimiter = g.0;
      argument = g.1;
      rest = rest_of f;
      start = start;
      begin = start;
    }) else None) (front_group f)

-- The call by a path: a name that a macro may have, a `!`, and a group.
abbrev pub call_of_path : Span → Path → Option MacroCall
call_of_path start path =
    if can_name_macro path.name.is_raw path.name.sym then option_and_then
    (call_with_group start path) (after_char 33 path.rest)
    else None

-- The call at the front, if one is there.
abbrev pub call_of : Forest → Option MacroCall
call_of f =
    option_and_then (λ t. option_and_then (call_of_path (first_span t)) (path_of f)) (first f)

-- ---- definitions

-- How the rules are written: `macro_rules! name { rules }`, `macro name { rules }`, or
-- `macro name(pattern) { template }`.
pub data DefinitionForm : Type 0 where
  Rules : DefinitionForm
  Body : DefinitionForm
  Arguments : Delimiter → Forest → DefinitionForm

-- An item is in scope in its whole group, a `macro_rules!` definition only after itself.
abbrev pub is_item : DefinitionForm → Bool
is_item Rules = false
is_item Body = true
is_item (Arguments d pattern) = true

-- A definition: its name, its form, the group with its content, and the trees after it.
pub record MacroDefinition : Type 0 where
  pub name : Ident
  pub form : DefinitionForm
  pub delimiter : Delimiter
  pub rules : Forest
  pub rest : Forest

-- The trees after a `macro_rules!` definition. A `;` belongs to it, except after braces.
abbrev pub after_rules : DelimiterKind → Forest → Forest
after_rules Brace f = f
after_rules Parenthesis f = unwrap_or (after_char 59 f) f
after_rules Bracket f = unwrap_or (after_char 59 f) f
after_rules Invisible f = unwrap_or (after_char 59 f) f

abbrev pub macro_rules_with_name : Ident → Forest → Option MacroDefinition
macro_rules_with_name name f =
    option_map (λ g. record {
      name = name;
      form = Rules;
      delimiter = g.0;
      rules = g.1;
      rest = after_rules g.0.kind (rest_of f);
    }) (front_group f)

-- The definition, read from the trees after `macro_rules`.
abbrev pub macro_rules_definition : Forest → Option MacroDefinition
macro_rules_definition f =
    option_and_then (λ g. option_and_then (λ i. macro_rules_with_name i (rest_of g))
    (front_ident g)) (after_char 33 f)

-- The definition `macro name(pattern)` whose template is at the front.
abbrev pub macro_item_with_template : Ident → Delimiter → Forest → Forest → Option MacroDefinition
macro_item_with_template name d pattern f =
    option_map (λ g. record {
      name = name;
      form = Arguments d pattern;
      delimiter = g.0;
      rules = g.1;
      rest = rest_of f;
    })
    (front_group f)

-- The definition `macro name` with a group of that kind. Braces hold rules. Any other group is a
-- pattern.
abbrev pub macro_item_with_group : Ident → DelimiterKind → Delimiter → Forest → Forest
    → Option MacroDefinition
macro_item_with_group name Brace d inside f =
    Some (record { name = name; form = Body; delimiter = d; rules = inside; rest = f })
macro_item_with_group name Parenthesis d inside f = macro_item_with_template name d inside f
macro_item_with_group name Bracket d inside f = macro_item_with_template name d inside f
macro_item_with_group name Invisible d inside f = macro_item_with_template name d inside f

abbrev pub macro_item_with_name : Ident → Forest → Option MacroDefinition
macro_item_with_name name f =
    option_and_then (λ g. macro_item_with_group name g.0.kind g.0 g.1 (rest_of f)) (front_group f)

-- The definition, read from the trees after `macro`.
abbrev pub macro_item_definition : Forest → Option MacroDefinition
macro_item_definition f = option_and_then (λ i. macro_item_with_name i (rest_of f)) (front_ident f)

-- The definition, read from the trees after a keyword.
abbrev pub definition_by_keyword : List ℕ → Forest → Option MacroDefinition
definition_by_keyword word f =
    if is_text word (codes "macro_rules") then macro_rules_definition f else if is_text word
    (codes "macro") then macro_item_definition f else None

abbrev pub defined_after : IdentIsRaw → List ℕ → Forest → Option MacroDefinition
defined_after Yes word f = None
defined_after No word f = definition_by_keyword word f

-- The definition at the front, if one is there.
abbrev pub definition_of : Forest → Option MacroDefinition
definition_of f = option_and_then (λ i. defined_after i.is_raw i.sym (rest_of f)) (front_ident f)

-- ---- fronts

pub data FrontItem : Type 0 where
  Definition : MacroDefinition → FrontItem
  CallItem : MacroCall → FrontItem
  Other : Tree → Forest → FrontItem
  End : FrontItem

-- A definition takes precedence over a call, and a call over any other tree.
abbrev pub tree_front : Forest → Option Tree → FrontItem
tree_front f None = End
tree_front f (Some t) = Other t (rest_of f)

abbrev pub call_front : Forest → Option MacroCall → FrontItem
call_front f None = tree_front f (first f)
call_front f (Some c) = CallItem c

abbrev pub front_with : Forest → Option MacroDefinition → FrontItem
front_with f None = call_front f (call_of f)
front_with f (Some d) = Definition d

abbrev pub front : Forest → FrontItem
front f = front_with f (definition_of f)
