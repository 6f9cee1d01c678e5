-- The ops of a pattern or a template (as in rust-analyzer).
use Rattle.std.specs.Prelude.{ℕ, Bool, true, false, ◌&&◌, List, [], ◌∷◌, ◌++◌, map, Option, Some}
use Rattle.std.specs.Prelude.{None}
use Rattle.mbe_tt.specs.declared.span.Span.{Span}
use Rattle.mbe_semantics.specs.declared.fragment_kinds.MetaVarKind.{MetaVarKind}
use Rattle.mbe_semantics.specs.declared.fragment_kinds.RepeatKind.{RepeatKind}
use Rattle.mbe_tt.specs.Trees.Leaf.{Ident, Literal}
use Rattle.mbe_tt.specs.declared.tt.Punct.{Punct}
use Rattle.mbe_tt.specs.declared.tt.Delimiter.{Delimiter}

-- a variable's name, as its text
abbrev pub Name : Type 0
Name = List ℕ

-- the separator between two rounds of a repetition
pub data Separator : Type 0 where
  ident_separator : Ident → Separator
  literal_separator : Literal → Separator
  punct_separator : List Punct → Separator
  -- the punct `'`, and a name
  lifetime_separator : Punct → Ident → Separator

-- an element of `${concat(..)}`
pub data Element : Type 0 where
  ident_element : Ident → Element
  literal_element : Literal → Element
  variable_element : Ident → Element

-- a metavariable expression, which only templates have
pub data Expression : Type 0 where
  ignore : Name → Span → Expression
  count : Name → ℕ → Expression
  index : ℕ → Expression
  len : ℕ → Expression
  concat : List Element → Span → Expression

-- a token that is matched and emitted as it is
pub data Token : Type 0 where
  literal : Literal → Token
  ident : Ident → Token
  puncts : List Punct → Token

mutual
  -- one part of a pattern or a template
  pub data Op : Type 0 where
    token : Token → Op
    group : Delimiter → Ops → Op
    -- A variable. It has no kind in a template, and if the specifier is unknown.
    variable : Name → Option MetaVarKind → Span → Op
    repetition : Ops → Option Separator → RepeatKind → Op
    expression : Expression → Op

  -- consecutive ops
  pub data Ops : Type 0 where
    no_ops : Ops
    op : Op → Ops → Ops

-- the variables of a pattern, at any depth
abbrev mutual
  pub names_of_op : Op → List Name
  names_of_op (token t) = []
  names_of_op (group d body) = names_of body
  names_of_op (variable name kind span) = name ∷ []
  names_of_op (repetition body separator repeat) = names_of body
  names_of_op (expression e) = []

  pub names_of : Ops → List Name
  names_of no_ops = []
  names_of (op o ops) = names_of_op o ++ names_of ops

-- the ops have no repetition, at any depth
abbrev mutual
  pub op_has_no_repetition : Op → Bool
  op_has_no_repetition (group d body) = has_no_repetition body
  op_has_no_repetition (repetition body separator repeat) = false
  op_has_no_repetition _ = true

  pub has_no_repetition : Ops → Bool
  has_no_repetition no_ops = true
  has_no_repetition (op o os) = op_has_no_repetition o && has_no_repetition os

-- ---- the names of a template

-- A variable, `ignore` and `concat` need a fragment with their name. `count` needs a number.
pub data Use : Type 0 where
  for_fragment : Name → Use
  for_number : Name → Use

-- the name itself
abbrev pub used_name : Use → Name
used_name (for_fragment name) = name
used_name (for_number name) = name

-- a use in a metavariable expression, and the span where the variable's fragment is emitted, if it
-- is
pub record Mention : Type 0 where
  pub used : Use
  pub offset : Option Span

-- the variables among the elements of `${concat(..)}`
abbrev pub mentions_of_elements : List Element → List Mention
mentions_of_elements [] = []
mentions_of_elements (ident_element i ∷ es) = mentions_of_elements es
mentions_of_elements (literal_element l ∷ es) = mentions_of_elements es
mentions_of_elements (variable_element i ∷ es) =
    record { used = for_fragment i.sym; offset = Some i.span } ∷ mentions_of_elements es

-- The variables of a metavariable expression. `ignore` and `count` emit no fragment.
abbrev pub mentions_of_expression : Expression → List Mention
mentions_of_expression (ignore name span) = record { used = for_fragment name; offset = None } ∷ []
mentions_of_expression (count name depth) = record { used = for_number name; offset = None } ∷ []
mentions_of_expression (index depth) = []
mentions_of_expression (len depth) = []
mentions_of_expression (concat elements span) = mentions_of_elements elements

-- the uses without their spans
abbrev pub uses_of_expression : Expression → List Use
uses_of_expression e = map (λ m. m.used) (mentions_of_expression e)

-- the uses of names in a template, at any depth
abbrev mutual
  pub uses_of_op : Op → List Use
  uses_of_op (token t) = []
  uses_of_op (group d body) = uses_of body
  uses_of_op (variable name kind span) = for_fragment name ∷ []
  uses_of_op (repetition body separator repeat) = uses_of body
  uses_of_op (expression e) = uses_of_expression e

  pub uses_of : Ops → List Use
  uses_of no_ops = []
  uses_of (op o ops) = uses_of_op o ++ uses_of ops
