-- Equivalence of patterns. Equivalent patterns differ at most in the names of their variables and
-- in their spans.
use Rattle.std.specs.Prelude.{ℕ, Bool, true, false, ◌&&◌, ◌==◌, Option, Some, None}
use Rattle.std.specs.Str.{bytes_eq}
use Rattle.mbe_tt.specs.Trees.Glue.{chars_of}
use Rattle.mbe_tt.specs.declared.tt.Delimiter.{Delimiter}
use Rattle.mbe_tt.specs.declared.tt.DelimiterKind.{DelimiterKind}
use Rattle.mbe_tt.specs.declared.tt.DelimiterKind.TheVariants.{Parenthesis, Brace, Bracket}
use Rattle.mbe_tt.specs.declared.tt.DelimiterKind.TheVariants.{Invisible}
use Rattle.mbe_semantics.specs.declared.fragment_kinds.ExprKind.TheVariants as exprs
use Rattle.mbe_semantics.specs.declared.fragment_kinds.MetaVarKind.{MetaVarKind}
use Rattle.mbe_semantics.specs.declared.fragment_kinds.MetaVarKind.TheVariants as kinds
use Rattle.mbe_semantics.specs.declared.fragment_kinds.RepeatKind.{RepeatKind}
use Rattle.mbe_semantics.specs.declared.fragment_kinds.RepeatKind.TheVariants.{ZeroOrMore}
use Rattle.mbe_semantics.specs.declared.fragment_kinds.RepeatKind.TheVariants.{OneOrMore, ZeroOrOne}
use Rattle.mbe_semantics.specs.Syntax.Op.{Separator, ident_separator, literal_separator}
use Rattle.mbe_semantics.specs.Syntax.Op.{punct_separator, lifetime_separator, Token, literal}
use Rattle.mbe_semantics.specs.Syntax.Op.{ident, puncts, Op, token, group, variable, repetition}
use Rattle.mbe_semantics.specs.Syntax.Op.{Ops, no_ops, op}

-- A number for each kind of fragment. An unknown kind has its own.
abbrev pub kind_number : Option MetaVarKind → ℕ
kind_number None = 0
kind_number (Some kinds.Path) = 1
kind_number (Some kinds.Ty) = 2
kind_number (Some kinds.Pat) = 3
kind_number (Some kinds.PatParam) = 4
kind_number (Some kinds.Stmt) = 5
kind_number (Some kinds.Block) = 6
kind_number (Some kinds.Meta) = 7
kind_number (Some kinds.Item) = 8
kind_number (Some kinds.Vis) = 9
kind_number (Some (kinds.Expr exprs.Expr)) = 10
kind_number (Some (kinds.Expr exprs.Expr2021)) = 11
kind_number (Some kinds.Ident) = 12
kind_number (Some kinds.Tt) = 13
kind_number (Some kinds.Lifetime) = 14
kind_number (Some kinds.Literal) = 15

abbrev pub repeat_number : RepeatKind → ℕ
repeat_number ZeroOrMore = 0
repeat_number OneOrMore = 1
repeat_number ZeroOrOne = 2

abbrev pub delimiter_number : DelimiterKind → ℕ
delimiter_number Parenthesis = 0
delimiter_number Brace = 1
delimiter_number Bracket = 2
delimiter_number Invisible = 3

abbrev pub same_delimiter_kind : Delimiter → Delimiter → Bool
same_delimiter_kind d e = delimiter_number d.kind == delimiter_number e.kind

-- Tokens are equivalent if they have the same text.
abbrev pub is_equivalent_token : Token → Token → Bool
is_equivalent_token (literal l) (literal m) = bytes_eq l.text_and_suffix m.text_and_suffix
is_equivalent_token (ident i) (ident j) = bytes_eq i.sym j.sym
is_equivalent_token (puncts ps) (puncts qs) = bytes_eq (chars_of ps) (chars_of qs)
is_equivalent_token _ _ = false

abbrev pub is_equivalent_separator : Separator → Separator → Bool
is_equivalent_separator (ident_separator i) (ident_separator j) = bytes_eq i.sym j.sym
is_equivalent_separator (literal_separator l) (literal_separator m) =
    bytes_eq l.text_and_suffix m.text_and_suffix
is_equivalent_separator (punct_separator ps) (punct_separator qs) =
    bytes_eq (chars_of ps) (chars_of qs)
is_equivalent_separator (lifetime_separator p i) (lifetime_separator q j) = bytes_eq i.sym j.sym
is_equivalent_separator _ _ = false

abbrev pub is_equivalent_between : Option Separator → Option Separator → Bool
is_equivalent_between None None = true
is_equivalent_between (Some s) (Some t) = is_equivalent_separator s t
is_equivalent_between _ _ = false

-- Whether two repetitions have equivalent separators and the same operator.
abbrev pub repeats_equivalently : Option Separator → RepeatKind → Option Separator → RepeatKind
    → Bool
repeats_equivalently s k t l = is_equivalent_between s t && (repeat_number k == repeat_number l)

abbrev mutual
  pub is_equivalent : Op → Op → Bool
  is_equivalent (token t) (token u) = is_equivalent_token t u
  is_equivalent (group d body) (group e other) =
      same_delimiter_kind d e && are_equivalent body other
  is_equivalent (variable name kind span) (variable other_name other_kind other_span) =
      kind_number kind == kind_number other_kind
  is_equivalent (repetition body s k) (repetition other t l) =
      repeats_equivalently s k t l && are_equivalent body other
  is_equivalent _ _ = false

  pub are_equivalent : Ops → Ops → Bool
  are_equivalent no_ops no_ops = true
  are_equivalent (op o os) (op p ps) = is_equivalent o p && are_equivalent os ps
  are_equivalent _ _ = false
