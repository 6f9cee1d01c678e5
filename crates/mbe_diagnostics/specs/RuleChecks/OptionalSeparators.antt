-- Separators of repetitions with `?`. rustc refuses them: there is at most one round.
use Rattle.std.specs.Prelude.{List, [], ◌++◌, Option, option_to_list}
use Rattle.mbe_semantics.specs.declared.fragment_kinds.RepeatKind.{RepeatKind}
use Rattle.mbe_semantics.specs.declared.fragment_kinds.RepeatKind.TheVariants.{ZeroOrOne}
use Rattle.mbe_semantics.specs.Syntax.Op.{Separator, Op, token, group, variable, repetition}
use Rattle.mbe_semantics.specs.Syntax.Op.{expression, Ops, no_ops, op}

-- The separator, if the repetition has at most one round.
abbrev pub if_optional : RepeatKind → Option Separator → List Separator
if_optional ZeroOrOne separator = option_to_list separator
if_optional _ separator = []

abbrev mutual
  pub optional_separators_op : Op → List Separator
  optional_separators_op (token t) = []
  optional_separators_op (group d body) = optional_separators body
  optional_separators_op (variable name kind span) = []
  optional_separators_op (repetition body separator repeat) =
      if_optional repeat separator ++ optional_separators body
  optional_separators_op (expression e) = []

  -- The separators of all repetitions with `?`, at any depth, in the order of the text.
  pub optional_separators : Ops → List Separator
  optional_separators no_ops = []
  optional_separators (op o os) = optional_separators_op o ++ optional_separators os
