-- Which ops can read nothing, and which patterns are refused because of it. rust-analyzer accepts
-- some of these patterns, and then never ends. It is the project's own choice to refuse all of
-- them.
use Rattle.std.specs.Prelude.{Bool, true, false, ◌&&◌, ◌||◌, ◌≡◌, Option, Some, None}
use Rattle.mbe_semantics.specs.declared.fragment_kinds.MetaVarKind.{MetaVarKind}
use Rattle.mbe_semantics.specs.declared.fragment_kinds.FragmentParser.{FragmentParser}
use Rattle.mbe_semantics.specs.declared.fragment_kinds.FragmentParser.TheVariants.{Grammar}
use Rattle.mbe_tt.specs.declared.grammar.PrefixEntryPoint.TheVariants.{Vis}
use Rattle.mbe_semantics.specs.Fragments.Kinds.{facts}
use Rattle.mbe_semantics.specs.declared.fragment_kinds.RepeatKind.{RepeatKind}
use Rattle.mbe_semantics.specs.declared.fragment_kinds.RepeatKind.TheVariants.{OneOrMore}
use Rattle.mbe_semantics.specs.Syntax.Op.{Separator, Op, Ops, group, variable, repetition, no_ops}
use Rattle.mbe_semantics.specs.Syntax.Op.{op}

-- only a `vis` fragment may be empty
abbrev pub may_find_nothing : FragmentParser → Bool
may_find_nothing (Grammar Vis) = true
may_find_nothing _ = false

abbrev pub is_vis : Option MetaVarKind → Bool
is_vis None = false
is_vis (Some kind) = may_find_nothing (facts kind).fragment_parser

-- a repetition can read nothing: it has no rounds, or its rounds read nothing
abbrev pub may_skip : RepeatKind → Bool → Bool
may_skip OneOrMore body = body
may_skip _ body = true

abbrev mutual
  pub is_nullable_op : Op → Bool
  is_nullable_op (variable name kind span) = is_vis kind
  is_nullable_op (repetition body separator repeat) = may_skip repeat (is_nullable body)
  is_nullable_op _ = false

  pub is_nullable : Ops → Bool
  is_nullable no_ops = true
  is_nullable (op o os) = is_nullable_op o && is_nullable os

-- the repetition has no separator
abbrev pub is_unseparated : Option Separator → Bool
is_unseparated None = true
is_unseparated (Some s) = false

-- some repetition, at any depth, has no separator and a body that can read nothing
abbrev mutual
  pub is_refused_op : Op → Bool
  is_refused_op (group d body) = is_refused body
  is_refused_op (repetition body separator repeat) =
      (is_unseparated separator && is_nullable body) || is_refused body
  is_refused_op _ = false

  pub is_refused : Ops → Bool
  is_refused no_ops = false
  is_refused (op o os) = is_refused_op o || is_refused os

-- no repetition is refused
abbrev pub Checked : Ops → Type 0
Checked os = is_refused os ≡ false
