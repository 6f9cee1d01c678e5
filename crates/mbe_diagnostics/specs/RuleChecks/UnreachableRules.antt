-- Rules that no call reaches, because an earlier rule matches every argument that they match.
use Rattle.std.specs.Prelude.{ℕ, ◌+◌, ◌==◌, Bool, true, false, ◌&&◌, ◌||◌, if◌then◌else◌, List, []}
use Rattle.std.specs.Prelude.{◌∷◌, ◌++◌, length, Option, Some, None}
use Rattle.mbe_semantics.specs.declared.fragment_kinds.MetaVarKind.{MetaVarKind}
use Rattle.mbe_semantics.specs.declared.fragment_kinds.MetaVarKind.TheVariants.{Tt}
use Rattle.mbe_semantics.specs.declared.fragment_kinds.RepeatKind.{RepeatKind}
use Rattle.mbe_semantics.specs.declared.fragment_kinds.RepeatKind.TheVariants.{ZeroOrMore}
use Rattle.mbe_semantics.specs.declared.macro_call_style.MacroCallStyle.{MacroCallStyle}
use Rattle.mbe_semantics.specs.declared.macro_call_style.MacroCallStyle.TheVariants.{FnLike, Attr}
use Rattle.mbe_semantics.specs.declared.macro_call_style.MacroCallStyle.TheVariants.{Derive}
use Rattle.mbe_semantics.specs.Syntax.Op.{Separator, Ops, Op, no_ops, op, variable, repetition}
use Rattle.mbe_semantics.specs.Syntax.Definition.{Rule}
use Rattle.mbe_diagnostics.specs.RuleChecks.Equivalence.{are_equivalent}
use Rattle.mbe_diagnostics.specs.RuleChecks.Infallibility.{is_infallible}

abbrev pub style_number : MacroCallStyle → ℕ
style_number FnLike = 0
style_number Attr = 1
style_number Derive = 2

abbrev pub is_tt : Option MetaVarKind → Bool
is_tt (Some Tt) = true
is_tt _ = false

-- `$t:tt`
abbrev pub is_tt_variable : Op → Bool
is_tt_variable (variable name kind span) = is_tt kind
is_tt_variable _ = false

-- The op, if there is only one.
abbrev pub only_op : Ops → Option Op
only_op (op o no_ops) = Some o
only_op _ = None

abbrev pub is_some_tt_variable : Option Op → Bool
is_some_tt_variable None = false
is_some_tt_variable (Some o) = is_tt_variable o

-- `*` without a separator
abbrev pub is_list : Option Separator → RepeatKind → Bool
is_list None ZeroOrMore = true
is_list _ _ = false

-- `$($t:tt)*`
abbrev pub is_tt_list : Op → Bool
is_tt_list (repetition body s k) = is_list s k && is_some_tt_variable (only_op body)
is_tt_list _ = false

abbrev pub is_some_tt_list : Option Op → Bool
is_some_tt_list None = false
is_some_tt_list (Some o) = is_tt_list o

-- Only that: it matches the trees of any text, in one reading.
abbrev pub matches_everything : Ops → Bool
matches_everything pattern = is_some_tt_list (only_op pattern)

-- Two rules have the same style, and the earlier pattern matches everything or is equivalent to the
-- later one.
abbrev pub pattern_covers : Rule → Rule → Bool
pattern_covers earlier later =
    (style_number earlier.style == style_number later.style)
    && (matches_everything earlier.reads || are_equivalent earlier.reads later.reads)

-- The earlier rule covers the later one: a call that the later one matches is expanded by the
-- earlier one, or by a rule before it. After a fault the search for a rule goes on, so the template
-- of the earlier rule must not fail.
abbrev pub covers : Rule → Rule → Bool
covers earlier later = pattern_covers earlier later && is_infallible earlier.reads earlier.writes

-- The index of the first of these rules that covers a rule. They are numbered from `n`.
abbrev pub first_cover : ℕ → List Rule → Rule → Option ℕ
first_cover n [] r = None
first_cover n (e ∷ es) r = if covers e r then Some n else first_cover (n + 1) es r

abbrev pub with_cover : ℕ → Option ℕ → List (ℕ × ℕ)
with_cover n None = []
with_cover n (Some m) = (n, m) ∷ []

abbrev pub unreachable_after : List Rule → List Rule → List (ℕ × ℕ)
unreachable_after before [] = []
unreachable_after before (r ∷ rs) =
    with_cover (length before) (first_cover 0 before r) ++ unreachable_after (before ++ r ∷ []) rs

-- Each rule that an earlier one covers, with the first that does. Both are indices, from 0.
abbrev pub unreachable_rules : List Rule → List (ℕ × ℕ)
unreachable_rules rules = unreachable_after [] rules
