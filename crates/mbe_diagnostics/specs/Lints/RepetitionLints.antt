-- The lints for repetitions of a template that have no variable that repeats there.
use Rattle.std.specs.Prelude.{ℕ, ◌-◌, ◌==◌, ◌&&◌, nat_le, Bool, true, false, if◌then◌else◌}
use Rattle.std.specs.Prelude.{codes, List}
use Rattle.std.specs.Prelude.{[], ◌∷◌, ◌++◌, Option, Some, None}
use Rattle.mbe_tt.specs.declared.span.Span.{Span}
use Rattle.mbe_tt.specs.declared.tt.Delimiter.{Delimiter}
use Rattle.mbe_tt.specs.declared.tt.DelimiterKind.{DelimiterKind}
use Rattle.mbe_tt.specs.declared.tt.DelimiterKind.TheVariants.{Parenthesis}
use Rattle.mbe_tt.specs.Trees.Leaf.{Leaf, literal, punct, ident}
use Rattle.mbe_tt.specs.Trees.Tree.{Forest, none, leaf, group}
use Rattle.mbe_rewriter.specs.MacroItems.{MacroDefinition}
use Rattle.mbe_diagnostics.specs.Lints.Lint.{Lint, error_at}
use Rattle.mbe_diagnostics.specs.Lints.VariableSyntax.{up_to}
use Rattle.mbe_diagnostics.specs.declared.rule_checks.fixed_repetitions.FixedRepetition.{FixedRepetition}

-- ---- where a repetition is

abbrev pub is_dollar : Leaf → Bool
is_dollar (punct p) = p.char == 36
is_dollar (literal l) = false
is_dollar (ident i) = false

abbrev pub is_parenthesis : DelimiterKind → Bool
is_parenthesis Parenthesis = true
is_parenthesis _ = false

-- Whether the token is between the delimiters.
abbrev pub encloses : Delimiter → Span → Bool
encloses d place = nat_le d.opening.start place.start && nat_le place.start d.close.start

-- A group is the body of a repetition, if it has parentheses and follows a `$`.
abbrev pub is_body : Bool → Delimiter → Bool
is_body after_dollar d = after_dollar && is_parenthesis d.kind

-- The body of the repetition around the token at `place` that has `n` others around it; if there is
-- none, `other`.
abbrev pub repetition_place : Span → Span → ℕ → Bool → Forest → Span
repetition_place other place n after_dollar none = other
repetition_place other place n after_dollar (leaf l rest) =
    repetition_place other place n (is_dollar l) rest
repetition_place other place n after_dollar (group d inside rest) =
    if encloses d place then
    (if is_body after_dollar d then
    (if n == 0 then up_to d.opening d.close
    else repetition_place other place (n - 1) false inside)
    else repetition_place other place n false inside)
    else repetition_place other place n false rest

-- The span of a repetition's body. If the body has no token and no variable, it is the span of the
-- macro's name.
abbrev pub fixed_place : MacroDefinition → FixedRepetition → Option Span → Span
fixed_place d r None = d.name.span
fixed_place d r (Some place) = repetition_place place place r.depth false d.rules

-- ---- messages

unfoldable pub fixed_text : List ℕ
fixed_text =
    codes "attempted to repeat an expression containing no syntax variables matched as repeating at this depth"

abbrev pub fixed_lints : MacroDefinition → List FixedRepetition → List Lint
fixed_lints d [] = []
fixed_lints d (r ∷ rs) = error_at (fixed_place d r r.place) fixed_text ++ fixed_lints d rs
