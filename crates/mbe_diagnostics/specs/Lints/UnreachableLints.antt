-- The lints for rules that no call reaches.
use Rattle.std.specs.Prelude.{ℕ, ◌+◌, ◌-◌, ◌^◌, ◌==◌, ◌||◌, min, Bool, false, if◌then◌else◌, codes}
use Rattle.std.specs.Prelude.{List, [], ◌∷◌, ◌++◌}
use Rattle.std.specs.Fmt.{decimal}
use Rattle.mbe_tt.specs.declared.span.Span.{Span}
use Rattle.mbe_tt.specs.Trees.Leaf.{Leaf, literal, punct, ident, span_of}
use Rattle.mbe_tt.specs.Trees.Tree.{Forest, Tree, Leaf_tree, Group_tree, none, leaf, group}
use Rattle.mbe_semantics.specs.Syntax.Op.{Name}
use Rattle.mbe_rewriter.specs.MacroItems.{MacroDefinition}
use Rattle.mbe_diagnostics.specs.Lints.Lint.{Lint, warning_at, note_at}
use Rattle.mbe_diagnostics.specs.Lints.VariableSyntax.{up_to}

-- ---- spans

abbrev pub is_separator_leaf : Leaf → Bool
is_separator_leaf (punct p) = (p.char == 59) || (p.char == 44)
is_separator_leaf (literal l) = false
is_separator_leaf (ident i) = false

-- `;` or `,`
abbrev pub is_separator : Tree → Bool
is_separator (Leaf_tree l) = is_separator_leaf l
is_separator (Group_tree d inside) = false

abbrev pub tree_place : Tree → Span
tree_place (Leaf_tree l) = span_of l
tree_place (Group_tree d inside) = up_to d.opening d.close

abbrev pub separators_left : Tree → ℕ → ℕ
separators_left t n = if is_separator t then n - 1 else n

-- The span of the first tree after that many separators; if there is none, `other`. In a parsed
-- definition, a rule is what is between separators.
abbrev pub rule_place : Span → ℕ → Forest → Span
rule_place other n none = other
rule_place other n (leaf l rest) =
    if n == 0 then tree_place (Leaf_tree l) else rule_place other (separators_left (Leaf_tree l) n)
    rest
rule_place other n (group d inside rest) =
    if n == 0 then tree_place (Group_tree d inside) else rule_place other
    (separators_left (Group_tree d inside) n) rest

abbrev pub place_in : MacroDefinition → ℕ → Span
place_in d n = rule_place d.name.span n d.rules

-- ---- messages

-- Rules are numbered from 1.
abbrev pub number_of : ℕ → ℕ
number_of n = min (n + 1) (2 ^ 64 - 1)

unfoldable pub unreachable_text : ℕ → List ℕ
unreachable_text earlier =
    codes "unreachable rule: rule "
    ++ (decimal earlier ++ codes " matches everything it does")

unfoldable pub earlier_text : ℕ → Name → List ℕ
earlier_text earlier name = codes "rule "
    ++ (decimal earlier ++ (codes " of `" ++ (name ++ codes "!`")))

-- The lint for an unreachable rule, with the earlier rule that matches everything it does.
abbrev pub unreachable_lint : MacroDefinition → ℕ × ℕ → List Lint
unreachable_lint d p =
    warning_at (place_in d p.0) (unreachable_text (number_of p.1))
    ++ note_at (place_in d p.1) (earlier_text (number_of p.1) d.name.sym)

abbrev pub unreachable_lints : MacroDefinition → List (ℕ × ℕ) → List Lint
unreachable_lints d [] = []
unreachable_lints d (p ∷ ps) = unreachable_lint d p ++ unreachable_lints d ps
