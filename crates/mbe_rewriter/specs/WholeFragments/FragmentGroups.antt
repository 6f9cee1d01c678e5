-- The groups of fragments, which rustc's dialect keeps whole, as text can write them: parentheses
-- where they are needed, and nothing elsewhere.
use Rattle.std.specs.Prelude.{ℕ, zero, suc, Bool, true, false, not, ◌&&◌, ◌||◌}
use Rattle.std.specs.Prelude.{if◌then◌else◌, codes, Option, Some, None}
use Rattle.mbe_tt.specs.Trees.Leaf.{Leaf, literal, punct, ident, span_of}
use Rattle.mbe_tt.specs.Trees.Top.{Top}
use Rattle.mbe_tt.specs.Trees.Tree.{Forest, none, leaf, group, append, is_same_kind}
use Rattle.mbe_tt.specs.Trees.FragmentGroup.{is_around, is_fragment_group}
use Rattle.mbe_tt.specs.declared.fragment_group.FragmentGroup.TheVariants as groups
use Rattle.mbe_tt.specs.declared.span.Span.{Span}
use Rattle.mbe_tt.specs.declared.tt.Delimiter.{Delimiter}
use Rattle.mbe_tt.specs.declared.tt.DelimiterKind.TheVariants.{Invisible}
use Rattle.mbe_tt.specs.declared.tt.Spacing.{Spacing}
use Rattle.mbe_tt.specs.declared.tt.Spacing.TheVariants.{Alone, Joint}
use Rattle.mbe_rewriter.specs.WholeFragments.FrontTokens.{is_char, is_single_dot, is_word}
use Rattle.mbe_rewriter.specs.WholeFragments.BuiltinCalls.{grouped}
use Rattle.mbe_rewriter.specs.WholeFragments.Operands.{is_macro_call, is_single_operand}
use Rattle.mbe_rewriter.specs.WholeFragments.Receivers.{around_fragment, has, has_no_tree}
use Rattle.mbe_rewriter.specs.WholeFragments.Receivers.{is_negative, is_split, prefix_after}
use Rattle.mbe_rewriter.specs.WholeFragments.Receivers.{may_hold_statements, semicolon_if}
use Rattle.mbe_rewriter.specs.WholeFragments.Receivers.{surroundings_in}
use Rattle.mbe_rewriter.specs.declared.whole_fragments.fragment_groups.Opening.{Opening}
use Rattle.mbe_rewriter.specs.declared.whole_fragments.fragment_groups.Opening.TheVariants as opening
use Rattle.mbe_rewriter.specs.declared.whole_fragments.receivers.Search.TheVariants as search_for
use Rattle.mbe_rewriter.specs.declared.whole_fragments.receivers.Surroundings.{Surroundings}
use Rattle.mbe_rewriter.specs.declared.whole_fragments.receivers.Surroundings.TheVariants as around
use Rattle.mbe_rewriter.specs.declared.whole_fragments.receivers.TreePrefix.{TreePrefix}
use Rattle.mbe_rewriter.specs.declared.whole_fragments.receivers.TreePrefix.TheVariants as prefix

-- ---- what a group holds

-- the content of the only tree, if that is a fragment's group
abbrev pub inside_only : Forest → Option Forest
inside_only (group d inside none) = if is_fragment_group d then Some inside else None
inside_only _ = None

-- the trees without the groups of fragments around all of them
abbrev pub peeled : Forest → Forest
peeled none = none
peeled (leaf l rest) = leaf l rest
peeled (group d inside none) = if is_fragment_group d then peeled inside else group d inside none
peeled (group d inside (leaf l rest)) = group d inside (leaf l rest)
peeled (group d inside (group e more rest)) = group d inside (group e more rest)

-- The trees, before the last ones, are one operand wherever they are. As a statement, a macro call
-- would not be an expression.
abbrev pub is_bare_operand : Surroundings → Forest → Forest → Bool
is_bare_operand s f rest =
    is_single_operand f rest && not (may_hold_statements s && is_macro_call f)

-- an expression of these trees, before the last ones, needs parentheses
abbrev pub needs_parentheses : Surroundings → Forest → Forest → Bool
needs_parentheses s (leaf l none) rest = false
needs_parentheses s (group d inside none) rest = false
needs_parentheses s none rest = true
needs_parentheses s f rest = not (is_negative f) && not (is_bare_operand s f rest)

-- a `.` after the trees would apply to the literal of a negative number alone
abbrev pub is_negative_receiver : Forest → Forest → Bool
is_negative_receiver f rest = is_negative f && is_single_dot rest

-- the group of a fragment becomes parentheses, after that and before the last trees
abbrev pub is_parenthesized : Surroundings → TreePrefix → Delimiter → Forest → Forest → Bool
is_parenthesized s p d f rest =
    if is_around groups.Expr d then needs_parentheses s f rest
    else if is_around groups.LiteralExpr d || is_around groups.Literal d
    then is_negative_receiver f rest
    else if is_around groups.Path d then is_char 60 rest
    else if is_around groups.Ty d then is_char 60 rest || is_split p f
    else is_around groups.Pat d && is_split p f

-- the group of a fragment is removed, with its content left
abbrev pub is_bare : Surroundings → TreePrefix → Delimiter → Forest → Forest → Bool
is_bare s p d f rest = not (is_parenthesized s p d f rest)

-- the group of a statement gets a `;` before the last trees
abbrev pub needs_semicolon : Surroundings → Delimiter → Forest → Forest → Bool
needs_semicolon s d f rest = is_around groups.Stmt d && may_hold_statements s
    && not (is_char 59 rest) && not (has search_for.LastSemicolon f)
    && (is_word (codes "let") f || not (has_no_tree rest))

-- the span without the context of a fragment's group
abbrev pub plain_span : Span → Span
plain_span span = record span { ctx = record { 0 = 0 } }

-- ---- the trees

abbrev pub colon : Spacing → Span → Leaf
colon spacing span = punct (record { char = 58; spacing = spacing; span = span })

-- `::`
abbrev pub colons : Span → Forest
colons span = leaf (colon Joint span) (leaf (colon Alone span) none)

abbrev pub colons_if : Bool → Span → Forest
colons_if true span = colons span
colons_if false span = none

-- A `::` is between a leaf and those trees: in a path, between an identifier and a `<`.
abbrev pub has_colons : Bool → Leaf → Forest → Bool
has_colons is_path (ident i) rest = is_path && is_char 60 rest
has_colons is_path (punct p) rest = false
has_colons is_path (literal l) rest = false

-- a leaf before those trees, with what is between them
abbrev pub written_leaf : Bool → Leaf → Forest → Forest
written_leaf is_path l rest = leaf l (colons_if (has_colons is_path l rest) (span_of l))

-- the group is the argument of a macro call that keeps its groups
abbrev pub is_kept : Opening → TreePrefix → Delimiter → Bool
is_kept opening.OutsideArguments prefix.Bang d = not (is_same_kind d.kind Invisible)
is_kept o p d = false

-- A fragment's group with these trees, which are in no other such group. The function gives what
-- groups hold: whether it is a path, where it is, and the trees.
abbrev pub open_fragment : (Bool → Surroundings → Forest → Forest) → Surroundings → TreePrefix
    → Delimiter → Forest → Forest → Forest
open_fragment inner s p d f rest =
    grouped (is_bare s p d f rest) (around_fragment (plain_span d.opening))
    (append (inner (is_around groups.Path d) s f)
    (semicolon_if (needs_semicolon s d f rest) (plain_span d.opening)))

abbrev pub open_group : (Bool → Surroundings → Forest → Forest) → Opening → Surroundings
    → TreePrefix → Delimiter → Forest → Forest → Forest
open_group inner o s p d inside rest =
    if is_fragment_group d then open_fragment inner s p d (peeled inside) rest
    else if is_kept o p d then group d inside none
    else group d (inner false (surroundings_in s p d.kind) inside) none

abbrev pub open_by : (Bool → Surroundings → Forest → Forest) → Opening → Bool → Surroundings
    → TreePrefix → Forest → Forest
open_by inner o is_path s p none = none
open_by inner o is_path s p (leaf l rest) =
    append (written_leaf is_path l rest) (open_by inner o is_path s (prefix_after l p) rest)
open_by inner o is_path s p (group d inside rest) =
    append (open_group inner o s p d inside rest) (open_by inner o is_path s prefix.Other rest)

-- Groups may be nested `levels` deep. Deeper groups are unchanged.
unfoldable pub open_in : ℕ → Opening → Bool → Surroundings → Forest → Forest
open_in zero o is_path s f = f
open_in (suc levels) o is_path s f = open_by (open_in levels o) o is_path s prefix.Other f

abbrev pub opened : Opening → Top → Top
opened o t = (t.0, open_in 1000 o false around.Statements t.1)

-- the trees with the groups of fragments opened, except in the arguments of macro calls
abbrev pub open_fragments : Top → Top
open_fragments t = opened opening.OutsideArguments t

-- the trees with all groups of fragments opened
abbrev pub open_all : Forest → Forest
open_all f = open_in 1000 opening.Everywhere false around.Statements f
