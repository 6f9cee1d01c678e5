-- Operands and statements of templates, which rustc keeps whole. `$x.pow(2)` calls `pow` on all of
-- `$x`, and `&$p` refers to all of `$p`, where the texts `-2.pow(2)` and `&1 | 2` don't. So a
-- template has each such variable in a group of its own. After a rule has been expanded, that group
-- becomes parentheses where they are needed. Elsewhere it is removed. A statement is in a group
-- too, which is removed, and gets a `;` where it needs one.
use Rattle.std.specs.Prelude.{ℕ, zero, suc, Bool, true, false, not, ◌&&◌, ◌||◌, ◌==◌}
use Rattle.std.specs.Prelude.{if◌then◌else◌, List, codes}
use Rattle.mbe_tt.specs.Trees.Leaf.{Leaf, literal, punct, ident, is_text}
use Rattle.mbe_tt.specs.Trees.Top.{Top}
use Rattle.mbe_tt.specs.Trees.Tree.{Forest, Tree, Leaf_tree, Group_tree, none, leaf, group, append}
use Rattle.mbe_tt.specs.Trees.Tree.{rest_of, one_leaf}
use Rattle.mbe_tt.specs.declared.span.Span.{Span}
use Rattle.mbe_tt.specs.declared.tt.Delimiter.{Delimiter}
use Rattle.mbe_tt.specs.declared.tt.DelimiterKind.{DelimiterKind}
use Rattle.mbe_tt.specs.declared.tt.DelimiterKind.TheVariants.{Parenthesis, Brace}
use Rattle.mbe_tt.specs.declared.tt.Spacing.TheVariants.{Alone}
use Rattle.mbe_rewriter.specs.WholeFragments.FrontTokens.{is_char, is_char_leaf, is_single_dot}
use Rattle.mbe_rewriter.specs.WholeFragments.FrontTokens.{is_word}
use Rattle.mbe_rewriter.specs.WholeFragments.BuiltinCalls.{grouped, is_parenthesis}
use Rattle.mbe_rewriter.specs.WholeFragments.TreeSearch.{any_tree}
use Rattle.mbe_rewriter.specs.declared.whole_fragments.receivers.Surroundings.{Surroundings}
use Rattle.mbe_rewriter.specs.declared.whole_fragments.receivers.Surroundings.TheVariants as around
use Rattle.mbe_rewriter.specs.declared.whole_fragments.receivers.TreePrefix.{TreePrefix}
use Rattle.mbe_rewriter.specs.declared.whole_fragments.receivers.TreePrefix.TheVariants as prefix
use Rattle.mbe_rewriter.specs.declared.whole_fragments.receivers.Search.{Search}
use Rattle.mbe_rewriter.specs.declared.whole_fragments.receivers.Search.TheVariants as search_for

-- ---- negative literals

abbrev pub is_literal : Leaf → Bool
is_literal (literal l) = true
is_literal (ident i) = false
is_literal (punct p) = false

abbrev pub is_one_literal : Forest → Bool
is_one_literal (leaf l none) = is_literal l
is_one_literal _ = false

-- The trees are a `-` and a literal.
abbrev pub is_negative : Forest → Bool
is_negative f = is_char 45 f && is_one_literal (rest_of f)

-- ---- delimiters

-- The parentheses around a fragment. Both have the same span.
abbrev pub around_fragment : Span → Delimiter
around_fragment place = record { opening = place; close = place; kind = Parenthesis }

-- The parentheses around a possible receiver. The closing one has the empty span at the start, so
-- no other parentheses are like them.
abbrev pub around_receiver : Span → Delimiter
around_receiver place =
    record { opening = place; close = record place { end = place.start }; kind = Parenthesis }

-- The parentheses around a statement. The closing one has the empty span at the end.
abbrev pub around_statement : Span → Delimiter
around_statement place =
    record { opening = place; close = record place { start = place.end }; kind = Parenthesis }

-- A group is a template's own, around a variable.
abbrev pub is_around_variable : Delimiter → Bool
is_around_variable d = is_parenthesis d.kind && d.close.start == d.close.end

abbrev pub is_around_statement : Delimiter → Bool
is_around_statement d = is_around_variable d && not (d.close.start == d.opening.start)

-- The delimiter that a group has once its content is known.
abbrev pub final_delimiter : Delimiter → Delimiter
final_delimiter d = if is_around_variable d then around_fragment d.opening else d

-- ---- what precedes a tree

abbrev pub prefix_after_word : List ℕ → TreePrefix → TreePrefix
prefix_after_word word prefix.Bang = prefix.Bang
prefix_after_word word prefix.Quote = prefix.Sign
prefix_after_word word _ =
    if is_text word (codes "mut") || is_text word (codes "const") then prefix.Sign else prefix.Other

abbrev pub is_sign : TreePrefix → Bool
is_sign prefix.Sign = true
is_sign _ = false

-- A lifetime may be between a sign and its operand.
abbrev pub prefix_after_char : ℕ → TreePrefix → TreePrefix
prefix_after_char char p =
    if char == 39 && is_sign p then prefix.Quote
    else if char == 33 then prefix.Bang
    else if char == 38 || char == 64 || char == 124 || char == 42 then prefix.Sign
    else prefix.Other

-- What a leaf after that is to the tree after it.
abbrev pub prefix_after : Leaf → TreePrefix → TreePrefix
prefix_after (ident i) p = prefix_after_word i.sym p
prefix_after (punct q) p = prefix_after_char q.char p
prefix_after (literal l) p = prefix.Other

-- Braces hold statements, except in the argument of a macro call.
abbrev pub surroundings_in : Surroundings → TreePrefix → DelimiterKind → Surroundings
surroundings_in around.Argument p k = around.Argument
surroundings_in s prefix.Bang k = around.Argument
surroundings_in s p Brace = around.Statements
surroundings_in s p k = around.Other

-- ---- what a group needs

abbrev pub has_no_tree : Forest → Bool
has_no_tree none = true
has_no_tree (leaf l rest) = false
has_no_tree (group d inside rest) = false

-- A `.` and another tree are at the front. The pattern `..` is no range.
abbrev pub begins_range_end : Forest → Bool
begins_range_end f = is_char 46 f && not (has_no_tree (rest_of f))

-- A sign before the trees would apply to a part of them before a `|`, a `+`, or a `..` with an end.
abbrev pub is_found_leaf : Search → Leaf → Forest → Bool
is_found_leaf search_for.Split l rest =
    is_char_leaf 124 l || is_char_leaf 43 l || (is_char_leaf 46 l && begins_range_end rest)
is_found_leaf search_for.LastSemicolon l rest = is_char_leaf 59 l && has_no_tree rest

abbrev pub is_found : Search → Tree → Forest → Bool
is_found s (Leaf_tree l) rest = is_found_leaf s l rest
is_found s (Group_tree d inside) rest = false

abbrev pub has : Search → Forest → Bool
has s f = any_tree (is_found s) f

-- A sign before the trees would apply to a part of them.
abbrev pub is_split : TreePrefix → Forest → Bool
is_split prefix.Sign f = is_word (codes "mut") f || has search_for.Split f
is_split prefix.Quote f = false
is_split prefix.Bang f = false
is_split prefix.Other f = false

-- A group is written without its delimiter, after that and before the last trees.
abbrev pub is_unwrapped : TreePrefix → Delimiter → Forest → Forest → Bool
is_unwrapped p d inside rest = is_around_statement d
    || (is_around_variable d && not (is_negative inside && is_single_dot rest)
    && not (is_split p inside))

abbrev pub may_hold_statements : Surroundings → Bool
may_hold_statements around.Statements = true
may_hold_statements around.Argument = false
may_hold_statements around.Other = false

-- A statement needs a `;` if it is a `let`, or if something follows it.
abbrev pub needs_semicolon : Surroundings → Delimiter → Forest → Forest → Bool
needs_semicolon s d inside rest = is_around_statement d && may_hold_statements s
    && not (is_char 59 rest) && not (has search_for.LastSemicolon inside)
    && (is_word (codes "let") inside || not (has_no_tree rest))

abbrev pub semicolon_leaf : Span → Leaf
semicolon_leaf span = punct (record { char = 59; spacing = Alone; span = span })

abbrev pub semicolon_if : Bool → Span → Forest
semicolon_if true span = one_leaf (semicolon_leaf span)
semicolon_if false span = none

-- ---- the trees

-- A group with its delimiter or without it, after that and before the last trees.
abbrev pub settled : Surroundings → TreePrefix → Delimiter → Forest → Forest → Forest → Forest
settled s p d inside written rest =
    grouped (is_unwrapped p d inside rest) (final_delimiter d)
    (append written (semicolon_if (needs_semicolon s d inside rest) d.opening))

-- The function gives what groups hold.
abbrev pub parenthesize_receivers_by : (Surroundings → Forest → Forest) → Surroundings → TreePrefix
    → Forest → Forest
parenthesize_receivers_by inner s p none = none
parenthesize_receivers_by inner s p (leaf l rest) =
    leaf l (parenthesize_receivers_by inner s (prefix_after l p) rest)
parenthesize_receivers_by inner s p (group d inside rest) =
    append (settled s p d inside (inner (surroundings_in s p d.kind) inside) rest)
    (parenthesize_receivers_by inner s prefix.Other rest)

-- Groups may be nested `levels` deep. Deeper groups are unchanged.
unfoldable pub parenthesize_receivers_in : ℕ → Surroundings → Forest → Forest
parenthesize_receivers_in zero s f = f
parenthesize_receivers_in (suc levels) s f =
    parenthesize_receivers_by (parenthesize_receivers_in levels) s prefix.Other f

-- The trees of an expansion without the groups around variables.
abbrev pub parenthesize_receivers : Top → Top
parenthesize_receivers t = (t.0, parenthesize_receivers_in 1000 around.Statements t.1)
