-- Variables of templates that rustc keeps whole, where their text would be parsed differently.
--
-- - In `$x as $t << 1`, the `<` would begin generic arguments of the type. So `($t)` is written
--   there.
-- - In `$x.pow(2)`, the `-` of `-2` would apply to the whole call. In `&$p`, the `&` would apply to
--   a part of `1 | 2`. So an operand's parentheses are written there.
-- - In `$s - 1`, the `-` would go on with the statement. So a statement's parentheses are written
--   there.
use Rattle.std.specs.Prelude.{ℕ, zero, suc, Bool, true, false, ◌&&◌, ◌||◌, if◌then◌else◌, codes}
use Rattle.std.specs.Prelude.{List, Option, Some, None, is_some, option_map}
use Rattle.mbe_tt.specs.Trees.Leaf.{Leaf, literal, punct, ident, span_of}
use Rattle.mbe_tt.specs.Trees.Tree.{Forest, Tree, Leaf_tree, Group_tree, none, leaf, group, append}
use Rattle.mbe_tt.specs.Trees.Tree.{one_leaf, rest_of}
use Rattle.mbe_tt.specs.declared.tt.Delimiter.{Delimiter}
use Rattle.mbe_rewriter.specs.declared.whole_fragments.variable_parentheses.VariableRole.{VariableRole}
use Rattle.mbe_rewriter.specs.declared.whole_fragments.variable_parentheses.VariableRole.TheVariants as role
use Rattle.mbe_rewriter.specs.WholeFragments.FrontTokens.{is_char, is_char_leaf, is_single_dot}
use Rattle.mbe_rewriter.specs.WholeFragments.FrontTokens.{is_word}
use Rattle.mbe_rewriter.specs.WholeFragments.Receivers.{around_fragment, around_receiver}
use Rattle.mbe_rewriter.specs.WholeFragments.Receivers.{around_statement}
use Rattle.mbe_rewriter.specs.WholeFragments.TreeSearch.{any_tree}

-- ---- variables of patterns

-- The specifier of an expression or a literal is at the front.
abbrev pub is_value_specifier : Forest → Bool
is_value_specifier f = is_word (codes "expr") f || is_word (codes "expr_2021") f
    || is_word (codes "literal") f

-- The specifier of a pattern or a type is at the front.
abbrev pub is_operand_specifier : Forest → Bool
is_operand_specifier f = is_word (codes "pat") f || is_word (codes "pat_param") f
    || is_word (codes "ty") f

-- A fragment specifier for that role is at the front.
abbrev pub is_specifier : VariableRole → Forest → Bool
is_specifier role.Dollar f = false
is_specifier role.Type f = is_word (codes "ty") f || is_word (codes "path") f
is_specifier role.Receiver f = is_value_specifier f || is_operand_specifier f
is_specifier role.Operand f = is_operand_specifier f
is_specifier role.Statement f = is_word (codes "stmt") f

-- The name, a `:` and a specifier for the role are at the front.
abbrev pub is_declared : VariableRole → List ℕ → Forest → Bool
is_declared r name f = is_word name f && is_char 58 (rest_of f)
    && is_specifier r (rest_of (rest_of f))

-- A variable of that name and role is in a tree, or begins with the tree, before the last trees.
abbrev pub declares_at : (Forest → Bool) → VariableRole → List ℕ → Tree → Forest → Bool
declares_at inner r name (Leaf_tree l) rest = is_char_leaf 36 l && is_declared r name rest
declares_at inner r name (Group_tree d inside) rest = inner inside

-- A variable of that name and role is among these trees, at most `levels` groups deep.
unfoldable pub declares : ℕ → VariableRole → List ℕ → Forest → Bool
declares zero r name f = false
declares (suc levels) r name f = any_tree (declares_at (declares levels r name) r name) f

-- The pattern has a variable of that name and role.
abbrev pub has_role : Forest → VariableRole → Leaf → Bool
has_role pattern r (ident i) = declares 256 r i.sym pattern
has_role pattern r (punct p) = false
has_role pattern r (literal l) = false

-- ---- variables of templates

-- The role that the trees after a variable ask for. The variable after a `$` may begin with a `.`.
abbrev pub expected_role : Forest → VariableRole
expected_role f =
    if is_char 60 f then role.Type
    else if is_char 36 f || is_single_dot f then role.Receiver
    else role.Operand

abbrev pub role_if : Forest → Leaf → VariableRole → Option VariableRole
role_if pattern l r = if has_role pattern r l then Some r else None

-- The role of the leaf after a `$`, before the last trees.
abbrev pub role_of : Forest → Leaf → Forest → Option VariableRole
role_of pattern l rest =
    if is_char_leaf 36 l then Some role.Dollar
    else if has_role pattern role.Statement l then Some role.Statement
    else role_if pattern l (expected_role rest)

-- The leaf at the front with its role after a `$`, if it has one.
abbrev pub role_at_front : Forest → Forest → Option (VariableRole × Leaf)
role_at_front pattern none = None
role_at_front pattern (leaf l rest) = option_map (λ r. (r, l)) (role_of pattern l rest)
role_at_front pattern (group d inside rest) = None

-- The leaf after a leaf with its role, if the first one is a `$`.
abbrev pub role_after : Forest → Leaf → Forest → Option (VariableRole × Leaf)
role_after pattern l rest = if is_char_leaf 36 l then role_at_front pattern rest else None

-- ---- the trees

abbrev pub two : Leaf → Leaf → Forest
two one other = leaf one (one_leaf other)

abbrev pub in_group : Delimiter → Leaf → Leaf → Forest
in_group d dollar name = group d (two dollar name) none

-- A `$` and the leaf after it, which has that role.
abbrev pub pair : VariableRole → Leaf → Leaf → Forest
pair role.Dollar dollar name = two dollar name
pair role.Type dollar name = in_group (around_fragment (span_of dollar)) dollar name
pair role.Receiver dollar name = in_group (around_receiver (span_of dollar)) dollar name
pair role.Operand dollar name = in_group (around_receiver (span_of dollar)) dollar name
pair role.Statement dollar name = in_group (around_statement (span_of dollar)) dollar name

-- A leaf, written together with the leaf after it if that one has a role.
abbrev pub kept : Leaf → Option (VariableRole × Leaf) → Forest
kept l None = one_leaf l
kept l (Some r) = pair r.0 l r.1

-- The trees of a template with that pattern. The first tree may be written already. The function
-- gives what groups hold.
abbrev pub parenthesized_by : (Forest → Forest) → Forest → Bool → Forest → Forest
parenthesized_by inner pattern is_written none = none
parenthesized_by inner pattern true (leaf l rest) = parenthesized_by inner pattern false rest
parenthesized_by inner pattern false (leaf l rest) =
    append (kept l (role_after pattern l rest))
    (parenthesized_by inner pattern (is_some (role_after pattern l rest)) rest)
parenthesized_by inner pattern true (group d inside rest) =
    parenthesized_by inner pattern false rest
parenthesized_by inner pattern false (group d inside rest) =
    group d (inner inside) (parenthesized_by inner pattern false rest)

-- Groups may be nested `levels` deep. Deeper groups are unchanged.
unfoldable pub parenthesized_in : Forest → ℕ → Forest → Forest
parenthesized_in pattern zero f = f
parenthesized_in pattern (suc levels) f =
    parenthesized_by (parenthesized_in pattern levels) pattern false f

-- A template with that pattern.
abbrev pub parenthesized : Forest → Forest → Forest
parenthesized pattern f = parenthesized_in pattern 1000 f

-- ---- rules

-- A pattern, or the template after that pattern.
abbrev pub rule_group : Option Forest → Delimiter → Forest → Forest
rule_group None d inside = group d inside none
rule_group (Some pattern) d inside = group d (parenthesized pattern inside) none

-- A pattern belongs to the group after it, which is its template.
abbrev pub pattern_after : Option Forest → Forest → Option Forest
pattern_after None inside = Some inside
pattern_after (Some pattern) inside = None

abbrev pub rules_by : Option Forest → Forest → Forest
rules_by pattern none = none
rules_by pattern (leaf l rest) = leaf l (rules_by pattern rest)
rules_by pattern (group d inside rest) =
    append (rule_group pattern d inside) (rules_by (pattern_after pattern inside) rest)

-- The rules of a macro.
abbrev pub parenthesize_rules : Forest → Forest
parenthesize_rules f = rules_by None f
