-- Trees that are a single operand: a path, a text, a group or a macro call, with its fields, calls,
-- indexes and `?`. No operator beside such an operand takes a part of it.
use Rattle.std.specs.Prelude.{ℕ, Bool, true, false, not, ◌||◌, ◌==◌, if◌then◌else◌, List}
use Rattle.mbe_tt.specs.Trees.FragmentGroup.{is_around}
use Rattle.mbe_tt.specs.Trees.Leaf.{Leaf, literal, punct, ident}
use Rattle.mbe_tt.specs.Trees.Tree.{Forest, Tree, Leaf_tree, Group_tree, none, leaf, group}
use Rattle.mbe_tt.specs.declared.fragment_group.FragmentGroup.TheVariants as groups
use Rattle.mbe_tt.specs.declared.tt.Delimiter.{Delimiter}
use Rattle.mbe_tt.specs.declared.tt.DelimiterKind.{DelimiterKind}
use Rattle.mbe_tt.specs.declared.tt.DelimiterKind.TheVariants.{Parenthesis, Brace, Bracket}
use Rattle.mbe_tt.specs.declared.tt.DelimiterKind.TheVariants.{Invisible}
use Rattle.mbe_tt.specs.declared.tt.IdentIsRaw.{IdentIsRaw}
use Rattle.mbe_tt.specs.declared.tt.LitKind.{LitKind}
use Rattle.mbe_tt.specs.declared.tt.LitKind.TheVariants as kinds
use Rattle.mbe_rewriter.specs.MacroItems.{can_name_macro}
use Rattle.mbe_rewriter.specs.WholeFragments.BuiltinCalls.{is_parenthesis}
use Rattle.mbe_rewriter.specs.declared.whole_fragments.operands.Operand.{Operand}
use Rattle.mbe_rewriter.specs.declared.whole_fragments.operands.Operand.TheVariants as so

-- the state after the sign of an operand that is whole so far
abbrev pub after_operand : ℕ → Operand
after_operand char =
    if char == 46 then so.AfterDot else if char == 63 then so.Applied else so.Not

abbrev pub after_char : ℕ → Operand → Operand
after_char char so.Start = if char == 58 then so.AfterColon else so.Not
after_char char so.AfterColon = if char == 58 then so.AfterColon else so.Not
after_char char so.Path =
    if char == 58 then so.AfterColon
    else if char == 33 then so.AfterBang else after_operand char
after_char char so.Field = after_operand char
after_char char so.MacroCall = after_operand char
after_char char so.Applied = after_operand char
after_char char _ = so.Not

abbrev pub after_name : IdentIsRaw → List ℕ → Operand → Operand
after_name raw sym so.Start = if can_name_macro raw sym then so.Path else so.Not
after_name raw sym so.AfterColon = so.Path
after_name raw sym so.AfterDot = so.Field
after_name raw sym _ = so.Not

-- A `.` may continue a number.
abbrev pub after_literal : LitKind → Operand → Operand
after_literal kinds.Integer so.Start = so.Not
after_literal kinds.Float so.Start = so.Not
after_literal kind so.Start = so.Applied
after_literal kind so.AfterDot = so.Field
after_literal kind _ = so.Not

abbrev pub after_leaf : Leaf → Operand → Operand
after_leaf (punct p) o = after_char p.char o
after_leaf (ident i) o = after_name i.is_raw i.sym o
after_leaf (literal l) o = after_literal l.kind o

-- parentheses or brackets: arguments, an index, or a group of its own
abbrev pub is_application : DelimiterKind → Bool
is_application Parenthesis = true
is_application Bracket = true
is_application Brace = false
is_application Invisible = false

abbrev pub after_group : Delimiter → Operand → Operand
after_group d so.Start =
    if is_around groups.Expr d || is_application d.kind then so.Applied else so.Not
after_group d so.AfterBang = if is_application d.kind then so.MacroCall else so.Not
after_group d so.Path = if is_application d.kind then so.Applied else so.Not
after_group d so.Field = if is_application d.kind then so.Applied else so.Not
after_group d so.MacroCall = if is_application d.kind then so.Applied else so.Not
after_group d so.Applied = if is_application d.kind then so.Applied else so.Not
after_group d _ = so.Not

abbrev pub after_tree : Tree → Operand → Operand
after_tree (Leaf_tree l) o = after_leaf l o
after_tree (Group_tree d inside) o = after_group d o

abbrev pub operand_from : Operand → Forest → Operand
operand_from o none = o
operand_from o (leaf l rest) = operand_from (after_leaf l o) rest
operand_from o (group d inside rest) = operand_from (after_group d o) rest

-- what the trees are
abbrev pub operand_of : Forest → Operand
operand_of f = operand_from so.Start f

-- the arguments of a function call are at the front
abbrev pub is_called : Forest → Bool
is_called (group d inside rest) = is_parenthesis d.kind
is_called none = false
is_called (leaf l rest) = false

-- An operand is whole. A field before arguments isn't, since the text would call a method.
abbrev pub is_whole : Operand → Forest → Bool
is_whole so.Path rest = true
is_whole so.MacroCall rest = true
is_whole so.Applied rest = true
is_whole so.Field rest = not (is_called rest)
is_whole _ rest = false

-- The trees are a single operand before the last ones.
abbrev pub is_single_operand : Forest → Forest → Bool
is_single_operand f rest = is_whole (operand_of f) rest

abbrev pub is_macro : Operand → Bool
is_macro so.MacroCall = true
is_macro _ = false

-- The trees are a macro call, and nothing else.
abbrev pub is_macro_call : Forest → Bool
is_macro_call f = is_macro (operand_of f)
