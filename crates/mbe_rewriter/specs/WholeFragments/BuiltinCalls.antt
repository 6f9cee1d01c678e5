-- Calls of builtin macros, which rustc expands in an expansion. `line!()` and `column!()` become
-- the line and column of the outermost call. `stringify!` and `concat!` see no parentheses of a
-- fragment.
use Rattle.std.specs.Prelude.{ℕ, zero, suc, Bool, true, false, not, ◌&&◌, ◌==◌, if◌then◌else◌}
use Rattle.std.specs.Prelude.{codes, List, ◌∷◌, ◌++◌, Option, Some, None}
use Rattle.std.specs.Fmt.{decimal}
use Rattle.mbe_tt.specs.Buffers.GroupStack.{GroupStack, closed}
use Rattle.mbe_tt.specs.Trees.Leaf.{Leaf, literal, punct, ident, span_of, is_text}
use Rattle.mbe_tt.specs.Trees.Tree.{Forest, none, leaf, group, append}
use Rattle.mbe_tt.specs.declared.span.Span.{Span}
use Rattle.mbe_tt.specs.declared.tt.Delimiter.{Delimiter}
use Rattle.mbe_tt.specs.declared.tt.DelimiterKind.{DelimiterKind}
use Rattle.mbe_tt.specs.declared.tt.DelimiterKind.TheVariants.{Parenthesis, Brace, Bracket}
use Rattle.mbe_tt.specs.declared.tt.DelimiterKind.TheVariants.{Invisible}
use Rattle.mbe_tt.specs.declared.tt.LitKind.TheVariants.{Integer}
use Rattle.mbe_rewriter.specs.declared.whole_fragments.builtin_calls.BuiltinPrefix.{BuiltinPrefix}
use Rattle.mbe_rewriter.specs.declared.whole_fragments.builtin_calls.BuiltinPrefix.TheVariants as before
use Rattle.mbe_rewriter.specs.declared.whole_fragments.builtin_calls.Builtins.{Builtins}
use Rattle.mbe_rewriter.specs.declared.whole_fragments.builtin_calls.BuiltinContext.{BuiltinContext}
use Rattle.mbe_rewriter.specs.declared.whole_fragments.builtin_calls.BuiltinContext.TheVariants as inside

-- ---- the tokens before a tree

abbrev pub after_word : Builtins → List ℕ → BuiltinPrefix
after_word b word =
    if b.stringify && is_text word (codes "stringify") then before.Stringify
    else if b.concat && is_text word (codes "concat") then before.Concat
    else before.Other

abbrev pub after_bang : BuiltinPrefix → BuiltinPrefix
after_bang before.Stringify = before.StringifyBang
after_bang before.Concat = before.ConcatBang
after_bang _ = before.Other

abbrev pub after_char : BuiltinPrefix → ℕ → BuiltinPrefix
after_char c char =
    if char == 33 then after_bang c else if char == 58 then before.Colon else before.Other

abbrev pub after_leaf : Builtins → BuiltinPrefix → Leaf → BuiltinPrefix
after_leaf b c (ident i) = after_word b i.sym
after_leaf b c (punct p) = after_char c p.char
after_leaf b c (literal l) = before.Other

-- ---- numbers

abbrev pub is_bang : Leaf → Bool
is_bang (punct p) = p.char == 33
is_bang (ident i) = false
is_bang (literal l) = false

abbrev pub is_empty_group : Forest → Bool
is_empty_group (group d none rest) = true
is_empty_group _ = false

-- A `!` and an empty group are at the front.
abbrev pub is_empty_call : Forest → Bool
is_empty_call none = false
is_empty_call (leaf l rest) = is_bang l && is_empty_group rest
is_empty_call (group d inside rest) = false

abbrev pub number_of : Builtins → Leaf → Option ℕ
number_of b (ident i) =
    if is_text i.sym (codes "line") then b.line else if is_text i.sym (codes "column") then b.column
    else None
number_of b (punct p) = None
number_of b (literal l) = None

abbrev pub may_be_number : BuiltinContext → BuiltinPrefix → Bool
may_be_number inside.Shown c = false
may_be_number m before.Colon = false
may_be_number m c = true

-- The number that replaces the call of `line!` or `column!` that begins with a leaf. There is none
-- if no such call begins there, or if the leaf continues a longer path.
abbrev pub number_at : Builtins → BuiltinContext → BuiltinPrefix → Leaf → Forest → Option ℕ
number_at b m c l rest = if may_be_number m c && is_empty_call rest then number_of b l else None

abbrev pub number_leaf : Span → ℕ → Leaf
number_leaf span n =
    literal (record {
      text_and_suffix = decimal n
          ++ codes "u32";
      suffix_len = 3;
      kind = Integer;
      span = span;
    })

-- A leaf, or the number that replaces the call that begins with it.
abbrev pub kept : Leaf → Option ℕ → Leaf
kept l None = l
kept l (Some n) = number_leaf (span_of l) n

-- How many more trees belong to the call.
abbrev pub trees_skipped : Option ℕ → ℕ
trees_skipped None = 0
trees_skipped (Some n) = 2

-- ---- groups

abbrev pub is_same_span : Span → Span → Bool
is_same_span a b = a.file == b.file && a.start == b.start && a.end == b.end

abbrev pub is_parenthesis : DelimiterKind → Bool
is_parenthesis Parenthesis = true
is_parenthesis Brace = false
is_parenthesis Bracket = false
is_parenthesis Invisible = false

-- Both parentheses that `expand` writes around a fragment have the same span.
abbrev pub is_fragment : Delimiter → Bool
is_fragment d = is_parenthesis d.kind && is_same_span d.opening d.close

abbrev pub is_code : BuiltinContext → Bool
is_code inside.Code = true
is_code inside.Joined = false
is_code inside.Shown = false

-- A group is written without its parentheses.
abbrev pub is_unwrapped : BuiltinContext → Delimiter → Bool
is_unwrapped m d = not (is_code m) && is_fragment d

-- What surrounds the trees of a group.
abbrev pub in_group : BuiltinContext → BuiltinPrefix → Bool → BuiltinContext
in_group inside.Shown c opened = inside.Shown
in_group m before.StringifyBang opened = inside.Shown
in_group m before.ConcatBang opened = inside.Joined
in_group m c true = m
in_group m c false = inside.Code

abbrev pub grouped : Bool → Delimiter → Forest → Forest
grouped true d f = f
grouped false d f = group d f none

-- A group begins or ends, possibly without its parentheses.
abbrev pub begun : Bool → Delimiter → GroupStack → GroupStack
begun true d b = b
begun false d b = (record { opening = d.opening; close = d.opening; kind = d.kind }, none) ∷ b

abbrev pub ended : Bool → Delimiter → GroupStack → GroupStack
ended true d b = b
ended false d b = closed d.close b

-- ---- the trees

-- The number counts the first trees to skip, which belong to an earlier call. The function gives
-- what groups hold.
abbrev pub expand_builtins_by : (BuiltinContext → Forest → Forest) → Builtins → BuiltinContext → ℕ
    → BuiltinPrefix → Forest → Forest
expand_builtins_by inner b m n c none = none
expand_builtins_by inner b m (suc n) c (leaf l rest) = expand_builtins_by inner b m n c rest
expand_builtins_by inner b m zero c (leaf l rest) =
    leaf (kept l (number_at b m c l rest))
    (expand_builtins_by inner b m (trees_skipped (number_at b m c l rest)) (after_leaf b c l) rest)
expand_builtins_by inner b m (suc n) c (group d held rest) = expand_builtins_by inner b m n c rest
expand_builtins_by inner b m zero c (group d held rest) =
    append (grouped (is_unwrapped m d) d (inner (in_group m c (is_unwrapped m d)) held))
    (expand_builtins_by inner b m zero before.Other rest)

-- Groups may be nested `levels` deep. Deeper groups are unchanged.
unfoldable pub expand_builtins_in : Builtins → ℕ → BuiltinContext → Forest → Forest
expand_builtins_in b zero m f = f
expand_builtins_in b (suc levels) m f =
    expand_builtins_by (expand_builtins_in b levels) b m zero before.Other f

-- The trees of an expansion.
abbrev pub expand_builtins : Builtins → Forest → Forest
expand_builtins b f = expand_builtins_in b 1000 inside.Code f
