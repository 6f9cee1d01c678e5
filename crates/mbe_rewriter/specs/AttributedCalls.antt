-- Calls that attributes are on.
use Prim.Native.String.{String}
use Rattle.std.specs.Prelude.{ℕ, zero, suc, Bool, false, true, not, ◌==◌, ◌&&◌, ◌||◌, if◌then◌else◌}
use Rattle.std.specs.Prelude.{codes, List, [], ◌∷◌, map, Option, Some, None}
use Rattle.std.specs.Prelude.{option_and_then, is_none, is_some}
use Rattle.std.specs.List.{list_any}
use Rattle.mbe_tt.specs.Trees.Leaf.{Ident, is_text}
use Rattle.mbe_tt.specs.Trees.Tree.{Forest, first, rest_of, first_span, flat_len, front_ident}
use Rattle.mbe_tt.specs.Trees.Tree.{front_group, front_char}
use Rattle.mbe_tt.specs.declared.span.Span.{Span}
use Rattle.mbe_tt.specs.declared.tt.DelimiterKind.{DelimiterKind}
use Rattle.mbe_tt.specs.declared.tt.DelimiterKind.TheVariants.{Parenthesis, Brace, Bracket}
use Rattle.mbe_tt.specs.declared.tt.DelimiterKind.TheVariants.{Invisible}
use Rattle.mbe_rewriter.specs.MacroItems.{MacroCall, FrontItem, Definition, CallItem, Other, End}
use Rattle.mbe_rewriter.specs.MacroItems.{after_char, after_path_separator, front}

-- ---- attributes that rustc evaluates before a call, or ignores there

abbrev pub attributes : List String
attributes =
    "allow" ∷ "automatically_derived" ∷ "bench" ∷ "cfg" ∷ "cfg_attr" ∷ "cold" ∷ "deny"
    ∷ "deprecated" ∷ "doc"
    ∷ "expect" ∷ "export_name" ∷ "feature" ∷ "forbid" ∷ "ignore" ∷ "inline" ∷ "link" ∷ "link_name"
    ∷ "link_section"
    ∷ "macro_export" ∷ "macro_use" ∷ "must_use" ∷ "no_mangle" ∷ "non_exhaustive" ∷ "path" ∷ "repr"
    ∷ "should_panic"
    ∷ "target_feature" ∷ "test" ∷ "track_caller" ∷ "unsafe" ∷ "used" ∷ "warn" ∷ []

-- The first path segments of attributes of tools.
abbrev pub tools : List String
tools = "clippy" ∷ "diagnostic" ∷ "miri" ∷ "rust_analyzer" ∷ "rustfmt" ∷ []

-- An attribute with that name, before these trees.
abbrev pub is_known_attribute_name : Ident → Forest → Bool
is_known_attribute_name i rest =
    list_any (is_text i.sym) (map codes attributes)
    || (list_any (is_text i.sym) (map codes tools) && is_some (after_path_separator rest))

abbrev pub is_known_attribute_path : Forest → Option Ident → Bool
is_known_attribute_path f None = false
is_known_attribute_path f (Some i) = is_known_attribute_name i (rest_of f)

-- A group of that kind holds such an attribute.
abbrev pub is_known_attribute : DelimiterKind → Forest → Bool
is_known_attribute Bracket f = is_known_attribute_path f (front_ident f)
is_known_attribute Parenthesis f = false
is_known_attribute Brace f = false
is_known_attribute Invisible f = false

-- The trees after such an attribute, `#[..]`.
abbrev pub after_known_attribute : Forest → Option Forest
after_known_attribute f =
    option_and_then
    (λ g. option_and_then (λ d. if is_known_attribute d.0.kind d.1 then Some (rest_of g) else None)
    (front_group g))
    (after_char 35 f)

abbrev pub on : (Forest → Forest) → Forest → Option Forest → Forest
on more f None = f
on more f (Some rest) = more rest

-- The trees after at most `n` such attributes.
unfoldable pub past : ℕ → Forest → Forest
past zero f = f
past (suc n) f = on (past n) f (after_known_attribute f)

abbrev pub after_attributes : Forest → Forest
after_attributes f = past (flat_len f) f

-- ---- the call that they are on

abbrev pub is_brace : DelimiterKind → Bool
is_brace Brace = true
is_brace Parenthesis = false
is_brace Bracket = false
is_brace Invisible = false

-- The char continues an expression, a pattern or an arm that begins with a call by braces.
abbrev pub continues_expression_by : ℕ → Bool
continues_expression_by char = list_any (λ c. char == c) (codes ".?=|")

abbrev pub continues_expression : Option ℕ → Bool
continues_expression None = false
continues_expression (Some char) = continues_expression_by char

-- a `;` or a `,`
abbrev pub is_separator : Option ℕ → Bool
is_separator None = false
is_separator (Some char) = char == 59 || char == 44

-- The attributes are on the call and nothing more: nothing, a `;` or a `,` follows it, or it is by
-- braces and ends a statement.
abbrev pub takes_attributes_alone : MacroCall → Bool
takes_attributes_alone c =
    is_none (first c.rest)
    || (is_separator (front_char c.rest)
    || (is_brace c.delimiter.kind && not (continues_expression (front_char c.rest))))

abbrev pub call_at : Span → FrontItem → Option MacroCall
call_at begin (CallItem c) =
    if takes_attributes_alone c then Some (record c { begin = begin }) else None
call_at begin (Definition d) = None
call_at begin (Other t rest) = None
call_at begin End = None

-- The call that the attributes at the front are on.
abbrev pub attributed_call : Forest → Option MacroCall
attributed_call f =
    option_and_then
    (λ t. option_and_then (λ rest. call_at (first_span t) (front (after_attributes f)))
    (after_known_attribute f)) (first f)

abbrev pub or_front : Forest → Option MacroCall → FrontItem
or_front f None = front f
or_front f (Some c) = CallItem c

-- The front of these trees. Attributes on a call belong to the call.
abbrev pub front_item_with_attributes : Forest → FrontItem
front_item_with_attributes f = or_front f (attributed_call f)
