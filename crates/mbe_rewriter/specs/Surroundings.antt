-- What surrounds calls and definitions: attributes, operators, and macros of the standard library.
use Prim.Native.String.{String}
use Rattle.std.specs.Prelude.{ℕ, Bool, false, ◌||◌, ◌&&◌, ◌==◌, codes, List, [], ◌∷◌, map, Option}
use Rattle.std.specs.Prelude.{None, option_map, option_and_then, is_some}
use Rattle.std.specs.List.{list_any}
use Rattle.mbe_tt.specs.Trees.Leaf.{Leaf, punct, literal, ident, is_text}
use Rattle.mbe_tt.specs.Trees.Tree.{Forest, none, leaf, group, front_ident, front_group}
use Rattle.mbe_tt.specs.declared.tt.DelimiterKind.{DelimiterKind}
use Rattle.mbe_tt.specs.declared.tt.DelimiterKind.TheVariants.{Parenthesis, Brace, Bracket}
use Rattle.mbe_tt.specs.declared.tt.DelimiterKind.TheVariants.{Invisible}
use Rattle.mbe_rewriter.specs.MacroItems.{after_char}

-- The macros of the standard library whose arguments are made of expressions.
abbrev pub standard_macros : List String
standard_macros =
    "assert" ∷ "assert_eq" ∷ "assert_ne" ∷ "dbg" ∷ "debug_assert" ∷ "debug_assert_eq"
    ∷ "debug_assert_ne" ∷ "eprint"
    ∷ "eprintln"
    ∷ "format" ∷ "format_args" ∷ "matches" ∷ "panic" ∷ "print" ∷ "println" ∷ "thread_local" ∷ "todo"
    ∷ "unimplemented"
    ∷ "unreachable" ∷ "vec" ∷ "write" ∷ "writeln" ∷ []

abbrev pub is_standard_macro : List ℕ → Bool
is_standard_macro name = list_any (is_text name) (map codes standard_macros)

-- The name at the front of a bracket group's content.
abbrev pub name_in : DelimiterKind → Forest → Option (List ℕ)
name_in Bracket f = option_map (λ i. i.sym) (front_ident f)
name_in Parenthesis f = None
name_in Brace f = None
name_in Invisible f = None

-- The name of the attribute `#[name ..]` at the front.
abbrev pub attribute_of : Forest → Option (List ℕ)
attribute_of f =
    option_and_then (λ g. option_and_then (λ d. name_in d.0.kind d.1) (front_group g))
    (after_char 35 f)

-- The chars that operators begin with, except for `==`.
abbrev pub is_operator : ℕ → Bool
is_operator char = list_any (λ c. char == c) (codes "+-*/%^&|<>.?!")

abbrev pub leaf_begins_operator : Leaf → Forest → Bool
leaf_begins_operator (punct p) rest =
    is_operator p.char || (p.char == 61 && is_some (after_char 61 rest))
leaf_begins_operator (ident i) rest = is_text i.sym (codes "as")
leaf_begins_operator (literal l) rest = false

-- An operator is at the front: one of those, `==`, or `as`.
abbrev pub begins_with_operator : Forest → Bool
begins_with_operator none = false
begins_with_operator (leaf l rest) = leaf_begins_operator l rest
begins_with_operator (group d inside rest) = false
