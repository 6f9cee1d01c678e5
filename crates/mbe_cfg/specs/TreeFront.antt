-- The front of trees: puncts, and groups of a kind.
use Rattle.std.specs.Prelude.{ℕ, Bool, false, ◌==◌, if◌then◌else◌, Option, Some, None}
use Rattle.std.specs.Prelude.{option_map, option_and_then, unwrap_or, is_none}
use Rattle.mbe_tt.specs.Trees.Leaf.{literal, punct, ident}
use Rattle.mbe_tt.specs.Trees.Tree.{Forest, none, leaf, group, Tree, Leaf_tree, Group_tree, first}
use Rattle.mbe_tt.specs.Trees.Tree.{rest_of}
use Rattle.mbe_tt.specs.Trees.Tree.{first_span, front_punct, front_group, is_same_kind}
use Rattle.mbe_tt.specs.declared.span.Span.{Span}
use Rattle.mbe_tt.specs.declared.tt.DelimiterKind.{DelimiterKind}
use Rattle.mbe_tt.specs.declared.tt.DelimiterKind.TheVariants.{Bracket}

-- A group: the span at which it closes, its content, and the trees after it.
pub record Group : Type 0 where
  pub close : Span
  pub inside : Forest
  pub rest : Forest

-- The span at which trees begin, or the end of their group.
abbrev pub start_span : Span → Forest → Span
start_span close f = unwrap_or (option_map first_span (first f)) close

abbrev pub is_empty : Forest → Bool
is_empty f = is_none (option_map first_span (first f))

-- The trees after a punct of that char.
abbrev pub after_char : ℕ → Forest → Option Forest
after_char char f =
    option_and_then (λ p. if p.char == char then Some (rest_of f) else None) (front_punct f)

-- The group of that kind at the front.
abbrev pub group_at : DelimiterKind → Forest → Option Group
group_at kind f =
    option_and_then
    (λ g. if is_same_kind g.0.kind kind then Some
    (record { close = g.0.close; inside = g.1; rest = rest_of f })
    else None)
    (front_group f)

-- The brackets of the attribute at the front: `#[..]` or `#![..]`.
abbrev pub attribute_group : Forest → Option Group
attribute_group f =
    option_and_then (λ after. group_at Bracket (unwrap_or (after_char 33 after) after))
    (after_char 35 f)

abbrev pub is_comma : Tree → Bool
is_comma (Leaf_tree (punct p)) = p.char == 44
is_comma (Leaf_tree (literal l)) = false
is_comma (Leaf_tree (ident i)) = false
is_comma (Group_tree d inside) = false

-- The trees after the next comma. There are none if no comma follows.
abbrev pub after_next_comma : Forest → Forest
after_next_comma none = none
after_next_comma (leaf l rest) = if is_comma (Leaf_tree l) then rest else after_next_comma rest
after_next_comma (group d inside rest) =
    if is_comma (Group_tree d inside) then rest else after_next_comma rest
