-- Token trees. A forest is a list of trees. A tree is a leaf, or a group of a delimiter and the
-- forest inside it. Flat tokens and offsets are the project's own: the crate that rust-analyzer
-- uses here isn't followed.
use Rattle.std.specs.Prelude.{ℕ, zero, suc, ◌+◌, ◌-◌, Bool, true, false, ◌||◌, if◌then◌else◌}
use Rattle.std.specs.Prelude.{nat_le, List, [], ◌∷◌, ◌++◌, Option, Some, None, option_map}
use Rattle.std.specs.Prelude.{option_and_then, codes}
use Rattle.mbe_tt.specs.Trees.Leaf.{Leaf, Ident, literal, punct, ident, span_of, is_text}
use Rattle.mbe_tt.specs.Trees.Leaf.{is_underscore}
use Rattle.mbe_tt.specs.declared.span.Span.{Span}
use Rattle.mbe_tt.specs.declared.tt.Spacing.TheVariants.{Alone}
use Rattle.mbe_tt.specs.declared.tt.Punct.{Punct}
use Rattle.mbe_tt.specs.declared.tt.Delimiter.{Delimiter}
use Rattle.mbe_tt.specs.declared.tt.DelimiterKind.{DelimiterKind}
use Rattle.mbe_tt.specs.declared.tt.DelimiterKind.TheVariants.{Invisible, Parenthesis, Brace}
use Rattle.mbe_tt.specs.declared.tt.DelimiterKind.TheVariants.{Bracket}

-- a forest: nothing, or a first tree and the trees after it
pub data Forest : Type 0 where
  none : Forest
  leaf : Leaf → Forest → Forest
  group : Delimiter → Forest → Forest → Forest

-- a tree: a leaf, or a group
pub data Tree : Type 0 where
  Leaf_tree : Leaf → Tree
  Group_tree : Delimiter → Forest → Tree

-- a flat token: a leaf, an opening or a closing
pub data FlatToken : Type 0 where
  token : Leaf → FlatToken
  opening : Delimiter → FlatToken
  closing : Delimiter → FlatToken

-- the tree, and then the others
abbrev pub tree : Tree → Forest → Forest
tree (Leaf_tree l) rest = leaf l rest
tree (Group_tree d inside) rest = group d inside rest

-- the trees of the first, then those of the second
abbrev pub append : Forest → Forest → Forest
append none g = g
append (leaf l rest) g = leaf l (append rest g)
append (group d inside rest) g = group d inside (append rest g)

-- the number of trees
abbrev pub tree_count : Forest → ℕ
tree_count none = 0
tree_count (leaf l rest) = 1 + tree_count rest
tree_count (group d inside rest) = 1 + tree_count rest

-- the number of flat tokens
abbrev pub flat_len : Forest → ℕ
flat_len none = 0
flat_len (leaf l rest) = 1 + flat_len rest
flat_len (group d inside rest) = 2 + flat_len inside + flat_len rest

-- the flat tokens, in order
abbrev pub flat : Forest → List FlatToken
flat none = []
flat (leaf l rest) = token l ∷ flat rest
flat (group d inside rest) = opening d ∷ (flat inside ++ closing d ∷ flat rest)

-- the first tree, if there is one
abbrev pub first : Forest → Option Tree
first none = None
first (leaf l rest) = Some (Leaf_tree l)
first (group d inside rest) = Some (Group_tree d inside)

-- the trees after the first
abbrev pub rest_of : Forest → Forest
rest_of none = none
rest_of (leaf l rest) = rest
rest_of (group d inside rest) = rest

-- the trees after the first n
abbrev pub skip : ℕ → Forest → Forest
skip zero f = f
skip (suc n) f = skip n (rest_of f)

-- the content of a group if it is invisible, and else the group itself
abbrev pub strip_group : Delimiter → DelimiterKind → Forest → Forest
strip_group d Invisible inside = inside
strip_group d Parenthesis inside = group d inside none
strip_group d Brace inside = group d inside none
strip_group d Bracket inside = group d inside none

-- the content if the forest is exactly one invisible group, and else the forest itself; one level
-- only
abbrev pub strip_invisible : Forest → Forest
strip_invisible none = none
strip_invisible (leaf l rest) = leaf l rest
strip_invisible (group d inside none) = strip_group d d.kind inside
strip_invisible (group d inside (leaf l rest)) = group d inside (leaf l rest)
strip_invisible (group d inside (group e more rest)) = group d inside (group e more rest)

-- the punct, if the leaf is one
abbrev pub leaf_punct : Leaf → Option Punct
leaf_punct (punct p) = Some p
leaf_punct (literal l) = None
leaf_punct (ident i) = None

-- the identifier, if the leaf is one
abbrev pub leaf_ident : Leaf → Option Ident
leaf_ident (punct p) = None
leaf_ident (literal l) = None
leaf_ident (ident i) = Some i

-- the first tree, if it is a punct
abbrev pub front_punct : Forest → Option Punct
front_punct none = None
front_punct (leaf l rest) = leaf_punct l
front_punct (group d inside rest) = None

-- the char of the first tree, if that is a punct
abbrev pub front_char : Forest → Option ℕ
front_char f = option_map (λ p. p.char) (front_punct f)

-- the first tree, if it is an identifier
abbrev pub any_ident : Forest → Option Ident
any_ident none = None
any_ident (leaf l rest) = leaf_ident l
any_ident (group d inside rest) = None

-- the identifier, unless it is `_`
abbrev pub not_underscore : Ident → Option Ident
not_underscore i = if is_underscore i.sym then None else Some i

-- the first tree, if it is an identifier other than `_`
abbrev pub front_ident : Forest → Option Ident
front_ident f = option_and_then not_underscore (any_ident f)

-- the first tree, if it is a group
abbrev pub front_group : Forest → Option (Delimiter × Forest)
front_group none = None
front_group (leaf l rest) = None
front_group (group d inside rest) = Some (d, inside)

-- the group, if the forest is exactly one group
abbrev pub one_group : Forest → Option (Delimiter × Forest)
one_group none = None
one_group (leaf l rest) = None
one_group (group d inside none) = Some (d, inside)
one_group (group d inside (leaf l rest)) = None
one_group (group d inside (group e more rest)) = None

-- the forest of one leaf
abbrev pub one_leaf : Leaf → Forest
one_leaf l = leaf l none

-- the first tree, if it is a leaf
abbrev pub front_leaf : Forest → Option Leaf
front_leaf none = None
front_leaf (leaf l rest) = Some l
front_leaf (group d inside rest) = None

-- the text is `true` or `false`
abbrev pub is_bool_text : List ℕ → Bool
is_bool_text text = is_text text (codes "true") || is_text text (codes "false")

-- the leaf, if it is a literal or the identifier `true` or `false`
abbrev pub literal_leaf : Leaf → Option Leaf
literal_leaf (literal l) = Some (literal l)
literal_leaf (punct p) = None
literal_leaf (ident i) = if is_bool_text i.sym then Some (ident i) else None

-- the first tree, if it is a literal or the identifier `true` or `false`
abbrev pub front_literal : Forest → Option Leaf
front_literal f = option_and_then literal_leaf (front_leaf f)

-- the span at which a tree begins
abbrev pub first_span : Tree → Span
first_span (Leaf_tree l) = span_of l
first_span (Group_tree d inside) = d.opening

-- the leaf, with the spacing `Alone` if it is a punct
abbrev pub alone_leaf : Leaf → Leaf
alone_leaf (literal l) = literal l
alone_leaf (punct p) = punct (record p { spacing = Alone })
alone_leaf (ident i) = ident i

-- the forest with its last tree replaced by what `g` makes of that tree
abbrev pub change_last : (Tree → Forest) → Forest → Forest
change_last g none = none
change_last g (leaf l none) = g (Leaf_tree l)
change_last g (leaf l (leaf m rest)) = leaf l (change_last g (leaf m rest))
change_last g (leaf l (group d inside rest)) = leaf l (change_last g (group d inside rest))
change_last g (group d inside none) = g (Group_tree d inside)
change_last g (group d inside (leaf l rest)) = group d inside (change_last g (leaf l rest))
change_last g (group d inside (group e more rest)) =
    group d inside (change_last g (group e more rest))

-- the tree, with the spacing `Alone` if it is a punct
abbrev pub alone_tree : Tree → Forest
alone_tree (Leaf_tree l) = leaf (alone_leaf l) none
alone_tree (Group_tree d inside) = group d inside none

-- the forest, with the spacing `Alone` for its last tree if that is a punct
abbrev pub alone : Forest → Forest
alone = change_last alone_tree

-- the content of an invisible group; any other tree as it is
abbrev pub strip_tree : Tree → Forest
strip_tree (Leaf_tree l) = leaf l none
strip_tree (Group_tree d inside) = strip_group d d.kind inside

-- the forest with its last tree replaced by its content, if that tree is an invisible group
abbrev pub unwrapped : Forest → Forest
unwrapped = change_last strip_tree

-- the forest of these leaves
abbrev pub leaves : List Leaf → Forest
leaves [] = none
leaves (l ∷ ls) = leaf l (leaves ls)

-- zero, if the kind is invisible
abbrev pub if_invisible : DelimiterKind → Option ℕ
if_invisible Invisible = Some 0
if_invisible Parenthesis = None
if_invisible Brace = None
if_invisible Bracket = None

-- the number of flat tokens before the last tree, if that tree is an invisible group
abbrev pub last_invisible : Forest → Option ℕ
last_invisible none = None
last_invisible (leaf l rest) = option_map (λ n. 1 + n) (last_invisible rest)
last_invisible (group d inside none) = if_invisible d.kind
last_invisible (group d inside (leaf l rest)) =
    option_map (λ n. 2 + flat_len inside + n) (last_invisible (leaf l rest))
last_invisible (group d inside (group e more rest)) =
    option_map (λ n. 2 + flat_len inside + n) (last_invisible (group e more rest))

-- ---- offsets

-- An offset is a number of flat tokens. These are the trees from the offset to the end of the
-- innermost group around it.
abbrev pub rest_at : Forest → ℕ → Forest
rest_at none p = none
rest_at (leaf l rest) zero = leaf l rest
rest_at (leaf l rest) (suc p) = rest_at rest p
rest_at (group d inside rest) zero = group d inside rest
rest_at (group d inside rest) (suc p) =
    if nat_le p (flat_len inside) then rest_at inside p else rest_at rest (p - flat_len inside - 1)

-- the number of groups around an offset
abbrev pub depth_at : Forest → ℕ → ℕ
depth_at none p = 0
depth_at (leaf l rest) zero = 0
depth_at (leaf l rest) (suc p) = depth_at rest p
depth_at (group d inside rest) zero = 0
depth_at (group d inside rest) (suc p) =
    if nat_le p (flat_len inside) then 1 + depth_at inside p else depth_at rest
    (p - flat_len inside - 1)

-- a cut: the trees at the front of a forest, and the trees after them
pub record Cut : Type 0 where
  pub front : Forest
  pub back : Forest

-- the cut with this front and this back
abbrev pub cut : Forest → Forest → Cut
cut front back = record { front = front; back = back }

-- the number of flat tokens of f before its last trees
abbrev pub passed : Forest → Forest → ℕ
passed f last = flat_len f - flat_len last

-- a cut with one more leaf, or group, before its front
abbrev pub leaf_before : Leaf → Cut → Cut
leaf_before l c = record c { front = leaf l c.front }

abbrev pub group_before : Delimiter → Forest → Cut → Cut
group_before d inside c = record c { front = group d inside c.front }

-- the cut after the first n trees, or after all trees if there are fewer
abbrev pub cut_trees : ℕ → Forest → Cut
cut_trees n none = cut none none
cut_trees zero (leaf l rest) = cut none (leaf l rest)
cut_trees zero (group d inside rest) = cut none (group d inside rest)
cut_trees (suc n) (leaf l rest) = leaf_before l (cut_trees n rest)
cut_trees (suc n) (group d inside rest) = group_before d inside (cut_trees n rest)

-- the cut after the shortest list of whole trees that holds n flat tokens
abbrev pub cut_flat : ℕ → Forest → Cut
cut_flat n none = cut none none
cut_flat zero (leaf l rest) = cut none (leaf l rest)
cut_flat zero (group d inside rest) = cut none (group d inside rest)
cut_flat (suc n) (leaf l rest) = leaf_before l (cut_flat n rest)
cut_flat (suc n) (group d inside rest) =
    group_before d inside (cut_flat (n - flat_len inside - 1) rest)

-- whether two kinds of delimiters are equal
abbrev pub is_same_kind : DelimiterKind → DelimiterKind → Bool
is_same_kind Parenthesis Parenthesis = true
is_same_kind Brace Brace = true
is_same_kind Bracket Bracket = true
is_same_kind Invisible Invisible = true
is_same_kind _ _ = false

-- the trees one by one, each as a forest
abbrev pub trees_of : Forest → List Forest
trees_of none = []
trees_of (leaf l rest) = leaf l none ∷ trees_of rest
trees_of (group d inside rest) = group d inside none ∷ trees_of rest

-- the trees one by one, as an iterator yields them
abbrev pub each_tree : Forest → List Tree
each_tree none = []
each_tree (leaf l rest) = Leaf_tree l ∷ each_tree rest
each_tree (group d inside rest) = Group_tree d inside ∷ each_tree rest

-- the concatenation of forests
abbrev pub concat : List Forest → Forest
concat [] = none
concat (f ∷ fs) = append f (concat fs)

-- the spans of all tokens, openings and closings, in order
abbrev pub spans_of : Forest → List Span
spans_of none = []
spans_of (leaf l rest) = span_of l ∷ spans_of rest
spans_of (group d inside rest) = d.opening ∷ (spans_of inside ++ d.close ∷ spans_of rest)
