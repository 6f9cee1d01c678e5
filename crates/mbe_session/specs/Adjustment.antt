-- How an expansion is adjusted to the place of its call.
use Rattle.std.specs.Prelude.{◌≡◌, ℕ, nat_le, if◌then◌else◌, Some}
use Rattle.mbe_tt.specs.Trees.Leaf.{Leaf, punct}
use Rattle.mbe_tt.specs.Trees.Tree.{Forest, none, leaf, group, append, one_leaf, rest_of}
use Rattle.mbe_tt.specs.Trees.Tree.{front_char, flat_len}
use Rattle.mbe_tt.specs.declared.span.Span.{Span}
use Rattle.mbe_tt.specs.declared.tt.Delimiter.{Delimiter}
use Rattle.mbe_tt.specs.declared.tt.DelimiterKind.{DelimiterKind}
use Rattle.mbe_tt.specs.declared.tt.DelimiterKind.TheVariants.{Parenthesis, Brace, Bracket}
use Rattle.mbe_tt.specs.declared.tt.DelimiterKind.TheVariants.{Invisible}
use Rattle.mbe_tt.specs.declared.tt.Spacing.TheVariants.{Alone}

-- Only a `;`.
abbrev pub IsSemicolon : Forest → Type 0
IsSemicolon f = (front_char f ≡ Some 59) × (rest_of f ≡ none)

-- The trees of an expansion that are used: all, or all but a `;` at their end.
pub data IsTrimmed (tree : Forest) : Forest → Type 0 where
  all_of_it : IsTrimmed tree tree
  but_semicolon : (part end : Forest) → tree ≡ append part end → IsSemicolon end
      → IsTrimmed tree part

-- As they are, or in parentheses or braces with the spans of the call's delimiters.
pub data IsWrapped (d : Delimiter) (f : Forest) : Forest → Type 0 where
  bare : IsWrapped d f f
  in_parentheses : IsWrapped d f (group (record d { kind = Parenthesis }) f none)
  in_braces : IsWrapped d f (group (record d { kind = Brace }) f none)

-- What trees may be put in.
abbrev pub IsWrap : DelimiterKind → Type 0
IsWrap Parenthesis = Unit {0}
IsWrap Brace = Unit {0}
IsWrap Bracket = ⊥
IsWrap Invisible = ⊥

-- A `;` with that span.
abbrev pub semicolon : Span → Leaf
semicolon span = punct (record { char = 59; spacing = Alone; span = span })

-- As they are, or with a `;` at their end.
pub data IsEnded (span : Span) (f : Forest) : Forest → Type 0 where
  as_it_is : IsEnded span f f
  with_semicolon : IsEnded span f (append f (one_leaf (semicolon span)))

-- The trees that are left after a call: those that follow it, or those without a `;` at their
-- front.
pub data IsRest (rest : Forest) : Forest → Type 0 where
  what_follows : IsRest rest rest
  after_semicolon : front_char rest ≡ Some 59 → IsRest rest (rest_of rest)

-- The trees from the first one on after which that many flat tokens are left, or fewer.
abbrev pub from_last : ℕ → Forest → Forest
from_last n none = none
from_last n (leaf l rest) = if nat_le (flat_len rest) n then leaf l rest else from_last n rest
from_last n (group d inside rest) =
    if nat_le (flat_len rest) n then group d inside rest else from_last n rest
