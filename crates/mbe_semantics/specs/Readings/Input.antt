-- What is at each offset of an argument. Readings and partial readings depend on the argument and
-- the grammar only through this.
use Rattle.std.specs.Prelude.{ℕ, Bool, true, false, not, ◌&&◌, nat_lt, Option, Some, None}
use Rattle.mbe_tt.specs.declared.grammar.Dialect.{Dialect}
use Rattle.mbe_tt.specs.declared.grammar.Dialect.TheVariants.{RustAnalyzer, Rustc}
use Rattle.mbe_semantics.specs.declared.fragment_kinds.MetaVarKind.{MetaVarKind}
use Rattle.mbe_tt.specs.declared.tt.DelimiterKind.{DelimiterKind}
use Rattle.mbe_tt.specs.declared.tt.DelimiterKind.TheVariants.{Invisible}
use Rattle.mbe_tt.specs.Trees.Tree.{Forest, none, group, flat_len, Cut, rest_at, is_same_kind}
use Rattle.mbe_tt.specs.Grammars.Grammar.{Grammar}
use Rattle.mbe_semantics.specs.Syntax.Op.{Token, Separator}
use Rattle.mbe_semantics.specs.Fragments.FragmentFront.{fragment_front}
use Rattle.mbe_semantics.specs.Readings.Fit.{token_front_in, separator_front_in}
use Rattle.mbe_semantics.specs.Fragments.Kinds.{style_of}
use Rattle.mbe_semantics.specs.Readings.Item.{Fragment}

-- what is at each offset
pub record Input : Type 0 where
  -- how many flat tokens match a token of the pattern at the offset
  pub token_at : Token → ℕ → Option ℕ
  -- the fragment that a variable of the kind matches at the offset
  pub fragment_at : Option MetaVarKind → ℕ → Option Fragment
  -- how many flat tokens match a separator at the offset
  pub separator_at : Separator → ℕ → Option ℕ
  -- whether a group of the kind opens at the offset
  pub opens_at : DelimiterKind → ℕ → Bool
  -- whether a group closes at the offset
  pub closes_at : ℕ → Bool

-- how many flat tokens the front has
abbrev pub length_of : Option Cut → Option ℕ
length_of None = None
length_of (Some c) = Some (flat_len c.front)

-- the front as a fragment of the kind
abbrev pub fragment_of : Dialect → Option MetaVarKind → Option Cut → Option Fragment
fragment_of d kind None = None
fragment_of d kind (Some c) = Some (record { trees = c.front; style = style_of d kind })

-- a group of this kind is at the front
abbrev pub is_opening : DelimiterKind → Forest → Bool
is_opening kind (group d inside rest) = is_same_kind kind d.kind
is_opening kind _ = false

-- In rustc's dialect, an invisible group of a pattern matches no group.
abbrev pub never_opens : Dialect → DelimiterKind → Bool
never_opens RustAnalyzer kind = false
never_opens Rustc Invisible = true
never_opens Rustc kind = false

-- a group is at the front that a group of this kind in a pattern matches
abbrev pub is_opening_in : Dialect → DelimiterKind → Forest → Bool
is_opening_in d kind f = not (never_opens d kind) && is_opening kind f

-- no tree is left
abbrev pub is_none : Forest → Bool
is_none none = true
is_none _ = false

-- A group closes at an offset where no tree of it is left. Outside all groups, no tree is left only
-- at the end of the argument.
abbrev pub input_of : Grammar → Forest → Input
input_of g argument = record {
  token_at = λ t p. length_of (token_front_in g.dialect t (rest_at argument p));
  fragment_at =
      λ kind p. fragment_of g.dialect kind (fragment_front g kind (rest_at argument p));
  separator_at = λ s p. length_of (separator_front_in g.dialect s (rest_at argument p));
  opens_at = λ kind p. is_opening_in g.dialect kind (rest_at argument p);
  closes_at = λ p. nat_lt p (flat_len argument) && is_none (rest_at argument p);
}
