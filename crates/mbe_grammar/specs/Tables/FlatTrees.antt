-- The trees of a list of flat tokens.
use Rattle.std.specs.Prelude.{List, [], ◌∷◌}
use Rattle.mbe_tt.specs.Trees.Tree.{Forest, none, leaf, group, FlatToken, token, opening, closing}
use Rattle.mbe_tt.specs.declared.tt.Delimiter.{Delimiter}

-- The result of reading a list from its end: the trees up to the end of the innermost group, and
-- the same for each group around it.
pub record Levels : Type 0 where
  pub level : Forest
  pub around : List Forest

-- An opening makes a group if the end of the group was read. Else it is skipped.
abbrev pub open_level : Delimiter → Forest → List Forest → Levels
open_level d inside [] = record { level = inside; around = [] }
open_level d inside (rest ∷ more) = record { level = group d inside rest; around = more }

abbrev pub levels : List FlatToken → Levels
levels [] = record { level = none; around = [] }
levels (token l ∷ ts) = record (levels ts) { level = leaf l (levels ts).level }
levels (opening d ∷ ts) = open_level d (levels ts).level (levels ts).around
levels (closing d ∷ ts) = record { level = none; around = (levels ts).level ∷ (levels ts).around }

-- the trees of these flat tokens
abbrev pub trees_of_flat : List FlatToken → Forest
trees_of_flat ts = (levels ts).level
