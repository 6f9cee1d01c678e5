-- The first tree, and those after it.
use Rattle.std.proofs.Common.{◌≡◌, ◌<◌, Some, None, refl, ap, arith}
use Rattle.std.proofs.lemmas.Option.{same_Some}
use Rattle.mbe_tt.specs.Trees.Tree.{Forest, Tree, Leaf_tree, Group_tree, none, leaf, group, tree, first, rest_of}
use Rattle.mbe_tt.specs.Trees.Tree.{flat_len}

pub whole : (f : Forest) (t : Tree) → first f ≡ Some t → f ≡ tree t (rest_of f)
whole none t e = cc
whole (leaf l rest) t e = ap (λ x. tree x rest) (same_Some (Leaf_tree l) t e)
whole (group d inside rest) t e = ap (λ x. tree x rest) (same_Some (Group_tree d inside) t e)

pub nothing : (f : Forest) → first f ≡ None → f ≡ none
nothing none e = refl
nothing (leaf l rest) e = cc
nothing (group d inside rest) e = cc

pub rest_less : (f : Forest) (t : Tree) → first f ≡ Some t → flat_len (rest_of f) < flat_len f
rest_less none t e = cc
rest_less (leaf l rest) t e = omega arith
rest_less (group d inside rest) t e = omega arith
