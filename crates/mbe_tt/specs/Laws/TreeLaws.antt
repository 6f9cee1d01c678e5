-- Laws about trees and offsets.
use Rattle.std.specs.Prelude.{◌≡◌, ◌≤◌, ◌+◌, ℕ, ◌==◌, IsTrue, length, map, codes}
use Rattle.std.specs.List.{list_all}
use Rattle.mbe_tt.specs.declared.tt.Delimiter.{Delimiter}
use Rattle.mbe_tt.specs.declared.tt.Spacing.{Spacing}
use Rattle.mbe_tt.specs.declared.tt.Spacing.TheVariants.{Alone, Joint}
use Rattle.mbe_tt.specs.Trees.Leaf.{punct}
use Rattle.mbe_tt.specs.Trees.Tree.{Forest, none, leaf, group, flat, flat_len, tree_count, append}
use Rattle.mbe_tt.specs.Trees.Tree.{rest_at, Cut, cut_trees, cut_flat, tree, each_tree, trees_of}
use Rattle.mbe_tt.specs.Trees.Tree.{concat}
use Rattle.mbe_tt.specs.Trees.Glue.{glue, chars_of}

-- the number of flat tokens of a forest is the length of the list of its flat tokens
abbrev pub FlatLength : Type 0
FlatLength = (f : Forest) → length (flat f) ≡ flat_len f

-- the front and the back of the cut are, one after the other, the forest
abbrev pub IsCut : Forest → Cut → Type 0
IsCut f c = append c.front c.back ≡ f

-- both parts of a cut together are the trees that were cut
pub record CutsKeepTrees : Type 0 where
  pub trees : (n : ℕ) (f : Forest) → IsCut f (cut_trees n f)
  pub tokens : (n : ℕ) (f : Forest) → IsCut f (cut_flat n f)

-- the shortest list of whole trees at the front that holds n flat tokens
pub record ShortestCut : Type 0 where
  pub enough : (n : ℕ) (f : Forest) → n ≤ flat_len f → n ≤ flat_len (cut_flat n f).front
  pub shortest : (n : ℕ) (f : Forest) (c : Cut) → IsCut f c → n ≤ flat_len c.front
      → flat_len (cut_flat n f).front ≤ flat_len c.front

-- the rest after some trees doesn't depend on those trees
abbrev pub RestAfterTrees : Type 0
RestAfterTrees = (trees back : Forest) (n : ℕ) → rest_at (append trees back) (flat_len trees + n)
    ≡ rest_at back n

-- at an offset inside a group, the rest is the rest of the group's content
abbrev pub RestInGroup : Type 0
RestInGroup = (d : Delimiter) (inside rest : Forest) (n : ℕ) → n ≤ flat_len inside
    → rest_at (group d inside rest) (1 + n) ≡ rest_at inside n

-- Trees taken one after the other: each is one tree, there are as many as the forest has, and
-- together they are the forest. An iterator yields these trees.
pub record EachTreeOnce : Type 0 where
  pub given : (f : Forest) → map (λ t. tree t none) (each_tree f) ≡ trees_of f
  pub single : (f : Forest) → IsTrue (list_all (λ t. tree_count t == 1) (trees_of f))
  pub number : (f : Forest) → length (trees_of f) ≡ tree_count f
  pub together : (f : Forest) → concat (trees_of f) ≡ f

-- ---- puncts

-- a punct of one byte before other trees
abbrev pub mark_at : ℕ → Spacing → ℕ → Forest → Forest
mark_at char spacing start rest =
    leaf (punct (record {
      char = char;
      spacing = spacing;
      span = record { file = 1; ast = 0; start = start; end = start + 1; ctx = record { 0 = 0 } };
    })) rest

-- `;+` isn't taken together. `..=` is. The first two puncts of `..+` are. Puncts that are alone
-- stay apart.
pub record GluedExamples : Type 0 where
  pub apart : chars_of (glue (mark_at 59 Joint 0 (mark_at 43 Alone 1 none))) ≡ codes ";"
  pub together : chars_of (glue (mark_at 46 Joint 0 (mark_at 46 Joint 1 (mark_at 61 Alone 2 none))))
      ≡ codes "..="
  pub first_two : chars_of (glue (mark_at 46 Joint 0
      (mark_at 46 Joint 1 (mark_at 43 Alone 2 none)))) ≡ codes ".."
  pub two_alone : chars_of (glue (mark_at 46 Joint 0
      (mark_at 46 Alone 1 (mark_at 61 Alone 2 none)))) ≡ codes ".."
  pub one_alone : chars_of (glue (mark_at 46 Alone 0
      (mark_at 46 Joint 1 (mark_at 61 Alone 2 none)))) ≡ codes "."
