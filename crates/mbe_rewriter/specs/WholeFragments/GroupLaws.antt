-- What opening the groups of fragments leaves.
use Rattle.std.specs.Prelude.{◌≡◌, ℕ, ◌+◌, ◌≤◌, max, Bool, false, ◌||◌}
use Rattle.mbe_tt.specs.Trees.FragmentGroup.{is_fragment_group}
use Rattle.mbe_tt.specs.Trees.Top.{Top}
use Rattle.mbe_tt.specs.Trees.Tree.{Forest, none, leaf, group}
use Rattle.mbe_rewriter.specs.WholeFragments.FragmentGroups.{open_all, open_fragments}

-- the group of a fragment is among the trees, at any depth
abbrev pub has_fragment : Forest → Bool
has_fragment none = false
has_fragment (leaf l rest) = has_fragment rest
has_fragment (group d inside rest) =
    is_fragment_group d || (has_fragment inside || has_fragment rest)

-- how many groups are around a tree, at most
abbrev pub depth_of : Forest → ℕ
depth_of none = 0
depth_of (leaf l rest) = depth_of rest
depth_of (group d inside rest) = max (1 + depth_of inside) (depth_of rest)

-- No group of a fragment is left in trees that are at most 1,000 groups deep.
abbrev pub LeavesNoGroup : Type 0
LeavesNoGroup = (f : Forest) → depth_of f ≤ 1000 → has_fragment (open_all f) ≡ false

-- Trees without a group of a fragment stay as they are.
abbrev pub ChangesGroupsAlone : Type 0
ChangesGroupsAlone = (t : Top) → has_fragment t.1 ≡ false
    → (open_fragments t ≡ t) × (open_all t.1 ≡ t.1)
