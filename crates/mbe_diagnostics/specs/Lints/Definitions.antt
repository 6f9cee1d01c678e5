-- The macro definitions among trees, in the order of the text.
use Rattle.std.specs.Prelude.{ℕ, zero, suc, List, [], ◌∷◌, ◌++◌}
use Rattle.mbe_tt.specs.Trees.Tree.{Forest, Tree, Leaf_tree, Group_tree, flat_len}
use Rattle.mbe_rewriter.specs.MacroItems.{MacroDefinition, FrontItem, Definition, CallItem, Other}
use Rattle.mbe_rewriter.specs.MacroItems.{End, front}

-- The definitions in a tree: those in a group, and none in a leaf.
abbrev pub defined_in_tree : (Forest → List MacroDefinition) → Tree → List MacroDefinition
defined_in_tree within (Leaf_tree l) = []
defined_in_tree within (Group_tree d inside) = within inside

-- The definition at a front, or the definitions in its tree, and then the definitions of the trees
-- after it. A definition holds no other, and neither does a call.
abbrev pub defined_at : (Tree → List MacroDefinition) → (Forest → List MacroDefinition) → FrontItem
    → List MacroDefinition
defined_at within more (Definition d) = d ∷ more d.rest
defined_at within more (CallItem c) = more c.rest
defined_at within more (Other t rest) = within t ++ more rest
defined_at within more End = []

-- The definitions of that many fronts.
unfoldable pub defined_by_fronts : (Tree → List MacroDefinition) → ℕ → Forest → List MacroDefinition
defined_by_fronts within zero f = []
defined_by_fronts within (suc n) f = defined_at within (defined_by_fronts within n) (front f)

-- All definitions, where groups may be nested that deep. Each front takes a tree, so there are no
-- more fronts than flat tokens.
unfoldable pub definitions : ℕ → Forest → List MacroDefinition
definitions zero f = []
definitions (suc levels) f = defined_by_fronts (defined_in_tree (definitions levels)) (flat_len f) f
