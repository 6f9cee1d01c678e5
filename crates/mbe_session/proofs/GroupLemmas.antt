-- How many groups of a builder are open.
use Rattle.std.proofs.Common.{◌≡◌, [], ◌∷◌, length, refl}
use Rattle.mbe_tt.specs.Trees.Tree.{Forest}
use Rattle.mbe_tt.specs.Buffers.GroupStack.{GroupStack, put}

-- trees open none
pub length_put : (f : Forest) (b : GroupStack) → length (put f b) ≡ length b
length_put f [] = refl
length_put f (g ∷ outer) = refl
