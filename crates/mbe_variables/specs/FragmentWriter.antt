-- What the fragment of a variable adds to the builder.
use Rattle.std.specs.Prelude.{◌≡◌}
use Rattle.mbe_tt.specs.Trees.Tree.{Forest, alone, strip_invisible}
use Rattle.mbe_tt.specs.Buffers.GroupStack.{GroupStack, put}
use Rattle.mbe_semantics.specs.Fragments.Kinds.{Style, stripped}

-- such trees are added at the end of the innermost open group
unfoldable pub Appends : (Forest → Type 0) → GroupStack → GroupStack → Type 0
Appends P old new = (made : Forest) × P made × (new ≡ put made old)

-- a fragment as it is, or without an invisible group around it
abbrev pub plain_fragment : Style → Forest → Forest
plain_fragment stripped f = alone (strip_invisible f)
plain_fragment _ f = alone f
