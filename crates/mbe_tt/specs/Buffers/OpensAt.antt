-- An opening at an index of a buffer.
use Rattle.std.specs.Prelude.{◌≡◌, ℕ, List, ◌∷◌, ◌++◌, length}
use Rattle.mbe_tt.specs.declared.tt.Subtree.{Subtree}
use Rattle.mbe_tt.specs.Views.BufferEntry.{Entry}
use Rattle.mbe_tt.specs.Views.BufferEntry.{Open}

-- the entry at that index is the opening of that group, with that number
pub record OpensAt (entries : List Entry) (offset : ℕ) (s : Subtree) (n : ℕ) : Type 0 where
  pub before : List Entry
  pub after : List Entry
  pub is : entries ≡ before ++ Open s n ∷ after
  pub at : offset ≡ length before
