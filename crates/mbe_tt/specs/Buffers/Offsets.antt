-- Offsets in a view, counted in flat tokens, and what a cursor shows.
use Rattle.std.specs.Prelude.{◌≡◌, ℕ, zero, suc, ◌≤◌, ◌+◌, List, [], ◌∷◌, ◌++◌, length}
use Rattle.std.specs.Coded.{Coded, coded×, coded_ℕ}
use Rattle.mbe_tt.specs.Trees.Tree.{Forest, none, leaf, group, rest_at, depth_at}
use Rattle.mbe_tt.specs.Views.BufferEntries.{spell, forest_of, forest_code}
use Rattle.mbe_tt.specs.Views.BufferEntry.{Entry}
use Rattle.mbe_tt.specs.Views.BufferEntry.{Leaf, Open, Close}

-- what is left after an offset: the rest of the innermost group, and the rests of the groups
-- around it
abbrev pub Rests : Type 0
Rests = Forest × List Forest

-- the rests after one more flat token: a leaf, an opening or a closing; at the view's end nothing
-- changes
abbrev pub step : Forest → List Forest → Rests
step none [] = (none, [])
step none (rest ∷ around) = (rest, around)
step (leaf l rest) around = (rest, around)
step (group d inside rest) around = (inside, rest ∷ around)

-- the rests after n more flat tokens
abbrev pub walk : ℕ → Rests → Rests
walk zero r = r
walk (suc n) r = walk n (step r.0 r.1)

-- the rests at an offset of a forest
abbrev pub rests : Forest → ℕ → Rests
rests f n = walk n (f, [])

-- the entries after the end of the innermost group: its closing and the rests of the groups around
-- it
abbrev pub closings : List Forest → List Entry
closings [] = []
closings (rest ∷ around) = Close ∷ (spell rest ++ closings around)

-- the entries after an offset
abbrev pub spell_rests : Rests → List Entry
spell_rests r = spell r.0 ++ closings r.1

-- how a flat token changes the number of groups around the offset
abbrev pub DepthAfter : Entry → ℕ → ℕ → Type 0
DepthAfter (Leaf l) n m = m ≡ n
DepthAfter (Open s k) n m = m ≡ n + 1
DepthAfter Close n m = n ≡ m + 1

-- what a cursor shows: the trees of its view, and an offset
abbrev pub CursorValue : Type 0
CursorValue = Forest × ℕ

-- the code of what a cursor shows
abbrev pub cursor_code : Coded CursorValue
cursor_code = coded× forest_code coded_ℕ

-- the trees of the cursor's view
abbrev pub cursor_trees : CursorValue → Forest
cursor_trees c = c.0

-- the cursor's offset
abbrev pub offset_of : CursorValue → ℕ
offset_of c = c.1

-- the trees from the cursor to the end of the innermost group
abbrev pub rest_at_cursor : CursorValue → Forest
rest_at_cursor c = rest_at c.0 c.1

-- the cursor is in no group of the view
abbrev pub IsAtRoot : CursorValue → Type 0
IsAtRoot c = depth_at c.0 c.1 ≡ 0

-- the invariant of a cursor's fields
pub record IsCursor (entries : List Entry) (offset depth : ℕ) : Type 0 where
  pub spelled : entries ≡ spell (forest_of entries)
  pub within : offset ≤ length entries
  pub depth_is : depth ≡ depth_at (forest_of entries) offset
