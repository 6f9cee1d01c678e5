use Rattle.std.proofs.Common.{◌≡◌, ◌∙◌, ◌≤◌, [], ap, ℕ, arith, length}
use Rattle.mbe_tt.specs.Trees.Tree.{Forest, flat_len, rest_at, depth_at}
use Rattle.mbe_tt.specs.Views.BufferEntries.{forest_of, spell}
use Rattle.mbe_tt.specs.Buffers.Offsets.{rests}
use Rattle.mbe_tt.specs.Views.LeafViews.{entries_of}
use Rattle.mbe_tt.proofs.Buffers.Seen.{shown_drop}
use Rattle.mbe_tt.proofs.Buffers.Spelled.{length-spell, spelled, read_back}
use Rattle.mbe_tt.proofs.Offsets.CursorLemmas.{left_at_root, root-rests, rest_at-rests}
use Rattle.mbe_tt.proofs.iter.TtIter.flat_advance_to.Goals as goal
use Rattle.mbe_tt.proofs.iter.TtIter.flat_advance_to.Goals.{After-split_at}

within : (g : _) (c : After-split_at g)
    → c.cursor.inside.offset ≤ flat_len (forest_of (entries_of c.cursor.inside.entries.now))
within g c =
    omega (
      arith,
      c.cursor.invariant.within,
      ap length c.cursor.invariant.spelled,
      length-spell (forest_of (entries_of c.cursor.inside.entries.now)),
    )

-- what is left are the trees after the position
left_is : (g : _) (c : After-split_at g) → entries_of c.split_at.result.1.now
    ≡ spell (rests (forest_of (entries_of c.cursor.inside.entries.now)) c.cursor.inside.offset).0
left_is g c =
    let f : Forest = forest_of (entries_of c.cursor.inside.entries.now) in
    let root : (rests f c.cursor.inside.offset).1 ≡ [] =
    root-rests f c.cursor.inside.offset (within g c)
    (ap (λ (v : Forest × ℕ). depth_at v.0 v.1) c.cursor.view_is ∙ c.requires.root) in
    shown_drop c.cursor.inside.offset c.split_at.result.1.now c.cursor.inside.entries.now c.split_at.ensures.back
    ∙ left_at_root _ _ _ c.cursor.invariant.spelled root

pub invariant_of-self : goal.invariant_of-self
invariant_of-self g c =
    spelled (rests (forest_of (entries_of c.cursor.inside.entries.now)) c.cursor.inside.offset).0 _
    (left_is g (goal.at.invariant_of-self g c).After-split_at)

pub returns : goal.returns
returns g c =
    let here = (goal.at.returns g c).After-split_at in
    let f : Forest = forest_of (entries_of c.cursor.inside.entries.now) in
    read_back (rests f c.cursor.inside.offset).0 _ (left_is g here)
    ∙ (rest_at-rests f c.cursor.inside.offset (within g here)
    ∙ (ap (λ (v : Forest × ℕ). rest_at v.0 v.1) c.cursor.view_is
    ∙ ap (λ (h : Forest). rest_at h c.args.cursor.now.1) c.requires.same))
