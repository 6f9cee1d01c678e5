use Rattle.std.proofs.Common.{◌∙◌, ◌≤◌, ap, ℕ, arith, length}
use Rattle.mbe_tt.specs.Trees.Tree.{Forest, first, flat_len, rest_at}
use Rattle.mbe_tt.specs.Views.BufferEntries.{forest_of}
use Rattle.mbe_tt.specs.Buffers.Offsets.{rests}
use Rattle.mbe_tt.specs.Views.LeafViews.{entries_of}
use Rattle.mbe_tt.proofs.Buffers.Seen.{shown_drop}
use Rattle.mbe_tt.proofs.Offsets.CursorLemmas.{left_is, rest_at-rests}
use Rattle.mbe_tt.proofs.Buffers.Spelled.{length-spell}
use Rattle.mbe_tt.proofs.cursor.Cursor.token_tree.Goals as goal

pub first_tree-requires : goal.first_tree-requires
first_tree-requires g c = (
  rests (forest_of (entries_of c.self.inside.entries.now)) c.self.inside.offset,
  (shown_drop c.self.inside.offset c.split_at.result.1.now c.self.inside.entries.now c.split_at.ensures.back)
      ∙ left_is _ _ _ c.self.invariant.spelled,
)

pub returns : goal.returns
returns g c =
    let f : Forest = forest_of (entries_of c.self.inside.entries.now) in
    let within : c.self.inside.offset ≤ flat_len f =
    omega (arith, c.self.invariant.within, ap length c.self.invariant.spelled, length-spell f) in
    c.first_tree.ensures (rests (forest_of (entries_of c.self.inside.entries.now)) c.self.inside.offset)
    ((shown_drop c.self.inside.offset c.split_at.result.1.now c.self.inside.entries.now c.split_at.ensures.back)
    ∙ left_is _ _ _ c.self.invariant.spelled)
    ∙ (ap first (rest_at-rests f c.self.inside.offset within)
    ∙ ap (λ (v : Forest × ℕ). first (rest_at v.0 v.1)) c.self.view_is)
