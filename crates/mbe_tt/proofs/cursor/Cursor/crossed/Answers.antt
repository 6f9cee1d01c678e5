use Rattle.std.proofs.Common.{◌≡◌, ◌∙◌, ◌≤◌, ℕ, arith, ap, length, sym}
use Rattle.mbe_tt.specs.Trees.Tree.{Forest, append, flat_len, rest_at, depth_at}
use Rattle.mbe_tt.specs.Views.BufferEntries.{forest_of, spell}
use Rattle.mbe_tt.specs.Buffers.Offsets.{rests}
use Rattle.mbe_tt.specs.Views.LeafViews.{entries_of}
use Rattle.mbe_tt.proofs.Buffers.Seen.{shown_take}
use Rattle.mbe_tt.proofs.Buffers.Spelled.{length-spell, spelled, read_back}
use Rattle.mbe_tt.proofs.Offsets.CursorLemmas.{Crossed, crossed_is, passed_entries, root-rests, rest_at-rests}
use Rattle.mbe_tt.proofs.cursor.Cursor.crossed.Goals as goal
use Rattle.mbe_tt.proofs.cursor.Cursor.crossed.Goals.{After-split_at}

within : (g : _) (c : After-split_at g)
    → c.self.inside.offset ≤ flat_len (forest_of (entries_of c.self.inside.entries.now))
within g c =
    omega (
      arith,
      c.self.invariant.within,
      ap length c.self.invariant.spelled,
      length-spell (forest_of (entries_of c.self.inside.entries.now)),
    )

-- the trees before the position
crossed : (g : _) (c : After-split_at g)
    → Crossed (forest_of (entries_of c.self.inside.entries.now)) c.self.inside.offset
crossed g c =
    let f : Forest = forest_of (entries_of c.self.inside.entries.now) in
    crossed_is f c.self.inside.offset (within g c)
    (root-rests f c.self.inside.offset (within g c)
    (ap (λ (v : Forest × ℕ). depth_at v.0 v.1) c.self.view_is ∙ c.requires))

front_is : (g : _) (c : After-split_at g) → entries_of c.split_at.result.0.now ≡ spell (crossed g c).passed
front_is g c =
    shown_take c.self.inside.offset c.split_at.result.0.now c.self.inside.entries.now c.split_at.ensures.front
    ∙ passed_entries _ _ _ (crossed g c) c.self.invariant.spelled

pub invariant_of-result : goal.invariant_of-result
invariant_of-result g c =
    let here = (goal.at.invariant_of-result g c).After-split_at in
    record { spelled = spelled (crossed g here).passed _ (front_is g here) }

pub returns-clause-all : goal.returns-clause-all
returns-clause-all g c =
    let here = (goal.at.returns-clause-all g c).After-split_at in
    let f : Forest = forest_of (entries_of c.self.inside.entries.now) in
    ap (λ (v : Forest × ℕ). append (forest_of (entries_of c.split_at.result.0.now)) (rest_at v.0 v.1))
    (sym c.self.view_is)
    ∙ (ap (append (forest_of (entries_of c.split_at.result.0.now)))
    (sym (rest_at-rests f c.self.inside.offset (within g here)))
    ∙ (ap (λ (p : Forest). append p (rests f c.self.inside.offset).0)
    (read_back (crossed g here).passed _ (front_is g here))
    ∙ (sym (crossed g here).is ∙ ap (λ (v : Forest × ℕ). v.0) c.self.view_is)))

pub returns-clause-len : goal.returns-clause-len
returns-clause-len g c =
    let here = (goal.at.returns-clause-len g c).After-split_at in
    ap flat_len (read_back (crossed g here).passed _ (front_is g here))
    ∙ ((crossed g here).len ∙ ap (λ (v : Forest × ℕ). v.1) c.self.view_is)
