use Rattle.std.proofs.Common.{◌∙◌, ◌+◌, ◌≤◌, ◌++◌, List, arith, ap, length}
use Rattle.std.specs.Vec.{vec_capacity}
use Rattle.std.specs.List.{each_same}
use Rattle.mbe_tt.specs.Views.View.{trees}
use Rattle.mbe_tt.specs.Buffers.GroupStack.{put, stack_of}
use Rattle.mbe_tt.specs.Views.BufferEntry.{Entry}
use Rattle.mbe_tt.specs.Views.LeafViews.{entries_of}
use Rattle.mbe_tt.proofs.Buffers.Seen.{length-shown, shown_append}
use Rattle.mbe_tt.proofs.Buffers.Built.{Put, after_put}
use Rattle.mbe_tt.proofs.builder.TopSubtreeBuilder.extend_with_tt.Goals as goal
use Rattle.mbe_tt.proofs.builder.TopSubtreeBuilder.extend_with_tt.Goals.{In_ok-extend_from_slice}

-- the trees are at the end of what was written
stack_entries : (g : _) (c : In_ok-extend_from_slice g) → Put (stack_of (entries_of c.self.inside.entries.items))
    (trees c.args.view) (entries_of c.extend_from_slice.new.self.items) (vec_capacity c.extend_from_slice.new.self)
    c.self.inside.at c.self.inside.depth
stack_entries g c =
    let room : length (entries_of c.extend_from_slice.new.self.items) + c.self.inside.depth
    ≤ vec_capacity c.extend_from_slice.new.self =
    omega (
      arith,
      length-shown c.extend_from_slice.new.self.items,
      c.saturating_add.ensures,
      c.in_ok-reserve.ensures.ok,
      c.in_ok-reserve.ensures.len,
      c.in_ok-extend_from_slice.ensures.len,
      c.in_ok-extend_from_slice.ensures.capacity,
    ) in
    let added = c.in_ok-extend_from_slice.ensures.items in
    after_put _ _ _ _ _ _ (trees c.args.view) c.self.invariant
    (shown_append _ _ _ added.1 ∙ (ap (λ (es : List Entry). es ++ entries_of added.0)
    (ap entries_of c.in_ok-reserve.ensures.items)
    ∙ ap (λ (es : List Entry). (entries_of c.self.inside.entries.items) ++ es)
    (ap entries_of (each_same _ _ added.2) ∙ c.args.view.spelled)))
    room

pub invariant_of-self-2 : goal.invariant_of-self-2
invariant_of-self-2 g c = (stack_entries g (goal.at.invariant_of-self-2 g c).In_ok-extend_from_slice).building

pub returns-clause-ok : goal.returns-clause-ok
returns-clause-ok g c =
    (stack_entries g (goal.at.returns-clause-ok g c).In_ok-extend_from_slice).levels
    ∙ ap (put (trees c.args.view)) c.self.view_is
