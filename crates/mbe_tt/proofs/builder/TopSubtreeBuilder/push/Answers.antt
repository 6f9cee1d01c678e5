use Rattle.std.proofs.Common.{◌∙◌, ◌+◌, ◌≤◌, ◌∷◌, [], ◌++◌, List, arith, ap, length}
use Rattle.std.specs.Vec.{vec_capacity}
use Rattle.mbe_tt.specs.Trees.Tree.{one_leaf}
use Rattle.mbe_tt.specs.Buffers.GroupStack.{put, stack_of}
use Rattle.mbe_tt.specs.Views.BufferEntry.{Entry}
use Rattle.mbe_tt.specs.Views.BufferEntry.{Leaf}
use Rattle.mbe_tt.specs.Views.LeafViews.{entries_of, leaf_of}
use Rattle.mbe_tt.proofs.Buffers.Seen.{length-shown, shown_append}
use Rattle.mbe_tt.proofs.Buffers.Built.{Put, after_put}
use Rattle.mbe_tt.proofs.builder.TopSubtreeBuilder.push.Goals as goal
use Rattle.mbe_tt.proofs.builder.TopSubtreeBuilder.push.Goals.{After-push_reserved}

-- the leaf is at the end of what was written
stack_entries : (g : _) (c : After-push_reserved g) → Put (stack_of (entries_of c.self.inside.entries.items))
    (one_leaf (leaf_of c.args.leaf)) (entries_of c.push_reserved.new.self.items) (vec_capacity c.push_reserved.new.self)
    c.self.inside.at c.self.inside.depth
stack_entries g c =
    let added = c.push_reserved.ensures in
    let room : length (entries_of c.push_reserved.new.self.items) + c.self.inside.depth
    ≤ vec_capacity c.push_reserved.new.self =
    omega (arith, length-shown c.push_reserved.new.self.items, added.len, added.capacity, c.in_ok-reserve.ensures.ok) in
    after_put _ _ _ _ _ _ (one_leaf (leaf_of c.args.leaf)) c.self.invariant
    (shown_append _ _ _ c.push_reserved.ensures.items
    ∙ ap (λ (es : List Entry). es ++ Leaf (leaf_of c.args.leaf) ∷ []) (ap entries_of c.in_ok-reserve.ensures.items))
    room

pub invariant_of-self-2 : goal.invariant_of-self-2
invariant_of-self-2 g c = (stack_entries g (goal.at.invariant_of-self-2 g c).After-push_reserved).building

pub returns-clause-ok : goal.returns-clause-ok
returns-clause-ok g c =
    (stack_entries g (goal.at.returns-clause-ok g c).After-push_reserved).levels
    ∙ ap (put (one_leaf (leaf_of c.args.leaf))) c.self.view_is
