use Rattle.std.proofs.Common.{◌≡◌, ◌∙◌, ◌+◌, ◌≤◌, ◌∷◌, [], ◌++◌, List, arith, ap, length, ℕ, subst}
use Rattle.std.specs.Vec.{vec_capacity}
use Rattle.mbe_tt.specs.Trees.Tree.{none}
use Rattle.mbe_tt.specs.Buffers.GroupStack.{GroupStack, IsBuilder, stack_of}
use Rattle.mbe_tt.specs.declared.tt.Delimiter.{Delimiter}
use Rattle.mbe_tt.specs.Views.BufferEntry.{Entry}
use Rattle.mbe_tt.specs.Views.BufferEntry.{Open}
use Rattle.mbe_tt.specs.Views.LeafViews.{entries_of}
use Rattle.mbe_tt.proofs.Buffers.Seen.{length-shown, shown_append}
use Rattle.mbe_tt.proofs.Buffers.Built.{Opened, after_open_group}
use Rattle.mbe_tt.proofs.builder.TopSubtreeBuilder.open.Goals as goal
use Rattle.mbe_tt.proofs.builder.TopSubtreeBuilder.open.Goals.{After-push_reserved}

-- the opening is at the end of what was written
opened : (g : _) (c : After-push_reserved g) → Opened (stack_of (entries_of c.self.inside.entries.items))
    (record { opening = c.args.span; close = c.args.span; kind = c.args.kind })
    (entries_of c.push_reserved.new.self.items) (vec_capacity c.push_reserved.new.self)
    (length (entries_of c.self.inside.entries.items)) (c.self.inside.depth + 1)
opened g c =
    let added = c.push_reserved.ensures in
    let room :
    length (entries_of c.push_reserved.new.self.items) + (c.self.inside.depth + 1)
    ≤ vec_capacity c.push_reserved.new.self =
    omega (arith, length-shown c.push_reserved.new.self.items, added.len, added.capacity, c.in_ok-reserve.ensures.ok) in
    after_open_group _ _ _ _ _ _ (record { opening = c.args.span; close = c.args.span; kind = c.args.kind })
    c.self.invariant
    (shown_append _ _ _ c.push_reserved.ensures.items
    ∙ ap (λ (es : List Entry). es ++ Open (record {
      delimiter = record { opening = c.args.span; close = c.args.span; kind = c.args.kind };
    }) c.self.inside.at ∷ [])
    (ap entries_of c.in_ok-reserve.ensures.items))
    room

pub invariant_of-self-2 : goal.invariant_of-self-2
invariant_of-self-2 g c =
    let begin : length (entries_of c.self.inside.entries.items) ≡ c.len-begin.result =
    omega (
      arith,
      c.len-begin.ensures,
      length-shown c.self.inside.entries.items,
      ap length c.in_ok-reserve.ensures.items,
    ) in
    subst (λ (n : ℕ). IsBuilder (entries_of c.push_reserved.new.self.items) (vec_capacity c.push_reserved.new.self) n
    (c.self.inside.depth + 1)) begin (opened g (goal.at.invariant_of-self-2 g c).After-push_reserved).building

pub returns-clause-ok : goal.returns-clause-ok
returns-clause-ok g c =
    let d : Delimiter = record { opening = c.args.span; close = c.args.span; kind = c.args.kind } in
    (opened g (goal.at.returns-clause-ok g c).After-push_reserved).levels
    ∙ ap (λ (b : GroupStack). (d, none) ∷ b) c.self.view_is
