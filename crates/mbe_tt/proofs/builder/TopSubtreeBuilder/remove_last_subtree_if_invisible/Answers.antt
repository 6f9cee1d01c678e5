use Rattle.std.proofs.Common.{◌≡◌, ◌∙◌, ◌+◌, ◌<◌, List, drop, arith, ap, length, sym, refl, ℕ}
use Rattle.std.specs.Vec.{vec_capacity}
use Rattle.mbe_tt.specs.Views.BufferEntry.{Entry}
use Rattle.mbe_tt.specs.Views.BufferEntries.{spell}
use Rattle.mbe_tt.specs.Buffers.GroupStack.{stack_of, unwrap_last, IsBuilder}
use Rattle.mbe_tt.specs.Trees.Tree.{Forest, last_invisible, unwrapped}
use Rattle.mbe_tt.specs.Views.LeafViews.{entries_of}
use Rattle.mbe_tt.proofs.Buffers.Seen.{length-shown, shown_drop}
use Rattle.mbe_tt.proofs.Buffers.Spelled.{spelled, read_back}
use Rattle.mbe_tt.proofs.Offsets.LastTreeLemmas.{EndsInvisible, none_of, ends_invisible, unwrapped_same}
use Rattle.mbe_tt.proofs.Buffers.Unwrapped.{Innermost, IsUnwrapped, innermost, place_fits, inside_is, group_fits}
use Rattle.mbe_tt.proofs.Buffers.Unwrapped.{after_unwrap, not_unwrapped, taken_out_from}
use Rattle.mbe_tt.proofs.builder.TopSubtreeBuilder.remove_last_subtree_if_invisible.Goals as goal
use Rattle.mbe_tt.proofs.builder.TopSubtreeBuilder.remove_last_subtree_if_invisible.Goals.{After-split_at, In-Some}
use Rattle.mbe_tt.proofs.builder.TopSubtreeBuilder.remove_last_subtree_if_invisible.Goals.{After-unwrap_at}

innermost_of : (es : List Entry) (capacity offset count : ℕ) → IsBuilder es capacity offset count
    → Innermost (stack_of es) es offset
innermost_of es capacity offset count b =
    innermost (stack_of es) es offset b.spelled b.at (omega (arith, b.some, b.depth))

pub overflow_add-self-inside : goal.overflow_add-self-inside
overflow_add-self-inside g c =
    omega (
      arith,
      place_fits _ _ _ (innermost_of _ _ _ _ c.self.invariant),
      length-shown c.self.inside.entries.items,
    )

pub split_at-requires : goal.split_at-requires
split_at-requires g c =
    omega (
      arith,
      place_fits _ _ _ (innermost_of _ _ _ _ c.self.invariant),
      length-shown c.self.inside.entries.items,
      ap length c.deref.ensures.value,
    )

-- the innermost group's trees are after its opening
trees_are : (g : _) (c : After-split_at g)
    → entries_of c.split_at.result.1.now ≡ spell (innermost_of _ _ _ _ c.self.invariant).inside
trees_are g c =
    shown_drop (c.self.inside.at + 1) c.split_at.result.1.now c.deref.result.now c.split_at.ensures.back
    ∙ (ap (λ (es : List Entry). drop (c.self.inside.at + 1) es) (ap entries_of c.deref.ensures.value)
    ∙ inside_is _ _ _ (innermost_of _ _ _ _ c.self.invariant))

pub last_invisible-requires : goal.last_invisible-requires
last_invisible-requires g c =
    spelled (innermost_of _ _ _ _ c.self.invariant).inside _
    (trees_are g (goal.at.last_invisible-requires g c).After-split_at)

-- the last of these trees is the invisible group that was found
ends : (g : _) (c : In-Some g) (f : Forest) → entries_of c.split_at.result.1.now ≡ spell f
    → EndsInvisible f c.in-Some.offset
ends g c f t =
    ends_invisible f c.in-Some.offset
    (sym c.in-Some.is ∙ (c.last_invisible.ensures ∙ ap last_invisible (read_back f _ t)))

-- its opening is before the last entry
fits : (g : _) (c : In-Some g)
    → entries_of c.split_at.result.1.now ≡ spell (innermost_of _ _ _ _ c.self.invariant).inside
    → c.self.inside.at + 1 + c.in-Some.offset + 1 < length c.self.inside.entries.items
fits g c t =
    omega (
      arith,
      group_fits _ _ _ c.in-Some.offset (innermost_of _ _ _ _ c.self.invariant) (ends g c _ t),
      length-shown c.self.inside.entries.items,
    )

pub overflow_add-self-inside-in-Some-2 : goal.overflow_add-self-inside-in-Some-2
overflow_add-self-inside-in-Some-2 g c =
    let here = goal.at.overflow_add-self-inside-in-Some-2 g c in
    omega (arith, fits g here.In-Some (trees_are g here.After-split_at))

pub unwrap_at-requires : goal.unwrap_at-requires
unwrap_at-requires g c =
    let here = goal.at.unwrap_at-requires g c in
    omega (arith, fits g here.In-Some (trees_are g here.After-split_at))

unwraps : (g : _) (c : After-unwrap_at g)
    → EndsInvisible (innermost_of _ _ _ _ c.self.invariant).inside c.in-Some.offset
    → IsUnwrapped (stack_of (entries_of c.self.inside.entries.items)) (entries_of c.unwrap_at.new.entries.items)
    (vec_capacity c.unwrap_at.new.entries) c.self.inside.at c.self.inside.depth
unwraps g c h =
    after_unwrap _ _ _ _ _ _ _ c.in-Some.offset (innermost_of _ _ _ _ c.self.invariant) h refl c.self.invariant
    (c.unwrap_at.ensures.items ∙ ap (λ (k : ℕ). taken_out_from (entries_of c.self.inside.entries.items) k
    (c.self.inside.at + 1 + c.in-Some.offset)) (sym (length-shown c.self.inside.entries.items)))
    c.unwrap_at.ensures.capacity

pub invariant_of-self : goal.invariant_of-self
invariant_of-self g c =
    let here = goal.at.invariant_of-self g c in
    (unwraps g here.After-unwrap_at (ends g here.In-Some _ (trees_are g here.After-split_at))).building

pub returns-in-Some : goal.returns-in-Some
returns-in-Some g c =
    let here = goal.at.returns-in-Some g c in
    (unwraps g here.After-unwrap_at (ends g here.In-Some _ (trees_are g here.After-split_at))).levels
    ∙ ap unwrap_last c.self.view_is

pub returns-in_default : goal.returns-in_default
returns-in_default g c =
    let m = innermost_of _ _ _ _ c.self.invariant in
    let same : unwrapped m.inside ≡ m.inside =
    unwrapped_same m.inside (none_of c.last_invisible.result c.in_default.not-Some
    ∙ (c.last_invisible.ensures ∙ ap last_invisible (read_back m.inside _
    (trees_are g (goal.at.returns-in_default g c).After-split_at)))) in
    sym c.self.view_is ∙ (not_unwrapped _ _ _ m same ∙ ap unwrap_last c.self.view_is)
