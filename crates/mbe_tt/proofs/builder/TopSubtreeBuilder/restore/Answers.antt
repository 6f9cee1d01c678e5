use Rattle.std.proofs.Common.{◌≡◌, ◌∙◌, ◌<◌, arith, ap, length, sym}
use Rattle.mbe_tt.specs.Buffers.GroupStack.{stack_of, put, stack_entries}
use Rattle.mbe_tt.specs.Views.LeafViews.{entries_of}
use Rattle.mbe_tt.proofs.Buffers.Seen.{length-shown, shown_take}
use Rattle.mbe_tt.proofs.Buffers.Built.{point_fits, length-put, after_restore}
use Rattle.mbe_tt.proofs.builder.TopSubtreeBuilder.restore.Goals as goal

pub overflow_add-point : goal.overflow_add-point
overflow_add-point g c =
    let b : stack_of (entries_of c.self.inside.entries.items) ≡ put c.requires.1.0 c.requires.0 =
    c.self.view_is ∙ c.requires.1.1 in
    let some : 0 < length c.requires.0 = omega
    (arith, c.self.invariant.some, c.self.invariant.depth, ap length b, length-put c.requires.0 c.requires.1.0) in
    omega (
      arith,
      length-shown c.self.inside.entries.items,
      point_fits c.requires.0 c.requires.1.0 (entries_of c.self.inside.entries.items) some
          (c.self.invariant.spelled ∙ ap stack_entries b),
      c.requires.1.2,
    )

pub invariant_of-self : goal.invariant_of-self
invariant_of-self g c =
    (after_restore c.requires.0 c.requires.1.0 _ _ _ _ _ _ _ (c.self.view_is ∙ c.requires.1.1) c.self.invariant
    c.requires.1.2 (shown_take _ _ _ c.truncate.ensures.items) (sym c.truncate.ensures.capacity)).building

pub returns : goal.returns
returns g c = λ kept since e p.
    (after_restore kept since _ _ _ _ _ _ _ (c.self.view_is ∙ e) c.self.invariant p
    (shown_take _ _ _ c.truncate.ensures.items) (sym c.truncate.ensures.capacity)).levels
