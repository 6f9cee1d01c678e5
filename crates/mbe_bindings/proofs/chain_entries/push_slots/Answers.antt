use Rattle.std.proofs.Common.{◌∙◌, ◌++◌, ◌-◌, [], ◌∷◌, ap, sym, append_assoc}
use Rattle.mbe_bindings.specs.FlatEntries.{slots_down}
use Rattle.mbe_bindings.proofs.ReadLemmas.{down-one}
use Rattle.mbe_bindings.proofs.chain_entries.push_slots.Goals as goal

pub loop-first-preserved : goal.loop-first-preserved
loop-first-preserved g c =
    ap (λ x. x ++ slots_down c.args.list (c.loop-first.first - 1)) c.in_ok-push.ensures.items
    ∙ append_assoc c.loop-first.slots.items (record { list = c.args.list; first = c.loop-first.first - 1 } ∷ [])
    (slots_down c.args.list (c.loop-first.first - 1))
    ∙ ap (λ x. c.loop-first.slots.items ++ x) (sym (down-one c.args.list c.loop-first.first c.loop-first-test.true))
    ∙ c.loop-first.invariant
