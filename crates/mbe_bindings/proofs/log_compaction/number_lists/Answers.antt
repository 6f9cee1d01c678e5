use Rattle.std.proofs.Common.{◌≡◌, ◌∙◌, ◌++◌, ◌∷◌, ◌+◌, [], Some, None, rules, sym, ap, subst, arith}
use Rattle.mbe_semantics.specs.declared.list_prefix.ListPrefix.{ListPrefix}
use Rattle.mbe_bindings.specs.KeptLists.{IsNumbered}
use Rattle.mbe_bindings.proofs.CompactSteps.{kept_count, numbered_none, numbered_some}
use Rattle.mbe_bindings.proofs.log_compaction.number_lists.Goals as goal
use Rattle.mbe_bindings.proofs.log_compaction.number_lists.Goals.{in-Some+in_ok-push-in-Some+in_ok-list-in-Some}
use Rattle.mbe_bindings.proofs.log_compaction.number_lists.Goals.{in-None+in_ok-push-in-None}

pub loop-mark-preserved : goal.loop-mark-preserved
loop-mark-preserved g c =
    elim c.match-mark.branch [
      | in-Some+in_ok-push-in-Some+in_ok-list-in-Some w ↦
          let part : ListPrefix = record { list = c.loop-mark.list; first = w.in-Some.first } in
          let items : c.match-mark.table.items ≡ c.loop-mark.table.items ++ Some part ∷ [] = search rules in
          let next : c.match-mark.list ≡ c.loop-mark.list + 1 = search rules in
          let count = c.loop-mark.invariant.1 in
          let a = numbered_some 0 c.loop-mark.table.items part c.loop-mark.invariant.0 (omega (arith, count)) in
          let more = a.1 in
          let r : IsNumbered 0 c.match-mark.table.items × (kept_count c.match-mark.table.items ≡ c.match-mark.list) = (
            subst (IsNumbered 0) (sym items) a.0,
            ap kept_count items ∙ (let u : kept_count (c.loop-mark.table.items ++ Some part ∷ []) ≡ c.match-mark.list =
                omega (arith, more, count, next) in u),
          ) in r
      | in-None+in_ok-push-in-None w ↦
          let items : c.match-mark.table.items ≡ c.loop-mark.table.items ++ None ∷ [] = search rules in
          let same : c.match-mark.list ≡ c.loop-mark.list = search rules in
          let a = numbered_none 0 c.loop-mark.table.items c.loop-mark.invariant.0 in
          let r : IsNumbered 0 c.match-mark.table.items × (kept_count c.match-mark.table.items ≡ c.match-mark.list) =
          (subst (IsNumbered 0) (sym items) a.0, ap kept_count items ∙ a.1 ∙ c.loop-mark.invariant.1 ∙ sym same) in r
    ]
