use Rattle.std.proofs.Common.{◌≡◌, ◌∙◌, ◌++◌, [], ◌∷◌, Some, None, ap, sym, take, append-nil, rules}
use Rattle.std.specs.Prelude.{option_to_list, slice_get}
use Rattle.mbe_bindings.specs.LogCompaction.{kept_of}
use Rattle.mbe_bindings.specs.KeptLists.{cut_at, kept_lists}
use Rattle.mbe_bindings.proofs.CompactSteps.{kept_further}
use Rattle.mbe_bindings.proofs.log_compaction.kept_lists.Goals as goal

pub loop-index-preserved : goal.loop-index-preserved
loop-index-preserved g c =
    let t = g.E.LogEntry.table c.args.moves.now in
    let f = g.E.LogEntry.moved c.args.moves.now in
    let prefix : Some c.in-Some.list ≡ cut_at t f (kept_of (slice_get t c.loop-index.index)) (slice_get c.args.lists.now
    c.loop-index.index) = search rules in
    c.in_ok-push.ensures.items
    ∙ ap (λ x. x ++ c.in-Some.list ∷ []) c.loop-index.invariant
    ∙ ap (λ x. kept_lists t f (take c.loop-index.index t) c.args.lists.now ++ option_to_list x) prefix
    ∙ sym (kept_further t f t c.args.lists.now c.loop-index.index)

pub loop-index-preserved-in_default : goal.loop-index-preserved-in_default
loop-index-preserved-in_default g c =
    let t = g.E.LogEntry.table c.args.moves.now in
    let f = g.E.LogEntry.moved c.args.moves.now in
    let prefix : None ≡ cut_at t f (kept_of (slice_get t c.loop-index.index)) (slice_get c.args.lists.now
    c.loop-index.index) = search rules in
    c.loop-index.invariant
    ∙ sym (append-nil (kept_lists t f (take c.loop-index.index t) c.args.lists.now))
    ∙ ap (λ x. kept_lists t f (take c.loop-index.index t) c.args.lists.now ++ option_to_list x) prefix
    ∙ sym (kept_further t f t c.args.lists.now c.loop-index.index)
