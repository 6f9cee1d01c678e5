use Rattle.std.proofs.Common.{◌∙◌, List, ◌++◌, ◌∷◌, [], map, take, option_map, sym, ap}
use Rattle.mbe_log.specs.Chain.{Chain, link_in}
use Rattle.mbe_bindings.specs.LogCompaction.{moved}
use Rattle.mbe_bindings.proofs.CompactSteps.{cut_further}
use Rattle.mbe_bindings.proofs.log_compaction.cut_list.Goals as goal

pub loop-index-preserved : goal.loop-index-preserved
loop-index-preserved g c =
    let f = g.E.LogEntry.moved c.args.moves.now in
    let link = option_map (moved (g.E.LogEntry.table c.args.moves.now)) (link_in c.args.list.now.link c.args.first) in
    let own = c.args.list.now.own in
    let with : List _ → Chain _ = λ x. record { link = link; own = x } in
    c.in_ok-push.ensures.ok
    ∙ ap (λ (l : Chain _). record {
      link = l.link;
      own = l.own ++ c.in_ok-moved.field-0 ∷ [];
    }) c.loop-index.invariant
    ∙ ap (λ x. with (map f (take c.loop-index.index own) ++ x ∷ [])) c.in_ok-moved.ensures
    ∙ ap with
    (sym (cut_further f own c.loop-index.index c.own_at.result.now c.own_at.ensures))
