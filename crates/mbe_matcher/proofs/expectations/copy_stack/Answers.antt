use Rattle.std.proofs.Common.{◌∙◌, ◌++◌, ◌∷◌, [], ap, sym, take}
use Rattle.std.proofs.lemmas.List.{take_more}
use Rattle.mbe_matcher.proofs.expectations.copy_stack.Goals as goal

pub loop-thread-preserved : goal.loop-thread-preserved
loop-thread-preserved g c =
    let more = take_more c.args.stack.now c.loop-thread.thread-index c.thread-item.result
    c.loop-thread-test.true in
    c.in_ok-push.ensures.items
    ∙ (ap (λ xs. xs ++ c.again.result ∷ []) c.loop-thread.invariant
    ∙ (ap (λ x. take c.loop-thread.thread-index c.args.stack.now ++ x ∷ []) (c.again.ensures ∙ c.thread-item.is)
    ∙ sym more))
