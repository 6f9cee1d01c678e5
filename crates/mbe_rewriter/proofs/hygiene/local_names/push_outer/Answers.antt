use Rattle.std.proofs.Common.{map}
use Rattle.mbe_rewriter.specs.Hygiene.EventViews.{word_of, context_parents_of}
use Rattle.mbe_rewriter.proofs.Renaming.NestLemmas.{outer_on, outer_stop, outer_all}
use Rattle.mbe_rewriter.proofs.hygiene.local_names.push_outer.Goals as goal

pub contexts-preserved : goal.contexts-preserved
contexts-preserved g c =
    outer_on (context_parents_of c.args.context_parents) (word_of c.args.word) c.contexts.left c.contexts.number
    c.context_before-before.result (map word_of c.contexts.found.items) (map word_of c.push_inner.new.found.items) _
    c.contexts-test.true c.context_before-before.ensures c.if-before-context_parents.false c.in_ok-push_inner.ensures
    c.contexts.invariant

pub returns-then-before-context_parents : goal.returns-then-before-context_parents
returns-then-before-context_parents g c =
    outer_stop (context_parents_of c.args.context_parents) (word_of c.args.word) c.contexts.left c.contexts.number
    c.context_before-before.result (map word_of c.contexts.found.items) _ c.contexts-test.true
    c.context_before-before.ensures c.if-before-context_parents.true c.contexts.invariant

pub returns : goal.returns
returns g c =
    outer_all (context_parents_of c.args.context_parents) (word_of c.args.word) c.contexts.left c.contexts.number
    (map word_of c.contexts.found.items) _ c.contexts-test.false c.contexts.invariant
