use Rattle.mbe_text.proofs.TailLemmas.{end_on}
use Rattle.mbe_text.proofs.rust_tokens.doc.Goals as goal

pub returns-in-Some-clause-end : goal.returns-in-Some-clause-end
returns-in-Some-clause-end c =
    end_on _ _ _ (end_on _ _ _ c.tail.ensures.end (end_on _ _ _ c.tail-2.ensures.end c.tail-body.ensures.end))
    (c.doc_until-in-Some.ensures.end (end_on _ _ _ c.in-Some.ensures.end
    (end_on _ _ _ c.tail-in-Some.ensures.end c.tail-in-Some-2.ensures.end)))

pub returns-then-begins_with-2-clause-end : goal.returns-then-begins_with-2-clause-end
returns-then-begins_with-2-clause-end c =
    end_on _ _ _ (end_on _ _ _ c.tail.ensures.end (end_on _ _ _ c.tail-2.ensures.end c.tail-body.ensures.end))
    (c.doc_until.ensures.end c.past-end.ensures.end)
