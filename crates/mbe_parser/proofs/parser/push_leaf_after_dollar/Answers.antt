use Rattle.mbe_parser.specs.ParserResults.{mode_of}
use Rattle.mbe_parser.proofs.ReaderLemmas as lemmas
use Rattle.mbe_parser.proofs.parser.push_leaf_after_dollar.Goals as goal

pub returns-in-Literal-clause-op : goal.returns-in-Literal-clause-op
returns-in-Literal-clause-op g c = rw c.in-Literal.is c.push_literal_after_dollar.ensures.op

pub returns-in-Literal-clause-fault : goal.returns-in-Literal-clause-fault
returns-in-Literal-clause-fault g c = rw c.in-Literal.is c.push_literal_after_dollar.ensures.fault

pub returns-in-Punct-clause-op : goal.returns-in-Punct-clause-op
returns-in-Punct-clause-op g c =
    rw c.in-Punct.is (lemmas.punct_pushed _ (mode_of c.args.mode) c.push_punct_after_dollar.result _ _ c.in-Punct.punct
    c.args.src.now c.push_punct_after_dollar.ensures.op)

pub returns-in-Punct-clause-fault : goal.returns-in-Punct-clause-fault
returns-in-Punct-clause-fault g c =
    rw c.in-Punct.is (lemmas.stopped c.push_punct_after_dollar.result _ _ (λ f h d. h d c.args.src.now)
    c.push_punct_after_dollar.ensures.fault)
