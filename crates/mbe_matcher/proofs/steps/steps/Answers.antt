use Rattle.std.proofs.Common.{arith, sym}
use Rattle.mbe_matcher.proofs.StepLemmas.{first_op, no_op}
use Rattle.mbe_matcher.proofs.steps.steps.Goals as goal

pub end_steps-requires-clause-tail : goal.end_steps-requires-clause-tail
end_steps-requires-clause-tail g c = no_op c.args.thread.tail.now (omega (arith, c.in-empty.len_below))

pub op_steps-requires-clause-tail : goal.op_steps-requires-clause-tail
op_steps-requires-clause-tail g c = first_op c.args.thread.tail.now c.op-item.result c.in-len1-up.len_at_least
    c.op-item.is

pub returns-in-empty : goal.returns-in-empty
returns-in-empty g c = λ o s. (rw c.deref.ensures.value at c.end_steps.ensures)
    (g.G.FragmentGrammar.grammar c.args.grammar.now) (sym c.dialect.ensures) o s
