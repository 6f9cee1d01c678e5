use Rattle.std.proofs.Common.{rules, refl, subst, sym}
use Rattle.mbe_session.specs.LineEndings.{IsAscending}
use Rattle.mbe_session.proofs.ReturnLemmas.{returns_rise, taken_out}
use Rattle.mbe_session.proofs.lines.Lines.of.Goals as goal

pub invariant_of-result : goal.invariant_of-result
invariant_of-result g c = record {
  table = search rules;
  ascending = subst IsAscending (sym c.in_ok-returns.ensures) (returns_rise 0 c.args.text.now);
}

pub returns-clause-text : goal.returns-clause-text
returns-clause-text g c = taken_out c.in_ok-text.ensures.ok.0 c.args.text.now _ _ refl c.in_ok-text.ensures.ok.1
