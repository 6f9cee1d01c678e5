use Rattle.std.proofs.Common.{◌∙◌, arith}
use Rattle.std.proofs.lemmas.Result.{err_from_is_err_and}
use Rattle.mbe_text.proofs.TailLemmas.{string_on, end_on}
use Rattle.mbe_text.proofs.escapes.check_string.Goals as goal

pub parts-preserved : goal.parts-preserved
parts-preserved c =
    let next = c.in_ok-rest.ensures in
    let step = c.in-Some.ensures in
    record {
      utf8 = next.text;
      exact = string_on _ _ _ _ _ step.chars next.exact ∙ c.parts.invariant.exact;
      end = end_on _ _ _ c.parts.invariant.end (next.end (omega (arith, step.shorter), step.end));
    }

pub returns-in_err-rest-clause-place : goal.returns-in_err-rest-clause-place
returns-in_err-rest-clause-place c =
    let p = err_from_is_err_and c.from_residual.result c.from_residual.ensures.1 in
    let step = c.in-Some.ensures in
    rw (p.1, p.2) (end_on _ _ _ c.parts.invariant.end
    (c.in_err-rest.ensures.end (omega (arith, step.shorter), step.end)))
