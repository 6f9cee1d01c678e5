use Rattle.std.proofs.Common.{◌≡◌, ◌∙◌, true, sym, ap}
use Rattle.std.specs.Prelude.{is_some}
use Rattle.mbe_semantics.specs.Syntax.Op.{op as op_then}
use Rattle.mbe_ops.specs.Views.{op_of, ops_of}
use Rattle.mbe_matcher.specs.Failures.{reports_error, mismatch_unless, remaining_ops}
use Rattle.mbe_matcher.proofs.Reporting.{step_mismatch, plain_mismatch, noted_mismatch}
use Rattle.mbe_matcher.proofs.report_pass.if_failed.Goals.{then-has_step-via-then-has_step}
use Rattle.mbe_matcher.proofs.report_pass.if_failed.Goals.{then-has_step-via-else-has_step+then-not-reports_error}
use Rattle.mbe_matcher.proofs.report_pass.if_failed.Goals as goal

pub returns-then-has_step : goal.returns-then-has_step
returns-then-has_step g c = λ log q o at closure.
    let first : remaining_ops o ≡ op_then (op_of c.in-Some.op.now) (ops_of c.in-Some._rest.now) =
    sym at ∙ ap ops_of c.in-Some.ensures.cases.0 in
    elim c.then-has_step.branch [
      | then-has_step-via-then-has_step w ↦ ap (λ b. mismatch_unless b q o) w.if-has_step.true ∙ step_mismatch q o
      | then-has_step-via-else-has_step+then-not-reports_error w ↦
          plain_mismatch c.args.has_step q o (op_of c.in-Some.op.now) (ops_of c.in-Some._rest.now) first
          (sym w.reports_error.ensures ∙ w.if-not-reports_error.true)
    ]

pub returns : goal.returns
returns g c = λ log q o at closure.
    let first : remaining_ops o ≡ op_then (op_of c.in-Some.op.now) (ops_of c.in-Some._rest.now) =
    sym at ∙ ap ops_of c.in-Some.ensures.cases.0 in
    let error_at : reports_error (op_of c.in-Some.op.now) ≡ true =
    sym c.reports_error.ensures ∙ c.if-not-reports_error.false in
    let some : is_some (mismatch_unless c.args.has_step q o) ≡ true =
    ap is_some (ap (λ b. mismatch_unless b q o) c.if-has_step.false
    ∙ noted_mismatch q o (op_of c.in-Some.op.now) (ops_of c.in-Some._rest.now) first error_at) in
    (some, at, closure)
