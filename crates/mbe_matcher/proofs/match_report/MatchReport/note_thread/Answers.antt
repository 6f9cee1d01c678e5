use Rattle.std.proofs.Common.{◌≡◌, ◌∙◌, ◌++◌, inl, inr, true, Some, None, option_to_list, refl, sym, ap, subst}
use Rattle.mbe_tt.specs.Views.View.{trees}
use Rattle.mbe_semantics.specs.Syntax.Op.{op as op_then}
use Rattle.mbe_ops.specs.Views.{op_of, ops_of}
use Rattle.mbe_matcher.specs.Failures.{Mismatch, mismatch_unless, reports_error, remaining_ops, bound_by}
use Rattle.mbe_matcher.specs.declared.match_report.Mismatch.{Mismatch as Kept}
use Rattle.mbe_matcher.specs.declared.match_report.MatchReport.{MatchReport}
use Rattle.mbe_matcher.specs.Reports.{IsMismatch, IsReportOf}
use Rattle.mbe_matcher.proofs.Reporting.{mismatch_more, mismatch_none, no_ops_mismatch, step_mismatch, plain_mismatch}
use Rattle.mbe_matcher.proofs.Reporting.{noted_mismatch, no_item, First, first_in}
use Rattle.mbe_matcher.proofs.match_report.MatchReport.note_thread.Goals.{then-has_step-via-then-has_step}
use Rattle.mbe_matcher.proofs.match_report.MatchReport.note_thread.Goals.{then-has_step-via-else-has_step+then-not-reports_error}
use Rattle.mbe_matcher.proofs.match_report.MatchReport.note_thread.Goals.{then-is_none, else-is_none}
use Rattle.mbe_matcher.proofs.match_report.MatchReport.note_thread.Goals as goal

pub returns-in_default : goal.returns-in_default
returns-in_default g c = λ log o ms before at closure r.
    let q = c.args.source.now.offset in
    let none = ap ops_of (no_item c.args.tail.now c.in_default.ensures.cases) in
    mismatch_none log (trees c.args.source.now.whole) c.args.self.now ms (mismatch_unless c.args.has_step q o) before
    (no_ops_mismatch c.args.has_step q o (sym at ∙ none)) r

pub returns-then-has_step : goal.returns-then-has_step
returns-then-has_step g c = λ log o ms before at closure r.
    let q = c.args.source.now.offset in
    let first : remaining_ops o ≡ op_then (op_of c.in-Some.op.now) (ops_of c.in-Some._rest.now) =
    sym at ∙ ap ops_of c.in-Some.ensures.cases.0 in
    let none : mismatch_unless c.args.has_step q o ≡ None = elim c.then-has_step.branch [
      | then-has_step-via-then-has_step w ↦ ap (λ b. mismatch_unless b q o) w.if-has_step.true ∙ step_mismatch q o
      | then-has_step-via-else-has_step+then-not-reports_error w ↦
          plain_mismatch c.args.has_step q o (op_of c.in-Some.op.now) (ops_of c.in-Some._rest.now) first
          (sym w.reports_error.ensures ∙ w.if-not-reports_error.true)
    ] in
    mismatch_none log (trees c.args.source.now.whole) c.args.self.now ms (mismatch_unless c.args.has_step q o) before
    none r

pub returns : goal.returns
returns g c = λ log o ms before at closure r.
    let q = c.args.source.now.offset in
    let first : remaining_ops o ≡ op_then (op_of c.in-Some.op.now) (ops_of c.in-Some._rest.now) =
    sym at ∙ ap ops_of c.in-Some.ensures.cases.0 in
    let s : Mismatch = record { op = op_of c.in-Some.op.now; offset = q; bound = bound_by o } in
    let error_at : reports_error (op_of c.in-Some.op.now) ≡ true =
    sym c.reports_error.ensures ∙ c.if-not-reports_error.false in
    let one : mismatch_unless c.args.has_step q o ≡ Some s =
    ap (λ b. mismatch_unless b q o) c.if-has_step.false
    ∙ noted_mismatch q o (op_of c.in-Some.op.now) (ops_of c.in-Some._rest.now) first error_at in
    let f = trees c.args.source.now.whole in
    let m : Kept g.row.A.Denot = record { op = c.in-Some.op; here = c.here-2.result } in
    let here : IsMismatch f m s = record { op = refl; here = c.here-2.ensures } in
    let new : MatchReport g.row.A.Denot = record {
      first = c.if-is_none.self.first;
      last = Some (record { handle = c.args.handle; mismatch = Some m });
      failed_here = true;
    } in
    let from : First f c.args.self.now new s = elim c.if-is_none.branch [
      | then-is_none w ↦ inl (
        w.if-is_none.ensures,
        (
          record { op = c.in-Some.op; here = w.here.result },
          ap first_in w.self-is,
          record { op = refl; here = w.here.ensures },
        ),
      )
      | else-is_none w ↦ inr (w.if-is_none.ensures, ap first_in w.self-is)
    ] in
    subst (λ x. IsReportOf log f new (ms ++ option_to_list x) before) (sym one)
    (mismatch_more log f c.args.self.now new m c.args.handle ms s before r from refl here closure refl)
