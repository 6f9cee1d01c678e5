use Rattle.std.proofs.Common.{◌++◌, sym, ap, subst}
use Rattle.std.specs.List.{filter_map}
use Rattle.mbe_tt.specs.Views.View.{trees}
use Rattle.mbe_matcher.specs.declared.report_pass.ReportPass.{ReportPass}
use Rattle.mbe_matcher.specs.Failures.{mismatch}
use Rattle.mbe_matcher.specs.Reports.{IsReportOf}
use Rattle.mbe_matcher.specs.FirstAndLast.{only_first}
use Rattle.mbe_matcher.specs.ReportPass.{FirstFails}
use Rattle.mbe_matcher.proofs.LastWalk.{look_last, look_none}
use Rattle.mbe_matcher.proofs.report_pass.ReportPass.finish_offset.Goals as goal
use Rattle.mbe_matcher.proofs.report_pass.ReportPass.finish_offset.Goals.{in-Some, in_default}

pub returns-clause-notes : goal.returns-clause-notes
returns-clause-notes g c = λ i log ms os cs before fails ends is.
    let q = c.args.source.now.offset in
    let f = trees c.args.source.now.whole in
    let all = ms ++ only_first (filter_map (mismatch i q) os) in
    let error_at : IsReportOf log f c.match-last.self.report all before =
    elim c.match-last.branch [
      | in-Some w ↦ subst (λ r. IsReportOf log f r all before)
          (sym (ap (λ (p : ReportPass g.row.A.Denot). p.report) w.self-is))
          (look_last i q log os w.in-Some.failed f c.args.self.now.report w.note_thread.new.self ms before
          (subst (λ x. FirstFails i q log x os) w.in-Some.is fails) w.note_thread.ensures is)
      | in_default w ↦ subst (λ r. IsReportOf log f r all before)
          (sym (ap (λ (p : ReportPass g.row.A.Denot). p.report) w.self-is))
          (look_none i q log os f c.args.self.now.report ms before
          (subst (λ x. FirstFails i q log x os) w.in_default.is fails) is)
    ] in
    c.finish_offset.ensures log f all cs before ends error_at
