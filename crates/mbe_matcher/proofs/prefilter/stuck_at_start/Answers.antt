use Rattle.std.proofs.Common.{[], false, option_to_list, refl, ap, subst}
use Rattle.mbe_tt.specs.Views.View.{trees}
use Rattle.mbe_semantics.specs.Bindings.Account.{no_account}
use Rattle.mbe_semantics.specs.Matching.ThreadModel.{thread_model}
use Rattle.mbe_ops.specs.Views.{ops_of, template_of}
use Rattle.mbe_matcher.specs.Failures.{no_notes, noted_with, mismatch_unless}
use Rattle.mbe_matcher.specs.Reports.{IsReportOf}
use Rattle.mbe_matcher.proofs.Starts.{begins_notes}
use Rattle.mbe_matcher.proofs.prefilter.stuck_at_start.Goals as goal

pub returns-clause-notes : goal.returns-clause-notes
returns-clause-notes g c = λ h law leaf_mismatch clean.
    let pat = template_of c.args.pattern.now in
    let f = trees c.args.argument in
    let log = c.alloc.new.self in
    let o = thread_model pat no_account [] in
    let s = c.new-source.result in
    let r = c.finish_offset.new.self in
    let at_stop = c.note_thread.ensures log o [] no_notes (ap ops_of c.deref.ensures.value)
    (no_account, c.in_ok-handle.ensures.account, refl) (c.new-report.ensures log (trees s.whole)) in
    let error_at =
    c.finish_offset.ensures log (trees s.whole) (option_to_list (mismatch_unless false s.offset o)) [] no_notes
    tt at_stop in (
      noted_with (option_to_list (mismatch_unless false 0 o)) [] no_notes,
      begins_notes h pat f law c.requires leaf_mismatch,
      subst (λ q. IsReportOf log f r [] (noted_with (option_to_list (mismatch_unless false q o)) [] no_notes))
          c.new-source.ensures.offset
          (subst (λ v. IsReportOf log (trees v) r []
          (noted_with (option_to_list (mismatch_unless false s.offset o)) [] no_notes)) c.new-source.ensures.whole
          error_at),
    )
