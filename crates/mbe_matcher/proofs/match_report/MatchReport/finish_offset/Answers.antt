use Rattle.std.proofs.Common.{◌∙◌, false, None, Some, refl, sym, subst}
use Rattle.mbe_matcher.specs.declared.match_report.MatchReport.{MatchReport}
use Rattle.mbe_matcher.specs.Threads.{Both}
use Rattle.mbe_matcher.specs.Failures.{source_of}
use Rattle.mbe_matcher.specs.Reports.{IsSource}
use Rattle.mbe_matcher.proofs.Reporting.{offset_noted, last_failed, none_ended, end_noted}
use Rattle.mbe_matcher.proofs.match_report.MatchReport.finish_offset.Goals as goal

pub returns-then-self : goal.returns-then-self
returns-then-self g c = λ log f ms cs before ended r.
    let old = c.args.self.now in
    let new : MatchReport g.row.A.Denot = record { first = old.first; last = old.last; failed_here = false } in
    let last = subst (λ o. Both (IsSource log f) old.last o)
    (last_failed ms cs before.last (sym r.here ∙ c.if-self.true)) r.last in
    offset_noted log f old new ms cs before r refl last refl

pub returns-in_default : goal.returns-in_default
returns-in_default g c = λ log f ms cs before ended r.
    let old = c.args.self.now in
    let last = subst (λ l. Both (IsSource log f) old.last (source_of ms l before.last))
    (sym (none_ended log c.args.ends.now cs ended c.in_default.ensures.value)) r.last in
    offset_noted log f old old ms cs before r refl last c.if-self.false

pub returns : goal.returns
returns g c = λ log f ms cs before ended r.
    let old = c.args.self.now in
    let new : MatchReport g.row.A.Denot = record {
      first = old.first;
      last = Some (record { handle = c.again.result; mismatch = None });
      failed_here = old.failed_here;
    } in
    let last = end_noted g.row.A.Denot log f ms cs before.last c.args.ends.now c.in-Some.end.now c.again.result ended
    c.in-Some.ensures.value c.again.ensures (sym r.here ∙ c.if-self.false) in
    offset_noted log f old new ms cs before r refl last c.if-self.false
