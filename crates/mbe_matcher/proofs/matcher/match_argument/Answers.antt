use Rattle.std.proofs.Common.{◌≡◌, ◌∙◌, [], sym, ap, subst}
use Rattle.std.specs.Prelude.{IsSome, IsNone, IfSome, ◌↔◌}
use Rattle.std.proofs.lemmas.Result.{IfOk-weaker}
use Rattle.mbe_tt.specs.Views.View.{trees}
use Rattle.mbe_semantics.specs.Readings.Verdict.{IsVerdict, unmatched, one_reading}
use Rattle.mbe_semantics.specs.Bindings.Account.{HasEntriesOf}
use Rattle.mbe_ops.specs.Errors.ErrorViews.{errors_of}
use Rattle.mbe_log.proofs.ClientLemmas.{kept-on}
use Rattle.mbe_ops.specs.Views.{template_of}
use Rattle.mbe_matcher.specs.MatchResults.{verdict_seen, Binds}
use Rattle.mbe_threads.specs.Stops.{verdict_in, reading_in}
use Rattle.mbe_matcher.specs.Reports.{IsReported}
use Rattle.mbe_matcher.proofs.MatchEnds.{no_reading, both_ok, stop_has_entries}
use Rattle.mbe_matcher.proofs.Reporting.{report_entries}
use Rattle.mbe_matcher.proofs.matcher.match_argument.Goals as goal

pub failed-requires : goal.failed-requires
failed-requires g c =
    let is = c.in_ok-reached-2.ensures.report in
    report_entries c.with_all_reported.new.log (trees c.args.argument) c.in_ok-reached-2.reached.report [] is.0 is.2

pub returns-in-OneReading-clause-entries : goal.returns-in-OneReading-clause-entries
returns-in-OneReading-clause-entries g c =
    let log = c.run_first_pass.new.log in
    let there = stop_has_entries (g.G.FragmentGrammar.grammar c.args.grammar.now) (template_of c.args.pattern.now)
    (trees c.args.argument) log c.in_ok-reached.reached.stop c.in_ok-reached.ensures.binds in
    let closure : HasEntriesOf log c.in-OneReading.bindings =
    subst (λ s. IfSome (reading_in s) (HasEntriesOf log)) c.in-OneReading.is there in
    rw c.again.ensures closure

pub returns-clause-verdict : goal.returns-clause-verdict
returns-clause-verdict g c =
    let is = IsVerdict (g.G.FragmentGrammar.grammar c.args.grammar.now) (template_of c.args.pattern.now)
    (trees c.args.argument) in
    let same = ap verdict_in c.in_ok-reached-2.ensures.stop in
    IfOk-weaker c.failed.result (λ m. verdict_seen m.verdict ≡ verdict_in c.in_ok-reached-2.reached.stop)
    (λ m. is (verdict_seen m.verdict))
    (λ m e. subst is (sym (e ∙ same)) c.in_ok-reached.ensures.verdict) c.failed.ensures.verdict

pub returns-clause-unmatched : goal.returns-clause-unmatched
returns-clause-unmatched g c =
    let same = ap verdict_in c.in_ok-reached-2.ensures.stop in
    both_ok c.failed.result (λ m. verdict_seen m.verdict ≡ verdict_in c.in_ok-reached-2.reached.stop)
    (λ m. m.unmatched ≡ c.in_ok-reached-2.reached.unmatched)
    (λ m. m.unmatched ≡ unmatched (trees c.args.argument) (verdict_seen m.verdict))
    (λ m e u. u ∙ c.in_ok-reached-2.ensures.unmatched ∙ c.in_ok-reached.ensures.unmatched
    ∙ ap (unmatched (trees c.args.argument)) (sym (e ∙ same)))
    c.failed.ensures.verdict c.failed.ensures.unmatched

pub returns-clause-binds : goal.returns-clause-binds
returns-clause-binds g c =
    let same = ap verdict_in c.in_ok-reached-2.ensures.stop in
    IfOk-weaker c.failed.result (λ m. verdict_seen m.verdict ≡ verdict_in c.in_ok-reached-2.reached.stop)
    (λ m. verdict_seen m.verdict ≡ one_reading
    → Binds (g.G.FragmentGrammar.grammar c.args.grammar.now) (template_of c.args.pattern.now)
    (trees c.args.argument) c.failed.new.log m.bindings)
    (λ m e one. absurd (no_reading c.in_ok-reached.reached.stop c.in_default.not-OneReading (sym (e ∙ same) ∙ one)))
    c.failed.ensures.verdict

pub returns-clause-err : goal.returns-clause-err
returns-clause-err g c =
    let same = ap verdict_in c.in_ok-reached-2.ensures.stop in
    both_ok c.failed.result (λ m. verdict_seen m.verdict ≡ verdict_in c.in_ok-reached-2.reached.stop)
    (λ m. IsSome (errors_of m.err))
    (λ m. IsNone (errors_of m.err) ↔ (verdict_seen m.verdict ≡ one_reading))
    (λ m e some. (
      λ none. let no = sym some
          ∙ none in cc,
      λ one. absurd (no_reading c.in_ok-reached.reached.stop c.in_default.not-OneReading
          (sym (e ∙ same) ∙ one)),
    ))
    c.failed.ensures.verdict c.failed.ensures.err

pub returns-clause-kept : goal.returns-clause-kept
returns-clause-kept g c =
    c.failed.ensures.kept c.args.log.now (kept-on c.args.log.now c.run_first_pass.new.log c.with_all_reported.new.log
    c.in_ok-reached.ensures.kept c.in_ok-reached-2.ensures.kept)

pub returns-clause-reports : goal.returns-clause-reports
returns-clause-reports g c =
    let v = verdict_in c.in_ok-reached-2.reached.stop in
    let h = g.G.FragmentGrammar.grammar c.args.grammar.now in
    let pat = template_of c.args.pattern.now in
    let f = trees c.args.argument in
    both_ok c.failed.result (λ m. verdict_seen m.verdict ≡ v)
    (λ m. IfSome (errors_of m.err) (λ e. IsReported h pat f c.args.around c.failed.new.log v e m.bindings))
    (λ m. IfSome (errors_of m.err) (λ e. IsReported h pat f c.args.around c.failed.new.log (verdict_seen m.verdict) e
    m.bindings))
    (λ m is r. subst (λ w. IfSome (errors_of m.err)
    (λ e. IsReported h pat f c.args.around c.failed.new.log w e m.bindings)) (sym is) r)
    c.failed.ensures.verdict (c.failed.ensures.reports pat f (sym c.flat_len.ensures) c.in_ok-reached-2.ensures.report)
