use Rattle.std.proofs.Common.{sym, subst}
use Rattle.mbe_tt.specs.Views.View.{trees}
use Rattle.mbe_ops.specs.Views.{template_of}
use Rattle.mbe_threads.specs.Stops.{verdict_in}
use Rattle.mbe_matcher.specs.Reports.{IsFullReport}
use Rattle.mbe_matcher.proofs.matcher.with_all_reported.Goals as goal

pub report_up_to-requires-clause-stop : goal.report_up_to-requires-clause-stop
report_up_to-requires-clause-stop g c = (
  verdict_in c.args.reached.stop,
  c.requires.verdict,
  c.offset_of-stop.ensures (trees c.args.argument) (sym c.flat_len.ensures),
)

pub returns-clause-report : goal.returns-clause-report
returns-clause-report g c =
    let h = g.G.FragmentGrammar.grammar c.args.grammar.now in
    subst (λ q. IsFullReport h (template_of c.args.pattern.now) (trees c.args.argument) c.report_up_to.new.log q
    c.in_ok-report.report)
    (c.offset_of-stop.ensures (trees c.args.argument) (sym c.flat_len.ensures)) c.in_ok-report.ensures.report
