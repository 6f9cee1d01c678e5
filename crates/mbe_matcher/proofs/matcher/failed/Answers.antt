use Rattle.std.proofs.Common.{◌∙◌, ◌==◌, refl, sym, ap}
use Rattle.mbe_semantics.specs.Readings.Verdict.{stop_of}
use Rattle.mbe_log.proofs.ClientLemmas.{kept-on}
use Rattle.mbe_matcher.specs.Failures.{error_of_notes, commands_of_notes}
use Rattle.mbe_threads.specs.Stops.{verdict_in}
use Rattle.mbe_matcher.proofs.matcher.failed.Goals as goal

pub returns-clause-kept : goal.returns-clause-kept
returns-clause-kept g c = λ first k. kept-on first c.args.log.now c.bindings.new.log k c.in_ok-bindings.ensures.kept

pub returns-clause-reports : goal.returns-clause-reports
returns-clause-reports g c = λ pattern f at is.
    let h = g.G.FragmentGrammar.grammar c.args.grammar.now in
    let stop = stop_of f (verdict_in c.args.reached.stop) in
    let error = c.in_ok-err.ensures c.args.log.now f is.0 is.2 in
    let at_end =
    ap (λ n. error_of_notes h f c.args.around (n == c.args.length) is.0) (c.offset_of.ensures f at)
    ∙ ap (λ n. error_of_notes h f c.args.around (stop == n) is.0) (sym at) in (
      commands_of_notes h f is.0.last,
      c.in_ok-bindings.ensures.notes f is.0 is.2,
      record { notes = is.0; error_at = is.1; error = error ∙ at_end; bindings = refl },
    )
