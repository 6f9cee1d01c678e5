use Rattle.std.proofs.Common.{map, ap, sym, subst, Some, ◌∙◌}
use Rattle.std.specs.Prelude.{option_map}
use Rattle.mbe.specs.MacroViews.{macro_of}
use Rattle.mbe_tt.specs.Views.View.{trees}
use Rattle.mbe_semantics.specs.Readings.Verdict.{stop_of}
use Rattle.mbe_matcher.specs.MatchResults.{verdict_seen}
use Rattle.mbe_matcher.specs.Expected.{pair_seen, expected_seen}
use Rattle.mbe_matcher.specs.Readings.Views.{divergence_seen}
use Rattle.mbe_session.specs.Explanation.{PointsTo, at_divergence, at_stop}
use Rattle.mbe_session.proofs.ExplainLemmas.{rule_says, stops_there, not_many}
use Rattle.mbe_session.proofs.explanation.outcome_of_rule.Goals as goal

pub returns-in-ManyReadings : goal.returns-in-ManyReadings
returns-in-ManyReadings g c =
    let h = g.G.FragmentGrammar.grammar c.args.grammar.now in
    let rs = (macro_of c.args.rules.now).rules in
    let argument = c.args.argument.now in
    let p = divergence_seen c.in_ok-divergence-in-ManyReadings.divergence in
    let two = Some (p.one, p.other) in
    record {
      match_outcome =
          rule_says c.diverging_outcome.result h rs argument c.args.index c.in_ok-expectations.expectations.verdict
          (map expected_seen c.in_ok-expectations.expectations.expected.items) p.offset two
          (trees c.remaining-tokens.result)
          c.top_subtree.result.now.delimiter.close (c.remaining-tokens.ensures ∙ c.iter.ensures)
          (ap (λ d. d.close) c.top_subtree.ensures) c.in_ok-expectations.ensures.explains
          c.in_ok-expectations.ensures.expectations
          (subst (λ v. PointsTo h rs argument.1 c.args.index (verdict_seen v) p.offset two) (sym c.in-ManyReadings.is)
          (at_divergence p c.in_ok-divergence-in-ManyReadings.ensures))
          c.diverging_outcome.ensures.verdict c.diverging_outcome.ensures.place c.diverging_outcome.ensures.expected
          c.diverging_outcome.ensures.two;
    }

pub returns : goal.returns
returns g c =
    let h = g.G.FragmentGrammar.grammar c.args.grammar.now in
    let rs = (macro_of c.args.rules.now).rules in
    let argument = c.args.argument.now in
    let v = verdict_seen c.in_ok-expectations.expectations.verdict in
    let ambiguity = option_map pair_seen c.in_ok-expectations.expectations.ambiguity in
    let tokens = trees c.remaining-tokens.result in
    let close = c.top_subtree.result.now.delimiter.close in
    let same = c.remaining-tokens.ensures ∙ c.iter.ensures in
    record {
      match_outcome =
          rule_says c.match_outcome.result h rs argument c.args.index c.in_ok-expectations.expectations.verdict
          (map expected_seen c.in_ok-expectations.expectations.expected.items) (stop_of argument.1 v) ambiguity tokens
          close same
          (ap (λ d. d.close) c.top_subtree.ensures) c.in_ok-expectations.ensures.explains
          c.in_ok-expectations.ensures.expectations
          (at_stop v ambiguity (not_many c.in_ok-expectations.expectations.verdict c.in-OneReading.is)
          c.in_ok-expectations.ensures.are_ambiguous)
          c.match_outcome.ensures.verdict
          (stops_there c.match_outcome.result v tokens close argument.1 same c.match_outcome.ensures.place)
          c.match_outcome.ensures.expected c.match_outcome.ensures.ambiguity;
    }
