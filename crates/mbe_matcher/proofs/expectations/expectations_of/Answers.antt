use Rattle.std.proofs.Common.{◌≡◌, ◌∙◌, map, option_map, sym, ap, subst}
use Rattle.mbe_tt.specs.Views.View.{trees}
use Rattle.mbe_semantics.specs.Readings.Verdict.{IsVerdict}
use Rattle.mbe_ops.specs.Views.{template_of}
use Rattle.mbe_threads.specs.Stops.{verdict_in}
use Rattle.mbe_matcher.specs.Expected.{AreExpected, HasAmbiguousPair, expected_seen, pair_seen, next_step_seen, next_in}
use Rattle.mbe_matcher.specs.Expected.{first_ambiguity}
use Rattle.mbe_matcher.proofs.ExpectedLemmas.{are_wanted, ambiguity_there}
use Rattle.mbe_matcher.proofs.expectations.expectations_of.Goals as goal

pub returns-clause-verdict : goal.returns-clause-verdict
returns-clause-verdict g c =
    let h = g.G.FragmentGrammar.grammar c.args.grammar.now in
    subst (IsVerdict h (template_of c.args.pattern.now) (trees c.args.argument)) (sym c.verdict_of.ensures)
    c.in_ok-at_stop.ensures.verdict

pub returns-clause-expected : goal.returns-clause-expected
returns-clause-expected g c =
    let h = g.G.FragmentGrammar.grammar c.args.grammar.now in
    let pat = template_of c.args.pattern.now in
    let argument = trees c.args.argument in
    let v = verdict_in c.in_ok-at_stop.at_stop.stop in
    let next_steps = c.in_ok-at_stop.at_stop.next_steps.items in
    let found = map expected_seen c.in_ok-next_in.field-0.items in
    let listed : found ≡ next_in (map next_step_seen next_steps) =
    c.in_ok-next_in.ensures ∙ ap (λ l. next_in (map next_step_seen l)) c.deref.ensures.value in
    subst (λ x. AreExpected h pat argument x found) (sym c.verdict_of.ensures)
    (subst (AreExpected h pat argument v) (sym listed)
    (are_wanted h pat argument v next_steps c.in_ok-at_stop.ensures.next_steps))

pub returns-clause-ambiguity : goal.returns-clause-ambiguity
returns-clause-ambiguity g c =
    let h = g.G.FragmentGrammar.grammar c.args.grammar.now in
    let pat = template_of c.args.pattern.now in
    let argument = trees c.args.argument in
    let v = verdict_in c.in_ok-at_stop.at_stop.stop in
    let next_steps = c.in_ok-at_stop.at_stop.next_steps.items in
    let pair = option_map pair_seen c.first_ambiguity.result in
    let found : pair ≡ first_ambiguity (map next_step_seen next_steps) =
    c.first_ambiguity.ensures ∙ ap (λ l. first_ambiguity (map next_step_seen l)) c.deref-2.ensures.value in
    subst (λ x. HasAmbiguousPair h pat argument x pair) (sym c.verdict_of.ensures)
    (subst (HasAmbiguousPair h pat argument v) (sym found)
    (ambiguity_there h pat argument v next_steps c.in_ok-at_stop.ensures.next_steps))
