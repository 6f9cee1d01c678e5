use Rattle.std.proofs.Common.{◌≡◌, ◌∙◌, map, option_map, subst}
use Rattle.std.specs.Prelude.{Result, Ok, Err, IfOk}
use Rattle.mbe_tt.specs.Views.View.{trees}
use Rattle.mbe_semantics.specs.Readings.Verdict.{IsVerdict}
use Rattle.mbe_ops.specs.Views.{template_of}
use Rattle.mbe_parser.specs.RuleViews.{rule_of}
use Rattle.mbe_matcher.specs.MatchResults.{verdict_seen}
use Rattle.mbe_matcher.specs.Expected.{AreExpected, HasAmbiguousPair, expected_seen, pair_seen}
use Rattle.mbe.specs.MacroViews.{macro_of}
use Rattle.mbe.proofs.ChoiceLemmas.{seen_there}
use Rattle.mbe.proofs.ClosestLemmas.{all_checked}
use Rattle.mbe.proofs.macros.DeclarativeMacro.expectations.Goals as goal

pub expectations_of-requires : goal.expectations_of-requires
expectations_of-requires g c =
    all_checked (macro_of c.args.self.now) c.args.self.now.tells_refusal c.requires.checked _ _
    (seen_there rule_of c.args.self.now.rules.items _ _ c.requires.rule c.index-rule.ensures)

ok_to : {X E : Type 0} (r : Result X E) (P Q : X → Type 0) → ((x : X) → P x → Q x) → IfOk r P → IfOk r Q
ok_to (Ok x) P Q f p = f x p
ok_to (Err e) P Q f p = tt

pub returns : goal.returns
returns g c =
    let here = seen_there rule_of c.args.self.now.rules.items _ _ c.requires.rule c.index-rule.ensures in
    let h = g.G.FragmentGrammar.grammar c.args.grammar.now in
    let rule = rule_of c.index-rule.result.now in
    let pat = template_of c.index-rule.result.now.lhs in
    let same : trees c.remaining-argument.result ≡ c.args.tt.now.1 = c.remaining-argument.ensures ∙ c.iter.ensures in
    let r = c.expectations_of.result in
    let e = c.expectations_of.ensures in
    record {
      explains = ok_to r _ _ (λ w p. (rule, here, subst (λ f. IsVerdict h pat f (verdict_seen w.verdict)) same p))
          e.verdict;
      expectations = ok_to r _ _ (λ w p. (
        rule,
        here,
        subst (λ f. AreExpected h pat f (verdict_seen w.verdict) (map expected_seen w.expected.items)) same p,
      )) e.expected;
      are_ambiguous = ok_to r _ _ (λ w p. (
        rule,
        here,
        subst (λ f. HasAmbiguousPair h pat f (verdict_seen w.verdict) (option_map pair_seen w.ambiguity)) same p,
      )) e.ambiguity;
    }
