use Rattle.std.proofs.Common.{◌≡◌, ◌∙◌, subst}
use Rattle.mbe_tt.specs.Views.View.{trees, group_of}
use Rattle.mbe_semantics.specs.Readings.Verdict.{IsVerdict}
use Rattle.mbe_ops.specs.Views.{template_of}
use Rattle.mbe_parser.specs.RuleViews.{rule_of}
use Rattle.mbe_matcher.specs.MatchResults.{verdict_seen}
use Rattle.mbe.specs.MacroViews.{macro_of}
use Rattle.mbe.proofs.ChoiceLemmas.{seen_there}
use Rattle.mbe.proofs.ClosestLemmas.{all_checked}
use Rattle.mbe.proofs.macros.DeclarativeMacro.explain_view.Goals as goal

pub match_argument-requires : goal.match_argument-requires
match_argument-requires g c =
    all_checked (macro_of c.args.self.now) c.args.self.now.tells_refusal c.requires.checked _ _
    (seen_there rule_of c.args.self.now.rules.items _ _ c.requires.rule c.index-rule.ensures)

pub returns : goal.returns
returns g c =
    let here = seen_there rule_of c.args.self.now.rules.items _ _ c.requires.rule c.index-rule.ensures in
    let h = g.G.FragmentGrammar.grammar c.args.grammar.now in
    let v = verdict_seen c.in_ok-matched.matched.verdict in
    let same : trees c.remaining-argument.result ≡ (group_of c.args.tt).1 =
    c.remaining-argument.ensures ∙ c.iter.ensures in
    let right = subst (λ f. IsVerdict h (template_of c.index-rule.result.now.lhs) f v) same
    c.in_ok-matched.ensures.verdict in
    record { explains = (rule_of c.index-rule.result.now, here, right) }
