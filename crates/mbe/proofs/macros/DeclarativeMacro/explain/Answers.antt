use Rattle.std.proofs.Common.{subst}
use Rattle.std.specs.Prelude.{IfOk}
use Rattle.mbe_parser.specs.RuleViews.{rules_seen}
use Rattle.mbe_matcher.specs.MatchResults.{verdict_seen}
use Rattle.mbe.specs.RuleExplanation.{Explains}
use Rattle.mbe.proofs.macros.DeclarativeMacro.explain.Goals as goal

pub returns : goal.returns
returns g c =
    let h = g.G.FragmentGrammar.grammar c.args.grammar.now in
    let rs = rules_seen c.args.self.now.rules.items in
    record {
      explains = subst (λ t. IfOk c.explain_view.result (λ v. Explains h rs t.1 c.args.rule (verdict_seen v)))
          c.whole_view.ensures c.explain_view.ensures.explains;
    }
