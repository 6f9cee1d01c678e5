use Rattle.std.proofs.Common.{◌∙◌, subst}
use Rattle.std.specs.Prelude.{option_map}
use Rattle.mbe.specs.MacroViews.{macro_of}
use Rattle.mbe_matcher.specs.Readings.Views.{divergence_seen}
use Rattle.mbe_matcher.specs.Readings.Divergence.{IsDivergence}
use Rattle.mbe_session.proofs.ExplainLemmas.{part_somewhere, parts_there}
use Rattle.mbe_session.proofs.explanation.divergence_of.Goals as goal

pub unreachable-requires : goal.unreachable-requires
unreachable-requires g c =
    let h = g.G.FragmentGrammar.grammar c.args.grammar.now in
    let rs = (macro_of c.args.rules.now).rules in
    let argument = c.args.argument.now.1 in
    let found = parts_there h rs argument c.args.index _ _ (option_map divergence_seen c.in_ok-divergence.field-0)
    c.pattern-pattern.ensures (c.remaining-tokens.ensures ∙ c.iter.ensures) c.in_ok-divergence.ensures in
    part_somewhere h rs argument c.args.index found.0 found.1 c.requires.several
    (subst (λ o. IsDivergence h found.0.reads argument (option_map divergence_seen o)) c.in_default.is found.2)

pub returns : goal.returns
returns g c =
    let h = g.G.FragmentGrammar.grammar c.args.grammar.now in
    let rs = (macro_of c.args.rules.now).rules in
    let argument = c.args.argument.now.1 in
    let found = parts_there h rs argument c.args.index _ _ (option_map divergence_seen c.in_ok-divergence.field-0)
    c.pattern-pattern.ensures (c.remaining-tokens.ensures ∙ c.iter.ensures) c.in_ok-divergence.ensures in (
      found.0,
      found.1,
      subst (λ o. IsDivergence h found.0.reads argument (option_map divergence_seen o)) c.in-Some.is found.2,
    )
