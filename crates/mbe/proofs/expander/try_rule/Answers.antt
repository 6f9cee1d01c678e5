use Rattle.std.proofs.Common.{◌≡◌, ◌∙◌, ap, sym, refl}
use Rattle.mbe_tt.specs.Views.View.{trees, group_of}
use Rattle.mbe_parser.specs.RuleViews.{rule_of}
use Rattle.mbe_matcher.specs.Fronts.{starts_with_wrong_token}
use Rattle.mbe.proofs.TriedLemmas.{unlike_tried}
use Rattle.mbe.proofs.expander.try_rule.Goals as goal

pub returns-then-starts_with_wrong_token : goal.returns-then-starts_with_wrong_token
returns-then-starts_with_wrong_token g c =
    let h = g.G.FragmentGrammar.grammar c.args.call.now.grammar.now in
    let input = group_of c.args.call.now.input in
    let site = c.args.call.now.site in
    let r = rule_of c.args.rule.now in
    let same : trees c.remaining.result ≡ input.1 = c.remaining.ensures ∙ c.iter.ensures in
    let law = g.met.G.FragmentGrammar.lawful c.args.call.now.grammar.now in
    let other = sym (ap (starts_with_wrong_token h.dialect r.reads) same)
    ∙ ap (λ d. starts_with_wrong_token d r.reads (trees c.remaining.result)) (sym c.dialect-dialect.ensures)
    ∙ (sym c.starts_with_wrong_token.ensures ∙ c.if-starts_with_wrong_token.true) in
    let both = unlike_tried h site input r law c.requires.checked other _ c.requires.trees
    refl in
    (both.0, both.1, (c.requires.checked, other))
