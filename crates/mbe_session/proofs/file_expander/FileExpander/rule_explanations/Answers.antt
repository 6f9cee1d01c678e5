use Rattle.std.proofs.Common.{◌+◌, ◌∙◌, ap, sym, subst, map, length, [], ◌∷◌, inl, rules}
use Rattle.std.proofs.lemmas.List.{length-map, length_push, map-append}
use Rattle.std.proofs.lemmas.Option.{none-some}
use Rattle.mbe.specs.MacroViews.{macro_of}
use Rattle.mbe_grammar.specs.Tables.Lawful.{grammar_of}
use Rattle.mbe_session.specs.Explanation.{ExplainsFirst, no_rule, one_more, HasOutcome, explanation_seen}
use Rattle.mbe_session.specs.BindingText.{HasBindingTexts}
use Rattle.mbe_session.specs.declared.explanation.RuleExplanation.{RuleExplanation}
use Rattle.mbe_session.proofs.CallLemmas.{not_there}
use Rattle.mbe_session.proofs.file_expander.FileExpander.rule_explanations.Goals as goal

pub loop-index-init : goal.loop-index-init
loop-index-init g c =
    let say =
    ExplainsFirst (grammar_of c.args.self.now.grammar) (macro_of c.in-Some.rules.now).rules c.args.argument.now in
    let none = c.new-all.ensures.items in
    (subst (λ items. say (map explanation_seen items)) (sym none) no_rule, ap length none)

pub outcome_of_rule-requires-clause-checked : goal.outcome_of_rule-requires-clause-checked
outcome_of_rule-requires-clause-checked g c =
    let faultless = not_there _ c.err.result _ c.err.ensures (search rules) in
    inl (λ refused. none-some _ (sym faultless ∙ refused))

pub rule_binding_texts-requires-clause-checked : goal.rule_binding_texts-requires-clause-checked
rule_binding_texts-requires-clause-checked g c =
    let faultless = not_there _ c.err.result _ c.err.ensures (search rules) in
    inl (λ refused. none-some _ (sym faultless ∙ refused))

pub loop-index-preserved : goal.loop-index-preserved
loop-index-preserved g c =
    let h = grammar_of c.args.self.now.grammar in
    let rs = (macro_of c.in-Some.rules.now).rules in
    let items = c.loop-index.all.items in
    let rule : RuleExplanation _ =
    record { outcome = c.in_ok-outcome_of_rule.field-0; matched = c.in_ok-rule_binding_texts.field-0 } in
    let say = ExplainsFirst h rs c.args.argument.now in
    let pushed = c.in_ok-push.ensures.items in
    let number = length-map items explanation_seen ∙ c.loop-index.invariant.1 in
    let match_outcome =
    subst (λ n. HasOutcome h rs c.args.argument.now n (explanation_seen rule).outcome) (sym number)
    c.in_ok-outcome_of_rule.ensures.match_outcome in
    let takes =
    subst (λ n. HasBindingTexts h rs c.args.argument.now.1 n (explanation_seen rule).matched) (sym number)
    c.in_ok-rule_binding_texts.ensures.takes in
    let more =
    one_more (map explanation_seen items) (explanation_seen rule) c.loop-index.invariant.0 match_outcome takes in
    let result_model = ap (map explanation_seen) pushed ∙ map-append explanation_seen items (rule ∷ []) in (
      subst say (sym result_model) more,
      ap length pushed ∙ length_push items rule
          ∙ ap (λ n. n + 1) c.loop-index.invariant.1,
    )
