use Rattle.std.proofs.Common.{◌≡◌, ap, sym, ◌∙◌}
use Rattle.mbe_semantics.specs.Syntax.Definition.{style_at, styled_group_at, pattern_at}
use Rattle.mbe_parser.proofs.RuleTreeLemmas.{after_unsafe, after_attr, after_derive, after_nothing, after_group}
use Rattle.mbe_parser.proofs.RuleTreeLemmas.{no_group}
use Rattle.mbe_parser.specs.RuleStops.{is_group, after_expected, stop_at_pattern, stop_at_style}
use Rattle.mbe_parser.proofs.StopLemmas as stop
use Rattle.mbe_parser.proofs.rules.parse_rule_style.Goals as goal
use Rattle.mbe_parser.proofs.rules.parse_rule_style.Goals.{After-expect_subtree, then-eat_ident}
use Rattle.mbe_parser.proofs.rules.parse_rule_style.Goals.{else-eat_ident+then-eat_ident-2}

-- after the word for an attribute or a derive
styled : (g : _) (c : After-expect_subtree g)
    → style_at c.eat_ident-unsafe.new.src ≡ styled_group_at c.if-eat_ident.style c.if-eat_ident.src
styled g c =
    elim c.if-eat_ident.branch [
      | then-eat_ident w ↦
          after_attr c.eat_ident.result c.eat_ident-unsafe.new.src c.eat_ident.new.src c.eat_ident.ensures.value
          c.eat_ident.ensures.rest w.if-eat_ident.true
          ∙ sym (λ i. styled_group_at (w.style-is i) (w.src-is i))
      | else-eat_ident+then-eat_ident-2 w ↦
          after_derive c.eat_ident.result w.eat_ident-else-eat_ident.result c.eat_ident-unsafe.new.src
          c.eat_ident.new.src
          w.eat_ident-else-eat_ident.new.src
          c.eat_ident.ensures.value c.eat_ident.ensures.rest w.if-eat_ident.false
          w.eat_ident-else-eat_ident.ensures.value
          w.eat_ident-else-eat_ident.ensures.rest w.if-eat_ident-2.true
          ∙ sym (λ i. styled_group_at (w.style-is i) (w.src-is i))
    ]

-- and where that stops
stop_styled : (g : _) (c : After-expect_subtree g)
    → stop_at_style c.eat_ident-unsafe.new.src ≡ after_expected is_group stop_at_pattern c.if-eat_ident.src
stop_styled g c =
    elim c.if-eat_ident.branch [
      | then-eat_ident w ↦
          stop.after_attr c.eat_ident.result c.eat_ident-unsafe.new.src c.eat_ident.new.src c.eat_ident.ensures.value
          c.eat_ident.ensures.rest w.if-eat_ident.true
          ∙ sym (λ i. after_expected is_group stop_at_pattern (w.src-is i))
      | else-eat_ident+then-eat_ident-2 w ↦
          stop.after_derive c.eat_ident.result w.eat_ident-else-eat_ident.result c.eat_ident-unsafe.new.src
          c.eat_ident.new.src w.eat_ident-else-eat_ident.new.src
          c.eat_ident.ensures.value c.eat_ident.ensures.rest w.if-eat_ident.false
          w.eat_ident-else-eat_ident.ensures.value
          w.eat_ident-else-eat_ident.ensures.rest w.if-eat_ident-2.true
          ∙ sym (λ i. after_expected is_group stop_at_pattern (w.src-is i))
    ]

pub returns-else-eat_ident-2-clause-style : goal.returns-else-eat_ident-2-clause-style
returns-else-eat_ident-2-clause-style g c =
    after_unsafe c.eat_ident-unsafe.result c.args.src.now c.eat_ident-unsafe.new.src c.eat_ident-unsafe.ensures.value
    c.eat_ident-unsafe.ensures.rest
    ∙ after_nothing c.eat_ident.result c.eat_ident-else-eat_ident.result c.eat_ident-unsafe.new.src c.eat_ident.new.src
    c.eat_ident-else-eat_ident.new.src
    c.eat_ident.ensures.value c.eat_ident.ensures.rest c.if-eat_ident.false c.eat_ident-else-eat_ident.ensures.value
    c.eat_ident-else-eat_ident.ensures.rest
    c.if-eat_ident-2.false

pub returns-in_default-clause-style : goal.returns-in_default-clause-style
returns-in_default-clause-style g c =
    after_unsafe c.eat_ident-unsafe.result c.args.src.now c.eat_ident-unsafe.new.src c.eat_ident-unsafe.ensures.value
    c.eat_ident-unsafe.ensures.rest
    ∙ (styled g (goal.at.returns-in_default-clause-style g c).After-expect_subtree
    ∙ no_group c.if-eat_ident.style c.if-eat_ident.src (sym c.in_default.ensures.value))

pub returns-clause-style : goal.returns-clause-style
returns-clause-style g c =
    after_unsafe c.eat_ident-unsafe.result c.args.src.now c.eat_ident-unsafe.new.src c.eat_ident-unsafe.ensures.value
    c.eat_ident-unsafe.ensures.rest
    ∙ (styled g (goal.at.returns-clause-style g c).After-expect_subtree
    ∙ (after_group c.if-eat_ident.style c.if-eat_ident.src _ (sym c.in-Ok.ensures.value)
    ∙ ap (pattern_at c.if-eat_ident.style) (sym c.in-Ok.ensures.rest)))

pub returns-else-eat_ident-2-clause-stop : goal.returns-else-eat_ident-2-clause-stop
returns-else-eat_ident-2-clause-stop g c =
    stop.after_unsafe c.eat_ident-unsafe.result c.args.src.now c.eat_ident-unsafe.new.src
    c.eat_ident-unsafe.ensures.value
    c.eat_ident-unsafe.ensures.rest
    ∙ stop.after_nothing c.eat_ident.result c.eat_ident-else-eat_ident.result c.eat_ident-unsafe.new.src
    c.eat_ident.new.src
    c.eat_ident-else-eat_ident.new.src
    c.eat_ident.ensures.value c.eat_ident.ensures.rest c.if-eat_ident.false c.eat_ident-else-eat_ident.ensures.value
    c.eat_ident-else-eat_ident.ensures.rest
    c.if-eat_ident-2.false

pub returns-in_default-clause-stop : goal.returns-in_default-clause-stop
returns-in_default-clause-stop g c =
    stop.after_unsafe c.eat_ident-unsafe.result c.args.src.now c.eat_ident-unsafe.new.src
    c.eat_ident-unsafe.ensures.value
    c.eat_ident-unsafe.ensures.rest
    ∙ (stop_styled g (goal.at.returns-in_default-clause-stop g c).After-expect_subtree
    ∙ (stop.at_no_group stop_at_pattern c.if-eat_ident.src (sym c.in_default.ensures.value)
    ∙ sym c.in_default.ensures.rest))

pub returns-clause-stop : goal.returns-clause-stop
returns-clause-stop g c =
    stop.after_unsafe c.eat_ident-unsafe.result c.args.src.now c.eat_ident-unsafe.new.src
    c.eat_ident-unsafe.ensures.value
    c.eat_ident-unsafe.ensures.rest
    ∙ (stop_styled g (goal.at.returns-clause-stop g c).After-expect_subtree
    ∙ (stop.past_group stop_at_pattern c.if-eat_ident.src _ (sym c.in-Ok.ensures.value)
    ∙ ap stop_at_pattern (sym c.in-Ok.ensures.rest)))
