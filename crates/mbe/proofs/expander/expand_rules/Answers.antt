use Rattle.std.proofs.Common.{sym, ap, ◌∙◌, refl, is_some, true≢false, inl, inr}
use Rattle.std.specs.Prelude.{Result, Ok, Err, IfOk}
use Rattle.mbe_semantics.specs.Expansion.Macro.{arm_of}
use Rattle.std.proofs.lemmas.Option.{none-some}
use Rattle.mbe_tt.specs.Views.View.{group_of}
use Rattle.mbe_parser.specs.RuleViews.{rules_seen}
use Rattle.mbe.proofs.ChoiceLemmas.{contains_first, applies_first, styled_end, same_end}
use Rattle.mbe.proofs.ClosestLemmas.{at_place, closest, ok_both}
use Rattle.mbe.proofs.expander.expand_rules.Goals as goal

ok_all : {X E : Type 0} (r : Result X E) (P Q S R : X → Type 0) → ((x : X) → P x → Q x → S x → R x)
    → IfOk r P → IfOk r Q → IfOk r S → IfOk r R
ok_all (Ok x) P Q S R f p q s = f x p q s
ok_all (Err e) P Q S R f p q s = tt

pub recovered-requires-clause-failure : goal.recovered-requires-clause-failure
recovered-requires-clause-failure g c = (rw c.in-Ended.is at c.in_ok-choice.ensures).1

pub recovered-requires-in-Closest-clause-failure : goal.recovered-requires-in-Closest-clause-failure
recovered-requires-in-Closest-clause-failure g c = (rw c.in-Closest.is at c.in_ok-choice.ensures).3

pub returns-in-Expanded-clause-expands : goal.returns-in-Expanded-clause-expands
returns-in-Expanded-clause-expands g c =
    let h = g.G.FragmentGrammar.grammar c.args.grammar.now in
    let it = rw c.in-Expanded.is at c.in_ok-choice.ensures in
    let (r, a, first, written) = it.1 in
    let trees = (group_of c.args.input).1 in
    record {
      sound = λ _. it;
      complete = λ quiet s k b. refl;
      recovers = λ quiet e x s. absurd (none-some e x);
      ended = λ n s ends. absurd (applies_first h c.args.style trees first n s ends);
      no_rule = λ nobody. absurd (nobody (r, contains_first h c.args.style trees first, a.styled));
    }

pub returns-in-Ended-clause-expands : goal.returns-in-Ended-clause-expands
returns-in-Ended-clause-expands g c =
    let h = g.G.FragmentGrammar.grammar c.args.grammar.now in
    let it = rw c.in-Ended.is at c.in_ok-choice.ensures in
    let rs = rules_seen c.args.rules.now in
    let trees = (group_of c.args.input).1 in
    let styled = styled_end h c.args.style trees it.0 in
    ok_both c.recovered.result _ _ _
    (λ x index given. record {
      sound = λ n. absurd (true≢false (sym (ap is_some given.reported) ∙ n));
      complete = λ quiet s k a. absurd (quiet _ _ it.0);
      recovers = λ quiet e y s. absurd (quiet _ _ it.0);
      ended = λ n s ends.
          let same = same_end h c.args.style trees it.0 n s ends in
          (ap is_some given.reported, index ∙ ap arm_of same.0);
      no_rule = λ other. absurd (other (_, at_place rs _ _ styled.0, styled.1));
    })
    c.recovered.ensures.index c.recovered.ensures.recovered

pub returns-in-Ended-clause-recovers : goal.returns-in-Ended-clause-recovers
returns-in-Ended-clause-recovers g c =
    let it = rw c.in-Ended.is at c.in_ok-choice.ensures in
    ok_both c.recovered.result _ _ _
    (λ x index given e y s. record {
      rule_index = c.in-Ended.candidate.idx;
      rule = _;
      answering = inl it.0;
      named = index;
      recovered = given;
    })
    c.recovered.ensures.index c.recovered.ensures.recovered

pub returns-in-Closest-clause-expands : goal.returns-in-Closest-clause-expands
returns-in-Closest-clause-expands g c =
    let h = g.G.FragmentGrammar.grammar c.args.grammar.now in
    let it = rw c.in-Closest.is at c.in_ok-choice.ensures in
    let rs = rules_seen c.args.rules.now in
    ok_both c.recovered-in-Closest.result _ _ _
    (λ x index given. record {
      sound = λ n. absurd (true≢false (sym (ap is_some given.reported) ∙ n));
      complete = λ quiet s k a. absurd (it.0 s k a);
      recovers = λ quiet e y s. (
        c.in-Closest.candidate.idx,
        closest h c.args.site (group_of c.args.input) c.args.style rs c.in-Closest.candidate.idx _ it.2,
        index,
      );
      ended = λ n s ends. absurd (it.1 n s ends);
      no_rule = λ other. absurd (other (_, at_place rs _ _ it.2.styled.0, it.2.styled.1));
    })
    c.recovered-in-Closest.ensures.index c.recovered-in-Closest.ensures.recovered

pub returns-in-Closest-clause-recovers : goal.returns-in-Closest-clause-recovers
returns-in-Closest-clause-recovers g c =
    let it = rw c.in-Closest.is at c.in_ok-choice.ensures in
    ok_both c.recovered-in-Closest.result _ _ _
    (λ x index given e y s. record {
      rule_index = c.in-Closest.candidate.idx;
      rule = _;
      answering = inr (it.1, it.2);
      named = index;
      recovered = given;
    })
    c.recovered-in-Closest.ensures.index c.recovered-in-Closest.ensures.recovered

pub returns-in-NoRule-clause-expands : goal.returns-in-NoRule-clause-expands
returns-in-NoRule-clause-expands g c =
    let h = g.G.FragmentGrammar.grammar c.args.grammar.now in
    let nobody = rw c.in-NoRule.is at c.in_ok-choice.ensures in
    let rs = rules_seen c.args.rules.now in
    let trees = (group_of c.args.input).1 in
    ok_all c.no_rule.result _ _ _ _
    (λ x tree index err. record {
      sound = λ n. absurd (true≢false (sym (ap is_some err) ∙ n));
      complete = λ quiet s k a. absurd (nobody (s, k, a.styled));
      recovers = λ quiet e y s. absurd (nobody s);
      ended = λ n s ends.
          let at = styled_end h c.args.style trees ends in absurd (nobody (s, at_place rs n s at.0, at.1));
      no_rule = λ other. (tree, index, err);
    })
    c.no_rule.ensures.tree c.no_rule.ensures.index c.no_rule.ensures.err
