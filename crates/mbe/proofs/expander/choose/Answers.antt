use Rattle.std.proofs.Common.{◌≡◌, ◌≤◌, ◌+◌, ◌∙◌, ap, subst, sym, refl, rules, Some, option_map}
use Rattle.std.specs.Prelude.{IfSome}
use denote.Enum.Bare.{differs_true, differs_false}
use Rattle.mbe_tt.specs.Views.View.{group_of}
use Rattle.mbe_tt.specs.Trees.Tree.{tree_count}
use Rattle.mbe_tt.specs.declared.span.Span.{Span}
use Rattle.mbe_semantics.specs.contracts.macro_call_style.MacroCallStyle.{the_type}
use Rattle.mbe_semantics.specs.Expansion.Expansion.{Applies}
use Rattle.mbe_parser.specs.RuleViews.{rule_of, rules_seen}
use Rattle.mbe.specs.RuleChoice.{candidate_seen, IsCandidate}
use Rattle.mbe.proofs.ChoiceLemmas.{NoneDecides, first_at, none_contained, none_more, seen_at, all_seen, length_seen}
use Rattle.mbe.proofs.ChoiceLemmas.{end_at, none_ends}
use Rattle.std.proofs.lemmas.Bool.{true≢false}
use Rattle.mbe.proofs.ClosestLemmas.{IsSoFar, so_far_skipped, so_far_tried, kept_tried, candidate, nearest, no_style}
use Rattle.mbe.proofs.expander.choose.Goals as goal

pub try_rule-requires-clause-checked : goal.try_rule-requires-clause-checked
try_rule-requires-clause-checked g c =
    let here = seen_at rule_of c.args.rules.now c.loop-idx.idx c.index-rules-idx.result c.loop-idx-test.true
    c.index-rules-idx.is in
    c.requires.checked c.loop-idx.idx (rule_of c.index-rules-idx.result) here

pub try_rule-requires-clause-trees : goal.try_rule-requires-clause-trees
try_rule-requires-clause-trees g c = c.len-trees.ensures ∙ ap tree_count (c.remaining.ensures ∙ c.iter.ensures)

pub loop-idx-preserved-then-ne : goal.loop-idx-preserved-then-ne
loop-idx-preserved-then-ne g c =
    let h = g.G.FragmentGrammar.grammar c.args.call.now.grammar.now in
    let input = group_of c.args.call.now.input in
    let style = c.args.call.now.style in
    let site = c.args.call.now.site in
    let rs = rules_seen c.args.rules.now in
    let r = rule_of c.index-rules-idx.result in
    let here = seen_at rule_of c.args.rules.now c.loop-idx.idx c.index-rules-idx.result c.loop-idx-test.true
    c.index-rules-idx.is in
    let other = differs_true the_type _ _ (sym c.ne.ensures ∙ c.if-ne.true) in
    record {
      none = none_more h style input.1 rs c.loop-idx.idx r c.loop-idx.invariant.none here
          (λ a. other a.styled) (λ f. other f.0);
      nearest = so_far_skipped h site input style rs c.loop-idx.idx r here _
          c.loop-idx.invariant.nearest other;
      kept = c.loop-idx.invariant.kept;
    }

pub returns-in-Applies : goal.returns-in-Applies
returns-in-Applies g c =
    let h = g.G.FragmentGrammar.grammar c.args.call.now.grammar.now in
    let input = group_of c.args.call.now.input in
    let style = c.args.call.now.style in
    let site = c.args.call.now.site in
    let rs = rules_seen c.args.rules.now in
    let r = rule_of c.index-rules-idx.result in
    let here = seen_at rule_of c.args.rules.now c.loop-idx.idx c.index-rules-idx.result c.loop-idx-test.true
    c.index-rules-idx.is in
    let own = differs_false the_type (search rules) _ _ (sym c.ne.ensures ∙ c.if-ne.false) in
    let it = rw c.in-Applies.is at c.in_ok-outcome.ensures in
    let a : Applies h style input.1 r =
    record { styled = own; items = it.0.items; fits = it.0.fits; faultless = it.0.faultless } in
    let first = first_at h style input.1 rs c.loop-idx.idx r a c.loop-idx.invariant.none here in
    (c.loop-idx.idx, (r, a, first, it.1), c.arm_index-index.ensures)

pub loop-idx-preserved : goal.loop-idx-preserved
loop-idx-preserved g c =
    let h = g.G.FragmentGrammar.grammar c.args.call.now.grammar.now in
    let input = group_of c.args.call.now.input in
    let style = c.args.call.now.style in
    let site = c.args.call.now.site in
    let marks = λ (s t : Span). g.M.Fn.post c.args.call.now.marker (s, tt) t in
    let rs = rules_seen c.args.rules.now in
    let r = rule_of c.index-rules-idx.result in
    let here = seen_at rule_of c.args.rules.now c.loop-idx.idx c.index-rules-idx.result c.loop-idx-test.true
    c.index-rules-idx.is in
    let own = differs_false the_type (search rules) _ _ (sym c.ne.ensures ∙ c.if-ne.false) in
    let it = rw c.in-Fails.is at c.in_ok-outcome.ensures in
    let not_this : Applies h style input.1 r → ⊥ =
    λ a. it.0 (record { styled = refl; items = a.items; fits = a.fits; faultless = a.faultless }) in
    record {
      none = none_more h style input.1 rs c.loop-idx.idx r c.loop-idx.invariant.none here not_this
          (λ f. true≢false (sym (c.in_ok-is_last-in-Fails.ensures.1 f.1) ∙ c.if-is_last.false));
      nearest = subst (λ x. IsSoFar h site input style rs (c.loop-idx.idx + 1)
          (option_map candidate_seen x)) (sym c.keep_nearer.ensures)
          (so_far_tried h site input style rs c.loop-idx.idx r here
          c.loop-idx.nearest _ refl it.1 c.loop-idx.invariant.nearest);
      kept = subst (λ x. IfSome x (IsCandidate h marks site input style rs)) (sym c.keep_nearer.ensures)
          (kept_tried (IsCandidate h marks site input style rs) c.loop-idx.nearest _
          c.loop-idx.invariant.kept
          (candidate h marks site input style rs c.loop-idx.idx r here _ own it.2
          refl refl));
    }

pub ends_call-requires-clause-checked : goal.ends_call-requires-clause-checked
ends_call-requires-clause-checked g c =
    let here = seen_at rule_of c.args.rules.now c.loop-idx.idx c.index-rules-idx.result c.loop-idx-test.true
    c.index-rules-idx.is in
    c.requires.checked c.loop-idx.idx (rule_of c.index-rules-idx.result) here

pub ends_call-requires-clause-failure : goal.ends_call-requires-clause-failure
ends_call-requires-clause-failure g c = (rw c.in-Fails.is at c.in_ok-outcome.ensures).2

pub returns-then-is_last : goal.returns-then-is_last
returns-then-is_last g c =
    let h = g.G.FragmentGrammar.grammar c.args.call.now.grammar.now in
    let input = group_of c.args.call.now.input in
    let style = c.args.call.now.style in
    let rs = rules_seen c.args.rules.now in
    let r = rule_of c.index-rules-idx.result in
    let here = seen_at rule_of c.args.rules.now c.loop-idx.idx c.index-rules-idx.result c.loop-idx-test.true
    c.index-rules-idx.is in
    let own = differs_false the_type (search rules) _ _ (sym c.ne.ensures ∙ c.if-ne.false) in
    let it = rw c.in-Fails.is at c.in_ok-outcome.ensures in
    let not_this : Applies h style input.1 r → ⊥ =
    λ a. it.0 (record { styled = refl; items = a.items; fits = a.fits; faultless = a.faultless }) in (
      end_at h style input.1 rs c.loop-idx.idx r c.loop-idx.invariant.none here not_this
          (own, c.in_ok-is_last-in-Fails.ensures.0 c.if-is_last.true),
      it.2,
    )

pub returns-in-Some : goal.returns-in-Some
returns-in-Some g c =
    let h = g.G.FragmentGrammar.grammar c.args.call.now.grammar.now in
    let input = group_of c.args.call.now.input in
    let style = c.args.call.now.style in
    let site = c.args.call.now.site in
    let rs = rules_seen c.args.rules.now in
    let nobody : NoneDecides h style input.1 rs =
    subst (NoneDecides h style input.1)
    (all_seen rule_of c.args.rules.now c.loop-idx.idx c.loop-idx-test.false) c.loop-idx.invariant.none in
    let so_far = rw c.in-Some.is at c.loop-idx.invariant.nearest in
    let kept = rw c.in-Some.is at c.loop-idx.invariant.kept in
    let all = subst (λ n. n ≤ c.loop-idx.idx) (sym (length_seen rule_of c.args.rules.now)) c.loop-idx-test.false in (
      λ s k a. none_contained h style input.1 rs s nobody k a,
      none_ends h style input.1 rs nobody,
      nearest h site input style rs c.loop-idx.idx c.in-Some.candidate.idx
          c.in-Some.candidate.nearness _ all kept.styled so_far,
      kept.failure,
    )

pub returns-in-None : goal.returns-in-None
returns-in-None g c =
    let h = g.G.FragmentGrammar.grammar c.args.call.now.grammar.now in
    let input = group_of c.args.call.now.input in
    let style = c.args.call.now.style in
    let site = c.args.call.now.site in
    let rs = rules_seen c.args.rules.now in
    let so_far = rw c.in-None.is at c.loop-idx.invariant.nearest in
    let all = subst (λ n. n ≤ c.loop-idx.idx) (sym (length_seen rule_of c.args.rules.now)) c.loop-idx-test.false in
    no_style h site input style rs c.loop-idx.idx all so_far
