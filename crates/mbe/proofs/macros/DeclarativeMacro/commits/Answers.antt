use Rattle.std.proofs.Common.{◌≡◌, ◌∙◌, subst}
use Rattle.std.specs.Prelude.{Result, Ok, Err, IfOk, IsTrue, ◌↔◌}
use Rattle.mbe_tt.specs.Views.View.{trees}
use Rattle.mbe_semantics.specs.Expansion.Commitment.{Commits}
use Rattle.mbe_ops.specs.Views.{template_of}
use Rattle.mbe_parser.specs.RuleViews.{rule_of}
use Rattle.mbe.specs.MacroViews.{macro_of}
use Rattle.mbe.proofs.ChoiceLemmas.{seen_there}
use Rattle.mbe.proofs.ClosestLemmas.{all_checked}
use Rattle.mbe.proofs.macros.DeclarativeMacro.commits.Goals as goal

pub commits-requires : goal.commits-requires
commits-requires g c =
    all_checked (macro_of c.args.self.now) c.args.self.now.tells_refusal c.requires.checked _ _
    (seen_there rule_of c.args.self.now.rules.items _ _ c.requires.rule c.index-rule.ensures)

ok_to : {X E : Type 0} (r : Result X E) (P Q : X → Type 0) → ((x : X) → P x → Q x) → IfOk r P → IfOk r Q
ok_to (Ok x) P Q f p = f x p
ok_to (Err e) P Q f p = tt

pub returns : goal.returns
returns g c =
    let here = seen_there rule_of c.args.self.now.rules.items _ _ c.requires.rule c.index-rule.ensures in
    let h = g.G.FragmentGrammar.grammar c.args.grammar.now in
    let pat = template_of c.index-rule.result.now.lhs in
    let same : trees c.remaining-argument.result ≡ c.args.tt.now.1 = c.remaining-argument.ensures ∙ c.iter.ensures in
    ok_to c.commits.result _ _ (λ b p. (
      rule_of c.index-rule.result.now,
      here,
      subst (λ f. IsTrue b ↔ Commits h pat f) same p,
    )) c.commits.ensures
