use Rattle.std.proofs.Common.{◌≡◌, ◌∙◌, refl, ap, subst}
use Rattle.std.proofs.lemmas.Bool.{false≢true}
use Rattle.std.specs.Prelude.{◌↔◌, IsTrue, IfOk}
use denote.Enum.Bare.{sameb}
use Rattle.mbe_tt.specs.contracts.grammar.Dialect.{the_type}
use Rattle.mbe_tt.specs.declared.grammar.Dialect.{Dialect}
use Rattle.mbe_tt.specs.declared.grammar.Dialect.TheVariants.{RustAnalyzer, Rustc}
use Rattle.mbe_tt.specs.Trees.Tree.{Forest}
use Rattle.mbe_tt.specs.Views.View.{group_of}
use Rattle.mbe_semantics.specs.Expansion.Commitment.{Commits}
use Rattle.mbe_semantics.specs.Fragments.FragmentFront.{is_rustc}
use Rattle.mbe_ops.specs.Views.{template_of}
use Rattle.mbe_parser.specs.RuleViews.{rule_of}
use Rattle.mbe_matcher.proofs.Commitments.{otherwise_goes_on, fitting_commits}
use Rattle.mbe.proofs.expander.ends_call.Goals as goal

rustc_flag : (d : Dialect) → sameb the_type d Rustc ≡ is_rustc d
rustc_flag RustAnalyzer = refl
rustc_flag Rustc = refl

pub returns-in-OtherStart : goal.returns-in-OtherStart
returns-in-OtherStart g c =
    let h = g.G.FragmentGrammar.grammar c.args.call.now.grammar.now in
    let input = group_of c.args.call.now.input in
    let r = rule_of c.args.rule.now in
    let law = g.met.G.FragmentGrammar.lawful c.args.call.now.grammar.now in
    let f = rw c.in-OtherStart.is at c.requires.failure in (
      λ t. absurd (false≢true t),
      λ m. absurd (otherwise_goes_on h r.reads input.1 law f.0 f.1 m),
    )

pub returns-in-Faulty : goal.returns-in-Faulty
returns-in-Faulty g c =
    let h = g.G.FragmentGrammar.grammar c.args.call.now.grammar.now in
    let input = group_of c.args.call.now.input in
    let r = rule_of c.args.rule.now in
    let f = rw c.in-Faulty.is at c.requires.failure in
    fitting_commits h r.reads input.1 f.1.0 f.1.1 c.eq.result
    (c.eq.ensures ∙ rustc_flag c.dialect.result ∙ ap is_rustc c.dialect.ensures)

pub returns-in-MatchFailed : goal.returns-in-MatchFailed
returns-in-MatchFailed g c =
    let h = g.G.FragmentGrammar.grammar c.args.call.now.grammar.now in
    subst (λ (f : Forest). IfOk c.commits.result (λ b. IsTrue b ↔ Commits h (template_of c.args.rule.now.lhs) f))
    (c.remaining-argument.ensures ∙ c.iter.ensures) c.commits.ensures
