use Rattle.std.proofs.Common.{◌≡◌, ◌∙◌, ◌≤◌, ◌+◌, ℕ, false, true, map, refl, sym, ap, rules, arith}
use Rattle.std.proofs.lemmas.Bool.{false≢true}
use Rattle.std.specs.Prelude.{Result, Ok, Err, IfOk}
use denote.Enum.Bare.{same_true, same_false}
use Rattle.mbe_tt.specs.contracts.grammar.Dialect.{the_type}
use Rattle.mbe_tt.specs.declared.grammar.Dialect.TheVariants.{RustAnalyzer}
use Rattle.mbe_tt.specs.Trees.Tree.{flat_len, rest_at}
use Rattle.mbe_tt.specs.Views.View.{trees}
use Rattle.mbe_semantics.specs.Readings.Verdict.{stuck}
use Rattle.mbe_ops.specs.Views.{template_of}
use Rattle.mbe_matcher.specs.declared.matcher.Verdict.{Verdict}
use Rattle.mbe_matcher.specs.declared.matcher.Verdict.TheVariants as verdicts
use Rattle.mbe_matcher.specs.Commitment.{any_fails_inside}
use Rattle.mbe_matcher.specs.Expected.{expected_seen}
use Rattle.mbe_matcher.specs.MatchResults.{verdict_seen}
use Rattle.mbe_matcher.proofs.Commitments.{open_goes_on, other_dialect, stuck_commits, commits_by}
use Rattle.mbe_matcher.proofs.StopOffsets.{stop_within}
use Rattle.mbe_matcher.proofs.commitment.commits.Goals as goal

ok_to : {X E : Type 0} (r : Result X E) (P Q : X → Type 0) → ((x : X) → P x → Q x) → IfOk r P → IfOk r Q
ok_to (Ok x) P Q f p = f x p
ok_to (Err e) P Q f p = tt

other_verdict : (v : Verdict) → ((q : ℕ) → v ≡ verdicts.Stuck q → ⊥) → (q : ℕ) → verdict_seen v ≡ stuck q → ⊥
other_verdict verdicts.OneReading n q e = cc
other_verdict verdicts.ManyReadings n q e = cc
other_verdict (verdicts.Ambiguous p) n q e = cc
other_verdict (verdicts.Stuck p) n q e = n p refl

pub returns-then-eq : goal.returns-then-eq
returns-then-eq g c =
    let h = g.G.FragmentGrammar.grammar c.args.grammar.now in
    let e : h.dialect ≡ RustAnalyzer =
    sym c.dialect.ensures ∙ same_true the_type (search rules) _ _ (sym c.eq.ensures ∙ c.if-eq.true) in (
      λ t. absurd (false≢true t),
      λ m. absurd (open_goes_on h (template_of c.args.pattern.now) (trees c.args.argument) e m),
    )

pub returns-in_default : goal.returns-in_default
returns-in_default g c =
    let h = g.G.FragmentGrammar.grammar c.args.grammar.now in
    let r = other_dialect h.dialect
    (λ e. same_false the_type _ _ (sym c.eq.ensures ∙ c.if-eq.false) (c.dialect.ensures ∙ e)) in (
      λ t. commits_by h (template_of c.args.pattern.now) (trees c.args.argument)
          (verdict_seen c.in_ok-at_stop.at_stop.verdict) r c.in_ok-at_stop.ensures.verdict
          (other_verdict c.in_ok-at_stop.at_stop.verdict c.in_default.not-Stuck),
      λ m. refl,
    )

pub passed-requires : goal.passed-requires
passed-requires g c =
    let h = g.G.FragmentGrammar.grammar c.args.grammar.now in
    let law = g.met.G.FragmentGrammar.lawful c.args.grammar.now in
    let q = c.in-Stuck.offset in
    let judged = rw c.in-Stuck.is at c.in_ok-at_stop.ensures.verdict in
    let most : q ≤ flat_len (trees c.args.argument) =
    stop_within h (template_of c.args.pattern.now) (trees c.args.argument) law c.requires (stuck q) judged in
    rw (c.new.ensures.offset, c.new.ensures.whole) (omega (arith, most))

pub returns : goal.returns
returns g c =
    let h = g.G.FragmentGrammar.grammar c.args.grammar.now in
    let pat = template_of c.args.pattern.now in
    let argument = trees c.args.argument in
    let q = c.in-Stuck.offset in
    let r = other_dialect h.dialect
    (λ e. same_false the_type _ _ (sym c.eq.ensures ∙ c.if-eq.false) (c.dialect.ensures ∙ e)) in
    let judged = rw c.in-Stuck.is at c.in_ok-at_stop.ensures.verdict in
    let all = rw c.in-Stuck.is at c.in_ok-at_stop.ensures.expected in
    let ws = map expected_seen c.in_ok-at_stop.at_stop.expected.items in
    let count : c.in_ok-source.source.offset ≡ q =
    c.in_ok-source.ensures.offset ∙ ap (λ n. n + q) c.new.ensures.offset ∙ (omega arith) in
    let here : c.here.result ≡ rest_at argument q =
    c.here.ensures ∙ ap (λ w. rest_at (trees w) c.in_ok-source.source.offset)
    (c.in_ok-source.ensures.whole ∙ c.new.ensures.whole)
    ∙ ap (rest_at argument) count in
    ok_to c.any_fails_inside.result _ _
    (λ b e. stuck_commits h pat argument q ws r judged all b
    (e ∙ ap (λ f. any_fails_inside h f (map expected_seen c.as_slice.result.now)) here
    ∙ ap (λ l. any_fails_inside h (rest_at argument q) (map expected_seen l)) c.as_slice.ensures.value))
    c.any_fails_inside.ensures
