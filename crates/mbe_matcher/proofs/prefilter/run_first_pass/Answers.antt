use Rattle.std.proofs.Common.{◌≡◌, ◌∙◌, sym, ap, subst}
use Rattle.std.specs.Prelude.{IfSome}
use Rattle.std.proofs.lemmas.Result.{IfOk-weaker}
use Rattle.mbe_tt.specs.Views.View.{trees}
use Rattle.mbe_semantics.specs.Readings.Verdict.{IsVerdict, stuck, unmatched}
use Rattle.mbe_ops.specs.Views.{ops_of, template_of}
use Rattle.mbe_matcher.specs.Fronts.{StartsWithMismatch}
use Rattle.mbe_matcher.specs.MatchResults.{Binds}
use Rattle.mbe_threads.specs.Stops.{verdict_in, reading_in}
use Rattle.mbe_matcher.proofs.MatchEnds.{both_ok}
use Rattle.mbe_matcher.proofs.Starts.{begins_stuck, stuck_reads_nothing}
use Rattle.mbe_matcher.proofs.prefilter.run_first_pass.Goals as goal

pub returns-then-starts_with_mismatch-clause-verdict : goal.returns-then-starts_with_mismatch-clause-verdict
returns-then-starts_with_mismatch-clause-verdict g c =
    let h = g.G.FragmentGrammar.grammar c.args.grammar.now in
    let law = g.met.G.FragmentGrammar.lawful c.args.grammar.now in
    let pat = template_of c.args.pattern.now in
    let f = trees c.args.argument in
    let leaf_mismatch = subst (StartsWithMismatch h pat) c.iter.ensures
    (subst (λ l. StartsWithMismatch h (ops_of l) c.iter.result) c.deref.ensures.value
    (c.starts_with_mismatch.ensures c.if-starts_with_mismatch.true h (sym c.dialect.ensures))) in
    IfOk-weaker c.stuck_at_start.result (λ r. verdict_in r.stop ≡ stuck 0) (λ r. IsVerdict h pat f (verdict_in r.stop))
    (λ r e. subst (IsVerdict h pat f) (sym e) (begins_stuck h pat f law c.requires leaf_mismatch))
    c.stuck_at_start.ensures.stop

pub returns-then-starts_with_mismatch-clause-unmatched : goal.returns-then-starts_with_mismatch-clause-unmatched
returns-then-starts_with_mismatch-clause-unmatched g c =
    let f = trees c.args.argument in
    both_ok c.stuck_at_start.result (λ r. verdict_in r.stop ≡ stuck 0) (λ r. r.unmatched ≡ unmatched f (stuck 0))
    (λ r. r.unmatched ≡ unmatched f (verdict_in r.stop))
    (λ r e u. u ∙ ap (unmatched f) (sym e)) c.stuck_at_start.ensures.stop c.stuck_at_start.ensures.unmatched

pub returns-then-starts_with_mismatch-clause-binds : goal.returns-then-starts_with_mismatch-clause-binds
returns-then-starts_with_mismatch-clause-binds g c =
    let h = g.G.FragmentGrammar.grammar c.args.grammar.now in
    let bound = Binds h (template_of c.args.pattern.now) (trees c.args.argument) c.stuck_at_start.new.log in
    IfOk-weaker c.stuck_at_start.result (λ r. verdict_in r.stop ≡ stuck 0) (λ r. IfSome (reading_in r.stop) bound)
    (λ r e. stuck_reads_nothing bound r.stop e) c.stuck_at_start.ensures.stop

pub returns-then-starts_with_mismatch-clause-notes : goal.returns-then-starts_with_mismatch-clause-notes
returns-then-starts_with_mismatch-clause-notes g c =
    let h = g.G.FragmentGrammar.grammar c.args.grammar.now in
    let law = g.met.G.FragmentGrammar.lawful c.args.grammar.now in
    let pat = template_of c.args.pattern.now in
    let leaf_mismatch = subst (StartsWithMismatch h pat) c.iter.ensures
    (subst (λ l. StartsWithMismatch h (ops_of l) c.iter.result) c.deref.ensures.value
    (c.starts_with_mismatch.ensures c.if-starts_with_mismatch.true h (sym c.dialect.ensures))) in
    c.stuck_at_start.ensures.notes h law leaf_mismatch
