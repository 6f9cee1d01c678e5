use Rattle.std.proofs.Common.{Some, None, ap, sym, subst, ◌∙◌}
use Rattle.std.proofs.lemmas.Result.{IfOk-weaker}
use Rattle.mbe_tt.specs.Views.View.{trees}
use Rattle.mbe_semantics.specs.Expansion.ParsedMacro.{IsParsedMacro}
use Rattle.mbe_parser.specs.Refusals.{refusal_of}
use Rattle.mbe_rewriter.specs.MacroItems.{Body}
use Rattle.mbe_diagnostics.specs.Lints.ParsedMacroViews.{macro_read}
use Rattle.mbe_diagnostics.proofs.LintLemmas.LocationLemmas.{by_both, not_refused_at, fault_in_body}
use Rattle.mbe_diagnostics.proofs.lints.parsed_macro.read_body.Goals as goal

pub returns-in_default-clause-read : goal.returns-in_default-clause-read
returns-in_default-clause-read g c =
    let read = rw (c.in_default.is, c.iter.ensures) at c.in_ok-rules.ensures.rules in
    subst (IsParsedMacro _ None (trees c.args.body)) (sym c.accepted.ensures.read) read

pub returns-in_default-clause-location : goal.returns-in_default-clause-location
returns-in_default-clause-location g c =
    not_refused_at _ c.args.close (trees c.args.body) Body (macro_read c.accepted.result) c.accepted.result.location
    (ap (λ m. m.err) c.accepted.ensures.read) c.accepted.ensures.location

pub returns-clause-read : goal.returns-clause-read
returns-clause-read g c =
    let read = rw (c.in-Some.is, c.iter.ensures) at c.in_ok-rules.ensures.rules in
    IfOk-weaker c.refused.result _ _
    (λ m e. subst (IsParsedMacro _ None (trees c.args.body)) (sym e) read) c.refused.ensures.read

pub returns-clause-location : goal.returns-clause-location
returns-clause-location g c =
    let w = rw (c.in-Some.is, c.iter.ensures) at c.in_ok-rules.ensures.offset in
    by_both c.refused.result _ _ _
    (λ m e s. fault_in_body _ c.args.close (trees c.args.body) (refusal_of c.in-Some.found.fault) (macro_read m)
    m.location
    (ap (λ x. x.err) e) c.in-Some.found.rule c.in-Some.found.offset (s ∙ ap Some c.rules_location-location.ensures) w)
    c.refused.ensures.read c.refused.ensures.location
