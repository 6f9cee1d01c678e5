use Rattle.std.proofs.Common.{◌≡◌, ◌∙◌, Some, None, sym, ap}
use Rattle.mbe_tt.specs.Views.View.{trees}
use Rattle.mbe_ops.specs.Errors.ErrorViews.{error_of, errors_of}
use Rattle.mbe_ops.specs.Views.{ops_of, template_of}
use Rattle.mbe_matcher.specs.Fronts.{first_match_error}
use Rattle.mbe_matcher.proofs.Starts.{otherwise_fails, otherwise_reports}
use Rattle.mbe_matcher.proofs.prefilter.error_at_start.Goals as goal

pub returns-in-Some : goal.returns-in-Some
returns-in-Some g c =
    let h = g.G.FragmentGrammar.grammar c.args.grammar.now in
    let pat = template_of c.args.pattern.now in
    let f = trees c.args.argument in
    let same = ap (λ l. first_match_error h (ops_of l) c.iter.result c.args.around) c.deref.ensures.value
    ∙ ap (λ t. first_match_error h pat t c.args.around) c.iter.ensures in
    let fails : first_match_error h pat f c.args.around ≡ Some (error_of c.in-Some.error) =
    sym (c.in_ok-error.ensures ∙ same) ∙ ap errors_of c.in-Some.is in
    otherwise_reports h pat f c.args.around (g.met.G.FragmentGrammar.lawful c.args.grammar.now) c.requires.checked
    c.requires.otherwise (error_of c.in-Some.error) fails

pub returns-in-None : goal.returns-in-None
returns-in-None g c =
    let h = g.G.FragmentGrammar.grammar c.args.grammar.now in
    let pat = template_of c.args.pattern.now in
    let f = trees c.args.argument in
    let same = ap (λ l. first_match_error h (ops_of l) c.iter.result c.args.around) c.deref.ensures.value
    ∙ ap (λ t. first_match_error h pat t c.args.around) c.iter.ensures in
    let fits : first_match_error h pat f c.args.around ≡ None =
    sym (c.in_ok-error.ensures ∙ same) ∙ ap errors_of c.in-None.is in
    absurd (otherwise_fails h pat f c.args.around c.requires.otherwise fits)
