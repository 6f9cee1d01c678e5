use Rattle.std.proofs.Common.{◌≡◌, ◌≤◌, ap, arith, length, map, subst, sym}
use Rattle.std.proofs.lemmas.List.{length-map}
use Rattle.mbe_session.specs.SessionViews.{setting_of, state_of}
use Rattle.mbe_session.specs.Budgets.{full}
use Rattle.mbe_session.specs.FileViews.{source_of, sources_of, text_of}
use Rattle.mbe_session.specs.OptionViews.{language_of, names_of}
use Rattle.mbe_session.proofs.SessionLemmas.{printed}
use Rattle.mbe_session.proofs.session.write_expansion.Goals as goal

pub returns-clause-printed : goal.returns-clause-printed
returns-clause-printed g c some few =
    let session = c.in_ok-session.session in
    let n : c.len-root_count.result ≡ length c.args.options.now.names.items =
    omega (arith, c.len-root_count.ensures, c.args.options.now.names.ok.0) in
    printed (language_of c.args.options.now) _ _ c.args.options.now.depth
    (full c.args.options.now.fuel c.args.options.now.max_tokens) c.args.options.now.call
    c.print_request-request.result.call c.args.options.now.with_modules c.print_request-request.result.with_modules
    (length c.args.options.now.names.items) c.len-root_count.result (names_of c.args.options.now)
    (map text_of c.args.texts.now) (sources_of session)
    (map source_of c.deref.result.now) (setting_of session.expander) (state_of session.expander) _ _ _
    c.write_last-written.result c.in_ok-session.ensures some
    (subst (λ n. length c.args.options.now.names.items ≤ n) (sym (length-map c.args.texts.now text_of)) few)
    (ap (λ w. w.call) c.print_request-request.ensures) (ap (λ w. w.with_modules) c.print_request-request.ensures) n
    (ap (map source_of) c.deref.ensures.value) c.write_last-written.ensures.expands
