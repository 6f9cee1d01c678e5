use Rattle.std.proofs.Common.{ap, sym, ◌∙◌, arith}
use Rattle.std.proofs.lemmas.List.{length-map}
use Rattle.std.specs.List.{list_any}
use Rattle.mbe_session.specs.Scopes.{is_admitted, is_named}
use Rattle.mbe_session.specs.SessionViews.{crate_definitions_of, crate_filter_shown, definition_of, scope_of}
use Rattle.mbe_session.proofs.ItemLemmas.{any_shown}
use Rattle.mbe_session.proofs.scope.Scope.search_end.Goals as goal

pub returns-in-Crate-clause-past : goal.returns-in-Crate-clause-past
returns-in-Crate-clause-past g c n a b =
    let count = length-map c.args.self.now.definitions.items definition_of in
    let name = c.in-Crate.name.now in
    ap (λ f. is_admitted (scope_of c.args.self.now) (crate_filter_shown f) n) c.in-Crate.is
    ∙ (sym (ap (list_any (λ x. is_named name n (crate_definitions_of x))) c.as_slice.ensures.value
    ∙ any_shown crate_definitions_of (is_named name n) c.args.self.now.crates.items)
    ∙ c.end_of_crate.ensures n (omega (arith, a, b, count, c.min.ensures, c.len-count.ensures))
    (omega (arith, b, count, c.len-count.ensures)))
