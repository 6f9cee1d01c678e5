use Rattle.std.proofs.Common.{◌≡◌, None, rules, ◌∙◌, arith}
use Rattle.mbe_rewriter.proofs.PathLemmas.{stops, breaks, goes, ends}
use Rattle.mbe_rewriter.proofs.macro_items.full_path.Goals as goal

pub returns-in-None : goal.returns-in-None
returns-in-None g c = stops c.names.left _ (omega arith) c.in-None.ensures ∙ c.names.invariant

pub returns-in_err-longer-in-Some : goal.returns-in_err-longer-in-Some
returns-in_err-longer-in-Some g c =
    let none : c.from_residual.result ≡ None = search rules in
    rw none (breaks c.names.left _ _ (omega arith) c.in-Some.ensures c.in_err-longer-in-Some.ensures
    ∙ c.names.invariant)

pub names-preserved : goal.names-preserved
names-preserved g c = goes c.names.left _ _ _ (omega arith) c.in-Some.ensures c.in_ok-longer-in-Some.ensures
    ∙ c.names.invariant

pub returns : goal.returns
returns g c = ends c.names.left _ (omega arith) ∙ c.names.invariant
