use Rattle.std.proofs.Common.{List, ℕ, ap, refl}
use Rattle.mbe_text.specs.Escapes.{SeenFault}
use Rattle.mbe_text.proofs.TailLemmas.{got_inside}
use Rattle.mbe_text.proofs.rust_tokens.fault_inside.Goals as goal

pub returns-clause-exact : goal.returns-clause-exact
returns-clause-exact c = λ content e p.
    let a = c.args in
    let at : List ℕ → SeenFault = λ l. (a.fault_kind, l) in
    ap at (got_inside a.body.now a.end.now a.at.now content _ _ c.unwrap_or.result _ c.get.result
    c.utf8.body c.utf8.end c.utf8.at refl refl c.get.ensures.cases c.unwrap_or.ensures e p)
