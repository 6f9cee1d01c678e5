use Rattle.std.proofs.Common.{◌≡◌, Some, rules}
use Rattle.mbe_tt.specs.Views.LeafViews.{ident_of}
use Rattle.mbe_tt.specs.Trees.Tree.{any_ident}
use Rattle.mbe_matcher.proofs.FrontLemmas.{ident_passed}
use Rattle.mbe_matcher.proofs.consumers.eat_ident.Goals as goal

pub returns-in-Ok : goal.returns-in-Ok
returns-in-Ok g c =
    let f = c.args.src.now in
    let front : Some (ident_of c.in-Ok.found.now) ≡ any_ident f = search rules in
    rw c.eq.ensures (ident_passed f _ (ident_of c.in-Ok.found.now) c.args.ident.now.sym front c.in-Ok.ensures.rest)
