use Rattle.std.proofs.Common.{◌≡◌, Some, rules}
use Rattle.mbe_tt.specs.Trees.Leaf.{literal}
use Rattle.mbe_tt.specs.Views.LeafViews.{literal_of}
use Rattle.mbe_tt.specs.Trees.Tree.{front_leaf}
use Rattle.mbe_matcher.proofs.FrontLemmas.{literal_passed}
use Rattle.mbe_matcher.proofs.consumers.eat_literal.Goals as goal

pub returns-in-Ok-Literal : goal.returns-in-Ok-Literal
returns-in-Ok-Literal g c =
    let f = c.args.src.now in
    let front : Some (literal (literal_of c.in-Ok-Literal.found)) ≡ front_leaf f = search rules in
    rw c.eq.ensures (literal_passed f _ (literal_of c.in-Ok-Literal.found) c.args.literal.now.text_and_suffix front
    c.in-Ok-Literal.ensures.rest)
