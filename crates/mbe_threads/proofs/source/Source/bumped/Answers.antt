use Rattle.std.proofs.Common.{arith}
use Rattle.mbe_tt.specs.Views.View.{trees}
use Rattle.mbe_threads.proofs.Sources.{after_leaf, after_opening, after_closing, following_all}
use Rattle.mbe_threads.proofs.source.Source.bumped.Goals as goal

pub at-requires-in-Leaf-clause-placed : goal.at-requires-in-Leaf-clause-placed
at-requires-in-Leaf-clause-placed g c =
    let s = c.args.self in
    after_leaf (trees s.whole) s.offset s.here c.next.new.self s.around.items s.placed c.in-Some.ensures.rest _
    (rw c.in-Leaf.is at c.in-Some.ensures.value)

pub at-requires-in-Subtree-clause-placed : goal.at-requires-in-Subtree-clause-placed
at-requires-in-Subtree-clause-placed g c =
    let s = c.args.self in
    after_opening (trees s.whole) s.offset s.here c.next.new.self s.around.items s.placed c.in-Some.ensures.rest _
    c.in-Subtree.inside c.push.new.self.items
    (rw c.in-Subtree.is at c.in-Some.ensures.value) c.in_ok-push-in-Subtree.ensures.items

pub at-requires-in_default-clause-placed : goal.at-requires-in_default-clause-placed
at-requires-in_default-clause-placed g c =
    let s = c.args.self in
    after_closing (trees s.whole) s.offset s.here c.next.new.self s.around.items s.placed c.in_default.ensures.rest
    c.in-Some-pop.here c.pop.new.self.items
    c.in_default.ensures.value c.in-Some-pop.ensures.items

pub at-requires-clause-placed : goal.at-requires-clause-placed
at-requires-clause-placed g c =
    let s = c.args.self in
    following_all (trees s.whole) s.offset s.here c.next.new.self s.around.items s.placed c.in_default.ensures.rest
    c.pop.new.self.items
    c.in_default.ensures.value (omega (arith, c.in_default-pop.ensures.cases.0, s.around.ok.0))
    (omega (arith, c.in_default-pop.ensures.cases.1, c.pop.new.self.ok.0))
