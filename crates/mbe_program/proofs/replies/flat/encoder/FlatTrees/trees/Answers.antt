use Rattle.std.proofs.Common.{rules}
use Rattle.mbe_tt.specs.Views.LeafViews.{leaf_of}
use Rattle.mbe_program.specs.Replies.Flat.FlatViews.{state_of}
use Rattle.mbe_tt.proofs.Trees.Walks.{begins, group_on, pop_on, all_done}
use Rattle.mbe_program.proofs.ReplyLemmas.FlatTokens.WalkLemmas.{leaf_on, walk}
use Rattle.mbe_program.proofs.replies.flat.encoder.FlatTrees.trees.Goals as goal

pub tokens-init : goal.tokens-init
tokens-init g c = begins walk _ _ _ _ c.new-around.ensures.items c.iter-iter.ensures

pub tokens-preserved-in-Continue-1 : goal.tokens-preserved-in-Continue-1
tokens-preserved-in-Continue-1 g c =
    leaf_on c.tokens.around.items c.tokens.iter _ (leaf_of c.in-Some-Leaf.leaf.now) _ _ _ c.next.ensures.rest
    (search rules) (search rules)
    c.tokens.invariant

pub tokens-preserved-in-Some-Subtree : goal.tokens-preserved-in-Some-Subtree
tokens-preserved-in-Some-Subtree g c =
    group_on walk c.tokens.around.items c.push.new.self.items c.tokens.iter c.next.new.self c.in-Some-Subtree.inside
    c.in-Some-Subtree.group.now.delimiter (state_of c.tokens.self) (state_of c.open.new.self) _
    c.next.ensures.rest (search rules) (search rules) (search rules) c.tokens.invariant

pub returns-in-None-pop : goal.returns-in-None-pop
returns-in-None-pop g c = all_done walk c.tokens.around.items c.tokens.iter _ _ (search rules) (search rules)
    c.tokens.invariant

pub tokens-preserved : goal.tokens-preserved
tokens-preserved g c =
    pop_on walk c.tokens.around.items c.pop.new.self.items c.tokens.iter c.in-Some.rest c.in-Some.delimiter
    (state_of c.tokens.self) (state_of c.close.new.self) _ (search rules) (search rules) (search rules)
    c.tokens.invariant
