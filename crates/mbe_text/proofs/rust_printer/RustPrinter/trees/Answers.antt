use Rattle.std.proofs.Common.{rules, Some, None, option_map, reverse, ap, ◌∙◌}
use Rattle.mbe_tt.specs.Trees.Tree.{rest_of, skip}
use Rattle.mbe_tt.specs.Views.LeafViews.{leaf_of}
use Rattle.mbe_tt.specs.Views.View.{trees}
use Rattle.mbe_tt.proofs.Trees.Walks.{begins, group_on, pop_on, all_done}
use Rattle.mbe_text.specs.RustText.DocComments.{more_trees}
use Rattle.mbe_text.specs.RustText.PrinterViews.{printer_state, doc_comment_of}
use Rattle.mbe_text.proofs.WalkLemmas.{found, comment_turn, leaf_on, text_walk}
use Rattle.mbe_text.proofs.rust_printer.RustPrinter.trees.Goals as goal

pub tokens-init : goal.tokens-init
tokens-init g c = begins text_walk _ _ _ _ c.new-around.ensures.items c.iter-iter.ensures

pub tokens-preserved-in-Some : goal.tokens-preserved-in-Some
tokens-preserved-in-Some g c =
    let comment = doc_comment_of c.in-Some.comment in
    let past = c.rest_after_comment.ensures ∙ ap (λ f. skip (more_trees comment.is_inner)
    (rest_of f)) c.remaining-in-Some.ensures in
    comment_turn (reverse c.tokens.around.items) c.tokens.iter c.iter-iter-in-Some.result comment
    (printer_state c.tokens.self)
    (printer_state c.comment.new.self) _
    (found (printer_state c.tokens.self) c.tokens.iter (trees c.remaining.result)
    (option_map doc_comment_of c.next_comment.result)
    (Some comment) c.remaining.ensures c.next_comment.ensures (ap (option_map doc_comment_of) c.in-Some.is))
    (search rules) (c.iter-iter-in-Some.ensures ∙ past) c.tokens.invariant

pub tokens-preserved-in-Continue-branch-2 : goal.tokens-preserved-in-Continue-branch-2
tokens-preserved-in-Continue-branch-2 g c =
    leaf_on c.tokens.around.items c.tokens.iter _ (leaf_of c.in-Some-Leaf.leaf.now) _ _ _ c.next.ensures.rest
    (search rules)
    (found (printer_state c.tokens.self) c.tokens.iter (trees c.remaining.result)
    (option_map doc_comment_of c.next_comment.result) None
    c.remaining.ensures c.next_comment.ensures (ap (option_map doc_comment_of) c.in_default.is))
    (search rules) c.tokens.invariant

pub tokens-preserved-in-Some-Subtree : goal.tokens-preserved-in-Some-Subtree
tokens-preserved-in-Some-Subtree g c =
    group_on text_walk c.tokens.around.items c.push.new.self.items c.tokens.iter c.next.new.self
    c.in-Some-Subtree.inside c.in-Some-Subtree.group.now.delimiter (printer_state c.tokens.self)
    (printer_state c.open.new.self) _
    c.next.ensures.rest (search rules) (search rules) (search rules) c.tokens.invariant

pub returns-in-None-pop : goal.returns-in-None-pop
returns-in-None-pop g c = all_done text_walk c.tokens.around.items c.tokens.iter _ _ (search rules) (search rules)
    c.tokens.invariant

pub tokens-preserved : goal.tokens-preserved
tokens-preserved g c =
    pop_on text_walk c.tokens.around.items c.pop.new.self.items c.tokens.iter c.in-Some-pop.rest c.in-Some-pop.delimiter
    (printer_state c.tokens.self) (printer_state c.close.new.self) _ (search rules) (search rules) (search rules)
    c.tokens.invariant
