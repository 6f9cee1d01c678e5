use Rattle.std.proofs.Common.{sym, ap, ◌∙◌}
use Rattle.mbe_tt.specs.Trees.Leaf.{Leaf}
use Rattle.mbe_tt.specs.Trees.Tree.{Forest, none, leaf}
use Rattle.mbe_tt.specs.Views.LeafViews.{leaf_of}
use Rattle.mbe_tt.specs.declared.tt.Spacing.TheVariants.{Joint}
use Rattle.mbe_text.specs.Characters.{number_sign}
use Rattle.mbe_text.specs.Tokens.{punct_leaf, doc_marks}
use Rattle.mbe_text.proofs.Attributes.{puts_both}
use Rattle.mbe_text.proofs.lexer.add_doc_marks.Goals as goal

pub returns : goal.returns
returns g c =
    let span = c.args.span in
    let two : Leaf → Leaf → Forest = λ x y. leaf x (leaf y none) in
    puts_both c.push-3.result _ _ (doc_marks span c.args.is_inner) c.args.builder.now c.push-2.new.self
    c.push-3.new.self
    c.in_ok-push.ensures.ok c.push-3.ensures.ok
    (ap (λ (x : Leaf). two x (leaf_of c.punct-3.result)) c.punct-2.ensures
    ∙ (ap (two (punct_leaf span number_sign Joint)) c.punct-3.ensures
    ∙ ap (doc_marks span) (sym c.if-not-is_inner.false)))
