use Rattle.std.proofs.Common.{◌≡◌, option_map, Some, ap, sym, ◌∙◌}
use Rattle.mbe_semantics.specs.Matching.States.{state_count, op_state_count}
use Rattle.mbe_semantics.specs.Syntax.Op.{group, repetition}
use Rattle.mbe_ops.specs.Views.{op_of, ops_of, separator_seen}
use Rattle.mbe_ops.proofs.OpViews.{view-subtree, view-repeat}
use Rattle.mbe_matcher.proofs.StepLemmas.{separator_same}
use Rattle.mbe_matcher.specs.Readings.States.{round_end, inside_of}
use Rattle.mbe_matcher.proofs.readings.states.inside.Goals as goal

pub returns-in-Subtree : goal.returns-in-Subtree
returns-in-Subtree g c =
    let body = c.deref.result.now in
    let seen : op_of c.args.op.now ≡ group c.in-Subtree.delimiter (ops_of body) =
    ap op_of c.in-Subtree.is ∙ view-subtree _ c.in-Subtree.delimiter
    ∙ ap (λ xs. group c.in-Subtree.delimiter (ops_of xs)) (sym c.deref.ensures.value) in
    sym (ap inside_of seen)

pub returns-in-Repeat : goal.returns-in-Repeat
returns-in-Repeat g c =
    let body = c.deref-in-Repeat.result.now in
    let between = option_map (λ v. separator_seen v.now) c.as_ref.result in
    let kind = c.in-Repeat.kind in
    let seen : op_of c.args.op.now ≡ repetition (ops_of body) between kind =
    ap op_of c.in-Repeat.is ∙ view-repeat _ _ _
    ∙ ap (λ x. repetition (ops_of c.in-Repeat.tokens.0.items) x kind)
    (sym (separator_same c.as_ref.result c.in-Repeat.separator c.as_ref.ensures.value))
    ∙ ap (λ xs. repetition (ops_of xs) between kind) (sym c.deref-in-Repeat.ensures.value) in
    let many : c.args.state_count ≡ state_count (ops_of body) = c.requires ∙ ap op_state_count seen in
    ap (λ n. Some (ops_of body, round_end between kind n)) many ∙ sym (ap inside_of seen)
