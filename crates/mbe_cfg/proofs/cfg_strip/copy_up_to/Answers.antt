use Rattle.std.proofs.Common.{ap, ◌∙◌, arith}
use Rattle.mbe_tt.specs.Trees.Tree.{flat_len}
use Rattle.mbe_tt.specs.Views.View.{trees}
use Rattle.mbe_cfg.proofs.StripLemmas.{copied, copied_on}
use Rattle.mbe_cfg.proofs.cfg_strip.copy_up_to.Goals as goal

pub returns-then-flat_len : goal.returns-then-flat_len
returns-then-flat_len g c =
    let few = c.if-flat_len.true in
    let all = c.flat_len.ensures ∙ ap flat_len c.remaining.ensures in
    let least = c.flat_len-in-trees.ensures in
    copied (flat_len (trees c.args.rest)) (trees c.args.tokens) c.trees.iter c.args.builder.now c.trees.builder
    c.trees.invariant (omega (arith, few, all, least))

pub trees-preserved : goal.trees-preserved
trees-preserved g c =
    let more = c.if-flat_len.false in
    let all = c.flat_len.ensures ∙ ap flat_len c.remaining.ensures in
    let least = c.flat_len-in-trees.ensures in
    copied_on (flat_len (trees c.args.rest)) (trees c.args.tokens) c.trees.iter c.next_as_view.new.self
    (trees c.in-Some.tree) c.args.builder.now c.trees.builder c.extend_with_tt.new.self c.trees.invariant
    c.in-Some.ensures.value (omega (arith, more, all, least)) c.in-Some.ensures.rest
    c.in_ok-extend_with_tt-in-Some.ensures.ok
