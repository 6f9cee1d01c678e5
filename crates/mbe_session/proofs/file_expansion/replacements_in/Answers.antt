use Rattle.std.proofs.Common.{◌∙◌, ap, map, sym}
use Rattle.mbe_rewriter.specs.ReplacementViews.{part_of}
use Rattle.mbe_session.proofs.CrateLemmas.{none_in, one_in}
use Rattle.mbe_session.proofs.file_expansion.replacements_in.Goals as goal
use Rattle.mbe_session.proofs.file_expansion.replacements_in.Goals.{then-is_in+in_ok-copied+in_ok-push, else-is_in}

pub loop-part-init : goal.loop-part-init
loop-part-init c = ap (map part_of) c.new-found.ensures.items

pub loop-part-preserved : goal.loop-part-preserved
loop-part-preserved c = elim c.if-is_in.branch [
  | then-is_in+in_ok-copied+in_ok-push w ↦ one_in part_of c.args.number c.args.parts.now c.part-item.result
      c.loop-part.part-index c.loop-part.found.items c.if-is_in.found.items w.in_ok-copied.field-0
      c.loop-part-test.true c.part-item.is c.loop-part.invariant (sym c.is_in.ensures ∙ w.if-is_in.true)
      (ap (λ v. v.items) w.found-is ∙ w.in_ok-push.ensures.items) w.in_ok-copied.ensures
  | else-is_in w ↦ none_in part_of c.args.number c.args.parts.now c.part-item.result c.loop-part.part-index
      c.if-is_in.found.items c.loop-part-test.true c.part-item.is
      (ap (λ v. map part_of v.items) w.found-is ∙ c.loop-part.invariant) (sym c.is_in.ensures ∙ w.if-is_in.false)
]
