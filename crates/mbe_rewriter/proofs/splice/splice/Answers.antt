use Rattle.std.proofs.Common.{rules, refl, arith}
use Rattle.std.proofs.lemmas.Str.{IsCharBoundary-start}
use Rattle.mbe_rewriter.proofs.SplicingLemmas.{adds_next}
use Rattle.mbe_rewriter.proofs.splice.splice.Goals as goal

pub loop-replacement-init : goal.loop-replacement-init
loop-replacement-init g c = record {
  whole = rw c.new-spliced.ensures.bytes refl;
  cut = IsCharBoundary-start _ c.utf8.text;
}

pub loop-replacement-preserved : goal.loop-replacement-preserved
loop-replacement-preserved g c = record {
  whole = adds_next _ _ _ _ c.args.replacements.now c.loop-replacement.replacement-index _ _ c.replacement-item.result
      (omega arith) c.replacement-item.is (search rules) c.loop-replacement.invariant.whole;
  cut = search rules;
}
