use Rattle.std.proofs.Common.{map}
use Rattle.std.proofs.lemmas.Result.{IfOk-weaker}
use Rattle.mbe_rewriter.specs.Hygiene.EventViews.{word_of}
use Rattle.mbe_rewriter.specs.Hygiene.Buckets.{buckets_of}
use Rattle.mbe_rewriter.proofs.Renaming.ListLemmas.{lists_are}
use Rattle.mbe_rewriter.proofs.hygiene.buckets.buckets_for.Goals as goal

pub returns-else-locals-lt16 : goal.returns-else-locals-lt16
returns-else-locals-lt16 g c =
    IfOk-weaker c.buckets.result _ _ (λ v e. lists_are (map word_of c.args.words.now) 64 (buckets_of v.items) e)
    c.buckets.ensures
