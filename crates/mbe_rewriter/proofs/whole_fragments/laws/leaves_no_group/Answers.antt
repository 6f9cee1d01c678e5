use Rattle.mbe_rewriter.proofs.Worded.OpenedLemmas.{leaves_no_group}
use Rattle.mbe_rewriter.proofs.whole_fragments.laws.leaves_no_group.Goals as goal

pub returns : goal.returns
returns c = leaves_no_group
