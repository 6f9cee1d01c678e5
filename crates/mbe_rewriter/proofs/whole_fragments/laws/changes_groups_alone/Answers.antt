use Rattle.mbe_rewriter.proofs.Worded.OpenedLemmas.{changes_groups_alone}
use Rattle.mbe_rewriter.proofs.whole_fragments.laws.changes_groups_alone.Goals as goal

pub returns : goal.returns
returns c = changes_groups_alone
