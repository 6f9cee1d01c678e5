use Rattle.mbe_rewriter.proofs.Renaming.MentionLemmas.{run_boundary}
use Rattle.mbe_rewriter.proofs.hygiene.format_names.split_run.Goals as goal

pub split_at-requires : goal.split_at-requires
split_at-requires c = rw c.run_len.ensures (run_boundary c.args.text.now)
