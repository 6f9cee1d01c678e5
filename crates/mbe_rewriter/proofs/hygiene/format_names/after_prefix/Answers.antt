use Rattle.mbe_rewriter.proofs.Renaming.MentionLemmas.{after_prefix_is}
use Rattle.mbe_rewriter.proofs.hygiene.format_names.after_prefix.Goals as goal

pub returns : goal.returns
returns c = after_prefix_is c.args.prefix.now c.args.text.now c.strip_prefix.result c.strip_prefix.ensures.cases
