use Rattle.std.proofs.Common.{◌≡◌, ◌+◌, ◌*◌}
use Rattle.mbe_tt.specs.Trees.Tree.{flat_len}
use Rattle.mbe_parser.specs.ParserResults.{mode_of}
use Rattle.mbe_parser.proofs.ReaderLemmas.{SoFar}
use Rattle.mbe_parser.proofs.parser.+template.Given as goal

abbrev pub decreases-parse_template_within : goal.decreases-parse_template_within
decreases-parse_template_within g l = 2 * flat_len l.src + 1

abbrev pub decreases-push_group : goal.decreases-push_group
decreases-push_group g l = 2 * flat_len l.src.now

abbrev pub decreases-push_at_punct : goal.decreases-push_at_punct
decreases-push_at_punct g l = 2 * flat_len l.src.now

abbrev pub invariant-parse_template_within-trees : goal.invariant-parse_template_within-trees
invariant-parse_template_within-trees g l = record {
  so_far : SoFar (λ ctx e. g.E.Fn.post l.edition (ctx, tt) e) (mode_of l.mode) l.fn.src l.src l.ops.items l.empty;
  whole : l.whole ≡ flat_len l.fn.src;
}

abbrev pub decreases-parse_template_within-trees : goal.decreases-parse_template_within-trees
decreases-parse_template_within-trees g l = flat_len l.src

abbrev pub decreases-push_after_dollar : goal.decreases-push_after_dollar
decreases-push_after_dollar g l = 2 * flat_len l.src.now

abbrev pub decreases-push_group_after_dollar : goal.decreases-push_group_after_dollar
decreases-push_group_after_dollar g l = 2 * flat_len l.inside + 3

abbrev pub decreases-repetition : goal.decreases-repetition
decreases-repetition g l = 2 * flat_len l.body + 2
