use Rattle.std.proofs.Common.{◌≡◌, ◌+◌, reverse}
use Rattle.mbe_tt.specs.Trees.Tree.{flat_len}
use Rattle.mbe_tt.specs.Views.View.{trees}
use Rattle.mbe_program.specs.Replies.Flat.FlatViews.{state_of}
use Rattle.mbe_program.specs.Replies.Flat.Encoder.{written, written_around}
use Rattle.mbe_program.proofs.ReplyLemmas.FlatTokens.WalkLemmas.{tokens_around}
use Rattle.mbe_program.proofs.replies.flat.encoder.FlatTrees.trees.Given as goal

abbrev pub invariant-tokens : goal.invariant-tokens
invariant-tokens g l =
    written_around (reverse l.around.items) (written l.iter (state_of l.self))
    ≡ written (trees l.fn.view) (state_of l.initial.self)

abbrev pub decreases-tokens : goal.decreases-tokens
decreases-tokens g l = flat_len l.iter + tokens_around (reverse l.around.items)
