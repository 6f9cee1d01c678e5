use Rattle.std.proofs.Common.{◌+◌, map, reverse}
use Rattle.mbe_tt.specs.Trees.Tree.{flat_len}
use Rattle.mbe_tt.specs.Views.View.{trees}
use Rattle.mbe_rewriter.specs.Hygiene.EventViews.{event_of}
use Rattle.mbe_rewriter.specs.Hygiene.TreeEvents.{events}
use Rattle.mbe_rewriter.proofs.Renaming.WalkLemmas.{Left, tokens_around}
use Rattle.mbe_rewriter.proofs.hygiene.tree_events.walk.Given as goal

abbrev pub invariant-tokens : goal.invariant-tokens
invariant-tokens g l =
    Left (map event_of l.found.items) l.scan l.iter l.open_groups.items (events l.fn.begin (trees l.fn.tokens))

abbrev pub decreases-tokens : goal.decreases-tokens
decreases-tokens g l = flat_len l.iter + tokens_around (reverse l.open_groups.items)
