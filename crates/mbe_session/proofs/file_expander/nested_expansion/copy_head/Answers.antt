use Rattle.mbe_tt.specs.Views.View.{trees}
use Rattle.mbe_rewriter.specs.MacroItemViews.{call_shown}
use Rattle.mbe_session.proofs.AdjustmentLemmas.{up_to_group}
use Rattle.mbe_session.proofs.file_expander.nested_expansion.copy_head.Goals as goal

pub up_to-requires : goal.up_to-requires
up_to-requires g c =
    up_to_group (trees c.args.tokens) (trees c.from_last.result) (call_shown c.args.call) c.requires.ends
    c.from_last.ensures
