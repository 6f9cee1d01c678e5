use Rattle.mbe_tt.specs.Views.View.{trees}
use Rattle.mbe_rewriter.specs.MacroItemViews.{call_shown}
use Rattle.mbe_session.proofs.CfgFrontLemmas.{ends_ahead}
use Rattle.mbe_session.proofs.file_expander.nested_expansion.copy_call.Goals as goal

pub up_to-requires : goal.up_to-requires
up_to-requires g c = let a = ends_ahead (trees c.args.tokens) (call_shown c.args.call) c.requires.ends in
    (a.kept, a.is)
