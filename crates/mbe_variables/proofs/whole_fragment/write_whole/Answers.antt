use Rattle.std.proofs.Common.{◌∙◌, ap}
use Rattle.mbe_tt.specs.Views.View.{trees}
use Rattle.mbe_tt.specs.Buffers.GroupStack.{put}
use Rattle.mbe_semantics.specs.Transcription.FragmentTrees.{inside_group, whole_fragment}
use Rattle.mbe_variables.proofs.WholeLemmas.{whole_put}
use Rattle.mbe_variables.proofs.whole_fragment.write_whole.Goals as goal

pub returns-clause-written : goal.returns-clause-written
returns-clause-written g c =
    whole_put c.group_for-group.result c.args.id c.delimiter-delimiter.result (trees c.args.tree)
    (trees c.inside_group.result) c.args.builder.now c.open.new.self c.extend_with_tt_alone.new.self c.close.new.self
    c.delimiter-delimiter.ensures c.inside_group.ensures c.in_ok-open.ensures.ok
    c.in_ok-extend_with_tt_alone.ensures.ok c.close.ensures
    ∙ ap (λ k. put (whole_fragment k c.args.id (trees c.args.tree)) c.args.builder.now) c.group_for-group.ensures
