use Rattle.std.proofs.Common.{◌∙◌, ap, sym}
use Rattle.std.specs.Prelude.{option_map}
use Rattle.mbe_tt.specs.Buffers.GroupStack.{put}
use Rattle.mbe_semantics.specs.Transcription.Substitution.{separator_trees}
use Rattle.mbe_ops.specs.Views.{separator_seen}
use Rattle.mbe_variables.proofs.PutLemmas.{put-none}
use Rattle.mbe_transcriber.proofs.transcriber.write_separator.Goals as goal

pub returns-in-None : goal.returns-in-None
returns-in-None g c =
    put-none c.args.builder.now ∙ ap (λ s. put (separator_trees (option_map (λ x. separator_seen x.now) s))
    c.args.builder.now) (sym c.in-None.is)
