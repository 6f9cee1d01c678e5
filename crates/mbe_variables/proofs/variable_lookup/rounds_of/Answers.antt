use Rattle.std.proofs.Common.{ap, sym, ◌∙◌}
use Rattle.std.specs.Prelude.{option_map, filter_map, unwrap_or}
use Rattle.mbe_variables.specs.RoundCounts.{extent_seen}
use Rattle.mbe_semantics.specs.Syntax.Op.{uses_of}
use Rattle.mbe_semantics.specs.Transcription.Rounds.{extent_under, finite}
use Rattle.mbe_ops.specs.Views.{ops_of}
use Rattle.mbe_bindings.specs.BindingViews.{env_of}
use Rattle.mbe_variables.proofs.FollowLemmas.{least_of}
use Rattle.mbe_variables.proofs.variable_lookup.rounds_of.Goals as goal

pub returns-in-Some : goal.returns-in-Some
returns-in-Some g c =
    sym (least_of (filter_map (extent_under (env_of c.args.bindings.now) c.args.path.now)
    (uses_of (ops_of c.args.body.now)))
    ∙ ap (λ o. unwrap_or o (finite 0)) (sym c.shortest.ensures ∙ ap (option_map extent_seen) c.in-Some.is))
