use Rattle.std.proofs.Common.{◌≡◌, map}
use Rattle.std.specs.Prelude.{option_map, filter_map}
use Rattle.mbe_variables.specs.RoundCounts.{shortest, shorter, extent_seen}
use Rattle.mbe_semantics.specs.Syntax.Op.{uses_of_expression}
use Rattle.mbe_semantics.specs.Transcription.Rounds.{extent_under}
use Rattle.mbe_ops.specs.Expressions.{mentions_left, expression_seen}
use Rattle.mbe_bindings.specs.BindingViews.{env_of}
use Rattle.mbe_variables.proofs.variable_lookup.shortest_of_expression.Given as goal

abbrev pub invariant-loop-mention : goal.invariant-loop-mention
invariant-loop-mention g l =
    shortest (filter_map (extent_under (env_of l.bindings) l.path)
    (uses_of_expression (expression_seen l.expression)))
    ≡ shorter (option_map extent_seen l.least)
    (shortest (filter_map (extent_under (env_of l.bindings) l.path)
    (map (λ m. m.used) (mentions_left l.mention-iterator))))
