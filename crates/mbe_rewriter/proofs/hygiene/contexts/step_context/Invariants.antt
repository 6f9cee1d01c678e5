use Rattle.std.proofs.Common.{◌≡◌, drop}
use Rattle.mbe_rewriter.specs.Hygiene.Contexts as spec
use Rattle.mbe_rewriter.proofs.hygiene.contexts.step_context.Given as goal

abbrev pub invariant-loop-one : goal.invariant-loop-one
invariant-loop-one l = spec.step_context l.number (drop l.one-index l.contexts) l.context
    ≡ spec.step_context l.initial.number l.contexts l.context
