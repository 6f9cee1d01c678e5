use Rattle.std.proofs.Common.{◌≡◌, drop}
use Rattle.mbe_rewriter.specs.Hygiene.Contexts as spec
use Rattle.mbe_rewriter.proofs.hygiene.contexts.contains_number.Given as goal

abbrev pub invariant-loop-one : goal.invariant-loop-one
invariant-loop-one l = spec.contains_number (drop l.one-index l.numbers) l.number
    ≡ spec.contains_number l.numbers l.number
