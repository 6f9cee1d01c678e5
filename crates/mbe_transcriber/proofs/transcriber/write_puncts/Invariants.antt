use Rattle.std.proofs.Common.{◌≡◌, length, drop}
use Rattle.mbe_tt.specs.Buffers.GroupStack.{GroupStack}
use Rattle.mbe_transcriber.specs.TranscriberSteps.{AreMarked}
use Rattle.mbe_variables.specs.FragmentWriter.{Appends}
use Rattle.mbe_transcriber.proofs.transcriber.write_puncts.Given as goal

abbrev pub invariant-loop-punct : goal.invariant-loop-punct
invariant-loop-punct g l = record {
  open_groups : length l.builder ≡ length l.initial.builder;
  written : (last : GroupStack) → Appends
      (AreMarked (λ s t. g.M.Fn.post l.marker (s, tt) t) (drop l.punct-index l.puncts))
      l.builder last
      → Appends (AreMarked (λ s t. g.M.Fn.post l.marker (s, tt) t) l.puncts) l.initial.builder last;
}
