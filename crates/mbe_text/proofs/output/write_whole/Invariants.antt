use Rattle.mbe_text.specs.WriterBytes.{WritesPrefix}
use Rattle.mbe_text.proofs.output.write_whole.Given as goal

abbrev pub invariant-calls : goal.invariant-calls
invariant-calls g l = WritesPrefix (g.W.Write.contents l.initial.out) (g.W.Write.contents l.out) l.initial.rest l.rest
