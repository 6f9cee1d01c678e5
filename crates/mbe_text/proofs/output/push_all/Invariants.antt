use Rattle.std.proofs.Common.{◌++◌, drop}
use Rattle.std.specs.Prelude.{flat_map}
use Rattle.mbe_text.proofs.WriterLemmas.{Grows}
use Rattle.mbe_text.proofs.output.push_all.Given as goal

abbrev pub invariant-texts : goal.invariant-texts
invariant-texts g l =
    Grows (g.W.Write.contents l.initial.out) (g.W.Write.contents l.out) l.line.items
    (l.initial.line.items ++ flat_map (λ t. t.now) l.texts) (flat_map (λ t. t.now) (drop l.text-index l.texts))
