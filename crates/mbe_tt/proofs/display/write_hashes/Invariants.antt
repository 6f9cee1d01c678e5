use Rattle.mbe_tt.specs.Trees.Literals.{hash_text}
use Rattle.std.specs.Fmt.{HasWritten, IsPlainFormatter}
use Rattle.mbe_tt.proofs.display.write_hashes.Given as goal

abbrev pub invariant-loop-i : goal.invariant-loop-i
invariant-loop-i g l =
    IsPlainFormatter l.initial.f → HasWritten g.W.Write.write_str_gives l.initial.f (hash_text l._i) l.f
