use Rattle.std.proofs.Common.{take}
use Rattle.mbe_program.specs.Replies.Flat.Decoder.{AddAll}
use Rattle.mbe_program.proofs.replies.flat.decoder.add_all.Given as goal

abbrev pub invariant-loop-index : goal.invariant-loop-index
invariant-loop-index g l = AddAll l.text (take l.index l.tokens) l.initial.builder l.builder
