use Rattle.mbe_tt.proofs.Buffers.Seen.{shown_set}
use Rattle.std.proofs.Common.{refl}
use Rattle.mbe_tt.proofs.builder.set_entry.Goals as goal

pub returns-clause-items : goal.returns-clause-items
returns-clause-items g c = shown_set _ _ _ _ refl
