use Rattle.mbe_tt.specs.Views.View.{trees}
use Rattle.mbe_threads.proofs.Sources.{here_is, closes_here}
use Rattle.std.proofs.Common.{arith}
use Rattle.mbe_threads.proofs.source.Source.is_at_group_end.Goals as goal

pub returns-then-self-flat_len : goal.returns-then-self-flat_len
returns-then-self-flat_len g c =
    let s = c.args.self.now in
    closes_here (trees s.whole) s.here s.offset c.is_empty.result
    (here_is (trees s.whole) s.offset s.here _ s.placed s.within) (omega arith) c.is_empty.ensures
