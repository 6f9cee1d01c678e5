use Rattle.std.proofs.Common.{◌∙◌}
use Rattle.mbe_tt.specs.Views.View.{trees}
use Rattle.mbe_threads.proofs.Sources.{here_is}
use Rattle.mbe_threads.proofs.source.Source.here.Goals as goal

pub returns : goal.returns
returns g c =
    let s = c.args.self.now in
    c.fork.ensures ∙ here_is (trees s.whole) s.offset s.here _ s.placed s.within
