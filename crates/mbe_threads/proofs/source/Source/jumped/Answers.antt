use Rattle.std.proofs.Common.{sym, subst}
use Rattle.mbe_tt.specs.Views.View.{trees}
use Rattle.mbe_threads.specs.Remainder.{IsAfter}
use Rattle.mbe_threads.proofs.Sources.{here_is, after_trees}
use Rattle.mbe_threads.proofs.source.Source.jumped.Goals as goal

pub invariant_of-result : goal.invariant_of-result
invariant_of-result g c =
    let s = c.args.self in
    let here = here_is (trees s.whole) s.offset s.here _ s.placed s.within in
    record {
      placed = after_trees (trees s.whole) s.offset c.args.width s.here c.args.beyond _ s.placed
          (subst (λ f. IsAfter f c.args.width c.args.beyond) (sym here) c.requires.beyond);
      within = c.requires.fits;
    }
