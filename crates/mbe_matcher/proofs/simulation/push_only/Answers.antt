use Rattle.std.proofs.Common.{◌∙◌, sym, ap, take}
use Rattle.mbe_matcher.specs.Threads.{open_items}
use Rattle.mbe_matcher.proofs.simulation.push_only.Goals as goal
use Rattle.mbe_matcher.proofs.simulation.push_only.Goals.{in-None, in-Some}

pub returns-clause-frames : goal.returns-clause-frames
returns-clause-frames g c = c.truncate.ensures.items ∙ ap (λ n. take n c.args.frames.now.items)
    (elim c.match-after.branch [
      | in-None w ↦ w.open-is ∙ ap open_items (sym w.in-None.is)
      | in-Some w ↦ w.open-is ∙ ap open_items (sym w.in-Some.is)
    ])
