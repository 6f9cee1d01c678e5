use Rattle.std.proofs.Common.{◌≡◌, ◌-◌, ◌≤◌, map}
use Rattle.mbe_session.specs.FileViews.{source_of}
use Rattle.mbe_session.specs.RecursionLimit.{first_limit}
use Rattle.mbe_session.proofs.recursion_limit.first_limit.Given as goal

abbrev pub invariant-files : goal.invariant-files
invariant-files l = (l.index ≤ l.fn.root_count)
    × (first_limit (l.fn.root_count - l.index) l.index (map source_of l.fn.files)
    ≡ first_limit l.fn.root_count 0 (map source_of l.fn.files))

abbrev pub decreases-files : goal.decreases-files
decreases-files l = l.fn.root_count - l.index
