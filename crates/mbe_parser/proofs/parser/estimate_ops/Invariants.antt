use Rattle.std.proofs.Common.{◌+◌, ◌≤◌}
use Rattle.mbe_tt.specs.Trees.Tree.{flat_len}
use Rattle.mbe_parser.proofs.parser.estimate_ops.Given as goal

abbrev pub invariant-trees : goal.invariant-trees
invariant-trees g l = l.count + flat_len l.src ≤ flat_len l.fn.src

abbrev pub decreases-trees : goal.decreases-trees
decreases-trees g l = flat_len l.src
