use Rattle.std.proofs.Common.{sym}
use Rattle.mbe_variables.proofs.FollowLemmas.{level_near, no_level}
use Rattle.mbe_variables.proofs.variable_lookup.level_at.Goals as goal

pub returns-then-depth-path : goal.returns-then-depth-path
returns-then-depth-path c = sym (level_near c.args.path.now c.args.depth (record { index = 0; rounds = 0 })
    c.if-depth-path.true)

pub returns-else-depth-path : goal.returns-else-depth-path
returns-else-depth-path c = sym (no_level c.args.path.now c.args.depth c.if-depth-path.false)
