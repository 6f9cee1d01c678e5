use Rattle.std.proofs.Common.{◌≡◌, length}
use Rattle.mbe_text.specs.Tokens.{ended}
use Rattle.mbe_text.proofs.lexer.finish.Given as goal

abbrev pub invariant-groups : goal.invariant-groups
invariant-groups g l = ended l.end l.builder ≡ ended l.end l.initial.builder

abbrev pub decreases-groups : goal.decreases-groups
decreases-groups g l = length l.builder
