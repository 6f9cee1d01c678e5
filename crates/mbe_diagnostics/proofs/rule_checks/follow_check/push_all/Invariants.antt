use Rattle.std.proofs.Common.{◌≡◌, ◌++◌, map, drop}
use Rattle.mbe_diagnostics.specs.RuleChecks.FollowCheck.{follower_seen}
use Rattle.mbe_diagnostics.proofs.rule_checks.follow_check.push_all.Given as goal

abbrev pub invariant-loop-one : goal.invariant-loop-one
invariant-loop-one g l =
    map follower_seen l.next.items ++ map follower_seen (drop l.one-index l.after)
    ≡ map follower_seen l.initial.next.items ++ map follower_seen l.after
