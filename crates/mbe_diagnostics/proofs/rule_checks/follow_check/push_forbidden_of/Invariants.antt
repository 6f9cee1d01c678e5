use Rattle.std.proofs.Common.{◌≡◌, ◌++◌, map, drop}
use Rattle.mbe_diagnostics.specs.RuleChecks.FollowCheck.{forbidden_of, follower_seen, violation_seen}
use Rattle.mbe_diagnostics.proofs.rule_checks.follow_check.push_forbidden_of.Given as goal

abbrev pub invariant-loop-next : goal.invariant-loop-next
invariant-loop-next g l =
    map violation_seen l.found.items ++ forbidden_of l.name l.kind l.place l.alone
    (map follower_seen (drop l.next-index l.after))
    ≡ map violation_seen l.initial.found.items ++ forbidden_of l.name l.kind l.place l.alone
    (map follower_seen l.after)
