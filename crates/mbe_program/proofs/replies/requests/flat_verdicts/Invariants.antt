use Rattle.std.proofs.Common.{◌≡◌, map, take}
use Rattle.mbe_matcher.specs.MatchResults.{verdict_seen}
use Rattle.mbe_program.specs.Replies.Requests.{flat_verdict}
use Rattle.mbe_program.proofs.replies.requests.flat_verdicts.Given as goal

abbrev pub invariant-loop-verdict : goal.invariant-loop-verdict
invariant-loop-verdict g l =
    l.flat.items ≡ map (λ v. flat_verdict (verdict_seen v)) (take l.verdict-index l.verdicts)
