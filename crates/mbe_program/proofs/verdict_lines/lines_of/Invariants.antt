use Rattle.std.proofs.Common.{◌≡◌, take, map}
use Rattle.std.specs.String.{string_bytes}
use Rattle.mbe.specs.MatchResults.{verdict_seen}
use Rattle.mbe_program.specs.VerdictLines.{lines_from}
use Rattle.mbe_program.proofs.verdict_lines.lines_of.Given as goal

abbrev pub invariant-loop-rule : goal.invariant-loop-rule
invariant-loop-rule g l = string_bytes l.lines ≡ lines_from 0 (take l.rule (map verdict_seen l.verdicts))
