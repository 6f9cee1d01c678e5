use Rattle.std.proofs.Common.{◌≡◌, ◌++◌, drop}
use Rattle.std.specs.String.{string_bytes}
use Rattle.mbe_semantics.specs.Expansion.MatchError.{puncts_text}
use Rattle.mbe_matcher.proofs.match_report.puncts_text.Given as goal

abbrev pub invariant-loop-punct : goal.invariant-loop-punct
invariant-loop-punct g l = string_bytes l.text ++ puncts_text (drop l.punct-index l.puncts) ≡ puncts_text l.fn.puncts
