use Rattle.std.proofs.Common.{chars}
use Rattle.mbe_text.proofs.CharacterLemmas.{start_no_slash}
use Rattle.mbe_text.proofs.CommonLemmas.{any_some}
use Rattle.mbe_text.proofs.scanner.fast_lexeme.Goals as goal

pub returns-then-has-clause-begins : goal.returns-then-has-clause-begins
returns-then-has-clause-begins c = any_some c.fast_identifier.result (
  c.in_ok-char.char,
  chars c.in_ok-char.after.now,
  c.in_ok-char.ensures.chars,
  start_no_slash c.in_ok-char.char c.has.result c.has.ensures c.if-has.true,
)
