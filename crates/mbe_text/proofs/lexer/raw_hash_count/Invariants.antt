use Rattle.std.proofs.Common.{◌≡◌, max, drop}
use Rattle.mbe_text.specs.Tokens.{most_guards}
use Rattle.mbe_text.proofs.lexer.raw_hash_count.Given as goal

abbrev pub invariant-bytes : goal.invariant-bytes
invariant-bytes l = max l.most (most_guards l.guards (drop l.byte-index l.text)) ≡ most_guards 0 l.text
