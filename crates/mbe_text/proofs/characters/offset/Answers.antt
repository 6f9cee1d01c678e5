use Rattle.std.proofs.Common.{ap, length, List, ℕ, arith}
use Rattle.std.proofs.lemmas.Str.{encodes-chars}
use Rattle.mbe_text.proofs.characters.offset.Goals as goal

pub returns-clause-exact : goal.returns-clause-exact
returns-clause-exact c = omega (arith, ap (λ (l : List ℕ). length l) (encodes-chars c.args.rest.now c.utf8.rest))
