use Rattle.std.proofs.Common.{arith}
use Rattle.mbe_text.proofs.TailLemmas.{end_of_rest}
use Rattle.mbe_text.proofs.scanner.Scanner.rust_lexeme.Goals as goal

pub invariant_of-self : goal.invariant_of-self
invariant_of-self c =
    let old = c.args.self.now in
    let end = end_of_rest _ _ _ old.total old.within old.whole old.left
    (rw c.in-Some-Ok.field-0-is at c.in-Some-Ok.ensures.end) in
    record { within = omega (arith, end.0, old.whole); whole = old.whole; small = old.small; left = end.1 }
