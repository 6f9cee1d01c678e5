use Rattle.std.proofs.Common.{arith}
use Rattle.mbe_text.proofs.TailLemmas.{end_here, end_of_rest, end_on, end_or}
use Rattle.mbe_text.proofs.scanner.Scanner.exponent.Goals as goal

pub invariant_of-self : goal.invariant_of-self
invariant_of-self c =
    let old = c.args.self.now in
    let punctuation = end_or _ c.past_one-2.result c.in-Some.rest c.unwrap_or-digits.result c.past_one-2.ensures.end
    (end_here _) c.unwrap_or-digits.ensures in
    let end = end_of_rest _ _ _ old.total old.within old.whole old.left
    (end_on _ _ _ c.in-Some.ensures.end (end_on _ _ _ punctuation c.past-self.ensures.end)) in
    record { within = omega (arith, end.0, old.whole); whole = old.whole; small = old.small; left = end.1 }
