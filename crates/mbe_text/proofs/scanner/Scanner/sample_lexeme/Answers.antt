use Rattle.std.proofs.Common.{ℕ, lit<, subst, sym}
use Rattle.std.proofs.lemmas.Str.{encode_ascii}
use Rattle.mbe_text.specs.Rests.{Begins}
use Rattle.mbe_text.proofs.scanner.Scanner.sample_lexeme.Goals as goal

pub returns-then-char-eq34-clause-reads : goal.returns-then-char-eq34-clause-reads
returns-then-char-eq34-clause-reads c = λ b.
    let quote = sym (encode_ascii 34 (lit< tt)) in
    let here = subst (λ (char : ℕ). Begins char c.args.self.now.rest.now) c.if-char-eq34.true b in
    c.string.ensures.reads here quote quote
