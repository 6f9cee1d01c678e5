use Rattle.std.proofs.Common.{lit<, sym}
use Rattle.std.proofs.lemmas.Str.{encode_ascii}
use Rattle.mbe_text.proofs.scanner.Scanner.quote.Goals as goal

pub returns-then-is_at_char-clause-reads : goal.returns-then-is_at_char-clause-reads
returns-then-is_at_char-clause-reads c = λ b.
    let quote = sym (encode_ascii 39 (lit< tt)) in
    c.string.ensures.reads b quote quote
