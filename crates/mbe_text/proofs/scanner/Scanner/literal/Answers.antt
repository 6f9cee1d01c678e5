use Rattle.mbe_text.specs.Tokens.{bytes_of}
use Rattle.mbe_text.proofs.Reading.{literal_written}
use Rattle.mbe_text.proofs.scanner.Scanner.literal.Goals as goal

pub returns-clause-reads : goal.returns-clause-reads
returns-clause-reads c = (
  c.in_ok-suffix.suffix.now,
  c.in_ok-suffix.ensures.whole,
  literal_written c.args.text.now c.in_ok-suffix.suffix.now c.in_ok-suffix.suffix_len c.args.kind (bytes_of 0 0 0)
      c.in_ok-suffix.ensures.len c.in_ok-suffix.ensures.utf8,
)
