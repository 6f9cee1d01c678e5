use Rattle.std.proofs.Common.{◌≡◌, ◌<◌, length}
use Rattle.mbe_text.specs.declared.dialect.Dialect.TheVariants.{Sample}
use Rattle.mbe_text.proofs.DivisionLemmas.{Reaches}
use Rattle.mbe_text.proofs.Made.{Lexed}
use Rattle.mbe_text.proofs.lexer.lex_dialect_with_table.Given as goal

abbrev pub invariant-tokens : goal.invariant-tokens
invariant-tokens g l = record {
  dialect : l.scanner.dialect ≡ l.fn.dialect;
  total : l.scanner.total ≡ length l.fn.text;
  file : l.scanner.file ≡ l.fn.file;
  text : l.scanner.text.now ≡ l.fn.text;
  some : 0 < length l.builder;
  lexed : l.fn.dialect ≡ Sample → Lexed l.fn.file l.fn.text (length l.scanner.rest.now) l.builder;
  reached : Reaches l.fn.dialect l.fn.file l.fn.text l.scanner.rest.now l.builder;
}

abbrev pub decreases-tokens : goal.decreases-tokens
decreases-tokens g l = length l.scanner.rest.now
