use Rattle.std.proofs.Common.{◌≡◌, None, length, drop}
use Rattle.std.specs.Str.Lines.{lines}
use Rattle.mbe_grammar.specs.Peg.Views.{tokens_model}
use Rattle.mbe_grammar.specs.Peg.Tokens.{and_more, tokenize_lines, tokenize}
use Rattle.mbe_grammar.proofs.peg.peg_lexer.tokenize.Given as goal

abbrev pub invariant-loop-line : goal.invariant-loop-line
invariant-loop-line g l = record {
  whole : and_more (tokens_model l.all) (tokenize_lines l.number l.all.end (drop (length l.yielded) (lines l.text)))
      ≡ tokenize l.text;
  right : l.all.wrong ≡ None;
}
