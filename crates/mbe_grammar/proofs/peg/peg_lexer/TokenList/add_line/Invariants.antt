use denote.Shadow.{shadow}
use denote.Text.{Utf8}
use Rattle.std.proofs.Common.{◌≡◌, None}
use Rattle.mbe_grammar.specs.Peg.Views.{tokens_model}
use Rattle.mbe_grammar.specs.Peg.Tokens.{and_more, tokenize_from, tokenize_line}
use Rattle.mbe_grammar.proofs.peg.peg_lexer.TokenList.add_line.Given as goal

abbrev pub invariant-words : goal.invariant-words
invariant-words g l = record {
  whole : and_more (tokens_model l.self) (tokenize_from l.left l.number l.line l.rest)
      ≡ and_more (tokens_model l.initial.self) (tokenize_line l.number l.line);
  right : l.wrong ≡ None;
  text : shadow (Utf8 l.rest);
}

abbrev pub decreases-words : goal.decreases-words
decreases-words g l = l.left
