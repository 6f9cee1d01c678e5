-- The code's values as values of the specification: a borrowed text becomes its bytes, without its
-- address.
use Rattle.std.specs.Prelude.{◌≡◌, ℕ, ⊤, List, map, reverse, Option, Some, None, option_map, Result}
use Rattle.std.specs.Prelude.{Ok, Err}
use Rattle.std.specs.Borrow.{Bor}
use Rattle.std.specs.BTreeMap.{BTreeMap, btree_map_len, get_by}
use Rattle.std.specs.Cmp.Lexicographic.{slice_cmp}
use Rattle.std.specs.Ordering.{nat_cmp}
use Rattle.mbe_grammar.specs.declared.tables.node.Keyword.{Keyword}
use Rattle.mbe_grammar.specs.declared.tables.node.Node.{Node}
use Rattle.mbe_grammar.specs.declared.tables.node.Node.TheVariants as nodes
use Rattle.mbe_grammar.specs.declared.tables.node.Terminal.{Terminal}
use Rattle.mbe_grammar.specs.declared.tables.node.Terminal.TheVariants as terminals
use Rattle.mbe_grammar.specs.Peg.Grammar.{RuleNames, Read, ReaderState, Table}
use Rattle.mbe_grammar.specs.Peg.Tokens.{borrowed, TokenResult, TokenList}
use Rattle.mbe_grammar.specs.declared.peg.peg_error.PegLocation.{PegLocation}
use Rattle.mbe_grammar.specs.declared.peg.peg_error.PegErrorKind.{PegErrorKind}
use Rattle.mbe_grammar.specs.declared.peg.peg_error.PegErrorKind.TheVariants as reasons
use Rattle.mbe_grammar.specs.declared.peg.peg_error.PegError.{PegError}
use Rattle.mbe_grammar.specs.declared.peg.peg_error.PegError.TheVariants.{At, OutOfMemory}
use Rattle.mbe_grammar.specs.declared.peg.peg_reader.PegReader.{PegReader}
use Rattle.mbe_grammar.specs.declared.peg.peg_grammar.PegGrammar.{PegGrammar}
use Rattle.mbe_grammar.specs.declared.peg.peg_token.PegToken.{PegToken}
use Rattle.mbe_grammar.specs.declared.peg.peg_token.PegToken.TheVariants as tokens
use Rattle.mbe_grammar.specs.declared.peg.peg_lexer.TokenList.{TokenList as WordsOfCode}

abbrev pub plain_token : PegToken → PegToken
plain_token (tokens.Define text) = tokens.Define (borrowed text.now)
plain_token (tokens.Name text) = tokens.Name (borrowed text.now)
plain_token (tokens.Word text) = tokens.Word (borrowed text.now)
plain_token (tokens.Operator text) = tokens.Operator (borrowed text.now)
plain_token (tokens.Sign c) = tokens.Sign c
plain_token (tokens.Inside kind) = tokens.Inside kind
plain_token (tokens.Mark c) = tokens.Mark c

abbrev pub plain_word : PegLocation × PegToken → PegLocation × PegToken
plain_word word = (word.0, plain_token word.1)

abbrev pub plain_reason : PegErrorKind → PegErrorKind
plain_reason reasons.InvalidToken = reasons.InvalidToken
plain_reason reasons.Unclosed = reasons.Unclosed
plain_reason reasons.Empty = reasons.Empty
plain_reason reasons.ExpectedSign = reasons.ExpectedSign
plain_reason reasons.Unopened = reasons.Unopened
plain_reason reasons.ExpectedDefinition = reasons.ExpectedDefinition
plain_reason reasons.ExpectedRule = reasons.ExpectedRule
plain_reason reasons.NothingToRepeat = reasons.NothingToRepeat
plain_reason reasons.ExpectedKeyword = reasons.ExpectedKeyword
plain_reason (reasons.Unknown name) = reasons.Unknown (borrowed name.now)
plain_reason (reasons.Duplicate name) = reasons.Duplicate (borrowed name.now)

abbrev pub plain_terminal : Terminal → Terminal
plain_terminal (terminals.Word text) = terminals.Word (borrowed text.now)
plain_terminal (terminals.Words texts) =
    terminals.Words (borrowed (map (λ t. borrowed t.now) texts.now))
plain_terminal (terminals.Operator text) = terminals.Operator (borrowed text.now)
plain_terminal (terminals.Operators texts) =
    terminals.Operators (borrowed (map (λ t. borrowed t.now) texts.now))
plain_terminal (terminals.Sign c) = terminals.Sign c
plain_terminal (terminals.Group kinds) = terminals.Group (borrowed kinds.now)
plain_terminal (terminals.Fragment groups) = terminals.Fragment (borrowed groups.now)
plain_terminal terminals.Name = terminals.Name
plain_terminal terminals.Identifier = terminals.Identifier
plain_terminal terminals.Literal = terminals.Literal
plain_terminal terminals.Pointed = terminals.Pointed
plain_terminal terminals.Any = terminals.Any
plain_terminal terminals.End = terminals.End
plain_terminal (terminals.Since edition) = terminals.Since edition

abbrev pub plain_node : Node → Node
plain_node (nodes.Terminal t) = nodes.Terminal (plain_terminal t)
plain_node (nodes.Inside kind x) = nodes.Inside kind x
plain_node (nodes.Part x) = nodes.Part x
plain_node (nodes.Then x y) = nodes.Then x y
plain_node (nodes.Or x y) = nodes.Or x y
plain_node (nodes.Maybe x) = nodes.Maybe x
plain_node (nodes.Repeated x) = nodes.Repeated x
plain_node (nodes.Needed x) = nodes.Needed x
plain_node (nodes.Ahead x) = nodes.Ahead x
plain_node (nodes.NotAhead x) = nodes.NotAhead x

abbrev pub plain_keyword : Keyword → Keyword
plain_keyword k = record k { text = borrowed k.text.now }

-- the token at the front of a text
abbrev pub token_result_model : Result (Option (PegToken × Bor (List ℕ))) PegErrorKind → TokenResult
token_result_model (Ok None) = Ok None
token_result_model (Ok (Some (token, rest))) = Ok (Some (plain_token token, rest.now))
token_result_model (Err reason) = Err (plain_reason reason)

-- the names of rules
abbrev pub names_model : BTreeMap (Bor (List ℕ)) ℕ → RuleNames
names_model m =
    record {
      count = btree_map_len m;
      position = λ name. get_by (λ k. slice_cmp nat_cmp name k.now)
          m;
    }

-- the error, unless an allocation failed
abbrev pub Faults : {A : Type 0} → PegError → Read A → Type 0
Faults OutOfMemory out = ⊤
Faults (At location reason) out = out ≡ Err (At location (plain_reason reason))

-- The result of a call, mapped by `see`, is the value or the error of the specification. Or an
-- allocation failed.
abbrev pub IsRead : {X A : Type 0} → (X → A) → Result X PegError → Read A → Type 0
IsRead see (Ok x) out = out ≡ Ok (see x)
IsRead see (Err fault) out = Faults fault out

-- a name's token, and the parts around a quote
abbrev pub start_of_name : PegToken × Bor (List ℕ) → PegToken × List ℕ
start_of_name p = (plain_token p.0, p.1.now)

abbrev pub parts_model : Result (Bor (List ℕ) × Bor (List ℕ)) PegErrorKind
    → Result (List ℕ × List ℕ) PegErrorKind
parts_model (Ok (text, rest)) = Ok (text.now, rest.now)
parts_model (Err reason) = Err (plain_reason reason)

-- the tokens of a text
abbrev pub tokens_model : {A : Type 0} → WordsOfCode A → TokenList
tokens_model w =
    record {
      words = map plain_word w.words.items;
      end = w.end;
      wrong = option_map plain_reason
          w.wrong;
    }

-- the state of the reader
abbrev pub reader_model : {A : Type 0} → PegReader A → ReaderState
reader_model r = record {
  names = names_model r.names;
  nodes = map plain_node r.nodes.items;
  keywords = map plain_keyword r.keywords.items;
  choice = r.choice;
  around = reverse r.around.items;
}

-- the rules of a grammar
abbrev pub grammar_model : {A : Type 0} → PegGrammar A → Table
grammar_model r = record {
  nodes = map plain_node r.nodes.items;
  keywords = map plain_keyword r.keywords.items;
  starts = r.starts;
}
