-- The meaning of a grammar's text: its rules as nodes, its keywords, and the rules of the entry
-- points. Or the error in the text, with its location.
use Rattle.std.specs.Prelude.{ℕ, ◌+◌, ◌==◌, if◌then◌else◌, List, [], ◌∷◌, ◌++◌, length, replicate}
use Rattle.std.specs.Prelude.{slice_set, codes, Option, Some, None, unwrap_or, Result, Ok, Err}
use Rattle.std.specs.Map.{update}
use Rattle.std.specs.Str.{bytes_eq}
use Rattle.mbe_tt.specs.declared.span.Edition.{Edition}
use Rattle.mbe_tt.specs.declared.span.Edition.TheVariants.{Edition2015, Edition2018, Edition2021}
use Rattle.mbe_tt.specs.declared.span.Edition.TheVariants.{Edition2024}
use Rattle.mbe_tt.specs.declared.tt.DelimiterKind.{DelimiterKind}
use Rattle.mbe_tt.specs.declared.tt.DelimiterKind.TheVariants.{Parenthesis, Brace, Bracket}
use Rattle.mbe_tt.specs.declared.tt.DelimiterKind.TheVariants.{Invisible}
use Rattle.mbe_grammar.specs.declared.tables.node.Keyword.{Keyword}
use Rattle.mbe_grammar.specs.declared.tables.node.Node.{Node}
use Rattle.mbe_grammar.specs.declared.tables.node.Node.TheVariants as nodes
use Rattle.mbe_grammar.specs.declared.tables.node.Terminal.{Terminal}
use Rattle.mbe_grammar.specs.declared.tables.node.Terminal.TheVariants as terminals
use Rattle.mbe_grammar.specs.declared.tables.peg_table.EntryRules.{EntryRules}
use Rattle.mbe_grammar.specs.Peg.Tokens.{borrowed, TokenList, tokenize}
use Rattle.mbe_grammar.specs.declared.peg.partial_choice.PartialChoice.{PartialChoice}
use Rattle.mbe_grammar.specs.declared.peg.partial_choice.ChoiceOpening.{ChoiceOpening}
use Rattle.mbe_grammar.specs.declared.peg.partial_choice.ChoiceOpening.TheVariants as openings
use Rattle.mbe_grammar.specs.declared.peg.partial_choice.Lookahead.{Lookahead}
use Rattle.mbe_grammar.specs.declared.peg.partial_choice.Lookahead.TheVariants.{Positive, Negative}
use Rattle.mbe_grammar.specs.declared.peg.peg_error.PegLocation.{PegLocation}
use Rattle.mbe_grammar.specs.declared.peg.peg_error.PegErrorKind.{PegErrorKind}
use Rattle.mbe_grammar.specs.declared.peg.peg_error.PegErrorKind.TheVariants.{Unclosed, Unopened}
use Rattle.mbe_grammar.specs.declared.peg.peg_error.PegErrorKind.TheVariants.{ExpectedDefinition}
use Rattle.mbe_grammar.specs.declared.peg.peg_error.PegErrorKind.TheVariants.{ExpectedRule}
use Rattle.mbe_grammar.specs.declared.peg.peg_error.PegErrorKind.TheVariants.{NothingToRepeat}
use Rattle.mbe_grammar.specs.declared.peg.peg_error.PegErrorKind.TheVariants.{ExpectedKeyword}
use Rattle.mbe_grammar.specs.declared.peg.peg_error.PegErrorKind.TheVariants.{Unknown, Duplicate}
use Rattle.mbe_grammar.specs.declared.peg.peg_error.PegError.{PegError}
use Rattle.mbe_grammar.specs.declared.peg.peg_error.PegError.TheVariants.{At}
use Rattle.mbe_grammar.specs.declared.peg.peg_token.PegToken.{PegToken}
use Rattle.mbe_grammar.specs.declared.peg.peg_token.PegToken.TheVariants as tokens

-- the value that was read, or the first error
abbrev pub Read : Type 0 → Type 0
Read A = Result A PegError

infixl 10 ◌>>=◌
abbrev pub ◌>>=◌ : {A B : Type 0} → Read A → (A → Read B) → Read B
Ok x >>= next = next x
Err fault >>= next = Err fault

-- ---- names of rules

-- the edition of the list of keywords with this name
abbrev pub edition_named : List ℕ → Option Edition
edition_named name =
    if bytes_eq name (codes "KEYWORDS_2015") then Some Edition2015
    else if bytes_eq name (codes "KEYWORDS_2018") then Some Edition2018
    else if bytes_eq name (codes "KEYWORDS_2021") then Some Edition2021
    else if bytes_eq name (codes "KEYWORDS_2024") then Some Edition2024
    else None

-- the number of rules, and the index of each
pub record RuleNames : Type 0 where
  pub count : ℕ
  pub position : List ℕ → Option ℕ

abbrev pub no_names : RuleNames
no_names = record { count = 0; position = λ name. None }

-- rules are numbered in the order of the text
abbrev pub with_name : List ℕ → RuleNames → RuleNames
with_name name names = record {
  count = names.count + 1;
  position = update bytes_eq names.position name (Some names.count);
}

-- a name that must not be there yet
abbrev pub new_name : PegLocation → List ℕ → Option ℕ → RuleNames → Read RuleNames
new_name location name None names = Ok (with_name name names)
new_name location name (Some position) names = Err (At location (Duplicate (borrowed name)))

-- a list of keywords isn't a rule
abbrev pub rule_name : PegLocation → List ℕ → Option Edition → RuleNames → Read RuleNames
rule_name location name None names = new_name location name (names.position name) names
rule_name location name (Some since) names = Ok names

abbrev pub named_by : PegLocation → PegToken → RuleNames → Read RuleNames
named_by location (tokens.Define name) names =
    rule_name location name.now (edition_named name.now) names
named_by location _ names = Ok names

unfoldable pub names_in : List (PegLocation × PegToken) → RuleNames → Read RuleNames
names_in [] names = Ok names
names_in ((location, token) ∷ more) names = named_by location token names >>= names_in more

-- ---- the state of the reader

pub record ReaderState : Type 0 where
  pub names : RuleNames
  pub nodes : List Node
  pub keywords : List Keyword
  pub choice : PartialChoice
  -- the choices around the current one, the innermost first
  pub around : List PartialChoice

abbrev pub ReaderResult : Type 0
ReaderResult = Read ReaderState

abbrev pub new_partial_choice : ChoiceOpening → PegLocation → PartialChoice
new_partial_choice opening location =
    record {
      opening = opening;
      location = location;
      others = None;
      sequence = None;
      lookahead =
          None;
      item = None;
    }

-- the state with one more node
abbrev pub with_node : Node → ReaderState → ReaderState
with_node node r = record r { nodes = r.nodes ++ node ∷ [] }

-- the state with this choice as the current one
abbrev pub with_choice : PartialChoice → ReaderState → ReaderState
with_choice choice r = record r { choice = choice }

-- ---- the ends of items, sequences and alternatives

-- the state with this sequence of items
abbrev pub with_sequence : ℕ → ReaderState → ReaderState
with_sequence x r =
    with_choice (record r.choice { sequence = Some x; lookahead = None; item = None }) r

abbrev pub in_sequence : Option ℕ → ℕ → ReaderState → ReaderState
in_sequence None x r = with_sequence x r
in_sequence (Some first) x r = with_sequence (length r.nodes) (with_node (nodes.Then first x) r)

-- the node of a lookahead
abbrev pub lookahead_node : Lookahead → ℕ → Node
lookahead_node Positive x = nodes.Ahead x
lookahead_node Negative x = nodes.NotAhead x

-- the last item, if there is one, is added to the sequence
abbrev pub item_ended : PegLocation → Option ℕ → Option Lookahead → ReaderState → ReaderResult
item_ended location None None r = Ok r
item_ended location None (Some lookahead) r = Err (At location ExpectedRule)
item_ended location (Some x) None r = Ok (in_sequence r.choice.sequence x r)
item_ended location (Some x) (Some lookahead) r =
    Ok (in_sequence r.choice.sequence (length r.nodes) (with_node (lookahead_node lookahead x) r))

unfoldable pub end_item : PegLocation → ReaderState → ReaderResult
end_item location r = item_ended location r.choice.item r.choice.lookahead r

-- the alternatives up to this sequence, as one node
abbrev pub alternatives : Option ℕ → ℕ → ReaderState → ℕ × ReaderState
alternatives None x r = (x, r)
alternatives (Some others) x r = (length r.nodes, with_node (nodes.Or others x) r)

abbrev pub sequence_ended : PegLocation → Option ℕ → ReaderState → Read (ℕ × ReaderState)
sequence_ended location None r = Err (At location ExpectedRule)
sequence_ended location (Some x) r = Ok (alternatives r.choice.others x r)

unfoldable pub end_sequence : PegLocation → ReaderState → Read (ℕ × ReaderState)
end_sequence location r = do
  s ← end_item location r
  sequence_ended location s.choice.sequence s

-- `|`
unfoldable pub alternative : PegLocation → ReaderState → ReaderResult
alternative location r = do
  p ← end_sequence location r
  Ok (with_choice (record p.1.choice { others = Some p.0; sequence = None }) p.1)

-- ---- items

-- the state with the next item
abbrev pub with_item : Node → ReaderState → ReaderState
with_item node r = with_choice (record r.choice { item = Some (length r.nodes) }) (with_node node r)

abbrev pub after_item : PegLocation → Option ℕ → ReaderState → ReaderResult
after_item location None r = Ok r
after_item location (Some x) r = end_item location r

unfoldable pub item : PegLocation → Node → ReaderState → ReaderResult
item location node r = do
  s ← after_item location r.choice.item r
  Ok (with_item node s)

-- a group of one of these kinds
abbrev pub group : List DelimiterKind → Terminal
group kinds = terminals.Group (borrowed kinds)

-- the terminal with this name
abbrev pub terminal_named : List ℕ → Option Terminal
terminal_named name =
    if bytes_eq name (codes "NAME") then Some terminals.Name
    else if bytes_eq name (codes "IDENT") then Some terminals.Identifier
    else if bytes_eq name (codes "LITERAL") then Some terminals.Literal
    else if bytes_eq name (codes "POINTED") then Some terminals.Pointed
    else if bytes_eq name (codes "ANY") then Some terminals.Any
    else if bytes_eq name (codes "END") then Some terminals.End
    else if bytes_eq name (codes "PAREN") then Some (group (Parenthesis ∷ []))
    else if bytes_eq name (codes "BRACE") then Some (group (Brace ∷ []))
    else if bytes_eq name (codes "BRACKET") then Some (group (Bracket ∷ []))
    else if bytes_eq name (codes "INVISIBLE") then Some (group (Invisible ∷ []))
    else if bytes_eq name (codes "VISIBLE") then Some (group (Parenthesis ∷ Brace ∷ Bracket ∷ []))
    else if bytes_eq name (codes "SINCE_2018") then Some (terminals.Since Edition2018)
    else if bytes_eq name (codes "SINCE_2021") then Some (terminals.Since Edition2021)
    else if bytes_eq name (codes "SINCE_2024") then Some (terminals.Since Edition2024)
    else None

-- a rule with this name shadows a terminal
abbrev pub named : PegLocation → List ℕ → Option ℕ → Option Terminal → ReaderState → ReaderResult
named location name (Some position) t r = item location (nodes.Part position) r
named location name None (Some t) r = item location (nodes.Terminal t) r
named location name None None r = Err (At location (Unknown (borrowed name)))

unfoldable pub name : PegLocation → List ℕ → ReaderState → ReaderResult
name location text r = named location text (r.names.position text) (terminal_named text) r

-- `?`, `*`, `+` and `!`
abbrev pub repeated : ℕ → ℕ → ReaderState → ReaderState
repeated mark x r =
    if mark == 63 then with_item (nodes.Maybe x) r
    else if mark == 42 then with_item (nodes.Repeated x) r
    else if mark == 43 then with_item (nodes.Then x (length r.nodes))
    (with_node (nodes.Repeated x) r)
    else with_item (nodes.Needed x) r

abbrev pub repeats : PegLocation → ℕ → Option ℕ → ReaderState → ReaderResult
repeats location mark None r = Err (At location NothingToRepeat)
repeats location mark (Some x) r = Ok (repeated mark x r)

unfoldable pub postfix : PegLocation → ℕ → ReaderState → ReaderResult
postfix location mark r = repeats location mark r.choice.item r

-- `&` and `~`
unfoldable pub set_lookahead : PegLocation → Lookahead → ReaderState → ReaderResult
set_lookahead location what r = do
  s ← end_item location r
  Ok (with_choice (record s.choice { lookahead = Some what }) s)

-- ---- choices in parentheses and groups

-- `(` and `PAREN[`
abbrev pub opened : PegLocation → ChoiceOpening → ReaderState → ReaderState
opened location opening r =
    record r { choice = new_partial_choice opening location; around = r.choice ∷ r.around }

-- the node that `)` or `]` closes
abbrev pub closed_node : ChoiceOpening → ℕ → ℕ → Option Node
closed_node openings.Parenthesis mark x = if mark == 41 then Some (nodes.Part x) else None
closed_node (openings.Inside kind) mark x = if mark == 93 then Some (nodes.Inside kind x) else None
closed_node _ mark x = None

-- the node becomes the next item of the choice around
abbrev pub item_around : PegLocation → Node → List PartialChoice → ReaderState → ReaderResult
item_around location node [] r = Err (At location Unopened)
item_around location node (choice ∷ more) r =
    item location node (record r { choice = choice; around = more })

abbrev pub closed : PegLocation → Option Node → ReaderState → ReaderResult
closed location None r = Err (At location Unopened)
closed location (Some node) r = item_around location node r.around r

unfoldable pub close : PegLocation → ℕ → ReaderState → ReaderResult
close location mark r = do
  p ← end_sequence location r
  closed location (closed_node p.1.choice.opening mark p.0) p.1

-- ---- rules

-- the node of a rule is set
abbrev pub with_rule : ℕ → ℕ → ReaderState → ReaderState
with_rule position x r = record r { nodes = slice_set r.nodes position (nodes.Part x) }

abbrev pub rule_ended : PegLocation → ChoiceOpening → ReaderState → ReaderResult
rule_ended location (openings.Rule position) r = do
  p ← end_sequence location r
  Ok (with_rule position p.0 p.1)
rule_ended location openings.Parenthesis r = Err (At r.choice.location Unclosed)
rule_ended location (openings.Inside kind) r = Err (At r.choice.location Unclosed)
rule_ended location _ r = Ok r

unfoldable pub end_rule : PegLocation → ReaderState → ReaderResult
end_rule location r = rule_ended location r.choice.opening r

-- what a name with a `=` begins: a list of keywords or a rule
abbrev pub defined : PegLocation → List ℕ → Option Edition → Option ℕ → ReaderState → ReaderResult
defined location name (Some since) position r =
    Ok (with_choice (new_partial_choice (openings.Keywords since) location) r)
defined location name None (Some position) r =
    Ok (with_choice (new_partial_choice (openings.Rule position) location) r)
defined location name None None r = Err (At location (Unknown (borrowed name)))

unfoldable pub define : PegLocation → List ℕ → ReaderState → ReaderResult
define location text r = do
  s ← end_rule location r
  defined location text (edition_named text) (s.names.position text) s

-- ---- tokens

abbrev pub marked : PegLocation → ℕ → ReaderState → ReaderResult
marked location c r =
    if c == 40 then Ok (opened location openings.Parenthesis r)
    else if c == 38 then set_lookahead location Positive r
    else if c == 126 then set_lookahead location Negative r
    else if c == 124 then alternative location r
    else if c == 41 then close location 41 r
    else if c == 93 then close location 93 r
    else postfix location c r

-- a token in a rule
unfoldable pub part : PegLocation → PegToken → ReaderState → ReaderResult
part location (tokens.Define text) r = define location text.now r
part location (tokens.Name text) r = name location text.now r
part location (tokens.Word text) r =
    item location (nodes.Terminal (terminals.Word (borrowed text.now))) r
part location (tokens.Operator text) r =
    item location (nodes.Terminal (terminals.Operator (borrowed text.now))) r
part location (tokens.Sign c) r = item location (nodes.Terminal (terminals.Sign c)) r
part location (tokens.Inside kind) r = Ok (opened location (openings.Inside kind) r)
part location (tokens.Mark c) r = marked location c r

-- a token before the first rule
unfoldable pub before_rules : PegLocation → PegToken → ReaderState → ReaderResult
before_rules location (tokens.Define text) r = define location text.now r
before_rules location _ r = Err (At location ExpectedDefinition)

-- a token in a list of keywords
abbrev pub with_keyword : List ℕ → Edition → ReaderState → ReaderState
with_keyword text since r = record r {
  keywords = r.keywords
      ++ record { text = borrowed text; since = since } ∷ [];
}

unfoldable pub keyword : PegLocation → Edition → PegToken → ReaderState → ReaderResult
keyword location since (tokens.Define text) r = define location text.now r
keyword location since (tokens.Word text) r = Ok (with_keyword text.now since r)
keyword location since _ r = Err (At location ExpectedKeyword)

abbrev pub word_in : ChoiceOpening → PegLocation → PegToken → ReaderState → ReaderResult
word_in openings.Nothing location token r = before_rules location token r
word_in (openings.Keywords since) location token r = keyword location since token r
word_in _ location token r = part location token r

unfoldable pub read_token : PegLocation → PegToken → ReaderState → ReaderResult
read_token location token r = word_in r.choice.opening location token r

unfoldable pub words : List (PegLocation × PegToken) → ReaderState → ReaderResult
words [] r = Ok r
words ((location, token) ∷ more) r = read_token location token r >>= words more

-- ---- the whole

-- the table that a text describes
pub record Table : Type 0 where
  pub nodes : List Node
  pub keywords : List Keyword
  pub starts : EntryRules

-- The index of the rule with this name. If there is none, it is an index without a node.
abbrev pub start : ReaderState → List ℕ → ℕ
start r name = unwrap_or (r.names.position name) (length r.nodes)

abbrev pub starts : ReaderState → EntryRules
starts r = record {
  path = start r (codes "path");
  expr = start r (codes "expr");
  ty = start r (codes "ty");
  pat_top = start r (codes "pat");
  pat = start r (codes "pat_param");
  stmt = start r (codes "stmt");
  block = start r (codes "block");
  meta = start r (codes "meta");
  item = start r (codes "item");
  vis = start r (codes "vis");
}

abbrev pub table_of : ReaderState → Table
table_of r = record { nodes = r.nodes; keywords = r.keywords; starts = starts r }

-- The state before the first token. The first indices are those of the rules.
abbrev pub first_state : RuleNames → ReaderState
first_state names = record {
  names = names;
  nodes = replicate names.count (nodes.Terminal terminals.End);
  keywords = [];
  choice = new_partial_choice openings.Nothing (record { line = 1; column = 1 });
  around = [];
}

-- the error of the tokens, if there is one
abbrev pub unless_wrong : Option PegErrorKind → PegLocation → Read (Unit {0})
unless_wrong None location = Ok tt
unless_wrong (Some reason) location = Err (At location reason)

abbrev pub table_of_words : TokenList → Read Table
table_of_words all = do
  names ← names_in all.words no_names
  _ ← unless_wrong all.wrong all.end
  r ← words all.words (first_state names)
  s ← end_rule all.end r
  Ok (table_of s)

-- The table of a grammar's text. The names are read first. So an invalid token, or a second rule
-- with the same name, is reported before all other errors.
abbrev pub read_text : List ℕ → Read Table
read_text text = table_of_words (tokenize text)
