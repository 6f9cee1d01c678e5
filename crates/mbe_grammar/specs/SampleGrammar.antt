-- The sample grammar, which the program `mbex` uses. It is the project's own choice: a part of
-- Rust's grammar, without branches, loops, closures, struct literals, ranges and casts.
use Prim.Native.Char.{Char, code}
use Prim.Native.String.{String}
use Rattle.std.specs.Prelude.{ℕ, Bool, true, false, ◌||◌, ◌&&◌, List, [], ◌∷◌, map, codes, Ok, Err}
use Rattle.std.specs.List.{list_any}
use Rattle.std.specs.Str.{bytes_eq}
use Rattle.mbe_tt.specs.declared.grammar.Dialect.TheVariants.{RustAnalyzer}
use Rattle.mbe_tt.specs.Grammars.Grammar.{Grammar}
use Rattle.mbe_tt.specs.Trees.Tree.{Forest, Tree, passed}
use Rattle.mbe_tt.specs.declared.tt.DelimiterKind.{DelimiterKind}
use Rattle.mbe_tt.specs.declared.tt.DelimiterKind.TheVariants.{Parenthesis, Brace, Bracket}
use Rattle.mbe_tt.specs.declared.tt.DelimiterKind.TheVariants.{Invisible}
use Rattle.mbe_tt.specs.declared.grammar.Front.{Front}
use Rattle.mbe_tt.specs.declared.grammar.PrefixEntryPoint.{PrefixEntryPoint}
use Rattle.mbe_tt.specs.declared.grammar.PrefixEntryPoint.TheVariants as entries
use Rattle.mbe_grammar.specs.declared.sample_types.PathStyle.{PathStyle}
use Rattle.mbe_grammar.specs.declared.sample_types.PathStyle.TheVariants.{Plain, Expression}
use Rattle.mbe_grammar.specs.Tables.FlatTrees.{trees_of_flat}
use Rattle.mbe_grammar.specs.Rule.{Rule, one, puncts_of, through, to_closing_angle, part, ◌then◌}
use Rattle.mbe_grammar.specs.Rule.{◌or◌, maybe, repeated, needed, ahead, not_ahead, taken}
use Rattle.mbe_grammar.specs.Tables.Terminals.{ParseResult}
use Rattle.mbe_grammar.specs.SingleTrees.{is_name, is_not_punct, is_scope}
use Rattle.mbe_grammar.specs.Tables.SingleTrees.{is_one_of, is_identifier, is_literal, is_punct}
use Rattle.mbe_grammar.specs.Tables.SingleTrees.{is_group}

-- the nonterminals of the grammar
pub data Nonterminal : Type 0 where
  Lifetime : Nonterminal
  Angle : Nonterminal
  Turbofish : Nonterminal
  Colons : Nonterminal
  Segment : PathStyle → Nonterminal
  NextSegment : PathStyle → Nonterminal
  Path : PathStyle → Nonterminal
  Indirection : Nonterminal
  Pointee : Nonterminal
  Ty : Nonterminal
  Block : Nonterminal
  Assignment : Nonterminal
  Meta : Nonterminal
  SignedLiteral : Nonterminal
  BindingMode : Nonterminal
  BoundPat : Nonterminal
  PathPat : Nonterminal
  Pat : Nonterminal
  Alternative : Nonterminal
  PatTop : Nonterminal
  Operator : Nonterminal
  Operation : Nonterminal
  Expr : Nonterminal
  Prefix : Nonterminal
  Unary : Nonterminal
  Operand : Nonterminal
  KeywordBlock : Nonterminal
  JumpWord : Nonterminal
  JumpValue : Nonterminal
  Jump : Nonterminal
  PathExpr : Nonterminal
  Primary : Nonterminal
  Field : Nonterminal
  Post : Nonterminal
  Annotation : Nonterminal
  Let : Nonterminal
  ItemStmt : Nonterminal
  Stmt : Nonterminal
  Item : Nonterminal
  Vis : Nonterminal

-- ---- building blocks of rules

abbrev pub PegGrammar : Type 0
PegGrammar = Rule Nonterminal

-- an identifier with that text, or one of those texts, that isn't raw
abbrev pub words : List String → PegGrammar
words texts = one (is_one_of (map codes texts))

abbrev pub word : String → PegGrammar
word text = words (text ∷ [])

-- an operator with this text
abbrev pub puncts : String → PegGrammar
puncts text = puncts_of (codes text ∷ [])

-- one punct, even if it is the first of an operator
abbrev pub sign : Char → PegGrammar
sign c = one (is_punct (code c))

-- a group of one of those kinds
abbrev pub group_of : List DelimiterKind → PegGrammar
group_of kinds = one (is_group kinds)

abbrev pub brace : PegGrammar
brace = group_of (Brace ∷ [])

abbrev pub parenthesis_or_bracket : PegGrammar
parenthesis_or_bracket = group_of (Parenthesis ∷ Bracket ∷ [])

abbrev pub visible_group : PegGrammar
visible_group = group_of (Parenthesis ∷ Brace ∷ Bracket ∷ [])

abbrev pub any_group : PegGrammar
any_group = group_of (Parenthesis ∷ Brace ∷ Bracket ∷ Invisible ∷ [])

abbrev pub operators : List String
operators =
    "+" ∷ "-" ∷ "*" ∷ "/" ∷ "%" ∷ "^" ∷ "&" ∷ "|" ∷ "&&" ∷ "||" ∷ "==" ∷ "!=" ∷ "<" ∷ ">" ∷ "<="
    ∷ ">=" ∷ "<<" ∷ ">>"
    ∷ "=" ∷ "+=" ∷ "-=" ∷ "*=" ∷ "/=" ∷ "%=" ∷ "^=" ∷ "&=" ∷ "|=" ∷ "<<=" ∷ ">>=" ∷ []

-- items that end with a `;`, and items that end with a `;` or a brace group
abbrev pub short_items : List String
short_items = "use" ∷ "const" ∷ "static" ∷ "type" ∷ []

abbrev pub long_items : List String
long_items = "fn" ∷ "struct" ∷ "enum" ∷ "trait" ∷ "impl" ∷ "mod" ∷ "extern" ∷ []

abbrev pub is_item_end : Bool → Tree → Bool
is_item_end at_brace t = is_punct 59 t || (at_brace && is_group (Brace ∷ []) t)

abbrev pub short_item : PegGrammar
short_item = words short_items then through (is_item_end false)

abbrev pub long_item : PegGrammar
long_item = words long_items then through (is_item_end true)

-- the first word of an item
abbrev pub item_word : PegGrammar
item_word = word "pub" or words short_items or words long_items

-- `pub`, and its scope
abbrev pub public : PegGrammar
public = word "pub" then maybe (one is_scope)

-- `const` and a block
abbrev pub const_block : PegGrammar
const_block = word "const" then brace

-- the front of anything that may begin an expression
abbrev pub expr_start : PegGrammar
expr_start = one is_not_punct or puncts "::" or puncts "-" or puncts "!" or sign "*" or sign "&"

-- `& [LIFETIME] [mut]`
abbrev pub reference_sign : PegGrammar
reference_sign = sign "&" then maybe (part Lifetime) then maybe (word "mut")

-- `* const` or `* mut`
abbrev pub pointer_sign : PegGrammar
pointer_sign = sign "*" then words ("const" ∷ "mut" ∷ [])

-- `& [mut]`
abbrev pub mut_reference : PegGrammar
mut_reference = sign "&" then maybe (word "mut")

-- the argument of a macro
abbrev pub macro_argument : PegGrammar
macro_argument = puncts "!" then visible_group

-- a method's name, and generic arguments after it
abbrev pub method : PegGrammar
method = one is_name then maybe (part Turbofish)

-- ---- the grammar

-- the rule of each nonterminal
abbrev pub rule_of : Nonterminal → PegGrammar
-- paths
rule_of Lifetime = puncts "'" then one is_identifier
rule_of Angle = sign "<" then to_closing_angle
rule_of Turbofish = puncts "::" then part Angle
rule_of Colons = puncts "::" then needed (ahead (one is_name or part Angle))
rule_of (Segment Plain) = one is_name then maybe (maybe (puncts "::") then part Angle)
rule_of (Segment Expression) = one is_name then maybe (part Turbofish)
rule_of (NextSegment style) = part Colons then part (Segment style)
rule_of (Path style) =
    maybe (part Colons) then part (Segment style) then repeated (part (NextSegment style))
-- types
rule_of Indirection = reference_sign or pointer_sign
rule_of Pointee = part Indirection then part Ty
rule_of Ty = word "_" or puncts "!" or parenthesis_or_bracket or part Pointee or part (Path Plain)
-- blocks and attributes
rule_of Block = brace
rule_of Assignment = puncts "=" then part Expr
rule_of Meta = part (Path Plain) then maybe (visible_group or part Assignment)
-- patterns
rule_of SignedLiteral = maybe (puncts "-") then one is_literal
rule_of BindingMode = mut_reference or words ("ref" ∷ "mut" ∷ [])
rule_of BoundPat = part BindingMode then part Pat
rule_of PathPat = part (Path Plain) then maybe (group_of (Parenthesis ∷ Brace ∷ []))
rule_of Pat =
    word "_" or part SignedLiteral or part BoundPat or parenthesis_or_bracket or part PathPat
rule_of Alternative = puncts "|" then needed (part Pat)
rule_of PatTop = (part Alternative or part Pat) then repeated (part Alternative)
-- expressions
rule_of Operator = puncts_of (map codes operators)
rule_of Operation = part Operator then needed (part Unary)
rule_of Expr = part Unary then repeated (part Operation)
rule_of Prefix = puncts "-" or puncts "!" or sign "*" or mut_reference
rule_of Unary = repeated (part Prefix) then part Operand
rule_of Operand = part Primary then repeated (part Post)
rule_of KeywordBlock = words ("const" ∷ "unsafe" ∷ []) then brace
rule_of JumpWord = words ("break" ∷ "return" ∷ "continue" ∷ []) then maybe (part Lifetime)
rule_of JumpValue = ahead expr_start then needed (part Expr)
rule_of Jump = part JumpWord then maybe (part JumpValue)
rule_of PathExpr = part (Path Expression) then maybe macro_argument
rule_of Primary =
    not_ahead (word "let")
    then (words ("_" ∷ "true" ∷ "false"
    ∷ []) or one is_literal or part KeywordBlock or part Jump or any_group or part
    PathExpr)
rule_of Field = puncts "." then (one is_literal or method)
rule_of Post = puncts "?" or part Field or parenthesis_or_bracket
-- statements and items
rule_of Annotation = puncts ":" then part Ty
rule_of Let = word "let" then part PatTop then maybe (part Annotation) then maybe (part Assignment)
rule_of ItemStmt = ahead item_word then not_ahead const_block then part Item
rule_of Stmt = part Let or part ItemStmt or part Expr
rule_of Item = part Vis then (short_item or long_item)
rule_of Vis = maybe public

-- what a nonterminal consumes
unfoldable pub takes : Nonterminal → Forest → ParseResult
takes x f = taken rule_of x f

-- ---- the results of the grammar

-- the nonterminal of an entry point
abbrev pub part_of : PrefixEntryPoint → Nonterminal
part_of entries.Path = Path Plain
part_of entries.Expr = Expr
part_of entries.Ty = Ty
part_of entries.PatTop = PatTop
part_of entries.Pat = Pat
part_of entries.Stmt = Stmt
part_of entries.Block = Block
part_of entries.MetaItem = Meta
part_of entries.Item = Item
part_of entries.Vis = Vis

-- how many flat tokens are consumed; none with a fault
abbrev pub front_of : Forest → ParseResult → Front
front_of f (Ok rest) = record { count = passed f rest; fault = false }
front_of f (Err miss) = record { count = 0; fault = true }

abbrev pub answer : PrefixEntryPoint → Forest → Front
answer entry f = front_of f (takes (part_of entry) f)

-- identifiers with these texts are written with `r#`
abbrev pub keywords : List String
keywords =
    "abstract" ∷ "as" ∷ "async" ∷ "await" ∷ "become" ∷ "box" ∷ "break" ∷ "const" ∷ "continue"
    ∷ "crate" ∷ "do" ∷ "dyn"
    ∷ "else" ∷ "enum"
    ∷ "extern" ∷ "false" ∷ "final" ∷ "fn" ∷ "for" ∷ "gen" ∷ "if" ∷ "impl" ∷ "in" ∷ "let" ∷ "loop"
    ∷ "macro" ∷ "match"
    ∷ "mod" ∷ "move"
    ∷ "mut" ∷ "override" ∷ "priv" ∷ "pub" ∷ "ref" ∷ "return" ∷ "self" ∷ "Self" ∷ "static" ∷ "struct"
    ∷ "super" ∷ "trait"
    ∷ "true"
    ∷ "try" ∷ "type" ∷ "typeof" ∷ "unsafe" ∷ "unsized" ∷ "use" ∷ "virtual" ∷ "where" ∷ "while"
    ∷ "yield" ∷ []

abbrev pub is_keyword : List ℕ → Bool
is_keyword text = list_any (bytes_eq text) (map codes keywords)

-- the grammar as a function of flat tokens
abbrev pub sample : Grammar
sample = record {
  parse = λ entry tokens. answer entry (trees_of_flat tokens);
  is_keyword =
      is_keyword;
  dialect = RustAnalyzer;
}
