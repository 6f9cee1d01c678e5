-- The rules of Rust, as a table. `tools/rust-rules` writes it from `rust.peg`.
use Rattle.std.specs.Prelude.{ℕ, List, [], ◌∷◌, ◌++◌, ◌+◌, map, codes}
use Rattle.mbe_tt.specs.declared.fragment_group.FragmentGroup.{FragmentGroup}
use Rattle.mbe_tt.specs.declared.fragment_group.FragmentGroup.TheVariants as parts
use Rattle.mbe_tt.specs.declared.span.Edition.TheVariants.{Edition2018, Edition2024}
use Rattle.mbe_tt.specs.declared.tt.DelimiterKind.{DelimiterKind}
use Rattle.mbe_tt.specs.declared.tt.DelimiterKind.TheVariants as kinds
use Rattle.mbe_grammar.specs.declared.tables.node.Node.{Node}
use Rattle.mbe_grammar.specs.declared.tables.node.Node.TheVariants as nodes
use Rattle.mbe_grammar.specs.declared.tables.node.Terminal.TheVariants as terminals
use Rattle.mbe_grammar.specs.declared.rust.positions.TheConstants as at
use Rattle.mbe_grammar.specs.Peg.Tokens.{borrowed}

abbrev pub word : List ℕ → Node
word text = nodes.Terminal (terminals.Word (borrowed text))

abbrev pub words : List (List ℕ) → Node
words texts = nodes.Terminal (terminals.Words (borrowed (map borrowed texts)))

abbrev pub operator : List ℕ → Node
operator text = nodes.Terminal (terminals.Operator (borrowed text))

abbrev pub operators : List (List ℕ) → Node
operators texts = nodes.Terminal (terminals.Operators (borrowed (map borrowed texts)))

abbrev pub groups : List DelimiterKind → Node
groups of = nodes.Terminal (terminals.Group (borrowed of))

abbrev pub fragments : List FragmentGroup → Node
fragments of = nodes.Terminal (terminals.Fragment (borrowed of))

abbrev pub nodes_0 : List Node
nodes_0 =
    groups (kinds.Brace ∷ [])
    ∷ nodes.Terminal terminals.End
    ∷ fragments (parts.Block ∷ [])
    ∷ fragments (parts.Expr ∷ [])
    ∷ fragments (parts.Item ∷ [])
    ∷ fragments (parts.Meta ∷ [])
    ∷ fragments (parts.Pat ∷ [])
    ∷ fragments (parts.Path ∷ [])
    ∷ fragments (parts.Stmt ∷ [])
    ∷ fragments (parts.Ty ∷ [])
    ∷ fragments (parts.Vis ∷ [])
    ∷ nodes.Terminal terminals.Identifier
    ∷ groups (kinds.Invisible ∷ [])
    ∷ nodes.Terminal terminals.Literal
    ∷ nodes.Terminal terminals.Name
    ∷ operator (codes "@")
    ∷ operator (codes "!")
    ∷ operator (codes "|")
    ∷ operator (codes ":")
    ∷ operator (codes "::")
    ∷ operator (codes ",")
    ∷ operator (codes ".")
    ∷ operator (codes "..")
    ∷ operator (codes "..=")
    ∷ operator (codes "=")
    ∷ operator (codes "#")
    ∷ operator (codes "-")
    ∷ operator (codes "->")
    ∷ operator (codes "?")
    ∷ operator (codes ";")
    ∷ operator (codes "*")
    ∷ operator (codes "~")
    ∷ groups (kinds.Parenthesis ∷ [])
    ∷ nodes.Terminal terminals.Pointed
    ∷ nodes.Terminal (terminals.Sign 38)
    ∷ nodes.Terminal (terminals.Sign 124)
    ∷ nodes.Terminal (terminals.Sign 44)
    ∷ nodes.Terminal (terminals.Sign 61)
    ∷ nodes.Terminal (terminals.Sign 60)
    ∷ nodes.Terminal (terminals.Sign 62)
    ∷ []

abbrev pub nodes_1 : List Node
nodes_1 =
    nodes.Terminal (terminals.Sign 43)
    ∷ nodes.Terminal (terminals.Sign 39)
    ∷ nodes.Terminal (terminals.Since Edition2018)
    ∷ nodes.Terminal (terminals.Since Edition2024)
    ∷ word (codes "as")
    ∷ word (codes "async")
    ∷ word (codes "auto")
    ∷ word (codes "await")
    ∷ word (codes "become")
    ∷ word (codes "box")
    ∷ word (codes "break")
    ∷ word (codes "const")
    ∷ word (codes "continue")
    ∷ word (codes "crate")
    ∷ word (codes "default")
    ∷ word (codes "do")
    ∷ word (codes "dyn")
    ∷ word (codes "else")
    ∷ word (codes "enum")
    ∷ word (codes "extern")
    ∷ word (codes "fn")
    ∷ word (codes "for")
    ∷ word (codes "gen")
    ∷ word (codes "if")
    ∷ word (codes "impl")
    ∷ word (codes "in")
    ∷ word (codes "let")
    ∷ word (codes "loop")
    ∷ word (codes "macro")
    ∷ word (codes "macro_rules")
    ∷ word (codes "match")
    ∷ word (codes "mod")
    ∷ word (codes "mut")
    ∷ word (codes "pin")
    ∷ word (codes "pub")
    ∷ word (codes "ref")
    ∷ word (codes "self")
    ∷ word (codes "static")
    ∷ word (codes "struct")
    ∷ word (codes "super")
    ∷ []

abbrev pub nodes_2 : List Node
nodes_2 =
    word (codes "trait")
    ∷ word (codes "try")
    ∷ word (codes "type")
    ∷ word (codes "_")
    ∷ word (codes "union")
    ∷ word (codes "unsafe")
    ∷ word (codes "use")
    ∷ word (codes "where")
    ∷ word (codes "while")
    ∷ word (codes "yeet")
    ∷ nodes.Ahead at.FRAGMENT_TY
    ∷ nodes.Ahead at.SIGN_MORE
    ∷ nodes.Ahead at.START
    ∷ nodes.Ahead at.START_HEAD
    ∷ nodes.Repeated at.ATTRIBUTE
    ∷ nodes.Repeated at.POSTFIX
    ∷ nodes.Maybe at.ABI
    ∷ nodes.Maybe at.BOUND
    ∷ nodes.Maybe at.BOUNDS
    ∷ nodes.Maybe at.CAPTURE
    ∷ nodes.Maybe at.FOR_LIFETIMES
    ∷ nodes.Maybe at.GENERIC_PARAMS
    ∷ nodes.Maybe at.LIFETIME
    ∷ nodes.Maybe at.MACRO_END
    ∷ nodes.Maybe at.OPERATOR_COLON_COLON
    ∷ nodes.Maybe at.OPERATOR_MINUS
    ∷ nodes.Maybe at.RANGE_END
    ∷ nodes.Maybe at.RETURN_TYPE
    ∷ nodes.Maybe at.VALUE
    ∷ nodes.Maybe at.WHERE_CLAUSE
    ∷ nodes.Maybe at.WORD_CONST
    ∷ nodes.Maybe at.WORD_MUT
    ∷ nodes.Maybe at.WORD_UNSAFE
    ∷ nodes.Needed at.ARMS
    ∷ nodes.Needed at.BLOCK
    ∷ nodes.Needed at.EXPR
    ∷ nodes.Needed at.EXPR_SEGMENT
    ∷ nodes.Needed at.HEAD
    ∷ nodes.Needed at.HEAD_TERM
    ∷ nodes.Needed at.PATTERN
    ∷ []

abbrev pub nodes_3 : List Node
nodes_3 =
    nodes.Needed at.PATTERN_TOP
    ∷ nodes.Needed at.RANGE_END
    ∷ nodes.Needed at.TERM
    ∷ nodes.Needed at.TYPE
    ∷ nodes.Needed at.TYPE_ONE
    ∷ nodes.Needed at.TYPE_SEGMENT
    ∷ nodes.NotAhead at.OPERATOR_MINUS_MORE
    ∷ nodes.NotAhead at.SIGN_PLUS
    ∷ groups (kinds.Parenthesis ∷ [])
    ∷ groups (kinds.Parenthesis ∷ [])
    ∷ groups (kinds.Bracket ∷ [])
    ∷ groups (kinds.Bracket ∷ [])
    ∷ groups (kinds.Parenthesis ∷ [])
    ∷ groups (kinds.Parenthesis ∷ [])
    ∷ groups (kinds.Bracket ∷ [])
    ∷ groups (kinds.Brace ∷ [])
    ∷ groups (kinds.Parenthesis ∷ [])
    ∷ groups (kinds.Bracket ∷ [])
    ∷ groups (kinds.Bracket ∷ [])
    ∷ groups (kinds.Brace ∷ [])
    ∷ groups (kinds.Brace ∷ [])
    ∷ groups (kinds.Brace ∷ [])
    ∷ groups (kinds.Parenthesis ∷ kinds.Brace ∷ kinds.Bracket ∷ [])
    ∷ groups (kinds.Brace ∷ [])
    ∷ groups (kinds.Parenthesis ∷ kinds.Bracket ∷ [])
    ∷ groups (kinds.Brace ∷ [])
    ∷ groups (kinds.Brace ∷ [])
    ∷ groups (kinds.Parenthesis ∷ [])
    ∷ groups (kinds.Brace ∷ [])
    ∷ groups (kinds.Brace ∷ [])
    ∷ groups (kinds.Parenthesis ∷ [])
    ∷ groups (kinds.Brace ∷ [])
    ∷ fragments (parts.Path ∷ parts.Ty ∷ parts.Pat ∷ parts.Stmt ∷ parts.Block ∷ parts.Meta
    ∷ parts.Item ∷ parts.Vis ∷ parts.Expr ∷ parts.LiteralExpr ∷ parts.Literal ∷ [])
    ∷ nodes.Then (at.OPEN_GROUP + 1) at.INVISIBLE
    ∷ nodes.NotAhead at.FRAGMENT
    ∷ nodes.Or at.FRAGMENT_PATH (at.TYPE_PATH_GROUP + 1)
    ∷ nodes.Then at.AHEAD_FRAGMENT_TY (at.TYPE_PATH_GROUP + 2)
    ∷ nodes.Inside kinds.Invisible at.TYPE_PATH
    ∷ nodes.Or at.FRAGMENT_PATH (at.MOD_PATH_GROUP + 1)
    ∷ nodes.Then at.AHEAD_FRAGMENT_TY (at.MOD_PATH_GROUP + 2)
    ∷ []

abbrev pub nodes_4 : List Node
nodes_4 =
    nodes.Inside kinds.Invisible at.MOD_PATH
    ∷ fragments (parts.LiteralExpr ∷ parts.Literal ∷ [])
    ∷ nodes.Then at.SIGN_QUOTE at.IDENT
    ∷ nodes.Or at.NAME (at.SEGMENT_NAME + 1)
    ∷ words (codes "self" ∷ codes "super" ∷ codes "crate" ∷ codes "Self" ∷ [])
    ∷ nodes.Then at.OPERATOR_COLON_COLON (at.PATH_SEP + 1)
    ∷ nodes.NotAhead (at.PATH_SEP + 2)
    ∷ nodes.Or at.OPERATOR_STAR at.BRACE
    ∷ nodes.Or (at.MOD_PATH + 1) at.MOD_PATH_GROUP
    ∷ nodes.Then at.MAYBE_OPERATOR_COLON_COLON (at.MOD_PATH + 2)
    ∷ nodes.Then at.SEGMENT_NAME (at.MOD_PATH + 3)
    ∷ nodes.Repeated (at.MOD_PATH + 4)
    ∷ nodes.Then at.PATH_SEP (at.MOD_PATH + 5)
    ∷ nodes.Needed at.SEGMENT_NAME
    ∷ nodes.Then (at.LESS + 1) at.SIGN_LESS
    ∷ nodes.Ahead (at.LESS + 2)
    ∷ operators (codes "<" ∷ codes "<<" ∷ codes "<-" ∷ [])
    ∷ nodes.Then at.LESS (at.ANGLE + 1)
    ∷ nodes.Needed at.ANGLE_REST
    ∷ nodes.Then (at.ANGLE_REST + 1) at.SIGN_MORE
    ∷ nodes.Repeated (at.ANGLE_REST + 2)
    ∷ nodes.Then at.GENERIC_ARG (at.ANGLE_REST + 3)
    ∷ nodes.Or at.SIGN_COMMA at.AHEAD_SIGN_MORE
    ∷ nodes.Or (at.GENERIC_ARG + 1) (at.GENERIC_ARG + 2)
    ∷ nodes.Then at.LIFETIME at.NO_SIGN_PLUS
    ∷ nodes.Or at.CONST_ARG (at.GENERIC_ARG + 3)
    ∷ nodes.Or (at.GENERIC_ARG + 4) (at.GENERIC_ARG + 5)
    ∷ fragments (parts.Expr ∷ parts.Block ∷ [])
    ∷ nodes.Then at.TYPE (at.GENERIC_ARG + 6)
    ∷ nodes.Maybe (at.GENERIC_ARG + 7)
    ∷ nodes.Or (at.GENERIC_ARG + 8) (at.GENERIC_ARG + 10)
    ∷ nodes.Then at.SIGN_EQUAL (at.GENERIC_ARG + 9)
    ∷ nodes.Or at.CONST_ARG at.TYPE
    ∷ nodes.Then at.OPERATOR_COLON at.MAYBE_BOUNDS
    ∷ nodes.Or (at.CONST_ARG + 1) (at.CONST_ARG + 3)
    ∷ nodes.Then at.MAYBE_OPERATOR_MINUS (at.CONST_ARG + 2)
    ∷ nodes.Or at.LITERAL at.LITERAL_GROUP
    ∷ nodes.Or (at.CONST_ARG + 4) at.BRACES
    ∷ words (codes "true" ∷ codes "false" ∷ [])
    ∷ nodes.Then at.TUPLE_TYPES at.MAYBE_RETURN_TYPE
    ∷ []

abbrev pub nodes_5 : List Node
nodes_5 =
    nodes.Or at.ANGLE at.FN_SUGAR
    ∷ nodes.Then at.OPERATOR_COLON_COLON (at.TURBOFISH + 1)
    ∷ nodes.Then (at.TURBOFISH + 2) at.PATH_ARGS
    ∷ nodes.Ahead (at.TURBOFISH + 3)
    ∷ nodes.Or at.LESS at.PAREN
    ∷ nodes.Then at.SEGMENT_NAME (at.TYPE_SEGMENT + 1)
    ∷ nodes.Maybe (at.TYPE_SEGMENT + 2)
    ∷ nodes.Or at.TURBOFISH at.PATH_ARGS
    ∷ nodes.Or (at.TYPE_PATH + 1) at.TYPE_PATH_GROUP
    ∷ nodes.Then (at.TYPE_PATH + 2) (at.TYPE_PATH + 4)
    ∷ nodes.Or (at.TYPE_PATH + 3) at.OPEN_GROUP
    ∷ nodes.Then at.MAYBE_OPERATOR_COLON_COLON at.TYPE_SEGMENT
    ∷ nodes.Repeated (at.TYPE_PATH + 5)
    ∷ nodes.Then at.PATH_SEP at.NEEDED_TYPE_SEGMENT
    ∷ nodes.Then at.SEGMENT_NAME (at.EXPR_SEGMENT + 1)
    ∷ nodes.Maybe at.TURBOFISH
    ∷ nodes.Or (at.EXPR_PATH + 1) (at.EXPR_PATH + 6)
    ∷ nodes.Then (at.EXPR_PATH + 2) (at.EXPR_PATH + 4)
    ∷ nodes.Or (at.EXPR_PATH + 3) at.OPEN_GROUP
    ∷ nodes.Then at.MAYBE_OPERATOR_COLON_COLON at.EXPR_SEGMENT
    ∷ nodes.Repeated (at.EXPR_PATH + 5)
    ∷ nodes.Then at.PATH_SEP at.NEEDED_EXPR_SEGMENT
    ∷ nodes.Then at.QSELF (at.EXPR_PATH + 7)
    ∷ nodes.Then (at.EXPR_PATH + 8) (at.EXPR_PATH + 9)
    ∷ nodes.Then at.OPERATOR_COLON_COLON at.NEEDED_EXPR_SEGMENT
    ∷ nodes.Repeated (at.EXPR_PATH + 10)
    ∷ nodes.Then at.OPERATOR_COLON_COLON at.NEEDED_EXPR_SEGMENT
    ∷ nodes.Then at.LESS (at.QSELF + 1)
    ∷ nodes.Needed (at.QSELF + 2)
    ∷ nodes.Then at.TYPE (at.QSELF + 3)
    ∷ nodes.Then (at.QSELF + 4) at.SIGN_MORE
    ∷ nodes.Maybe (at.QSELF + 5)
    ∷ nodes.Then at.WORD_AS at.TYPE_PATH
    ∷ nodes.Then at.OPERATOR_BANG (at.MACRO_END + 1)
    ∷ nodes.Needed at.MACRO_ARGUMENT
    ∷ nodes.Then at.TYPE_ONE (at.TYPE + 1)
    ∷ nodes.Repeated (at.TYPE + 2)
    ∷ nodes.Then at.SIGN_PLUS at.MAYBE_BOUND
    ∷ nodes.Then (at.TYPE_ONE + 1) at.TYPE_BASE
    ∷ nodes.Repeated at.TYPE_PREFIX
    ∷ []

abbrev pub nodes_6 : List Node
nodes_6 =
    nodes.Or (at.TYPE_PREFIX + 1) (at.TYPE_PREFIX + 5)
    ∷ nodes.Then at.SIGN_AND (at.TYPE_PREFIX + 2)
    ∷ nodes.Then at.MAYBE_LIFETIME (at.TYPE_PREFIX + 3)
    ∷ nodes.Maybe (at.TYPE_PREFIX + 4)
    ∷ nodes.Or at.PINNED at.WORD_MUT
    ∷ nodes.Then at.OPERATOR_STAR (at.TYPE_PREFIX + 6)
    ∷ words (codes "const" ∷ codes "mut" ∷ [])
    ∷ nodes.Then at.WORD_PIN (at.PINNED + 1)
    ∷ words (codes "const" ∷ codes "mut" ∷ [])
    ∷ nodes.Or (at.TYPE_BASE + 1) (at.TYPE_BASE + 2)
    ∷ nodes.Then at.DYN_2015 at.BOUNDS
    ∷ nodes.Or (at.TYPE_BASE + 3) (at.TYPE_BASE + 4)
    ∷ nodes.Then at.TYPE_PATH at.MAYBE_MACRO_END
    ∷ nodes.Or at.FRAGMENT_TY (at.TYPE_BASE + 5)
    ∷ nodes.Or at.TUPLE_TYPES (at.TYPE_BASE + 6)
    ∷ nodes.Or at.ARRAY_TYPE (at.TYPE_BASE + 7)
    ∷ nodes.Or at.TYPE_WORD (at.TYPE_BASE + 8)
    ∷ nodes.Or at.OPERATOR_BANG (at.TYPE_BASE + 9)
    ∷ nodes.Or (at.TYPE_BASE + 10) at.BARE_BOUNDS
    ∷ nodes.Then at.QSELF (at.TYPE_BASE + 11)
    ∷ nodes.Then (at.TYPE_BASE + 12) (at.TYPE_BASE + 13)
    ∷ nodes.Then at.OPERATOR_COLON_COLON at.NEEDED_TYPE_SEGMENT
    ∷ nodes.Repeated (at.TYPE_BASE + 14)
    ∷ nodes.Then at.OPERATOR_COLON_COLON at.NEEDED_TYPE_SEGMENT
    ∷ nodes.Or at.WORD_UNDERSCORE (at.TYPE_WORD + 1)
    ∷ nodes.Or (at.TYPE_WORD + 2) (at.TYPE_WORD + 4)
    ∷ nodes.Then (at.TYPE_WORD + 3) at.MAYBE_BOUNDS
    ∷ words (codes "impl" ∷ codes "dyn" ∷ [])
    ∷ nodes.Or (at.TYPE_WORD + 5) (at.TYPE_WORD + 7)
    ∷ nodes.Then at.FOR_LIFETIMES (at.TYPE_WORD + 6)
    ∷ nodes.Or at.FN_POINTER at.TYPE_PATH
    ∷ nodes.Or at.FN_POINTER at.UNSAFE_BINDER
    ∷ nodes.Then at.WORD_DYN (at.DYN_2015 + 1)
    ∷ nodes.Ahead (at.DYN_2015 + 2)
    ∷ nodes.Or at.SEGMENT_NAME (at.DYN_2015 + 3)
    ∷ nodes.Or at.WORD_FOR (at.DYN_2015 + 4)
    ∷ nodes.Or at.SIGN_QUOTE (at.DYN_2015 + 5)
    ∷ nodes.Or at.OPERATOR_QUESTION at.PAREN
    ∷ nodes.Then at.MAYBE_WORD_UNSAFE (at.FN_POINTER + 1)
    ∷ nodes.Then (at.FN_POINTER + 2) (at.FN_POINTER + 4)
    ∷ []

abbrev pub nodes_7 : List Node
nodes_7 =
    nodes.Maybe (at.FN_POINTER + 3)
    ∷ nodes.Then at.WORD_EXTERN at.MAYBE_ABI
    ∷ nodes.Then at.WORD_FN (at.FN_POINTER + 5)
    ∷ nodes.Then at.POINTER_PARAMETERS at.MAYBE_RETURN_TYPE
    ∷ nodes.Or at.LITERAL (at.ABI + 1)
    ∷ nodes.Or at.OPEN_GROUP at.LITERAL_GROUP
    ∷ nodes.Then at.OPERATOR_MINUS_MORE at.TYPE_ONE
    ∷ nodes.Then at.WORD_UNSAFE (at.UNSAFE_BINDER + 1)
    ∷ nodes.Then at.GENERIC_PARAMS at.TYPE
    ∷ nodes.Then (at.BARE_BOUNDS + 1) at.BOUNDS
    ∷ nodes.Ahead (at.BARE_BOUNDS + 2)
    ∷ nodes.Or (at.BARE_BOUNDS + 3) (at.BARE_BOUNDS + 4)
    ∷ nodes.Then at.LIFETIME at.SIGN_PLUS
    ∷ operators (codes "?" ∷ codes "~" ∷ [])
    ∷ nodes.Then at.BOUND (at.BOUNDS + 1)
    ∷ nodes.Repeated (at.BOUNDS + 2)
    ∷ nodes.Then at.SIGN_PLUS at.MAYBE_BOUND
    ∷ nodes.Or at.LIFETIME (at.BOUND + 1)
    ∷ nodes.Or at.PAREN_BOUND (at.BOUND + 2)
    ∷ nodes.Or (at.BOUND + 3) (at.BOUND + 4)
    ∷ nodes.Then at.WORD_USE at.ANGLE
    ∷ nodes.Then at.MAYBE_FOR_LIFETIMES (at.BOUND + 5)
    ∷ nodes.Then (at.BOUND + 6) (at.BOUND + 7)
    ∷ nodes.Repeated at.BOUND_MARK
    ∷ nodes.Then at.MAYBE_FOR_LIFETIMES at.TYPE_PATH
    ∷ groups (kinds.Parenthesis ∷ [])
    ∷ nodes.Or (at.BOUND_MARK + 1) (at.BOUND_MARK + 2)
    ∷ operators (codes "?" ∷ codes "!" ∷ [])
    ∷ nodes.Or (at.BOUND_MARK + 3) (at.BOUND_MARK + 4)
    ∷ nodes.Then at.OPERATOR_TILDE at.WORD_CONST
    ∷ nodes.Or at.WORD_CONST (at.BOUND_MARK + 5)
    ∷ nodes.Or (at.BOUND_MARK + 6) (at.BOUND_MARK + 7)
    ∷ nodes.Inside kinds.Bracket at.WORD_CONST
    ∷ nodes.Then at.SINCE_2018 at.WORD_ASYNC
    ∷ nodes.Then at.WORD_FOR at.GENERIC_PARAMS
    ∷ nodes.Then at.LESS (at.GENERIC_PARAMS + 1)
    ∷ nodes.Then (at.GENERIC_PARAMS + 2) at.SIGN_MORE
    ∷ nodes.Repeated (at.GENERIC_PARAMS + 3)
    ∷ nodes.Then at.GENERIC_PARAM (at.GENERIC_PARAMS + 4)
    ∷ nodes.Or at.SIGN_COMMA at.AHEAD_SIGN_MORE
    ∷ []

abbrev pub nodes_8 : List Node
nodes_8 =
    nodes.Then at.MANY_ATTRIBUTE (at.GENERIC_PARAM + 1)
    ∷ nodes.Or (at.GENERIC_PARAM + 2) (at.GENERIC_PARAM + 5)
    ∷ nodes.Then at.LIFETIME (at.GENERIC_PARAM + 3)
    ∷ nodes.Maybe (at.GENERIC_PARAM + 4)
    ∷ nodes.Then at.OPERATOR_COLON at.MAYBE_BOUNDS
    ∷ nodes.Or at.CONST_PARAM (at.GENERIC_PARAM + 6)
    ∷ nodes.Then at.NAME (at.GENERIC_PARAM + 7)
    ∷ nodes.Then (at.GENERIC_PARAM + 8) (at.GENERIC_PARAM + 10)
    ∷ nodes.Maybe (at.GENERIC_PARAM + 9)
    ∷ nodes.Then at.OPERATOR_COLON at.MAYBE_BOUNDS
    ∷ nodes.Maybe (at.GENERIC_PARAM + 11)
    ∷ nodes.Then at.SIGN_EQUAL at.TYPE
    ∷ nodes.Then at.WORD_CONST (at.CONST_PARAM + 1)
    ∷ nodes.Then at.NAME (at.CONST_PARAM + 2)
    ∷ nodes.Then at.OPERATOR_COLON (at.CONST_PARAM + 3)
    ∷ nodes.Then at.TYPE (at.CONST_PARAM + 4)
    ∷ nodes.Maybe (at.CONST_PARAM + 5)
    ∷ nodes.Then at.SIGN_EQUAL (at.CONST_PARAM + 6)
    ∷ nodes.Or at.CONST_ARG at.TYPE
    ∷ nodes.Then at.WORD_WHERE (at.WHERE_CLAUSE + 1)
    ∷ nodes.Then (at.WHERE_CLAUSE + 2) (at.WHERE_CLAUSE + 4)
    ∷ nodes.Repeated (at.WHERE_CLAUSE + 3)
    ∷ nodes.Then at.WHERE_BOUND at.SIGN_COMMA
    ∷ nodes.Maybe at.WHERE_BOUND
    ∷ nodes.Then at.MANY_ATTRIBUTE (at.WHERE_BOUND + 1)
    ∷ nodes.Or (at.WHERE_BOUND + 2) (at.WHERE_BOUND + 6)
    ∷ nodes.Then at.LIFETIME (at.WHERE_BOUND + 3)
    ∷ nodes.Then at.NO_SIGN_PLUS (at.WHERE_BOUND + 4)
    ∷ nodes.Then (at.WHERE_BOUND + 5) at.MAYBE_BOUNDS
    ∷ nodes.Needed at.OPERATOR_COLON
    ∷ nodes.Then at.MAYBE_FOR_LIFETIMES (at.WHERE_BOUND + 7)
    ∷ nodes.Then at.TYPE (at.WHERE_BOUND + 8)
    ∷ nodes.Or (at.WHERE_BOUND + 9) (at.WHERE_BOUND + 10)
    ∷ nodes.Then at.OPERATOR_COLON at.MAYBE_BOUNDS
    ∷ nodes.Then (at.WHERE_BOUND + 11) at.NEEDED_TYPE
    ∷ operators (codes "=" ∷ codes "==" ∷ [])
    ∷ nodes.Then at.OPERATOR_HASH at.ATTRIBUTE_GROUP
    ∷ nodes.Then (at.PAT_TOP_FRAGMENT + 1) at.PATTERN_TOP
    ∷ nodes.NotAhead (at.PAT_TOP_FRAGMENT + 2)
    ∷ operators (codes "..=" ∷ codes "!" ∷ [])
    ∷ []

abbrev pub nodes_9 : List Node
nodes_9 =
    nodes.Then (at.PAT_FRAGMENT + 1) at.PATTERN
    ∷ nodes.NotAhead (at.PAT_FRAGMENT + 2)
    ∷ operators (codes "..=" ∷ codes "!" ∷ [])
    ∷ nodes.Then (at.PATTERN_TOP + 1) (at.PATTERN_TOP + 2)
    ∷ nodes.Maybe at.OPERATOR_BAR
    ∷ nodes.Then at.PATTERN (at.PATTERN_TOP + 3)
    ∷ nodes.Repeated (at.PATTERN_TOP + 4)
    ∷ nodes.Then at.OPERATOR_BAR at.NEEDED_PATTERN
    ∷ nodes.Then (at.PATTERN + 1) at.PATTERN_BASE
    ∷ nodes.Repeated at.PATTERN_PREFIX
    ∷ nodes.Or (at.PATTERN_PREFIX + 1) at.WORD_BOX
    ∷ nodes.Then at.SIGN_AND (at.PATTERN_PREFIX + 2)
    ∷ nodes.Maybe (at.PATTERN_PREFIX + 3)
    ∷ nodes.Or at.PINNED at.WORD_MUT
    ∷ nodes.Or (at.PATTERN_BASE + 1) (at.PATTERN_BASE + 2)
    ∷ nodes.Then at.NAME at.AT_PATTERN
    ∷ nodes.Or at.PATH_PATTERN (at.PATTERN_BASE + 3)
    ∷ nodes.Or at.FRAGMENT_PAT (at.PATTERN_BASE + 4)
    ∷ nodes.Or at.WORD_UNDERSCORE (at.PATTERN_BASE + 5)
    ∷ nodes.Or at.TUPLE_PATTERN (at.PATTERN_BASE + 6)
    ∷ nodes.Or at.SLICE_PATTERN at.OTHER_PATTERN
    ∷ nodes.Then (at.PATH_PATTERN + 1) (at.PATH_PATTERN + 2)
    ∷ nodes.Or at.EXPR_PATH at.FRAGMENT_PATH
    ∷ nodes.Maybe (at.PATH_PATTERN + 3)
    ∷ nodes.Or at.MACRO_END (at.PATH_PATTERN + 4)
    ∷ nodes.Or at.TUPLE_PATTERN (at.PATH_PATTERN + 5)
    ∷ nodes.Or at.STRUCT_PATTERN at.RANGE_TAIL
    ∷ nodes.Or (at.OTHER_PATTERN + 1) (at.OTHER_PATTERN + 3)
    ∷ nodes.Then at.PATTERN_LITERAL (at.OTHER_PATTERN + 2)
    ∷ nodes.Maybe at.RANGE_TAIL
    ∷ nodes.Or (at.OTHER_PATTERN + 4) (at.OTHER_PATTERN + 7)
    ∷ nodes.Then at.BINDING_MODE (at.OTHER_PATTERN + 5)
    ∷ nodes.Then at.NAME (at.OTHER_PATTERN + 6)
    ∷ nodes.Maybe at.AT_PATTERN
    ∷ nodes.Or at.RANGE_TO at.OPERATOR_BANG
    ∷ nodes.Then at.OPERATOR_AT at.NEEDED_PATTERN
    ∷ nodes.Or (at.BINDING_MODE + 1) (at.BINDING_MODE + 4)
    ∷ nodes.Then at.WORD_REF (at.BINDING_MODE + 2)
    ∷ nodes.Maybe (at.BINDING_MODE + 3)
    ∷ nodes.Or at.PINNED at.WORD_MUT
    ∷ []

abbrev pub nodes_10 : List Node
nodes_10 =
    nodes.Then at.WORD_MUT (at.BINDING_MODE + 5)
    ∷ nodes.Maybe (at.BINDING_MODE + 6)
    ∷ nodes.Then at.WORD_REF at.MAYBE_WORD_MUT
    ∷ nodes.Or (at.PATTERN_LITERAL + 1) (at.PATTERN_LITERAL + 3)
    ∷ nodes.Then at.MAYBE_OPERATOR_MINUS (at.PATTERN_LITERAL + 2)
    ∷ nodes.Or at.LITERAL at.LITERAL_GROUP
    ∷ nodes.Or (at.PATTERN_LITERAL + 4) at.FRAGMENT_EXPR
    ∷ words (codes "true" ∷ codes "false" ∷ [])
    ∷ nodes.Or (at.RANGE_TAIL + 1) (at.RANGE_TAIL + 2)
    ∷ nodes.Then at.OPERATOR_DOT_DOT at.MAYBE_RANGE_END
    ∷ nodes.Then (at.RANGE_TAIL + 3) at.NEEDED_RANGE_END
    ∷ operators (codes "..=" ∷ codes "..." ∷ [])
    ∷ nodes.Or (at.RANGE_TO + 1) (at.RANGE_TO + 2)
    ∷ nodes.Then at.OPERATOR_DOT_DOT at.MAYBE_RANGE_END
    ∷ nodes.Then at.OPERATOR_DOT_DOT_EQUAL at.NEEDED_RANGE_END
    ∷ nodes.Or at.PATTERN_LITERAL (at.RANGE_END + 1)
    ∷ nodes.Or at.EXPR_PATH at.FRAGMENT_PATH
    ∷ nodes.Then (at.EXPR_FRAGMENT + 1) at.EXPR
    ∷ nodes.NotAhead (at.EXPR_FRAGMENT + 2)
    ∷ words (codes "use" ∷ codes "become" ∷ [])
    ∷ nodes.Then at.MANY_ATTRIBUTE (at.EXPR + 1)
    ∷ nodes.Or at.RANGE (at.EXPR + 2)
    ∷ nodes.Then at.TERM (at.EXPR + 3)
    ∷ nodes.Then (at.EXPR + 4) (at.EXPR + 6)
    ∷ nodes.Repeated (at.EXPR + 5)
    ∷ nodes.Then at.ASSIGNMENT at.NEEDED_EXPR
    ∷ nodes.Maybe at.RANGE
    ∷ operators (codes "=" ∷ codes "+=" ∷ codes "-=" ∷ codes "*=" ∷ codes "/=" ∷ codes "%="
    ∷ codes "^=" ∷ codes "&=" ∷ codes "|=" ∷ codes "<<=" ∷ codes ">>=" ∷ [])
    ∷ nodes.Or (at.RANGE + 1) (at.RANGE + 4)
    ∷ nodes.Then at.OPERATOR_DOT_DOT (at.RANGE + 2)
    ∷ nodes.Maybe (at.RANGE + 3)
    ∷ nodes.Then at.AHEAD_START at.NEEDED_TERM
    ∷ nodes.Then at.OPERATOR_DOT_DOT_EQUAL at.NEEDED_TERM
    ∷ nodes.Then at.UNARY (at.TERM + 1)
    ∷ nodes.Repeated at.BINARY
    ∷ nodes.Or (at.BINARY + 1) (at.BINARY + 2)
    ∷ nodes.Then at.WORD_AS at.NEEDED_TYPE_ONE
    ∷ nodes.Then at.OPERATOR (at.BINARY + 3)
    ∷ nodes.Needed (at.BINARY + 4)
    ∷ nodes.Then at.MANY_ATTRIBUTE at.UNARY
    ∷ []

abbrev pub nodes_11 : List Node
nodes_11 =
    nodes.Or at.ARITHMETIC at.COMPARISON
    ∷ operators (codes "+" ∷ codes "-" ∷ codes "*" ∷ codes "/" ∷ codes "%" ∷ codes "^"
    ∷ codes "&" ∷ codes "|" ∷ codes "<<" ∷ codes ">>" ∷ codes "&&" ∷ codes "||"
    ∷ [])
    ∷ operators (codes "==" ∷ codes "!=" ∷ codes "<" ∷ codes ">" ∷ codes "<=" ∷ codes ">="
    ∷ [])
    ∷ nodes.Then (at.UNARY + 1) (at.UNARY + 2)
    ∷ nodes.Repeated at.PREFIX
    ∷ nodes.Or at.RANGE (at.UNARY + 3)
    ∷ nodes.Then at.ATOM at.MANY_POSTFIX
    ∷ nodes.Or (at.PREFIX + 1) (at.PREFIX + 2)
    ∷ operators (codes "-" ∷ codes "!" ∷ codes "*" ∷ [])
    ∷ nodes.Or at.ATTRIBUTE (at.PREFIX + 3)
    ∷ nodes.Then at.SIGN_AND (at.PREFIX + 4)
    ∷ nodes.Maybe (at.PREFIX + 5)
    ∷ nodes.Or (at.PREFIX + 6) at.WORD_MUT
    ∷ nodes.Then (at.PREFIX + 7) (at.PREFIX + 8)
    ∷ words (codes "raw" ∷ codes "pin" ∷ [])
    ∷ words (codes "const" ∷ codes "mut" ∷ [])
    ∷ nodes.Or at.OPERATOR_QUESTION (at.POSTFIX + 1)
    ∷ nodes.Or (at.POSTFIX + 2) (at.POSTFIX + 6)
    ∷ nodes.Then at.OPERATOR_DOT (at.POSTFIX + 3)
    ∷ nodes.Then (at.POSTFIX + 4) (at.POSTFIX + 5)
    ∷ nodes.Repeated at.POINTED
    ∷ nodes.Needed at.MEMBER
    ∷ nodes.Or at.ARGUMENTS at.INDEX
    ∷ nodes.Or (at.MEMBER + 1) (at.MEMBER + 6)
    ∷ nodes.Then at.SEGMENT_NAME (at.MEMBER + 2)
    ∷ nodes.Maybe (at.MEMBER + 3)
    ∷ nodes.Then at.TURBOFISH (at.MEMBER + 4)
    ∷ nodes.Needed (at.MEMBER + 5)
    ∷ nodes.Ahead at.PAREN
    ∷ nodes.Or at.LITERAL (at.MEMBER + 7)
    ∷ nodes.Or (at.MEMBER + 8) (at.MEMBER + 9)
    ∷ nodes.Then at.WORD_MATCH at.NEEDED_ARMS
    ∷ words (codes "await" ∷ codes "use" ∷ codes "yield" ∷ [])
    ∷ nodes.Or (at.ATOM + 1) (at.ATOM + 4)
    ∷ nodes.Then at.EXPR_PATH (at.ATOM + 2)
    ∷ nodes.Maybe (at.ATOM + 3)
    ∷ nodes.Or at.MACRO_END at.STRUCT_LITERAL
    ∷ nodes.Or at.PLAIN_ATOM (at.ATOM + 5)
    ∷ nodes.Or (at.ATOM + 6) (at.ATOM + 7)
    ∷ nodes.Then at.CLOSURE_HEAD at.CLOSURE_BODY
    ∷ []

abbrev pub nodes_12 : List Node
nodes_12 =
    nodes.Then at.WORD_BREAK (at.ATOM + 8)
    ∷ nodes.Then at.MAYBE_LIFETIME at.MAYBE_VALUE
    ∷ nodes.Or at.LITERAL (at.PLAIN_ATOM + 1)
    ∷ nodes.Or at.LITERAL_GROUP (at.PLAIN_ATOM + 2)
    ∷ nodes.Or (at.PLAIN_ATOM + 3) (at.PLAIN_ATOM + 4)
    ∷ fragments (parts.Expr ∷ parts.Path ∷ [])
    ∷ nodes.Or (at.PLAIN_ATOM + 5) (at.PLAIN_ATOM + 6)
    ∷ words (codes "true" ∷ codes "false" ∷ codes "_" ∷ [])
    ∷ nodes.Or at.ARGUMENTS (at.PLAIN_ATOM + 7)
    ∷ nodes.Or at.ARRAY (at.PLAIN_ATOM + 8)
    ∷ nodes.Or at.JUMP (at.PLAIN_ATOM + 9)
    ∷ nodes.Or (at.PLAIN_ATOM + 10) at.OWN_BLOCK
    ∷ nodes.Then at.CLOSURE_HEAD (at.PLAIN_ATOM + 11)
    ∷ nodes.Then at.OPERATOR_MINUS_MORE (at.PLAIN_ATOM + 12)
    ∷ nodes.Then at.TYPE at.BRACES
    ∷ nodes.Then at.NO_OPERATOR_MINUS_MORE at.NEEDED_EXPR
    ∷ nodes.Then (at.CLOSURE_HEAD + 1) at.CLOSURE_PARAMS
    ∷ nodes.Repeated at.CLOSURE_WORD
    ∷ nodes.Or at.FOR_LIFETIMES (at.CLOSURE_WORD + 1)
    ∷ nodes.Or (at.CLOSURE_WORD + 2) (at.CLOSURE_WORD + 3)
    ∷ words (codes "const" ∷ codes "static" ∷ [])
    ∷ nodes.Or (at.CLOSURE_WORD + 4) (at.CLOSURE_WORD + 5)
    ∷ nodes.Then at.SINCE_2018 at.WORD_ASYNC
    ∷ words (codes "move" ∷ codes "use" ∷ [])
    ∷ nodes.Then at.SIGN_BAR (at.CLOSURE_PARAMS + 1)
    ∷ nodes.Then (at.CLOSURE_PARAMS + 2) at.SIGN_BAR
    ∷ nodes.Repeated (at.CLOSURE_PARAMS + 3)
    ∷ nodes.Then at.CLOSURE_PARAM (at.CLOSURE_PARAMS + 4)
    ∷ nodes.Or at.SIGN_COMMA (at.CLOSURE_PARAMS + 5)
    ∷ nodes.Ahead at.SIGN_BAR
    ∷ nodes.Then at.MANY_ATTRIBUTE (at.CLOSURE_PARAM + 1)
    ∷ nodes.Then at.PATTERN (at.CLOSURE_PARAM + 2)
    ∷ nodes.Maybe (at.CLOSURE_PARAM + 3)
    ∷ nodes.Then at.OPERATOR_COLON at.TYPE
    ∷ nodes.Or (at.JUMP + 1) (at.JUMP + 3)
    ∷ nodes.Then (at.JUMP + 2) at.MAYBE_VALUE
    ∷ words (codes "return" ∷ codes "yield" ∷ [])
    ∷ nodes.Or (at.JUMP + 4) (at.JUMP + 5)
    ∷ nodes.Then at.WORD_BECOME at.VALUE
    ∷ nodes.Or (at.JUMP + 6) (at.JUMP + 8)
    ∷ []

abbrev pub nodes_13 : List Node
nodes_13 =
    nodes.Then at.WORD_DO (at.JUMP + 7)
    ∷ nodes.Then at.WORD_YEET at.MAYBE_VALUE
    ∷ nodes.Then at.WORD_CONTINUE at.MAYBE_LIFETIME
    ∷ nodes.Then at.AHEAD_START at.NEEDED_EXPR
    ∷ nodes.Or at.BLOCK_LIKE (at.OWN_BLOCK + 1)
    ∷ nodes.Or (at.OWN_BLOCK + 2) (at.OWN_BLOCK + 8)
    ∷ nodes.Then at.SINCE_2018 (at.OWN_BLOCK + 3)
    ∷ nodes.Then at.WORD_ASYNC (at.OWN_BLOCK + 4)
    ∷ nodes.Then (at.OWN_BLOCK + 5) (at.OWN_BLOCK + 7)
    ∷ nodes.Maybe (at.OWN_BLOCK + 6)
    ∷ nodes.Then at.SINCE_2024 at.WORD_GEN
    ∷ nodes.Then at.MAYBE_CAPTURE at.BLOCK
    ∷ nodes.Then at.SINCE_2024 (at.OWN_BLOCK + 9)
    ∷ nodes.Then at.WORD_GEN (at.OWN_BLOCK + 10)
    ∷ nodes.Then at.MAYBE_CAPTURE at.BLOCK
    ∷ words (codes "move" ∷ codes "use" ∷ [])
    ∷ nodes.Or at.BRACE at.START_HEAD
    ∷ nodes.Or at.NAME (at.START_HEAD + 1)
    ∷ nodes.Or at.LITERAL (at.START_HEAD + 2)
    ∷ nodes.Or (at.START_HEAD + 3) (at.START_HEAD + 4)
    ∷ groups (kinds.Parenthesis ∷ kinds.Bracket ∷ [])
    ∷ nodes.Or at.START_GROUP (at.START_HEAD + 5)
    ∷ nodes.Or at.START_WORD (at.START_HEAD + 6)
    ∷ nodes.Or at.START_SIGN at.SIGN_QUOTE
    ∷ nodes.Or at.OPEN_GROUP (at.START_GROUP + 1)
    ∷ fragments (parts.Expr ∷ parts.LiteralExpr ∷ parts.Literal ∷ parts.Path ∷ parts.Block
    ∷ [])
    ∷ nodes.Or at.PATH_WORD (at.START_WORD + 1)
    ∷ nodes.Or at.FLOW_WORD (at.START_WORD + 2)
    ∷ nodes.Or at.BLOCK_WORD (at.START_WORD + 3)
    ∷ words (codes "true" ∷ codes "false" ∷ codes "let" ∷ codes "move" ∷ codes "static"
    ∷ codes "box" ∷ [])
    ∷ words (codes "self" ∷ codes "super" ∷ codes "crate" ∷ codes "Self" ∷ [])
    ∷ words (codes "break" ∷ codes "continue" ∷ codes "do" ∷ codes "for" ∷ codes "if"
    ∷ codes "loop" ∷ codes "match" ∷ codes "return" ∷ codes "while" ∷ codes "yield"
    ∷ [])
    ∷ words (codes "async" ∷ codes "const" ∷ codes "gen" ∷ codes "safe" ∷ codes "try"
    ∷ codes "unsafe" ∷ [])
    ∷ operators (codes "!" ∷ codes "-" ∷ codes "*" ∷ codes "|" ∷ codes "||" ∷ codes "&"
    ∷ codes "&&" ∷ codes ".." ∷ codes "..=" ∷ codes "..." ∷ codes "<" ∷ codes "<<"
    ∷ codes "::" ∷ codes "#" ∷ [])
    ∷ nodes.Then at.MANY_ATTRIBUTE (at.HEAD + 1)
    ∷ nodes.Or at.HEAD_RANGE (at.HEAD + 2)
    ∷ nodes.Then at.HEAD_TERM (at.HEAD + 3)
    ∷ nodes.Then (at.HEAD + 4) (at.HEAD + 6)
    ∷ nodes.Repeated (at.HEAD + 5)
    ∷ nodes.Then at.ASSIGNMENT at.NEEDED_HEAD
    ∷ []

abbrev pub nodes_14 : List Node
nodes_14 =
    nodes.Maybe at.HEAD_RANGE
    ∷ nodes.Or (at.HEAD_RANGE + 1) (at.HEAD_RANGE + 4)
    ∷ nodes.Then at.OPERATOR_DOT_DOT (at.HEAD_RANGE + 2)
    ∷ nodes.Maybe (at.HEAD_RANGE + 3)
    ∷ nodes.Then at.AHEAD_START_HEAD at.NEEDED_HEAD_TERM
    ∷ nodes.Then at.OPERATOR_DOT_DOT_EQUAL at.NEEDED_HEAD_TERM
    ∷ nodes.Then at.HEAD_UNARY (at.HEAD_TERM + 1)
    ∷ nodes.Repeated at.HEAD_BINARY
    ∷ nodes.Or (at.HEAD_BINARY + 1) (at.HEAD_BINARY + 2)
    ∷ nodes.Then at.WORD_AS at.NEEDED_TYPE_ONE
    ∷ nodes.Then at.OPERATOR (at.HEAD_BINARY + 3)
    ∷ nodes.Needed (at.HEAD_BINARY + 4)
    ∷ nodes.Then at.MANY_ATTRIBUTE at.HEAD_UNARY
    ∷ nodes.Then (at.HEAD_UNARY + 1) (at.HEAD_UNARY + 6)
    ∷ nodes.Repeated (at.HEAD_UNARY + 2)
    ∷ nodes.Or at.PREFIX (at.HEAD_UNARY + 3)
    ∷ nodes.Then at.WORD_LET (at.HEAD_UNARY + 4)
    ∷ nodes.Then at.NEEDED_PATTERN_TOP (at.HEAD_UNARY + 5)
    ∷ nodes.Needed at.SIGN_EQUAL
    ∷ nodes.Or at.HEAD_RANGE (at.HEAD_UNARY + 7)
    ∷ nodes.Then at.HEAD_ATOM at.MANY_POSTFIX
    ∷ nodes.Or (at.HEAD_ATOM + 1) (at.HEAD_ATOM + 2)
    ∷ nodes.Then at.EXPR_PATH at.MAYBE_MACRO_END
    ∷ nodes.Or at.PLAIN_ATOM (at.HEAD_ATOM + 3)
    ∷ nodes.Or (at.HEAD_ATOM + 4) (at.HEAD_ATOM + 5)
    ∷ nodes.Then at.CLOSURE_HEAD at.HEAD_CLOSURE_BODY
    ∷ nodes.Then at.WORD_BREAK (at.HEAD_ATOM + 6)
    ∷ nodes.Then at.MAYBE_LIFETIME (at.HEAD_ATOM + 7)
    ∷ nodes.Maybe at.HEAD_VALUE
    ∷ nodes.Then at.NO_OPERATOR_MINUS_MORE at.NEEDED_HEAD
    ∷ nodes.Then at.AHEAD_START_HEAD at.NEEDED_EXPR
    ∷ nodes.Or at.BRACES (at.BLOCK_LIKE + 1)
    ∷ nodes.Or at.FRAGMENT_BLOCK (at.BLOCK_LIKE + 2)
    ∷ nodes.Or (at.BLOCK_LIKE + 3) (at.BLOCK_LIKE + 5)
    ∷ nodes.Then (at.BLOCK_LIKE + 4) at.OWN_BRACES
    ∷ words (codes "unsafe" ∷ codes "const" ∷ [])
    ∷ nodes.Or (at.BLOCK_LIKE + 6) (at.BLOCK_LIKE + 8)
    ∷ nodes.Then at.SINCE_2018 (at.BLOCK_LIKE + 7)
    ∷ nodes.Then at.WORD_TRY at.BLOCK
    ∷ nodes.Or (at.BLOCK_LIKE + 9) (at.BLOCK_LIKE + 10)
    ∷ []

abbrev pub nodes_15 : List Node
nodes_15 =
    nodes.Then at.LABEL at.OWN_BRACES
    ∷ nodes.Or (at.BLOCK_LIKE + 11) (at.BLOCK_LIKE + 13)
    ∷ nodes.Then (at.BLOCK_LIKE + 12) at.LOOP
    ∷ nodes.Maybe at.LABEL
    ∷ nodes.Or at.IF at.MATCH
    ∷ nodes.Then at.LIFETIME at.OPERATOR_COLON
    ∷ nodes.Or (at.LOOP + 1) (at.LOOP + 2)
    ∷ nodes.Then at.WORD_LOOP at.NEEDED_BLOCK
    ∷ nodes.Or (at.LOOP + 3) (at.LOOP + 5)
    ∷ nodes.Then at.WORD_WHILE (at.LOOP + 4)
    ∷ nodes.Then at.NEEDED_HEAD at.NEEDED_BLOCK
    ∷ nodes.Then (at.LOOP + 6) (at.LOOP + 7)
    ∷ nodes.NotAhead at.FOR_LIFETIMES
    ∷ nodes.Then at.WORD_FOR (at.LOOP + 8)
    ∷ nodes.Then (at.LOOP + 9) (at.LOOP + 11)
    ∷ nodes.Maybe (at.LOOP + 10)
    ∷ nodes.Then at.SINCE_2018 at.WORD_AWAIT
    ∷ nodes.Then at.NEEDED_PATTERN_TOP (at.LOOP + 12)
    ∷ nodes.Then (at.LOOP + 13) (at.LOOP + 14)
    ∷ nodes.Needed at.WORD_IN
    ∷ nodes.Then at.NEEDED_HEAD at.NEEDED_BLOCK
    ∷ nodes.Then at.WORD_IF (at.IF + 1)
    ∷ nodes.Then at.NEEDED_HEAD (at.IF + 2)
    ∷ nodes.Then at.NEEDED_BLOCK (at.IF + 3)
    ∷ nodes.Then (at.IF + 4) (at.IF + 8)
    ∷ nodes.Repeated (at.IF + 5)
    ∷ nodes.Then at.WORD_ELSE (at.IF + 6)
    ∷ nodes.Then at.WORD_IF (at.IF + 7)
    ∷ nodes.Then at.NEEDED_HEAD at.NEEDED_BLOCK
    ∷ nodes.Maybe (at.IF + 9)
    ∷ nodes.Then at.WORD_ELSE at.NEEDED_BLOCK
    ∷ nodes.Then at.WORD_MATCH (at.MATCH + 1)
    ∷ nodes.Then at.NEEDED_HEAD at.NEEDED_ARMS
    ∷ nodes.Or at.OPERATOR_SEMICOLON (at.STMT + 1)
    ∷ nodes.Or at.FRAGMENT_STMT (at.STMT + 2)
    ∷ nodes.Or (at.STMT + 3) (at.STMT + 10)
    ∷ nodes.Then at.MANY_ATTRIBUTE (at.STMT + 4)
    ∷ nodes.Or at.FRAGMENT_ITEM (at.STMT + 5)
    ∷ nodes.Or at.LET (at.STMT + 6)
    ∷ nodes.Or (at.STMT + 7) at.OWN_STMT
    ∷ []

abbrev pub nodes_16 : List Node
nodes_16 =
    nodes.Then (at.STMT + 8) (at.STMT + 9)
    ∷ nodes.Ahead at.ITEM_WORD
    ∷ nodes.Then at.VIS at.ITEM_KIND
    ∷ nodes.Then (at.STMT + 11) at.EXPR
    ∷ nodes.NotAhead (at.STMT + 12)
    ∷ nodes.Then at.WORD_ASYNC at.WORD_FN
    ∷ nodes.Or (at.OWN_STMT + 1) (at.OWN_STMT + 7)
    ∷ nodes.Then (at.OWN_STMT + 2) (at.OWN_STMT + 5)
    ∷ nodes.Or at.BLOCK_LIKE (at.OWN_STMT + 3)
    ∷ nodes.Then at.EXPR_PATH (at.OWN_STMT + 4)
    ∷ nodes.Then at.OPERATOR_BANG at.MACRO_BRACES
    ∷ nodes.NotAhead (at.OWN_STMT + 6)
    ∷ operators (codes "." ∷ codes "?" ∷ [])
    ∷ nodes.Then at.FRAGMENT_PATH (at.OWN_STMT + 8)
    ∷ nodes.Or at.MACRO_END at.STRUCT_LITERAL
    ∷ nodes.Then (at.LET + 1) (at.LET + 2)
    ∷ nodes.Maybe at.WORD_SUPER
    ∷ nodes.Then at.WORD_LET (at.LET + 3)
    ∷ nodes.Then at.NEEDED_PATTERN (at.LET + 4)
    ∷ nodes.Then (at.LET + 5) (at.LET + 7)
    ∷ nodes.Needed (at.LET + 6)
    ∷ nodes.NotAhead at.OPERATOR_BAR
    ∷ nodes.Then (at.LET + 8) (at.LET + 10)
    ∷ nodes.Maybe (at.LET + 9)
    ∷ nodes.Then at.OPERATOR_COLON at.NEEDED_TYPE
    ∷ nodes.Maybe (at.LET + 11)
    ∷ nodes.Then at.SIGN_EQUAL (at.LET + 12)
    ∷ nodes.Then at.NEEDED_EXPR (at.LET + 13)
    ∷ nodes.Maybe (at.LET + 14)
    ∷ nodes.Then at.WORD_ELSE at.NEEDED_BLOCK
    ∷ nodes.Or at.ITEM_BEGIN (at.ITEM_WORD + 1)
    ∷ nodes.Or at.ITEM_MARK (at.ITEM_WORD + 2)
    ∷ words (codes "union" ∷ codes "macro_rules" ∷ codes "macro" ∷ [])
    ∷ nodes.Or at.FRAGMENT_VIS (at.ITEM_BEGIN + 1)
    ∷ words (codes "use" ∷ codes "fn" ∷ codes "mod" ∷ codes "type" ∷ codes "enum"
    ∷ codes "struct" ∷ codes "trait" ∷ codes "impl" ∷ codes "pub" ∷ [])
    ∷ words (codes "const" ∷ codes "static" ∷ codes "unsafe" ∷ codes "extern" ∷ codes "async"
    ∷ codes "gen" ∷ codes "auto" ∷ [])
    ∷ nodes.Or at.OWN_BRACES at.FRAGMENT_BLOCK
    ∷ nodes.Or at.BRACES at.OPEN_GROUP
    ∷ nodes.Or at.FRAGMENT_META (at.META + 1)
    ∷ nodes.Or (at.META + 2) (at.META + 3)
    ∷ []

abbrev pub nodes_17 : List Node
nodes_17 =
    nodes.Then at.WORD_UNSAFE at.UNSAFE_META
    ∷ nodes.Then at.MOD_PATH (at.META + 4)
    ∷ nodes.Maybe (at.META + 5)
    ∷ nodes.Or at.MACRO_ARGUMENT (at.META + 6)
    ∷ nodes.Then at.OPERATOR_EQUAL at.NEEDED_EXPR
    ∷ nodes.Maybe (at.VIS + 1)
    ∷ nodes.Or at.FRAGMENT_VIS (at.VIS + 2)
    ∷ nodes.Then at.WORD_PUB (at.VIS + 3)
    ∷ nodes.Maybe at.SCOPE
    ∷ nodes.Inside kinds.Parenthesis (at.SCOPE + 1)
    ∷ nodes.Or (at.SCOPE + 2) (at.SCOPE + 3)
    ∷ words (codes "crate" ∷ codes "self" ∷ codes "super" ∷ [])
    ∷ nodes.Then at.WORD_IN (at.SCOPE + 4)
    ∷ nodes.Needed (at.SCOPE + 5)
    ∷ nodes.Then at.MOD_PATH at.END
    ∷ nodes.Then at.MANY_ATTRIBUTE (at.ITEM + 1)
    ∷ nodes.Or at.FRAGMENT_ITEM (at.ITEM + 2)
    ∷ nodes.Or (at.ITEM + 3) at.ITEM_CALL
    ∷ nodes.Then at.VIS (at.ITEM + 4)
    ∷ nodes.Then (at.ITEM + 5) at.ITEM_KIND
    ∷ nodes.Maybe (at.ITEM + 6)
    ∷ nodes.Then at.WORD_DEFAULT (at.ITEM + 7)
    ∷ nodes.Then (at.ITEM + 8) (at.ITEM + 9)
    ∷ nodes.NotAhead at.WORD_AS
    ∷ nodes.Ahead at.IDENT
    ∷ nodes.Or at.FUNCTION (at.ITEM_KIND + 1)
    ∷ nodes.Or at.USE (at.ITEM_KIND + 2)
    ∷ nodes.Or at.TYPE_ITEM at.OTHER_ITEM
    ∷ nodes.Or at.STRUCT (at.TYPE_ITEM + 1)
    ∷ nodes.Or at.ENUM (at.TYPE_ITEM + 2)
    ∷ nodes.Or at.UNION (at.TYPE_ITEM + 3)
    ∷ nodes.Or at.ALIAS (at.TYPE_ITEM + 4)
    ∷ nodes.Or at.TRAIT at.IMPLEMENTATION
    ∷ nodes.Or at.MODULE (at.OTHER_ITEM + 1)
    ∷ nodes.Or at.CONSTANT (at.OTHER_ITEM + 2)
    ∷ nodes.Or at.STATIC (at.OTHER_ITEM + 3)
    ∷ nodes.Or at.EXTERN_CRATE (at.OTHER_ITEM + 4)
    ∷ nodes.Or at.FOREIGN (at.OTHER_ITEM + 5)
    ∷ nodes.Or at.RULES at.MACRO
    ∷ nodes.Then at.WORD_USE (at.USE + 1)
    ∷ []

abbrev pub nodes_18 : List Node
nodes_18 =
    nodes.Then (at.USE + 2) (at.USE + 3)
    ∷ nodes.NotAhead at.SIGN_BAR
    ∷ nodes.Then (at.USE + 4) (at.USE + 5)
    ∷ nodes.Needed at.USE_TREE
    ∷ nodes.Needed at.OPERATOR_SEMICOLON
    ∷ nodes.Or (at.USE_TREE + 1) (at.USE_TREE + 8)
    ∷ nodes.Then at.MOD_PATH (at.USE_TREE + 2)
    ∷ nodes.Maybe (at.USE_TREE + 3)
    ∷ nodes.Or (at.USE_TREE + 4) (at.USE_TREE + 6)
    ∷ nodes.Then at.OPERATOR_COLON_COLON (at.USE_TREE + 5)
    ∷ nodes.Or at.OPERATOR_STAR at.USE_GROUP
    ∷ nodes.Then at.WORD_AS (at.USE_TREE + 7)
    ∷ nodes.Or at.NAME at.WORD_UNDERSCORE
    ∷ nodes.Then at.MAYBE_OPERATOR_COLON_COLON (at.USE_TREE + 9)
    ∷ nodes.Or at.OPERATOR_STAR at.USE_GROUP
    ∷ nodes.Then at.MAYBE_WORD_UNSAFE (at.MODULE + 1)
    ∷ nodes.Then at.WORD_MOD (at.MODULE + 2)
    ∷ nodes.Then at.NAME (at.MODULE + 3)
    ∷ nodes.Or at.OPERATOR_SEMICOLON at.ITEMS_GROUP
    ∷ nodes.Then at.WORD_STRUCT (at.STRUCT + 1)
    ∷ nodes.Then at.NAME (at.STRUCT + 2)
    ∷ nodes.Then at.MAYBE_GENERIC_PARAMS (at.STRUCT + 3)
    ∷ nodes.Or (at.STRUCT + 4) (at.STRUCT + 6)
    ∷ nodes.Then at.TUPLE_FIELDS (at.STRUCT + 5)
    ∷ nodes.Then at.MAYBE_WHERE_CLAUSE at.OPERATOR_SEMICOLON
    ∷ nodes.Then at.MAYBE_WHERE_CLAUSE (at.STRUCT + 7)
    ∷ nodes.Or at.FIELDS at.OPERATOR_SEMICOLON
    ∷ nodes.Then at.WORD_UNION (at.UNION + 1)
    ∷ nodes.Then at.NAME (at.UNION + 2)
    ∷ nodes.Then at.MAYBE_GENERIC_PARAMS (at.UNION + 3)
    ∷ nodes.Then at.MAYBE_WHERE_CLAUSE at.FIELDS
    ∷ nodes.Then at.WORD_ENUM (at.ENUM + 1)
    ∷ nodes.Then at.NAME (at.ENUM + 2)
    ∷ nodes.Then at.MAYBE_GENERIC_PARAMS (at.ENUM + 3)
    ∷ nodes.Then at.MAYBE_WHERE_CLAUSE at.VARIANTS
    ∷ nodes.Then at.WORD_TYPE (at.ALIAS + 1)
    ∷ nodes.Then at.NAME (at.ALIAS + 2)
    ∷ nodes.Then at.MAYBE_GENERIC_PARAMS (at.ALIAS + 3)
    ∷ nodes.Then (at.ALIAS + 4) (at.ALIAS + 6)
    ∷ nodes.Maybe (at.ALIAS + 5)
    ∷ []

abbrev pub nodes_19 : List Node
nodes_19 =
    nodes.Then at.OPERATOR_COLON at.MAYBE_BOUNDS
    ∷ nodes.Then at.MAYBE_WHERE_CLAUSE (at.ALIAS + 7)
    ∷ nodes.Then (at.ALIAS + 8) (at.ALIAS + 10)
    ∷ nodes.Maybe (at.ALIAS + 9)
    ∷ nodes.Then at.SIGN_EQUAL at.TYPE
    ∷ nodes.Then at.MAYBE_WHERE_CLAUSE at.OPERATOR_SEMICOLON
    ∷ nodes.Then at.WORD_CONST (at.CONSTANT + 1)
    ∷ nodes.Then (at.CONSTANT + 2) (at.CONSTANT + 3)
    ∷ nodes.Or at.NAME at.WORD_UNDERSCORE
    ∷ nodes.Then at.MAYBE_GENERIC_PARAMS (at.CONSTANT + 4)
    ∷ nodes.Then at.OPERATOR_COLON (at.CONSTANT + 5)
    ∷ nodes.Then at.TYPE (at.CONSTANT + 6)
    ∷ nodes.Then (at.CONSTANT + 7) (at.CONSTANT + 9)
    ∷ nodes.Maybe (at.CONSTANT + 8)
    ∷ nodes.Then at.SIGN_EQUAL at.NEEDED_EXPR
    ∷ nodes.Then at.MAYBE_WHERE_CLAUSE at.OPERATOR_SEMICOLON
    ∷ nodes.Then (at.STATIC + 1) (at.STATIC + 3)
    ∷ nodes.Maybe (at.STATIC + 2)
    ∷ words (codes "unsafe" ∷ codes "safe" ∷ [])
    ∷ nodes.Then at.WORD_STATIC (at.STATIC + 4)
    ∷ nodes.Then at.MAYBE_WORD_MUT (at.STATIC + 5)
    ∷ nodes.Then at.NAME (at.STATIC + 6)
    ∷ nodes.Then at.OPERATOR_COLON (at.STATIC + 7)
    ∷ nodes.Then at.TYPE (at.STATIC + 8)
    ∷ nodes.Then (at.STATIC + 9) at.OPERATOR_SEMICOLON
    ∷ nodes.Maybe (at.STATIC + 10)
    ∷ nodes.Then at.SIGN_EQUAL at.NEEDED_EXPR
    ∷ nodes.Then at.FN_MARKS (at.FUNCTION + 1)
    ∷ nodes.Then at.WORD_FN (at.FUNCTION + 2)
    ∷ nodes.Then at.NAME (at.FUNCTION + 3)
    ∷ nodes.Then at.MAYBE_GENERIC_PARAMS (at.FUNCTION + 4)
    ∷ nodes.Then at.PARAMETERS (at.FUNCTION + 5)
    ∷ nodes.Then (at.FUNCTION + 6) (at.FUNCTION + 7)
    ∷ nodes.Maybe at.FN_RETURN
    ∷ nodes.Then at.MAYBE_WHERE_CLAUSE (at.FUNCTION + 8)
    ∷ nodes.Or at.BRACES at.OPERATOR_SEMICOLON
    ∷ nodes.Then at.MAYBE_WORD_CONST (at.FN_MARKS + 1)
    ∷ nodes.Then (at.FN_MARKS + 2) (at.FN_MARKS + 4)
    ∷ nodes.Maybe (at.FN_MARKS + 3)
    ∷ nodes.Then at.SINCE_2018 at.WORD_ASYNC
    ∷ []

abbrev pub nodes_20 : List Node
nodes_20 =
    nodes.Then (at.FN_MARKS + 5) (at.FN_MARKS + 7)
    ∷ nodes.Maybe (at.FN_MARKS + 6)
    ∷ nodes.Then at.SINCE_2024 at.WORD_GEN
    ∷ nodes.Then (at.FN_MARKS + 8) (at.FN_MARKS + 10)
    ∷ nodes.Maybe (at.FN_MARKS + 9)
    ∷ words (codes "unsafe" ∷ codes "safe" ∷ [])
    ∷ nodes.Maybe (at.FN_MARKS + 11)
    ∷ nodes.Then at.WORD_EXTERN at.MAYBE_ABI
    ∷ nodes.Then at.OPERATOR_MINUS_MORE at.TYPE
    ∷ nodes.Then at.MAYBE_WORD_CONST (at.TRAIT + 1)
    ∷ nodes.Then at.MAYBE_WORD_UNSAFE (at.TRAIT + 2)
    ∷ nodes.Then (at.TRAIT + 3) (at.TRAIT + 4)
    ∷ nodes.Maybe at.WORD_AUTO
    ∷ nodes.Then at.WORD_TRAIT (at.TRAIT + 5)
    ∷ nodes.Then at.NAME (at.TRAIT + 6)
    ∷ nodes.Then at.MAYBE_GENERIC_PARAMS (at.TRAIT + 7)
    ∷ nodes.Or at.TRAIT_ALIAS at.TRAIT_REST
    ∷ nodes.Then at.SIGN_EQUAL (at.TRAIT_ALIAS + 1)
    ∷ nodes.Then at.MAYBE_BOUNDS (at.TRAIT_ALIAS + 2)
    ∷ nodes.Then at.MAYBE_WHERE_CLAUSE at.OPERATOR_SEMICOLON
    ∷ nodes.Then (at.TRAIT_REST + 1) (at.TRAIT_REST + 3)
    ∷ nodes.Maybe (at.TRAIT_REST + 2)
    ∷ nodes.Then at.OPERATOR_COLON at.MAYBE_BOUNDS
    ∷ nodes.Then at.MAYBE_WHERE_CLAUSE at.ITEMS_GROUP
    ∷ nodes.Then at.MAYBE_WORD_CONST (at.IMPLEMENTATION + 1)
    ∷ nodes.Then at.MAYBE_WORD_UNSAFE (at.IMPLEMENTATION + 2)
    ∷ nodes.Then at.WORD_IMPL (at.IMPLEMENTATION + 3)
    ∷ nodes.Or (at.IMPLEMENTATION + 4) at.IMPL_REST
    ∷ nodes.Then at.GENERIC_PARAMS at.IMPL_REST
    ∷ nodes.Then at.MAYBE_WORD_CONST (at.IMPL_REST + 1)
    ∷ nodes.Then (at.IMPL_REST + 2) (at.IMPL_REST + 5)
    ∷ nodes.Maybe (at.IMPL_REST + 3)
    ∷ nodes.Then at.OPERATOR_BANG (at.IMPL_REST + 4)
    ∷ nodes.NotAhead at.BRACE
    ∷ nodes.Then at.TYPE (at.IMPL_REST + 6)
    ∷ nodes.Then (at.IMPL_REST + 7) (at.IMPL_REST + 10)
    ∷ nodes.Maybe (at.IMPL_REST + 8)
    ∷ nodes.Then at.WORD_FOR (at.IMPL_REST + 9)
    ∷ nodes.Or at.OPERATOR_DOT_DOT at.TYPE
    ∷ nodes.Then at.MAYBE_WHERE_CLAUSE at.ITEMS_GROUP
    ∷ []

abbrev pub nodes_21 : List Node
nodes_21 =
    nodes.Then at.WORD_EXTERN (at.EXTERN_CRATE + 1)
    ∷ nodes.Then at.WORD_CRATE (at.EXTERN_CRATE + 2)
    ∷ nodes.Then (at.EXTERN_CRATE + 3) (at.EXTERN_CRATE + 4)
    ∷ nodes.Or at.NAME at.WORD_SELF_VALUE
    ∷ nodes.Then (at.EXTERN_CRATE + 5) at.OPERATOR_SEMICOLON
    ∷ nodes.Maybe (at.EXTERN_CRATE + 6)
    ∷ nodes.Then at.WORD_AS (at.EXTERN_CRATE + 7)
    ∷ nodes.Or at.NAME at.WORD_UNDERSCORE
    ∷ nodes.Then at.MAYBE_WORD_UNSAFE (at.FOREIGN + 1)
    ∷ nodes.Then at.WORD_EXTERN (at.FOREIGN + 2)
    ∷ nodes.Then at.MAYBE_ABI at.FOREIGN_ITEMS
    ∷ nodes.Then at.WORD_MACRO_RULES (at.RULES + 1)
    ∷ nodes.Then at.OPERATOR_BANG (at.RULES + 2)
    ∷ nodes.Then at.NAME (at.RULES + 3)
    ∷ nodes.Needed at.MACRO_REST
    ∷ nodes.Then at.WORD_MACRO (at.MACRO + 1)
    ∷ nodes.Then at.NAME (at.MACRO + 2)
    ∷ nodes.Then (at.MACRO + 3) at.MACRO_BRACES
    ∷ nodes.Maybe at.PAREN
    ∷ nodes.Then at.MOD_PATH (at.ITEM_CALL + 1)
    ∷ nodes.Then at.OPERATOR_BANG at.MACRO_REST
    ∷ nodes.Or at.MACRO_BRACES (at.MACRO_REST + 1)
    ∷ nodes.Then at.MACRO_OTHER at.OPERATOR_SEMICOLON
    ∷ nodes.Terminal terminals.Any
    ∷ nodes.Or at.OPERATOR_COLON_COLON (at.BEGIN_PATH + 1)
    ∷ nodes.Or at.IDENT (at.BEGIN_PATH + 2)
    ∷ fragments (parts.Path ∷ parts.Ty ∷ parts.Pat ∷ parts.Stmt ∷ parts.Meta ∷ parts.Expr
    ∷ parts.LiteralExpr ∷ parts.Literal ∷ [])
    ∷ nodes.Or at.NAME (at.BEGIN_TYPE + 1)
    ∷ nodes.Or at.PATH_WORD (at.BEGIN_TYPE + 2)
    ∷ nodes.Or at.BEGIN_TYPE_WORD (at.BEGIN_TYPE + 3)
    ∷ nodes.Or (at.BEGIN_TYPE + 4) (at.BEGIN_TYPE + 5)
    ∷ groups (kinds.Parenthesis ∷ kinds.Bracket ∷ [])
    ∷ nodes.Or at.BEGIN_TYPE_SIGN (at.BEGIN_TYPE + 6)
    ∷ nodes.Or at.SIGN_QUOTE (at.BEGIN_TYPE + 7)
    ∷ nodes.Or at.OPEN_GROUP (at.BEGIN_TYPE + 8)
    ∷ fragments (parts.Path ∷ parts.Ty ∷ [])
    ∷ words (codes "_" ∷ codes "impl" ∷ codes "dyn" ∷ codes "for" ∷ codes "fn"
    ∷ codes "unsafe" ∷ codes "extern" ∷ codes "typeof" ∷ [])
    ∷ operators (codes "!" ∷ codes "*" ∷ codes "&" ∷ codes "&&" ∷ codes "?" ∷ codes "<"
    ∷ codes "<<" ∷ codes "::" ∷ [])
    ∷ nodes.Or at.OPERATOR_BAR at.BEGIN_PAT
    ∷ nodes.Or at.IDENT (at.BEGIN_PAT + 1)
    ∷ []

abbrev pub nodes_22 : List Node
nodes_22 =
    nodes.Or at.LITERAL (at.BEGIN_PAT + 2)
    ∷ nodes.Or (at.BEGIN_PAT + 3) (at.BEGIN_PAT + 4)
    ∷ groups (kinds.Parenthesis ∷ kinds.Bracket ∷ [])
    ∷ nodes.Or at.BEGIN_PAT_SIGN (at.BEGIN_PAT + 5)
    ∷ nodes.Or at.OPEN_GROUP (at.BEGIN_PAT + 6)
    ∷ fragments (parts.Path ∷ parts.Ty ∷ parts.Pat ∷ parts.Meta ∷ parts.Expr
    ∷ parts.LiteralExpr ∷ parts.Literal ∷ [])
    ∷ operators (codes "-" ∷ codes "&" ∷ codes "&&" ∷ codes ".." ∷ codes "..." ∷ codes "::"
    ∷ codes "<" ∷ codes "<<" ∷ [])
    ∷ nodes.Or at.START at.WORD_UNDERSCORE
    ∷ nodes.Or at.BRACE (at.BEGIN_BLOCK + 1)
    ∷ nodes.Or at.OPEN_GROUP (at.BEGIN_BLOCK + 2)
    ∷ fragments (parts.Block ∷ parts.Stmt ∷ parts.Expr ∷ parts.LiteralExpr ∷ parts.Literal
    ∷ [])
    ∷ nodes.Or at.OPERATOR_COMMA (at.BEGIN_VIS + 1)
    ∷ nodes.Or at.IDENT (at.BEGIN_VIS + 2)
    ∷ nodes.Or at.FRAGMENT at.BEGIN_TYPE
    ∷ []

abbrev pub rust_nodes : List Node
rust_nodes =
    nodes_0
    ++ nodes_1
    ++ nodes_2
    ++ nodes_3
    ++ nodes_4
    ++ nodes_5
    ++ nodes_6
    ++ nodes_7
    ++ nodes_8
    ++ nodes_9
    ++ nodes_10
    ++ nodes_11
    ++ nodes_12
    ++ nodes_13
    ++ nodes_14
    ++ nodes_15
    ++ nodes_16
    ++ nodes_17
    ++ nodes_18
    ++ nodes_19
    ++ nodes_20
    ++ nodes_21
    ++ nodes_22
