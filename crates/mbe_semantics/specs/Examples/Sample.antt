-- Definitions that make small macros and arguments short to write.
use Rattle.std.specs.Prelude.{◌≡◌, ◌+◌, ℕ, List, length, Some, None}
use Rattle.mbe_tt.specs.declared.span.Span.{Span}
use Rattle.mbe_tt.specs.declared.tt.Delimiter.{Delimiter}
use Rattle.mbe_tt.specs.declared.tt.DelimiterKind.{DelimiterKind}
use Rattle.mbe_tt.specs.declared.tt.DelimiterKind.TheVariants.{Parenthesis, Brace, Invisible}
use Rattle.mbe_tt.specs.declared.tt.IdentIsRaw.TheVariants as raw
use Rattle.mbe_tt.specs.declared.tt.LitKind.TheVariants.{Integer}
use Rattle.mbe_tt.specs.declared.tt.Punct.{Punct}
use Rattle.mbe_tt.specs.declared.tt.Spacing.{Spacing}
use Rattle.mbe_tt.specs.declared.tt.Spacing.TheVariants.{Alone, Joint}
use Rattle.mbe_tt.specs.Trees.Leaf.{Ident, Literal, ident, literal, punct}
use Rattle.mbe_tt.specs.Trees.Tree.{Forest, none, leaf, group}
use Rattle.mbe_tt.specs.Grammars.Grammar.{Grammar}
use Rattle.mbe_tt.specs.declared.grammar.Dialect.TheVariants.{RustAnalyzer}
use Rattle.mbe_semantics.specs.declared.fragment_kinds.MetaVarKind.{MetaVarKind}
use Rattle.mbe_semantics.specs.declared.macro_call_style.MacroCallStyle.TheVariants.{FnLike}
use Rattle.mbe_semantics.specs.Syntax.Op as ops
use Rattle.mbe_semantics.specs.Syntax.Op.{Op, Ops}
use Rattle.mbe_semantics.specs.Syntax.Definition.{Rule, IsMacroRules}
use Rattle.mbe_semantics.specs.Readings.Item as items
use Rattle.mbe_semantics.specs.Fragments.Kinds as fragments
use Rattle.mbe_semantics.specs.Readings.Item.{Item}
use Rattle.mbe_tt.specs.declared.span.Edition.{Edition}
use Rattle.mbe_tt.specs.declared.span.Edition.TheVariants.{Edition2024}
use Rattle.mbe_tt.specs.declared.span.SyntaxContext.{SyntaxContext}
use Rattle.mbe_semantics.specs.Expansion.Expansion.{IsExpansion}

-- the grammar in rust-analyzer's dialect, of which the examples are
abbrev pub open_grammar : Grammar → Grammar
open_grammar g = record {
  parse = g.parse;
  is_keyword = g.is_keyword;
  dialect = RustAnalyzer;
}

abbrev pub at : ℕ → ℕ → ℕ → Span
at file start end =
    record { file = file; ast = 0; start = start; end = end; ctx = record { 0 = 0 } }

abbrev pub ident_of : List ℕ → Span → Ident
ident_of text span = record { sym = text; is_raw = raw.No; span = span }

abbrev pub punct_of : ℕ → Spacing → Span → Punct
punct_of char spacing span = record { char = char; spacing = spacing; span = span }

abbrev pub integer_of : List ℕ → Span → Literal
integer_of text span =
    record { text_and_suffix = text; suffix_len = 0; kind = Integer; span = span }

abbrev pub word : List ℕ → Span → Forest → Forest
word text span rest = leaf (ident (ident_of text span)) rest

abbrev pub mark : ℕ → Spacing → Span → Forest → Forest
mark char spacing span rest = leaf (punct (punct_of char spacing span)) rest

abbrev pub number : List ℕ → Span → Forest → Forest
number text span rest = leaf (literal (integer_of text span)) rest

abbrev pub delimiter_of : DelimiterKind → Span → Span → Delimiter
delimiter_of kind opening close = record { opening = opening; close = close; kind = kind }

-- each context has this edition
abbrev pub is_2024 : SyntaxContext → Edition → Type 0
is_2024 c e = e ≡ Edition2024

abbrev pub same_span : Span → Span → Type 0
same_span s t = t ≡ s

-- ---- tokens that begin at this byte of the text

abbrev pub text_at : ℕ → ℕ → List ℕ → Forest → Forest
text_at file start text rest = word text (at file start (start + length text)) rest

abbrev pub number_at : ℕ → ℕ → List ℕ → Forest → Forest
number_at file start text rest = number text (at file start (start + length text)) rest

abbrev pub alone_at : ℕ → ℕ → ℕ → Forest → Forest
alone_at file start char rest = mark char Alone (at file start (start + 1)) rest

abbrev pub joint_at : ℕ → ℕ → ℕ → Forest → Forest
joint_at file start char rest = mark char Joint (at file start (start + 1)) rest

-- `=>`
abbrev pub arrow_at : ℕ → Forest → Forest
arrow_at start rest = joint_at 0 start 61 (alone_at 0 (start + 1) 62 rest)

abbrev pub parens : ℕ → ℕ → Delimiter
parens opening close =
    delimiter_of Parenthesis (at 0 opening (opening + 1)) (at 0 close (close + 1))

abbrev pub braces : ℕ → ℕ → Delimiter
braces opening close = delimiter_of Brace (at 0 opening (opening + 1)) (at 0 close (close + 1))

-- `$name:kind`
abbrev pub typed_at : ℕ → List ℕ → List ℕ → Forest → Forest
typed_at start name kind rest =
    alone_at 0 start 36 (text_at 0 (start + 1) name
    (alone_at 0 (start + 1 + length name) 58 (text_at 0 (start + 2 + length name) kind rest)))

-- `$name`
abbrev pub named_at : ℕ → List ℕ → Forest → Forest
named_at start name rest = alone_at 0 start 36 (text_at 0 (start + 1) name rest)

-- ---- ops and items

-- a variable of a pattern and of a template; its name begins at this byte
abbrev pub reads_at : ℕ → List ℕ → MetaVarKind → Op
reads_at start name kind = ops.variable name (Some kind) (at 0 start (start + length name))

abbrev pub writes_at : ℕ → List ℕ → Op
writes_at start name = ops.variable name None (at 0 start (start + length name))

abbrev pub ident_at : ℕ → List ℕ → Op
ident_at start text = ops.token (ops.ident (ident_of text (at 0 start (start + length text))))

abbrev pub taken : List ℕ → fragments.Style → Forest → Item
taken name style f = items.bound name (record { trees = f; style = style })

abbrev pub fn_like : Ops → Ops → Rule
fn_like reads writes = record { style = FnLike; reads = reads; writes = writes }

-- the tree of an expansion, for an argument of this length
abbrev pub result_of : ℕ → Forest → Forest
result_of end inside = group (delimiter_of Invisible (at 1 0 end) (at 1 0 end)) inside none

-- the definition has these rules and no error
abbrev pub Defines : Forest → List Rule → Type 0
Defines definition rs = IsMacroRules is_2024 definition rs None

-- The expansion has no error, and is by the rule with this index. The marker changes nothing.
abbrev pub ExpandsBy : Grammar → List Rule → Forest → ℕ → ℕ → Forest → Type 0
ExpandsBy g rs argument end n inside =
    IsExpansion g FnLike argument same_span (at 1 0 end) rs n (result_of end inside)
