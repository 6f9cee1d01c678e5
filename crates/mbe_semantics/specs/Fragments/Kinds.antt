-- The table of the kinds of fragments: a row has all that the specification says about a kind,
-- except which trees match. A new specifier is a new row.
use Rattle.std.specs.Prelude.{ℕ, List, [], ◌∷◌, codes, Option, Some, None, if◌then◌else◌}
use Rattle.mbe_tt.specs.Trees.Leaf.{is_text}
use Rattle.mbe_tt.specs.declared.grammar.Dialect.{Dialect}
use Rattle.mbe_tt.specs.declared.grammar.Dialect.TheVariants.{RustAnalyzer, Rustc}
use Rattle.mbe_tt.specs.declared.grammar.PrefixEntryPoint.{PrefixEntryPoint}
use Rattle.mbe_tt.specs.declared.grammar.PrefixEntryPoint.TheVariants as entries
use Rattle.mbe_semantics.specs.declared.fragment_kinds.ExprKind.TheVariants as exprs
use Rattle.mbe_semantics.specs.declared.fragment_kinds.MetaVarKind.{MetaVarKind}
use Rattle.mbe_semantics.specs.declared.fragment_kinds.MetaVarKind.TheVariants as kinds
use Rattle.mbe_semantics.specs.declared.fragment_kinds.Missing.{Missing}
use Rattle.mbe_semantics.specs.declared.fragment_kinds.Missing.TheVariants.{Nothing, Semicolon}
use Rattle.mbe_semantics.specs.declared.fragment_kinds.Missing.TheVariants.{Braces, Lifetime}
use Rattle.mbe_semantics.specs.declared.fragment_kinds.Missing.TheVariants.{Identifier}
use Rattle.mbe_semantics.specs.declared.fragment_kinds.FragmentParser.{FragmentParser}
use Rattle.mbe_semantics.specs.declared.fragment_kinds.FragmentParser.TheVariants as fragment_parsers
use Rattle.mbe_semantics.specs.declared.fragment_kinds.FragmentParser.TheVariants.{Grammar}
use Rattle.mbe_semantics.specs.declared.fragment_kinds.FollowSet.{FollowSet}
use Rattle.mbe_semantics.specs.declared.fragment_kinds.FollowSet.TheVariants.{Anything}
use Rattle.mbe_semantics.specs.declared.fragment_kinds.FollowSet.TheVariants.{AfterExpression}
use Rattle.mbe_semantics.specs.declared.fragment_kinds.FollowSet.TheVariants.{AfterPattern}
use Rattle.mbe_semantics.specs.declared.fragment_kinds.FollowSet.TheVariants.{AfterAlternative}
use Rattle.mbe_semantics.specs.declared.fragment_kinds.FollowSet.TheVariants.{AfterType}
use Rattle.mbe_semantics.specs.declared.fragment_kinds.FollowSet.TheVariants.{AfterVisibility}

-- how a fragment is emitted
pub data Style : Type 0 where
  plain : Style
  -- without an invisible group around it
  stripped : Style
  as_expression : Style
  as_path : Style
  -- in one invisible group that knows the kind
  whole : MetaVarKind → Style

pub record Facts : Type 0 where
  -- its specifier; both kinds of expressions have `expr`
  pub specifier : List ℕ
  -- what parses a fragment at the front of trees
  pub fragment_parser : FragmentParser
  pub style : Style
  -- what the expansion has in place of a missing fragment
  pub missing : Missing
  -- what may follow a fragment in a pattern
  pub follow_set : FollowSet

abbrev pub row : List ℕ → FragmentParser → Style → Missing → FollowSet → Facts
row specifier fragment_parser style missing follow_set =
    record {
      specifier = specifier;
      fragment_parser = fragment_parser;
      style = style;
      missing =
          missing;
      follow_set = follow_set;
    }

abbrev pub facts : MetaVarKind → Facts
facts kinds.Path = row (codes "path") (Grammar entries.Path) as_path Identifier AfterType
facts kinds.Ty = row (codes "ty") (Grammar entries.Ty) plain Identifier AfterType
facts kinds.Pat = row (codes "pat") (Grammar entries.PatTop) plain Identifier AfterPattern
facts kinds.PatParam =
    row (codes "pat_param") (Grammar entries.Pat) plain Identifier AfterAlternative
facts kinds.Stmt = row (codes "stmt") (Grammar entries.Stmt) plain Semicolon AfterExpression
facts kinds.Block = row (codes "block") (Grammar entries.Block) plain Braces Anything
facts kinds.Meta = row (codes "meta") (Grammar entries.MetaItem) plain Nothing Anything
facts kinds.Item = row (codes "item") (Grammar entries.Item) plain Nothing Anything
facts kinds.Vis = row (codes "vis") (Grammar entries.Vis) plain Nothing AfterVisibility
facts (kinds.Expr kind) =
    row (codes "expr") (Grammar entries.Expr) as_expression Identifier AfterExpression
facts kinds.Ident = row (codes "ident") fragment_parsers.Identifier stripped Identifier Anything
facts kinds.Tt = row (codes "tt") fragment_parsers.Tree stripped Nothing Anything
facts kinds.Lifetime = row (codes "lifetime") fragment_parsers.Lifetime stripped Lifetime Anything
facts kinds.Literal = row (codes "literal") fragment_parsers.Literal stripped Identifier Anything

-- the grammar's entry point, if the grammar parses the fragment
abbrev pub entry_of : FragmentParser → Option PrefixEntryPoint
entry_of (Grammar entry) = Some entry
entry_of fragment_parsers.Identifier = None
entry_of fragment_parsers.Lifetime = None
entry_of fragment_parsers.Tree = None
entry_of fragment_parsers.Literal = None

-- the text of the error, if the grammar doesn't parse the fragment
abbrev pub expected_text : FragmentParser → List ℕ
expected_text (Grammar entry) = []
expected_text fragment_parsers.Identifier = codes "expected ident"
expected_text fragment_parsers.Lifetime = codes "expected lifetime"
expected_text fragment_parsers.Tree = codes "expected token tree"
expected_text fragment_parsers.Literal = codes "expected literal"

-- how rustc emits a fragment of a kind
abbrev pub rustc_style : MetaVarKind → Style
rustc_style kinds.Ident = plain
rustc_style kinds.Tt = plain
rustc_style kinds.Lifetime = plain
rustc_style kind = whole kind

abbrev pub style_in : Dialect → MetaVarKind → Style
style_in RustAnalyzer kind = (facts kind).style
style_in Rustc kind = rustc_style kind

-- how a fragment of a kind is emitted
abbrev pub style_of : Dialect → Option MetaVarKind → Style
style_of d None = plain
style_of d (Some kind) = style_in d kind

-- the specifiers that mean the same in every edition
abbrev pub kind_names : List (List ℕ × MetaVarKind)
kind_names =
    (codes "path", kinds.Path) ∷ (codes "ty", kinds.Ty) ∷ (codes "pat_param", kinds.PatParam)
    ∷ (codes "stmt", kinds.Stmt)
    ∷ (codes "block", kinds.Block) ∷ (codes "meta", kinds.Meta) ∷ (codes "item", kinds.Item)
    ∷ (codes "vis", kinds.Vis)
    ∷ (codes "expr_2021", kinds.Expr exprs.Expr2021) ∷ (codes "ident", kinds.Ident)
    ∷ (codes "tt", kinds.Tt)
    ∷ (codes "lifetime", kinds.Lifetime) ∷ (codes "literal", kinds.Literal) ∷ []

-- the kind of a specifier, or none of an unknown specifier
abbrev pub kind_named : List (List ℕ × MetaVarKind) → List ℕ → Option MetaVarKind
kind_named [] name = None
kind_named (row ∷ rows) name = if is_text row.0 name then Some row.1 else kind_named rows name
