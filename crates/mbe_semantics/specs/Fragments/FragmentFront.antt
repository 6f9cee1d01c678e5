-- The fragment that a variable matches at the front of trees: the fragments of the Rust Reference,
-- as rust-analyzer parses them. In rustc's dialect, groups of fragments are literals too, and a
-- fragment may fail inside.
use Rattle.std.specs.Prelude.{ℕ, ◌||◌, ◌&&◌, ◌==◌, Bool, true, false, not, if◌then◌else◌, List}
use Rattle.std.specs.Prelude.{length, codes, nat_lt, Option, Some, None, is_none}
use Rattle.mbe_tt.specs.declared.grammar.Dialect.{Dialect}
use Rattle.mbe_tt.specs.declared.grammar.Dialect.TheVariants.{RustAnalyzer, Rustc}
use Rattle.mbe_tt.specs.declared.tt.Delimiter.{Delimiter}
use Rattle.mbe_tt.specs.Trees.FragmentGroup.{is_literal_group}
use Rattle.mbe_semantics.specs.declared.fragment_kinds.MetaVarKind.{MetaVarKind}
use Rattle.mbe_semantics.specs.declared.fragment_kinds.MetaVarKind.TheVariants as kinds
use Rattle.mbe_semantics.specs.declared.fragment_kinds.ExprKind.{ExprKind}
use Rattle.mbe_semantics.specs.declared.fragment_kinds.ExprKind.TheVariants as exprs
use Rattle.mbe_semantics.specs.declared.fragment_kinds.FragmentParser.{FragmentParser}
use Rattle.mbe_semantics.specs.declared.fragment_kinds.FragmentParser.TheVariants as fragment_parsers
use Rattle.mbe_tt.specs.Trees.Leaf.{ident, literal, punct}
use Rattle.mbe_tt.specs.declared.tt.IdentIsRaw.{IdentIsRaw}
use Rattle.mbe_tt.specs.declared.tt.IdentIsRaw.TheVariants.{No, Yes}
use Rattle.mbe_tt.specs.Trees.Tree.{Forest, none, leaf, group, Cut, cut_trees, is_bool_text, flat}
use Rattle.mbe_tt.specs.Trees.Glue.{glue}
use Rattle.mbe_tt.specs.Trees.Leaf.{is_text, is_underscore}
use Rattle.mbe_tt.specs.Grammars.Grammar.{Grammar, accepted_front}
use Rattle.mbe_semantics.specs.Fragments.Kinds.{facts}

-- an identifier other than `_`
abbrev pub ident_front : Forest → Option Cut
ident_front (leaf (ident i) rest) =
    if is_underscore i.sym then None else Some (cut_trees 1 (leaf (ident i) rest))
ident_front _ = None

-- the punct `'` and an identifier or `_`
abbrev pub lifetime_front : Forest → Option Cut
lifetime_front (leaf (punct p) (leaf (ident i) rest)) =
    if p.char == 39 then Some (cut_trees 2 (leaf (punct p) (leaf (ident i) rest))) else None
lifetime_front _ = None

-- in rustc's dialect, the delimiter is that of a literal, or of an expression that is a literal
abbrev pub is_literal_in : Dialect → Delimiter → Bool
is_literal_in RustAnalyzer d = false
is_literal_in Rustc d = is_literal_group d

-- a literal, or `true` or `false`; in rustc's dialect, a group of a literal too
abbrev pub unsigned_front : Dialect → Forest → Option Cut
unsigned_front dialect (leaf (literal l) rest) = Some (cut_trees 1 (leaf (literal l) rest))
unsigned_front dialect (leaf (ident i) rest) =
    if is_bool_text i.sym then Some (cut_trees 1 (leaf (ident i) rest)) else None
unsigned_front dialect (leaf (punct p) rest) = None
unsigned_front dialect (group d inside rest) =
    if is_literal_in dialect d then Some (cut_trees 1 (group d inside rest)) else None
unsigned_front dialect none = None

-- the first two trees, if the second is a fragment by itself
abbrev pub with_leaf : Forest → Option Cut → Option Cut
with_leaf f None = None
with_leaf f (Some c) = Some (cut_trees 2 f)

-- an optional `-`, and then a literal
abbrev pub literal_front : Dialect → Forest → Option Cut
literal_front dialect (leaf (punct p) rest) =
    if p.char == 45 then with_leaf (leaf (punct p) rest) (unsigned_front dialect rest) else
    None
literal_front dialect f = unsigned_front dialect f

-- A lifetime where `'` is first. Else the puncts that join into one operator, or one tree.
abbrev pub tree_front : Forest → Option Cut
tree_front none = None
tree_front (leaf (punct p) rest) =
    if p.char == 39 then lifetime_front (leaf (punct p) rest) else Some
    (cut_trees (length (glue (leaf (punct p) rest))) (leaf (punct p) rest))
tree_front f = Some (cut_trees 1 f)

-- the identifier is this word and isn't raw
abbrev pub is_plain_ident : IdentIsRaw → List ℕ → List ℕ → Bool
is_plain_ident No sym word = is_text sym word
is_plain_ident Yes sym word = false

-- a word that an expression of this kind can't begin with
abbrev pub is_refused_ident : ExprKind → IdentIsRaw → List ℕ → Bool
is_refused_ident exprs.Expr is_raw sym = is_text sym (codes "let")
is_refused_ident exprs.Expr2021 is_raw sym =
    is_text sym (codes "let") || is_plain_ident is_raw sym (codes "_")
    || is_plain_ident is_raw sym (codes "const")

-- the first tree is such a word
abbrev pub has_refused_start : ExprKind → Forest → Bool
has_refused_start kind (leaf (ident i) rest) = is_refused_ident kind i.is_raw i.sym
has_refused_start kind _ = false

-- the first identifier can't begin an expression of the kind
abbrev pub is_refused : MetaVarKind → Forest → Bool
is_refused (kinds.Expr kind) f = has_refused_start kind f
is_refused _ f = false

abbrev pub fragment_front_by : Grammar → MetaVarKind → FragmentParser → Forest → Option Cut
fragment_front_by g kind (fragment_parsers.Grammar entry) f =
    if is_refused kind f then None else accepted_front g entry f
fragment_front_by g kind fragment_parsers.Identifier f = ident_front f
fragment_front_by g kind fragment_parsers.Lifetime f = lifetime_front f
fragment_front_by g kind fragment_parsers.Tree f = tree_front f
fragment_front_by g kind fragment_parsers.Literal f = literal_front g.dialect f

-- The fragment of a kind at the front of trees. A variable without a kind has an unknown specifier,
-- and matches nothing.
abbrev pub fragment_front : Grammar → Option MetaVarKind → Forest → Option Cut
fragment_front g None f = None
fragment_front g (Some kind) f = fragment_front_by g kind (facts kind).fragment_parser f

-- ---- where rustc commits to a fragment

-- the first tree is this punct
abbrev pub starts_with_char : ℕ → Forest → Bool
starts_with_char char (leaf (punct p) rest) = p.char == char
starts_with_char char _ = false

-- A fragment that doesn't match may begin with the first tree: the grammar counts tokens of it, or
-- it is a literal and its `-` is there.
abbrev pub may_begin : Grammar → FragmentParser → Forest → Bool
may_begin g (fragment_parsers.Grammar entry) f = nat_lt 0 (g.parse entry (flat f)).count
may_begin g fragment_parsers.Literal f = starts_with_char 45 f
may_begin g fragment_parsers.Identifier f = false
may_begin g fragment_parsers.Lifetime f = false
may_begin g fragment_parsers.Tree f = false

abbrev pub is_rustc : Dialect → Bool
is_rustc RustAnalyzer = false
is_rustc Rustc = true

-- In rustc's dialect, a fragment of the kind begins with the first tree and has a fault inside.
abbrev pub fails_inside : Grammar → Option MetaVarKind → Forest → Bool
fails_inside g None f = false
fails_inside g (Some kind) f =
    is_rustc g.dialect && not (is_refused kind f) && may_begin g (facts kind).fragment_parser f
    && is_none (fragment_front g (Some kind) f)
