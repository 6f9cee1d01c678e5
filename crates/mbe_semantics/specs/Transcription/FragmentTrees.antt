-- How a fragment is emitted, as in rust-analyzer, or whole, as in rustc.
use Rattle.std.specs.Prelude.{◌≡◌, Bool, true, false, ◌&&◌, ◌==◌, if◌then◌else◌}
use Rattle.mbe_tt.specs.declared.fragment_group.FragmentGroup.{FragmentGroup}
use Rattle.mbe_tt.specs.declared.fragment_group.FragmentGroup.TheVariants as groups
use Rattle.mbe_tt.specs.Trees.FragmentGroup.{delimiter_of, is_around, is_literal_group}
use Rattle.mbe_semantics.specs.declared.fragment_kinds.MetaVarKind.{MetaVarKind}
use Rattle.mbe_semantics.specs.declared.fragment_kinds.MetaVarKind.TheVariants as kinds
use Rattle.mbe_tt.specs.declared.span.Span.{Span}
use Rattle.mbe_tt.specs.Trees.Leaf.{ident, literal, punct}
use Rattle.mbe_tt.specs.declared.tt.Spacing.TheVariants.{Alone, Joint}
use Rattle.mbe_tt.specs.declared.tt.DelimiterKind.{DelimiterKind}
use Rattle.mbe_tt.specs.declared.tt.DelimiterKind.TheVariants.{Parenthesis, Invisible}
use Rattle.mbe_tt.specs.Trees.Tree.{Forest, none, leaf, group, alone, strip_invisible, is_bool_text}
use Rattle.mbe_semantics.specs.Fragments.Kinds.{Style, plain, stripped, as_expression, as_path}
use Rattle.mbe_semantics.specs.Fragments.Kinds.{whole}

-- the group's delimiters are invisible
abbrev pub is_invisible : DelimiterKind → Bool
is_invisible Invisible = true
is_invisible _ = false

-- An expression needs parentheses unless it is one leaf, one visible group, or `-` and a literal.
abbrev pub needs_parentheses : Forest → Bool
needs_parentheses (leaf l none) = false
needs_parentheses (group d inside none) = is_invisible d.kind
needs_parentheses (leaf (punct p) (leaf (literal l) none)) = if p.char == 45 then false else true
needs_parentheses f = true

-- `::`, with the call site's span
abbrev pub double_colon : Span → Forest → Forest
double_colon call_site rest =
    leaf (punct (record { char = 58; spacing = Joint; span = call_site }))
    (leaf (punct (record { char = 58; spacing = Alone; span = call_site })) rest)

-- the trees with `::` before each `<` that follows an identifier
abbrev pub path_trees : Span → Forest → Forest
path_trees call_site none = none
path_trees call_site (leaf (ident i) (leaf (punct p) rest)) =
    leaf (ident i) (if p.char == 60 then double_colon call_site
    (leaf (punct p) (path_trees call_site rest)) else leaf
    (punct p) (path_trees call_site rest))
path_trees call_site (leaf l rest) = leaf l (path_trees call_site rest)
path_trees call_site (group d inside rest) = group d inside (path_trees call_site rest)

-- exactly one identifier
abbrev pub is_ident : Forest → Bool
is_ident (leaf (ident i) none) = true
is_ident f = false

-- `<` comes next
abbrev pub is_before_less : Forest → Bool
is_before_less (leaf (punct p) rest) = p.char == 60
is_before_less f = false

-- one group around the trees
abbrev pub in_parentheses : Span → Forest → Forest
in_parentheses span f = group (record { opening = span; close = span; kind = Parenthesis }) f none

-- ---- whole fragments

-- exactly one literal, `true` or `false`, or one group of a literal
abbrev pub is_one_literal : Forest → Bool
is_one_literal (leaf (literal l) none) = true
is_one_literal (leaf (ident i) none) = is_bool_text i.sym
is_one_literal (group d inside none) = is_literal_group d
is_one_literal _ = false

-- the same, with an optional `-` in front
abbrev pub is_signed_literal : Forest → Bool
is_signed_literal (leaf (punct p) rest) = (p.char == 45) && is_one_literal rest
is_signed_literal f = is_one_literal f

-- the group of an expression: whether it is a literal is a part of its kind
abbrev pub expr_group : Bool → FragmentGroup
expr_group true = groups.LiteralExpr
expr_group false = groups.Expr

-- The group of a fragment of the kind. The kinds `ident`, `tt` and `lifetime` have none; the
-- definition gives them that of a literal.
abbrev pub group_for : MetaVarKind → Forest → FragmentGroup
group_for kinds.Path f = groups.Path
group_for kinds.Ty f = groups.Ty
group_for kinds.Pat f = groups.Pat
group_for kinds.PatParam f = groups.Pat
group_for kinds.Stmt f = groups.Stmt
group_for kinds.Block f = groups.Block
group_for kinds.Meta f = groups.Meta
group_for kinds.Item f = groups.Item
group_for kinds.Vis f = groups.Vis
group_for (kinds.Expr kind) f = expr_group (is_signed_literal f)
group_for _ f = groups.Literal

-- the content, if the forest is exactly one such group, and else the forest itself
abbrev pub inside_group : FragmentGroup → Forest → Forest
inside_group g (group d inside none) = if is_around g d then inside else group d inside none
inside_group g f = f

-- one group around the fragment, with the variable's span in the template
abbrev pub whole_fragment : FragmentGroup → Span → Forest → Forest
whole_fragment g span f = group (delimiter_of g span) (alone (inside_group g f)) none

-- `Marks s t`: the marker may return t for s
module _ (Marks : Span → Span → Type 0) where
  -- parentheses if they are needed, both with the same result of the marker
  abbrev pub IsParenthesized : Bool → Span → Forest → Forest → Type 0
  IsParenthesized false span f out = out ≡ f
  IsParenthesized true span f out =
      (marked : Span) × Marks span marked × (out ≡ in_parentheses marked f)

  -- An expression, in parentheses if it needs them. If it is exactly one invisible group, that
  -- group is removed first.
  abbrev pub IsExpressionOutput : Span → Forest → Forest → Type 0
  IsExpressionOutput span f out = IsParenthesized (needs_parentheses (strip_invisible f)) span
      (alone (strip_invisible f)) out

  -- `span` is the variable's span in the template
  abbrev pub IsFragmentOutput : Span → Style → Span → Forest → Forest → Type 0
  IsFragmentOutput call_site plain span f out = out ≡ alone f
  IsFragmentOutput call_site stripped span f out = out ≡ alone (strip_invisible f)
  IsFragmentOutput call_site as_path span f out = out ≡ path_trees call_site f
  IsFragmentOutput call_site as_expression span f out = IsExpressionOutput span f out
  IsFragmentOutput call_site (whole kind) span f out =
      out ≡ whole_fragment (group_for kind f) span f
