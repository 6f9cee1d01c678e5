-- How contracts see patterns and templates, independent of memory.
use Rattle.std.specs.Prelude.{◌≡◌, List, [], ◌∷◌, map, Option, Some, None, option_map}
use Rattle.mbe_tt.specs.Views.LeafViews.{literal_of, ident_of}
use Rattle.mbe_tt.specs.Views.View.{trees}
use Rattle.mbe_tt.specs.Trees.Tree.{Forest, Cut}
use Rattle.mbe_tt.specs.declared.view.TokenTreesView.{TokenTreesView}
use Rattle.mbe_ops.specs.declared.ops.Op as code
use Rattle.mbe_ops.specs.declared.ops.Op.{fold-Op}
use Rattle.mbe_ops.specs.declared.ops.Op.TheOpen.{Op-F}
use Rattle.mbe_ops.specs.declared.ops.MetaTemplate.{MetaTemplate, out-MetaTemplate}
use Rattle.mbe_ops.specs.declared.ops.Separator as between
use Rattle.mbe_ops.specs.Expressions.{expression_seen}
use Rattle.mbe_semantics.specs.Syntax.Op as ops
use Rattle.mbe_semantics.specs.Syntax.Op.{Op, Ops, no_ops, op, token, group, variable, repetition}
use Rattle.mbe_semantics.specs.Syntax.Op.{expression, literal, ident, puncts, Separator}

abbrev pub ops_of_list : List Op → Ops
ops_of_list [] = no_ops
ops_of_list (o ∷ os) = op o (ops_of_list os)

abbrev pub separator_seen : {A : Type 0} → between.Separator A → Separator
separator_seen (between.TheVariants.Literal l) = ops.literal_separator (literal_of l)
separator_seen (between.TheVariants.Ident i) = ops.ident_separator (ident_of i)
separator_seen (between.TheVariants.Puncts ps) = ops.punct_separator ps.items
separator_seen (between.TheVariants.Lifetime p i) = ops.lifetime_separator p (ident_of i)

-- one level: the ops inside are translated already
abbrev pub op_step : {A : Type 0} → Op-F A Op Ops → Op
op_step (Op-F.Var name id kind) = variable name kind id
op_step (Op-F.Expression e) = expression (expression_seen e)
op_step (Op-F.Repeat tokens kind separator) =
    repetition tokens (option_map separator_seen separator) kind
op_step (Op-F.Subtree tokens delimiter) = group delimiter tokens
op_step (Op-F.Literal l) = token (literal (literal_of l))
op_step (Op-F.Punct ps) = token (puncts ps)
op_step (Op-F.Ident i) = token (ident (ident_of i))

abbrev pub op_of : {A : Type 0} → code.Op A → Op
op_of {A} = fold-Op A Op Ops op_step (λ t. ops_of_list t.0.items)

abbrev pub ops_of : {A : Type 0} → List (code.Op A) → Ops
ops_of os = ops_of_list (map op_of os)

abbrev pub template_of : {A : Type 0} → MetaTemplate A → Ops
template_of {A} t = ops_of (out-MetaTemplate A t).0.items

-- what an iterator returned and what it has left: the front and the back of the cut, or nothing
-- without a cut
abbrev pub MatchesCut : {A : Type 0} → Option (TokenTreesView A) → Option Cut → Forest → Type 0
MatchesCut None None left = Unit {0}
MatchesCut (Some taken) (Some c) left = (trees taken ≡ c.front) × (left ≡ c.back)
MatchesCut None (Some c) left = ⊥
MatchesCut (Some taken) None left = ⊥
