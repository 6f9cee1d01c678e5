-- Each op of the code, as the op that it is.
use Rattle.std.proofs.Common.{◌≡◌, ℕ, List, Option, Vec, ap, sym, ◌∙◌, rules}
use Rattle.std.specs.Prelude.{option_map}
use Rattle.mbe_tt.specs.declared.span.Span.{Span}
use Rattle.mbe_tt.specs.declared.tt.Punct.{Punct as APunct}
use Rattle.mbe_tt.specs.declared.tt.Delimiter.{Delimiter}
use Rattle.mbe_tt.specs.declared.tt.Ident.{Ident as AnIdent}
use Rattle.mbe_tt.specs.declared.tt.Literal.{Literal as ALiteral}
use Rattle.mbe_tt.specs.Views.LeafViews.{literal_of, ident_of}
use Rattle.mbe_semantics.specs.declared.fragment_kinds.MetaVarKind.{MetaVarKind}
use Rattle.mbe_ops.specs.declared.ops.MetaTemplate.{MetaTemplate, roll-MetaTemplate}
use Rattle.mbe_semantics.specs.declared.fragment_kinds.RepeatKind.{RepeatKind}
use Rattle.mbe_ops.specs.declared.ops.Separator.{Separator}
use Rattle.mbe_ops.specs.declared.expression.Expression.{Expression}
use Rattle.mbe_ops.specs.declared.ops.Op.{Op, Var, Repeat, Subtree, Literal, Punct, Ident, the_lemmas}
use Rattle.mbe_ops.specs.declared.ops.Op as code
use Rattle.mbe_ops.specs.declared.ops.Op.TheOpen.{MetaTemplate-F}
use Rattle.mbe_ops.specs.declared.ops.Op.TheViews as views_of
use Rattle.mbe_semantics.specs.Syntax.Op as ops
use Rattle.mbe_semantics.specs.Syntax.Op.{token, group, variable, repetition, expression, literal, ident, puncts}
use Rattle.mbe_ops.specs.Expressions.{expression_seen}
use Rattle.mbe_ops.specs.Views.{op_of, ops_of, template_of, separator_seen}

pub view-var : (A : Type 0) (name : List ℕ) (kind : Option MetaVarKind) (id : Span)
    → op_of {A = A} (Var name id kind) ≡ variable name kind id
view-var A name kind id = search (rules, the_lemmas)

pub view-expression : {A : Type 0} (e : Expression A) → op_of (code.Expression e) ≡ expression (expression_seen e)
view-expression e = search (rules, the_lemmas)

pub view-repeat : {A : Type 0} (t : MetaTemplate A) (kind : RepeatKind) (s : Option (Separator A))
    → op_of (Repeat t kind s) ≡ repetition (template_of t) (option_map separator_seen s) kind
view-repeat t kind s = search (rules, the_lemmas)

pub view-subtree : {A : Type 0} (t : MetaTemplate A) (d : Delimiter) → op_of (Subtree t d) ≡ group d (template_of t)
view-subtree t d = search (rules, the_lemmas)

pub view-literal : {A : Type 0} (l : ALiteral A) → op_of (Literal l) ≡ token (literal (literal_of l))
view-literal l = search (rules, the_lemmas)

pub view-punct : (A : Type 0) (ps : List APunct) → op_of {A = A} (Punct ps) ≡ token (puncts ps)
view-punct A ps = search (rules, the_lemmas)

pub view-ident : {A : Type 0} (i : AnIdent A) → op_of (Ident i) ≡ token (ident (ident_of i))
view-ident i = search (rules, the_lemmas)

pub view-template : {A : Type 0} (v : Vec (Op A) A)
    → template_of (roll-MetaTemplate A (record { 0 = v })) ≡ ops_of v.items
view-template v = search (rules, the_lemmas)

pub ruleset views = (
  view-var,
  view-expression,
  view-repeat,
  view-subtree,
  view-literal,
  view-punct,
  view-ident,
)

-- a group of the code, whose ops are in sight
pub view-open : {A : Type 0} (t : MetaTemplate-F A (code.Op A) (Unit {0})) (d : Delimiter)
    → op_of {A = A} (views_of.Subtree t d) ≡ ops.group d (ops_of t.0.items)
view-open t d = search (rules, the_lemmas)

-- the same of a repetition
pub view-open_repeat : {A : Type 0} (t : MetaTemplate-F A (code.Op A) (Unit {0})) (kind : RepeatKind)
    (s : Option (Separator A))
    → op_of {A = A} (Repeat t kind s) ≡ ops.repetition (ops_of t.0.items) (option_map separator_seen s) kind
view-open_repeat t kind s = search (rules, the_lemmas)

-- ---- copies

-- the copy of a group with copies of its body and of its brackets
pub copied_group : {A : Type 0} (v : Vec (code.Op A) A) (t : MetaTemplate-F A (code.Op A) (Unit {0}))
    (xs : List (code.Op A)) (copy d : Delimiter)
    → ops_of v.items ≡ ops_of xs → xs ≡ t.0.items → copy ≡ d
    → op_of (Subtree (roll-MetaTemplate A (record { 0 = v })) copy) ≡ op_of {A = A} (views_of.Subtree t d)
copied_group {A} v t xs copy d e f h =
    view-subtree (roll-MetaTemplate A (record { 0 = v })) copy
    ∙ (ap (ops.group copy) (view-template v ∙ (e ∙ ap ops_of f))
    ∙ (ap (λ sides. ops.group sides (ops_of t.0.items)) h ∙ sym (view-open t d)))

-- the copy of a repetition with copies of its body and of its separator
pub copied_repetition : {A : Type 0} (v : Vec (code.Op A) A) (t : MetaTemplate-F A (code.Op A) (Unit {0}))
    (xs : List (code.Op A)) (kind : RepeatKind)
    (copy s : Option (Separator A)) → ops_of v.items ≡ ops_of xs → xs ≡ t.0.items
    → option_map separator_seen copy ≡ option_map separator_seen s
    → op_of (Repeat (roll-MetaTemplate A (record { 0 = v })) kind copy) ≡ op_of {A = A} (views_of.Repeat t kind s)
copied_repetition {A} v t xs kind copy s e f h =
    view-repeat (roll-MetaTemplate A (record { 0 = v })) kind copy
    ∙ (ap (λ os. ops.repetition os (option_map separator_seen copy) kind) (view-template v ∙ (e ∙ ap ops_of f))
    ∙ (ap (λ between. ops.repetition (ops_of t.0.items) between kind) h ∙ sym (view-open_repeat t kind s)))
