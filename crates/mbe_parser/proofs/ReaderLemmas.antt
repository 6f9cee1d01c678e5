-- What one op of a pattern or a template says of all its trees, and what specifiers mean.
use Rattle.std.specs.Prelude.{◌≡◌, ◌≤◌, ◌+◌, ◌&&◌, ◌||◌, not, ℕ, Bool, true, false, if◌then◌else◌, List, [], ◌∷◌, ◌++◌}
use Rattle.std.specs.Prelude.{length, codes, Option, Some, None, option_map, option_and_then, Result, Ok, Err, IfOk, IfErr}
use Rattle.std.specs.Prelude.{IfSome, OnOk, IsTrue, IsFalse, refl, ◌==◌}
use Rattle.std.proofs.Common.{ap, sym, ◌∙◌, subst, arith}
use Rattle.std.proofs.lemmas.Option.{none-some, same_Some}
use Rattle.std.proofs.lemmas.Bool.{eq-eqb, ne_eqb}
use Rattle.mbe_tt.specs.Trees.Leaf.{Leaf, Ident, literal, ident, punct, is_text, is_underscore}
use Rattle.mbe_tt.specs.Trees.Tree.{Forest, none, leaf, group, rest_of, skip, any_ident, front_ident, not_underscore}
use Rattle.mbe_tt.specs.Trees.Tree.{flat_len, passed, is_bool_text}
use Rattle.mbe_tt.specs.Trees.Glue.{glue}
use Rattle.mbe_tt.specs.declared.span.SyntaxContext.{SyntaxContext}
use Rattle.mbe_tt.specs.declared.span.Edition.{Edition}
use Rattle.mbe_tt.specs.declared.tt.Punct.{Punct}
use Rattle.mbe_tt.specs.declared.span.Span.{Span}
use Rattle.mbe_tt.specs.declared.tt.Delimiter.{Delimiter}
use Rattle.mbe_semantics.specs.declared.fragment_kinds.MetaVarKind.{MetaVarKind}
use Rattle.mbe_semantics.specs.Syntax.Op as ops
use Rattle.mbe_semantics.specs.Syntax.Op.{Name, Op, Ops, op, no_ops, Separator}
use Rattle.mbe_semantics.specs.Syntax.Nullable.{is_nullable, is_unseparated, is_refused_op, is_refused}
use Rattle.mbe_semantics.specs.declared.fragment_kinds.RepeatKind.{RepeatKind}
use Rattle.mbe_semantics.specs.Fragments.Kinds.{kind_named, kind_names}
use Rattle.mbe_semantics.specs.Syntax.Template.{Mode, pattern, template, Fault, expected, Head, ended, one, typed}
use Rattle.mbe_semantics.specs.Syntax.Template.{opens_group, opens_repetition, head, after_dollar, puncts_at}
use Rattle.mbe_semantics.specs.Syntax.Template.{specifier_at, missing_specifier, variable_at, second_dollar, dollar_crate}
use Rattle.mbe_semantics.specs.Syntax.Template.{expression_at, expression_of, group_after_dollar}
use Rattle.mbe_semantics.specs.Syntax.Template.{pat_kind, expr_kind, Specifies, dated_pat, dated_expr, undated}
use Rattle.mbe_semantics.specs.Syntax.Template.{Template, nothing, token, variable, grouped, repeated}
use Rattle.mbe_ops.specs.Errors.ErrorViews.{fault_of}
use Rattle.mbe_ops.specs.declared.errors.error.ReadError as why
use Rattle.mbe_ops.specs.Views.{op_of, ops_of}
use Rattle.mbe_ops.specs.declared.ops.Op as code
use Rattle.mbe_ops.proofs.Fragments.{back-skip}
use Rattle.mbe_parser.specs.declared.located_fault.LocatedError as located
use Rattle.mbe_parser.specs.LocatedErrors.{FailsAt, shifted, at_start}
use Rattle.mbe_parser.specs.FaultOffsets as places
use Rattle.mbe_parser.specs.FaultOffsets.{TemplateFaultAt}
use Rattle.mbe_parser.specs.RefusedRepetitions as empties
use Rattle.mbe_parser.specs.RefusedRepetitions.{EmptyAt, IsEmptyOffset, first_in_repetition, first_offset}
use Rattle.mbe_parser.specs.ParserResults.{AtHead, FaultAtHead, EmptyAtHead, IsHead, EmptyInOp, IsPushed, ReadsOp}
use Rattle.mbe_parser.specs.ParserResults.{ReadFails}

-- ---- specifiers

module _ (HasEdition : SyntaxContext → Edition → Type 0) where
  -- a name that isn't `pat` or `expr` means its kind in each edition
  pub known : (specifier : Ident) (text : List ℕ) (kind : Option MetaVarKind) → text ≡ specifier.sym
      → IsFalse (is_text text (codes "expr")) → IsFalse (is_text text (codes "pat"))
      → kind ≡ kind_named kind_names text → Specifies HasEdition specifier kind
  known specifier text kind same x p k =
      subst (Specifies HasEdition specifier) (sym (k ∙ ap (kind_named kind_names) same))
      (undated (subst (λ t. IsFalse (is_text t (codes "pat"))) same p)
      (subst (λ t. IsFalse (is_text t (codes "expr"))) same x))

  -- a name that is looked up by its bytes
  pub common : (specifier : Ident) (text : List ℕ) (kind : MetaVarKind) → text ≡ specifier.sym
      → ((kind_named kind_names text ≡ Some kind) × IsFalse (is_text text (codes "_"))
      × IsFalse (is_text text (codes "pat")) × IsFalse (is_text text (codes "expr")))
      → Specifies HasEdition specifier (Some kind)
  common specifier text kind same h =
      subst (Specifies HasEdition specifier) (ap (kind_named kind_names) (sym same) ∙ h.0)
      (undated (subst (λ t. IsFalse (is_text t (codes "pat"))) same h.2)
      (subst (λ t. IsFalse (is_text t (codes "expr"))) same h.3))

  -- `pat` and `expr`, in the edition of the specifier's span
  pub pat_dated : (specifier : Ident) (text : List ℕ) (kind : MetaVarKind) → text ≡ specifier.sym
      → IsTrue (is_text text (codes "pat"))
      → ((e : Edition) × HasEdition specifier.span.ctx e × (kind ≡ pat_kind e))
      → Specifies HasEdition specifier (Some kind)
  pat_dated s text kind same t a = subst (λ k. Specifies HasEdition s (Some k)) (sym a.2)
      (dated_pat a.0 (subst (λ n. IsTrue (is_text n (codes "pat"))) same t) a.1)

  pub expr_dated : (specifier : Ident) (text : List ℕ) (kind : MetaVarKind) → text ≡ specifier.sym
      → IsTrue (is_text text (codes "expr"))
      → ((e : Edition) × HasEdition specifier.span.ctx e × (kind ≡ expr_kind e))
      → Specifies HasEdition specifier (Some kind)
  expr_dated s text kind same t a = subst (λ k. Specifies HasEdition s (Some k)) (sym a.2)
      (dated_expr a.0 (subst (λ n. IsTrue (is_text n (codes "expr"))) same t) a.1)

-- ---- heads

-- whatever error a call gives, its fault is one of which Q holds
pub fails-weaker : (e : located.LocatedError) (P Q : Fault → ℕ → Type 0) → ((x : Fault) (n : ℕ) → P x n → Q x n)
    → FailsAt e P → FailsAt e Q
fails-weaker located.TheVariants.Memory P Q h p = tt
fails-weaker (located.TheVariants.Fault found) P Q h p = h (fault_of found.fault) found.offset p

-- the same in trees with more in front
pub fails-shifted : (before : ℕ) (e : located.LocatedError) (P Q : Fault → ℕ → Type 0)
    → ((x : Fault) (n : ℕ) → P x n → Q x (before + n)) → FailsAt e P → FailsAt (shifted before e) Q
fails-shifted before located.TheVariants.Memory P Q h p = tt
fails-shifted before (located.TheVariants.Fault found) P Q h p = h (fault_of found.fault) found.offset p

-- an error of one op, whose fault is at its start
pub fails-start : (e : why.ReadError) (P : Fault → Type 0) (Q : Fault → ℕ → Type 0) → ((x : Fault) → P x → Q x 0)
    → ReadFails e P → FailsAt (at_start e) Q
fails-start why.TheVariants.Memory P Q h p = tt
fails-start (why.TheVariants.Fault f) P Q h p = h (fault_of f) p

pub start_within : (e : why.ReadError) (bound : ℕ) → FailsAt (at_start e) (λ x n. n ≤ bound)
start_within why.TheVariants.Memory bound = tt
start_within (why.TheVariants.Fault f) bound = let e : 0 ≤ bound = omega arith in e

-- at most so far on
pub fails_within : {T : Type 0} (r : Result T located.LocatedError) (a b : ℕ) → a ≤ b
    → IfErr r (λ e. FailsAt e (λ x n. n ≤ a)) → IfErr r (λ e. FailsAt e (λ x n. n ≤ b))
fails_within (Ok x) a b less h = tt
fails_within (Err e) a b less h =
    fails-weaker e (λ x n. n ≤ a) (λ x n. n ≤ b) (λ x n k. omega (arith, k, less)) h

pub found_within : {E : Type 0} (r : Result (Option ℕ) E) (a b : ℕ) → a ≤ b
    → IfOk r (λ found. IfSome found (λ n. n ≤ a)) → IfOk r (λ found. IfSome found (λ n. n ≤ b))
found_within (Err e) a b less h = tt
found_within (Ok None) a b less h = tt
found_within (Ok (Some n)) a b less h = let k : n ≤ a = h in let e : n ≤ b = omega (arith, k, less) in e

pub no_longer : {T E : Type 0} (r : Result T E) (a b c : ℕ) → b ≤ c → OnOk r (a ≤ b) → OnOk r (a ≤ c)
no_longer (Err e) a b c less h = tt
no_longer (Ok x) a b c less h = let k : a ≤ b = h in let e : a ≤ c = omega (arith, k, less) in e

-- the error of the trees that are left, as one of all trees
pub later_within : (whole left : Forest) (offset : ℕ) (e : located.LocatedError) → offset ≡ passed whole left
    → flat_len left ≤ flat_len whole → FailsAt e (λ x n. n ≤ flat_len left)
    → FailsAt (shifted offset e) (λ x n. n ≤ flat_len whole)
later_within whole left offset e far less h =
    fails-shifted offset e (λ x n. n ≤ flat_len left) (λ x n. n ≤ flat_len whole) (λ x n k. omega (
      arith,
      k,
      far,
      less,
    )) h

-- an op at the front, seen through an equation
module _ (HasEdition : SyntaxContext → Edition → Type 0) (mode : Mode) where
  -- The first refused repetition of the op at the front is that of all trees. Without one, it is among the trees after
  -- the op.
  empty_in : (f left : Forest) (p : Op) (h : Result Head Fault) (found : Option ℕ) → head mode f ≡ h
      → EmptyAtHead HasEdition mode h p found
      → (is_refused_op p ≡ false → (n : ℕ) → EmptyAt HasEdition mode left n
      → EmptyAt HasEdition mode f (passed f left + n))
      → EmptyInOp HasEdition mode f p left found
  empty_in f left p h None e r past = (r, past r)
  empty_in f left p h (Some n) e r past = (r.0, r.1 f e)

  module _ (f left : Forest) (found : Option ℕ) (h : Result Head Fault) (is : head mode f ≡ h) where
    reads_one : (p : Op) → head mode f ≡ Ok (one p left) → EmptyAtHead HasEdition mode h p found
        → ReadsOp HasEdition mode f p left found
    reads_one p e r = record {
      more = λ os t. token f left p os e t;
      fault = λ x n t. places.after_token f left p n e t;
      empty = empty_in f left p h found is r (λ v n w. empties.after_token f left p n e w);
    }

    reads_typed : (name : Name) (span : Span) (s : Ident) (kind : Option MetaVarKind)
        → head mode f ≡ Ok (typed name span s left) → Specifies HasEdition s kind
        → EmptyAtHead HasEdition mode h (ops.variable name kind span) found
        → ReadsOp HasEdition mode f (ops.variable name kind span) left found
    reads_typed name span s kind e specifies r = record {
      more = λ os t. variable f left name span s kind os e specifies t;
      fault = λ x n t. places.after_variable f left name span s n e t;
      empty = empty_in f left (ops.variable name kind span) h found is r
          (λ v n w. empties.after_variable f left name span s n e w);
    }

    reads_group : (inside : Forest) (d : Delimiter) (body : Ops) → head mode f ≡ Ok (opens_group d inside left)
        → Template HasEdition mode inside body → EmptyAtHead HasEdition mode h (ops.group d body) found
        → ReadsOp HasEdition mode f (ops.group d body) left found
    reads_group inside d body e b r = record {
      more = λ os t. grouped f inside left d body os e b t;
      fault = λ x n t. places.after_group f inside left d body n e b t;
      empty = empty_in f left (ops.group d body) h found is r
          (λ v n w. empties.after_group f inside left d body n e b v w);
    }

    reads_repetition : (inside : Forest) (s : Option Separator) (repeat : RepeatKind) (body : Ops)
        → head mode f ≡ Ok (opens_repetition s repeat inside left) → Template HasEdition mode inside body
        → EmptyAtHead HasEdition mode h (ops.repetition body s repeat) found
        → ReadsOp HasEdition mode f (ops.repetition body s repeat) left found
    reads_repetition inside s repeat body e b r = record {
      more = λ os t. repeated f inside left s repeat body os e b t;
      fault = λ x n t. places.after_repetition f inside left s repeat body n e b t;
      empty = empty_in f left (ops.repetition body s repeat) h found is r
          (λ v n w. empties.after_repetition f inside left s repeat body n e b v w);
    }

    -- the same op
    seen_as : (o p : Op) → o ≡ p → EmptyAtHead HasEdition mode h p found
        → (EmptyAtHead HasEdition mode h o found → ReadsOp HasEdition mode f o left found)
        → ReadsOp HasEdition mode f p left found
    seen_as o p same r reads =
        subst (λ (q : Op). ReadsOp HasEdition mode f q left found) same
        (reads (subst (λ (q : Op). EmptyAtHead HasEdition mode h q found) (sym same) r))

  -- what is at the front is read first
  pub reads_head : (f left : Forest) (p : Op) (found : Option ℕ) (h : Result Head Fault) → head mode f ≡ h
      → IsHead HasEdition mode h p left found → ReadsOp HasEdition mode f p left found
  reads_head f left p found (Ok (one o rest)) e (at, r) =
      seen_as f left found (Ok (one o rest)) e o p at.0 r (reads_one f left found (Ok (one o rest)) e o
      (e ∙ ap (λ (x : Forest). let k : Result Head Fault = Ok (one o x) in k) at.1))
  reads_head f left p found (Ok (typed name span s rest)) e (at, r) =
      seen_as f left found (Ok (typed name span s rest)) e _ p at.2 r
      (reads_typed f left found (Ok (typed name span s rest)) e name span s at.0
      (e ∙ ap (λ (x : Forest). let k : Result Head Fault = Ok (typed name span s x) in k) at.3) at.1)
  reads_head f left p found (Ok (opens_group d inside rest)) e (at, r) =
      seen_as f left found (Ok (opens_group d inside rest)) e _ p at.2 r
      (reads_group f left found (Ok (opens_group d inside rest)) e inside d at.0
      (e ∙ ap (λ (x : Forest). let k : Result Head Fault = Ok (opens_group d inside x) in k) at.3) at.1)
  reads_head f left p found (Ok (opens_repetition s repeat inside rest)) e (at, r) =
      seen_as f left found (Ok (opens_repetition s repeat inside rest)) e _ p at.2 r
      (reads_repetition f left found (Ok (opens_repetition s repeat inside rest)) e inside s repeat at.0
      (e ∙ ap (λ (x : Forest). let k : Result Head Fault = Ok (opens_repetition s repeat inside x) in k) at.3) at.1)
  reads_head f left p found (Ok ended) e (at, r) = absurd at
  reads_head f left p found (Err x) e (at, r) = absurd at

  -- a fault at the front is the first of all
  pub err_head : (x : Fault) (h : Result Head Fault) → h ≡ Err x → FaultAtHead HasEdition mode h x 0
  err_head x h e = λ f is. places.here f (is ∙ e)

  -- a fault or a refused repetition of a group, or of a repetition, by its content
  pub group_fault : (x : Fault) (d : Delimiter) (f inside rest : Forest) (n : ℕ) → f ≡ group d inside rest
      → TemplateFaultAt HasEdition mode x inside n → TemplateFaultAt HasEdition mode x f (1 + n)
  group_fault x d f inside rest n e w = places.in_group f inside rest d n (ap (head mode) e) w

  group_empty : (d : Delimiter) (inside rest : Forest) (body : Ops) (found : Option ℕ)
      → IsEmptyOffset HasEdition mode inside body found
      → EmptyAtHead HasEdition mode (Ok (opens_group d inside rest)) (ops.group d body) (option_map (λ n. 1 + n) found)
  group_empty d inside rest body None w = w
  group_empty d inside rest body (Some n) w = (w.0, λ f e. empties.in_group f inside rest d n e w.1)

  pub repetition_fault : (x : Fault) (s : Option Separator) (repeat : RepeatKind) (inside rest : Forest) (n : ℕ)
      (h : Result Head Fault) → h ≡ Ok (opens_repetition s repeat inside rest)
      → TemplateFaultAt HasEdition mode x inside n → FaultAtHead HasEdition mode h x (2 + n)
  repetition_fault x s repeat inside rest n h e w =
      λ f is. places.in_repetition f inside rest s repeat n (is ∙ e) w

  repetition_empty_if : (s : Option Separator) (repeat : RepeatKind) (inside rest : Forest) (body : Ops)
      (found : Option ℕ) (refused : Bool) → (is_unseparated s && is_nullable body) ≡ refused
      → Template HasEdition mode inside body → IsEmptyOffset HasEdition mode inside body found
      → EmptyAtHead HasEdition mode (Ok (opens_repetition s repeat inside rest)) (ops.repetition body s repeat)
      (if refused then Some 1 else option_map (λ n. 2 + n) found)
  repetition_empty_if s repeat inside rest body found true v b w = (
    ap (λ (x : Bool). x || is_refused body) v,
    λ f e. empties.here f inside rest s repeat body e b v,
  )
  repetition_empty_if s repeat inside rest body None false v b w = ap (λ (x : Bool). x || is_refused body) v ∙ w
  repetition_empty_if s repeat inside rest body (Some n) false v b w = (
    ap (λ (x : Bool). x || is_refused body) v ∙ w.0,
    λ f e. empties.in_repetition f inside rest s repeat body n e b v w.1,
  )

  pub repetition_empty : (s : Option Separator) (repeat : RepeatKind) (inside rest : Forest) (body : Ops)
      (found : Option ℕ) → Template HasEdition mode inside body → IsEmptyOffset HasEdition mode inside body found
      → EmptyAtHead HasEdition mode (Ok (opens_repetition s repeat inside rest)) (ops.repetition body s repeat)
      (first_in_repetition s body found)
  repetition_empty s repeat inside rest body found b w =
      repetition_empty_if s repeat inside rest body found (is_unseparated s && is_nullable body) refl b w

-- ---- an op that has no ops inside is not refused

abbrev Unrefused : Result Head Fault → Type 0
Unrefused (Ok (one o rest)) = is_refused_op o ≡ false
Unrefused (Ok (opens_group d inside rest)) = ⊥
Unrefused (Ok (opens_repetition s repeat inside rest)) = ⊥
Unrefused _ = Unit {0}

unrefused_if : (b : Bool) (h k : Result Head Fault) → Unrefused h → Unrefused k → Unrefused (if b then h else k)
unrefused_if true h k p q = p
unrefused_if false h k p q = q

unrefused_specifier : (name : Name) (span : Span) (f : Forest) → Unrefused (specifier_at name span f)
unrefused_specifier name span none = tt
unrefused_specifier name span (group d inside rest) = tt
unrefused_specifier name span (leaf (literal l) rest) = tt
unrefused_specifier name span (leaf (ident i) rest) = tt
unrefused_specifier name span (leaf (punct p) none) = tt
unrefused_specifier name span (leaf (punct p) (group d inside rest)) = tt
unrefused_specifier name span (leaf (punct p) (leaf (literal l) rest)) = tt
unrefused_specifier name span (leaf (punct p) (leaf (punct q) rest)) = tt
unrefused_specifier name span (leaf (punct p) (leaf (ident i) rest)) =
    unrefused_if (p.char == 58 && not (is_underscore i.sym)) (Ok (typed name span i rest)) missing_specifier tt tt

unrefused_variable : (m : Mode) (name : Name) (span : Span) (f : Forest) → Unrefused (variable_at m name span f)
unrefused_variable pattern name span f = unrefused_specifier name span f
unrefused_variable template name span f = refl

unrefused_second : (m : Mode) (p : Punct) (f : Forest) → Unrefused (second_dollar m p f)
unrefused_second pattern p f = tt
unrefused_second template p f = refl

unrefused_leaf : (m : Mode) (p : Punct) (l : Leaf) (f : Forest) → Unrefused (after_dollar m p (leaf l f))
unrefused_leaf m p (ident i) f =
    unrefused_if (is_text i.sym (codes "crate")) (Ok (one (dollar_crate i) f)) (variable_at m i.sym i.span f) refl
    (unrefused_variable m i.sym i.span f)
unrefused_leaf m p (literal l) f =
    unrefused_if (is_bool_text l.text_and_suffix) (variable_at m l.text_and_suffix l.span f)
    (Err (expected (codes "expected ident"))) (unrefused_variable m l.text_and_suffix l.span f) tt
unrefused_leaf m p (punct q) f =
    unrefused_if (q.char == 36) (second_dollar m q f) (Err (expected (codes "expected ident")))
    (unrefused_second m q f) tt

unrefused_expression : (m : Mode) (f : Forest) (e : Option ops.Expression) → Unrefused (expression_at m f e)
unrefused_expression pattern f e = tt
unrefused_expression template f (Some e) = refl
unrefused_expression template f None = tt

unrefused_op : (HasEdition : SyntaxContext → Edition → Type 0) (m : Mode) (h : Result Head Fault) (o : Op)
    (left : Forest) → Unrefused h → AtHead HasEdition m h o left → is_refused_op o ≡ false
unrefused_op HasEdition m (Ok (one p rest)) o left u at = ap is_refused_op (sym at.0) ∙ u
unrefused_op HasEdition m (Ok (typed name span s rest)) o left u at = ap is_refused_op (sym at.2)
unrefused_op HasEdition m (Ok (opens_group d inside rest)) o left u at = absurd u
unrefused_op HasEdition m (Ok (opens_repetition s repeat inside rest)) o left u at = absurd u
unrefused_op HasEdition m (Ok ended) o left u at = absurd at
unrefused_op HasEdition m (Err x) o left u at = absurd at

-- ---- an identifier other than `_`

pub some_if : (b : Bool) (i s : Ident) → (if b then None else Some i) ≡ Some s → (b ≡ false) × (i ≡ s)
some_if true i s e = absurd (none-some s e)
some_if false i s e = (refl, same_Some i s e)

pub a_word : (f : Forest) (i : Ident) (text : List ℕ) → Some i ≡ any_ident f → text ≡ i.sym
    → IsFalse (is_text text (codes "_")) → Some i ≡ front_ident f
a_word f i text there same other =
    ap (λ (c : Bool). if c then None else Some i) (sym other ∙ ap (λ t. is_text t (codes "_")) same)
    ∙ ap (option_and_then not_underscore) there

-- ---- ops that were read before

abbrev pub with_front : {A : Type 0} → List (code.Op A) → Ops → Ops
with_front [] os = os
with_front (o ∷ before) os = op (op_of o) (with_front before os)

pub with_front-push : {A : Type 0} (before : List (code.Op A)) (o : code.Op A) (os : Ops)
    → with_front before (op (op_of o) os) ≡ with_front (before ++ o ∷ []) os
with_front-push [] o os = refl
with_front-push (p ∷ before) o os = ap (op (op_of p)) (with_front-push before o os)

pub with_front-all : {A : Type 0} (before : List (code.Op A)) → with_front before no_ops ≡ ops_of before
with_front-all [] = refl
with_front-all (p ∷ before) = ap (op (op_of p)) (with_front-all before)

-- ---- answers, carried from the trees after the front to all trees

pub stopped : {T : Type 0} (r : Result T why.ReadError) (P Q : Fault → Type 0) → ((x : Fault) → P x → Q x)
    → IfErr r (λ e. ReadFails e P) → IfErr r (λ e. ReadFails e Q)
stopped (Ok x) P Q h p = tt
stopped (Err why.TheVariants.Memory) P Q h p = tt
stopped (Err (why.TheVariants.Fault f)) P Q h p = h (fault_of f) p

module _ (HasEdition : SyntaxContext → Edition → Type 0) (m : Mode) where
  -- a leaf after a `$`
  pub leaf_pushed : {A : Type 0} (before after : List (code.Op A)) (p : Punct) (f left new : Forest) (l : Leaf)
      → f ≡ leaf l left
      → IsPushed before after (λ o. (d : Punct) → AtHead HasEdition m (after_dollar m d (leaf l left)) o new)
      → IsPushed before after (λ o. IsHead HasEdition m (after_dollar m p f) o new None)
  leaf_pushed before after p f left new l here h = (
    h.0,
    h.1,
    (
      subst (λ (g : Forest). AtHead HasEdition m (after_dollar m p g) (op_of h.0) new) (sym here) (h.2 p),
      unrefused_op HasEdition m (after_dollar m p (leaf l left)) (op_of h.0) new (unrefused_leaf m p l left) (h.2 p),
    ),
  )

  pub leaf_fault : (e : why.ReadError) (p : Punct) (f left : Forest) (l : Leaf) → f ≡ leaf l left
      → ReadFails e (λ x. (d : Punct) → after_dollar m d (leaf l left) ≡ Err x)
      → FailsAt (at_start e) (FaultAtHead HasEdition m (after_dollar m p f))
  leaf_fault e p f left l here h =
      fails-start e (λ x. (d : Punct) → after_dollar m d (leaf l left) ≡ Err x)
      (FaultAtHead HasEdition m (after_dollar m p f))
      (λ x k. err_head HasEdition m x (after_dollar m p f) (ap (after_dollar m p) here ∙ k p)) h

  -- a group after a `$`
  pub group_pushed : {A E : Type 0} (r : Result (Option ℕ) E) (before after : List (code.Op A)) (p : Punct)
      (d : Delimiter) (f inside left new : Forest) → f ≡ group d inside left
      → IfOk r (λ found. IsPushed before after (λ o. IsHead HasEdition m (group_after_dollar m d.kind inside left) o
      new found))
      → IfOk r (λ found. IsPushed before after (λ o. IsHead HasEdition m (after_dollar m p f) o new found))
  group_pushed r before after p d f inside left new at h =
      subst (λ (g : Forest). IfOk r (λ found. IsPushed before after (λ o. IsHead HasEdition m (after_dollar m p g) o new
      found))) (sym at) h

  -- a metavariable expression
  pub expression_pushed : {A : Type 0} (before after : List (code.Op A)) (o : code.Op A) (inside f : Forest)
      → after ≡ before ++ o ∷ []
      → ((rest : Forest) → expression_at m rest (expression_of inside) ≡ Ok (one (op_of o) rest))
      → IsPushed before after (λ o. IsHead HasEdition m (expression_at m f (expression_of inside)) o f None)
  expression_pushed before after o inside f pushed k = (
    o,
    pushed,
    (
      subst (λ (h : Result Head Fault). AtHead HasEdition m h (op_of o) f) (sym (k f)) (refl, refl),
      subst Unrefused (k f) (unrefused_expression m f (expression_of inside)),
    ),
  )

-- ---- the front of all trees

pub dollar_head : (m : Mode) (f left : Forest) (p : Punct) → f ≡ leaf (punct p) left → p.char ≡ 36
    → head m f ≡ after_dollar m p left
dollar_head m f left p here e = ap (head m) here ∙ dollar_if (p.char == 36) (eq-eqb p.char 36 e)
  where
    dollar_if : (b : Bool) → b ≡ true → (if b then after_dollar m p left else Ok (puncts_at (leaf (punct p) left)))
        ≡ after_dollar m p left
    dollar_if b t = ap (λ (c : Bool). if c then after_dollar m p left else Ok (puncts_at (leaf (punct p) left))) t

pub puncts_head : (m : Mode) (f left : Forest) (p : Punct) → f ≡ leaf (punct p) left → (p.char ≡ 36 → ⊥)
    → head m f ≡ Ok (puncts_at f)
puncts_head m f left p here n =
    ap (head m) here ∙ (puncts_if (p.char == 36) (ne_eqb p.char 36 n)
    ∙ ap (λ (g : Forest). let r : Result Head Fault = Ok (puncts_at g) in r) (sym here))
  where
    puncts_if : (b : Bool) → b ≡ false → (if b then after_dollar m p left else Ok (puncts_at (leaf (punct p) left)))
        ≡ Ok (puncts_at (leaf (punct p) left))
    puncts_if b t = ap (λ (c : Bool). if c then after_dollar m p left else Ok (puncts_at (leaf (punct p) left))) t

module _ (HasEdition : SyntaxContext → Edition → Type 0) where
  pub head_pushed : {A E : Type 0} (r : Result (Option ℕ) E) (before after : List (code.Op A)) (m : Mode) (f new :
      Forest)
      (h : Result Head Fault) → head m f ≡ h
      → IfOk r (λ found. IsPushed before after (λ o. IsHead HasEdition m h o new found))
      → IfOk r (λ found. IsPushed before after (λ o. ReadsOp HasEdition m f o new found))
  head_pushed (Err e) before after m f new h here at = tt
  head_pushed (Ok found) before after m f new h here at =
      (at.0, at.1, reads_head HasEdition m f new (op_of at.0) found h here at.2)

  pub head_fault : {T : Type 0} (r : Result T located.LocatedError) (m : Mode) (f : Forest) (h : Result Head Fault)
      → head m f ≡ h
      → IfErr r (λ e. FailsAt e (FaultAtHead HasEdition m h))
      → IfErr r (λ e. FailsAt e (λ x n. TemplateFaultAt HasEdition m x f n))
  head_fault (Ok x) m f h here at = tt
  head_fault (Err e) m f h here at =
      fails-weaker e (FaultAtHead HasEdition m h) (λ x n. TemplateFaultAt HasEdition m x f n) (λ x n k. k f here) at

pub following : (f : Forest) → rest_of f ≡ rest_of f
following f = refl

-- ---- tokens and groups at the front

module _ (HasEdition : SyntaxContext → Edition → Type 0) where
  pub group_reads : (m : Mode) (f inside left : Forest) (d : Delimiter) (body : Ops) (found : Option ℕ)
      → f ≡ group d inside left → Template HasEdition m inside body → IsEmptyOffset HasEdition m inside body found
      → ReadsOp HasEdition m f (ops.group d body) left (option_map (λ n. 1 + n) found)
  group_reads m f inside left d body found at b w =
      reads_head HasEdition m f left (ops.group d body) (option_map (λ n. 1 + n) found) (Ok (opens_group d inside left))
      (ap (head m) at) ((body, b, refl, refl), group_empty HasEdition m d inside left body found w)

  leaf_reads : (m : Mode) (f left : Forest) (o : Op) → head m f ≡ Ok (one o left) → is_refused_op o ≡ false
      → ReadsOp HasEdition m f o left None
  leaf_reads m f left o e r = reads_head HasEdition m f left o None (Ok (one o left)) e ((refl, refl), r)

  pub puncts_pushed : {A : Type 0} (m : Mode) (f left : Forest) (before after : List (code.Op A))
      → head m f ≡ Ok (puncts_at f) → left ≡ skip (length (glue f)) f
      → IsPushed before after (λ o. o ≡ ops.token (ops.puncts (glue f)))
      → IsPushed before after (λ o. ReadsOp HasEdition m f o left None)
  puncts_pushed m f left before after e l h = (
    h.0,
    h.1,
    reads_head HasEdition m f left (op_of h.0) None (Ok (puncts_at f)) e
        ((sym h.2, back-skip (length (glue f)) f ∙ sym l), ap is_refused_op h.2),
  )

  -- a token is read, which is the next tree
  pub token_reads : {A : Type 0} (m : Mode) (f left : Forest) (reserved after : List (code.Op A)) (l : Leaf) (t : Op)
      → IsPushed reserved after (λ o. o ≡ t) → f ≡ leaf l left → head m (leaf l left) ≡ Ok (one t left)
      → is_refused_op t ≡ false → IsPushed reserved after (λ o. ReadsOp HasEdition m f o left None)
  token_reads m f left reserved after l t pushed at e r = (
    pushed.0,
    pushed.1,
    leaf_reads m f left (op_of pushed.0)
        (ap (head m) at ∙ (e ∙ ap (λ (o : Op). let k : Result Head Fault = Ok (one o left) in k) (sym pushed.2)))
        (ap is_refused_op pushed.2 ∙ r),
  )

  -- the second `$` of two is read
  pub punct_pushed : {A T E : Type 0} (m : Mode) (r : Result T E) (before after : List (code.Op A)) (p : Punct)
      (f : Forest)
      → OnOk r (IsPushed before after (λ o. (d : Punct) (rest : Forest)
      → after_dollar m d (leaf (punct p) rest) ≡ Ok (one o rest)))
      → OnOk r (IsPushed before after (λ o. (d : Punct)
      → AtHead HasEdition m (after_dollar m d (leaf (punct p) f)) o f))
  punct_pushed m (Err e) before after p f h = tt
  punct_pushed m (Ok x) before after p f h =
      (h.0, h.1, λ d. subst (λ at. AtHead HasEdition m at (op_of h.0) f) (sym (h.2 d f)) (refl, refl))

-- ---- from the trees that are left to all

or_assoc : (a b c : Bool) → (a || (b || c)) ≡ ((a || b) || c)
or_assoc true b c = refl
or_assoc false b c = refl

or_false : (a : Bool) → (a || false) ≡ a
or_false true = refl
or_false false = refl

refused-push : {A : Type 0} (read : List (code.Op A)) (o : code.Op A)
    → is_refused (ops_of (read ++ o ∷ [])) ≡ (is_refused (ops_of read) || is_refused_op (op_of o))
refused-push [] o = or_false (is_refused_op (op_of o))
refused-push (p ∷ read) o =
    ap (λ b. is_refused_op (op_of p) || b) (refused-push read o)
    ∙ or_assoc (is_refused_op (op_of p)) (is_refused (ops_of read)) (is_refused_op (op_of o))

passed_both : (f g h : Forest) (n : ℕ) → flat_len g ≤ flat_len f → flat_len h ≤ flat_len g
    → passed f g + (passed g h + n) ≡ passed f h + n
passed_both f g h n s t = omega arith

none_passed : (f : Forest) (n : ℕ) → n ≡ passed f f + n
none_passed f n = omega arith

module _ (HasEdition : SyntaxContext → Edition → Type 0) (m : Mode) {A : Type 0} where
  -- the first refused repetition of the ops that were read; without one, that of the trees that are left is the first
  abbrev pub EmptySoFar : Forest → Forest → List (code.Op A) → Option ℕ → Type 0
  EmptySoFar whole left read None = (is_refused (ops_of read) ≡ false)
      × ((n : ℕ) → EmptyAt HasEdition m left n → EmptyAt HasEdition m whole (passed whole left + n))
  EmptySoFar whole left read (Some n) = (is_refused (ops_of read) ≡ true) × EmptyAt HasEdition m whole n

  pub record SoFar (whole left : Forest) (read : List (code.Op A)) (first : Option ℕ) : Type 0 where
    pub more : (os : Ops) → Template HasEdition m left os → Template HasEdition m whole (with_front read os)
    pub fault : (x : Fault) (n : ℕ) → TemplateFaultAt HasEdition m x left n
        → TemplateFaultAt HasEdition m x whole (passed whole left + n)
    pub empty : EmptySoFar whole left read first
    pub shorter : flat_len left ≤ flat_len whole
    pub within : IfSome first (λ n. n ≤ flat_len whole)

  pub so_far-start : (f : Forest) (read : List (code.Op A)) → read ≡ [] → SoFar f f read None
  so_far-start f read e = subst (λ (xs : List (code.Op A)). SoFar f f xs None) (sym e) (record {
    more = λ os t. t;
    fault = λ x n w. subst (λ (k : ℕ). TemplateFaultAt HasEdition m x f k) (none_passed f n) w;
    empty = (refl, λ n w. subst (λ (k : ℕ). EmptyAt HasEdition m f k) (none_passed f n) w);
    shorter = omega arith;
    within = tt;
  })

  module _ (whole f left : Forest) (read after : List (code.Op A)) (o : code.Op A) (offset : ℕ)
      (pushed : after ≡ read ++ o ∷ []) (far : offset ≡ passed whole f) (less : flat_len f ≤ flat_len whole)
      (shorter : flat_len left ≤ flat_len f) where
    now_refused : is_refused (ops_of after) ≡ (is_refused (ops_of read) || is_refused_op (op_of o))
    now_refused = ap (λ xs. is_refused (ops_of xs)) pushed ∙ refused-push read o

    empty-step : (first found : Option ℕ) → EmptySoFar whole f read first
        → EmptyInOp HasEdition m f (op_of o) left found → EmptySoFar whole left after (first_offset first found offset)
    empty-step (Some n) found s r = (now_refused ∙ ap (λ b. b || is_refused_op (op_of o)) s.0, s.1)
    empty-step None None s r = (
      now_refused ∙ (ap (λ b. b || is_refused_op (op_of o)) s.0 ∙ r.0),
      λ n w. subst (λ (k : ℕ). EmptyAt HasEdition m whole k) (passed_both whole f left n less shorter)
          (s.1 (passed f left + n) (r.1 n w)),
    )
    empty-step None (Some n) s r = (
      now_refused ∙ (ap (λ b. b || is_refused_op (op_of o)) s.0 ∙ r.0),
      subst (λ (k : ℕ). EmptyAt HasEdition m whole k) (ap (λ (k : ℕ). k + n) (sym far)) (s.1 n r.1),
    )

    within-step : (first found : Option ℕ) → IfSome first (λ n. n ≤ flat_len whole)
        → IfSome found (λ n. n ≤ flat_len f) → IfSome (first_offset first found offset) (λ n. n ≤ flat_len whole)
    within-step (Some n) found s r = s
    within-step None None s r = tt
    within-step None (Some n) s r = omega (arith, far, less, r)

    step : (first found : Option ℕ) → SoFar whole f read first → IfSome found (λ n. n ≤ flat_len f)
        → ReadsOp HasEdition m f (op_of o) left found → SoFar whole left after (first_offset first found offset)
    step first found s within reads = record {
      more = λ os t. subst (λ xs. Template HasEdition m whole (with_front xs os)) (sym pushed)
          (subst (Template HasEdition m whole) (with_front-push read o os) (s.more (op (op_of o) os) (reads.more os
          t)));
      fault = λ x n w. subst (λ (k : ℕ). TemplateFaultAt HasEdition m x whole k)
          (passed_both whole f left n less shorter) (s.fault x (passed f left + n) (reads.fault x n w));
      empty = empty-step first found s.empty reads.empty;
      shorter = omega (arith, less, shorter);
      within = within-step first found s.within within;
    }

  -- one op more in the list, which is read at the front of what was left
  pub so_far-step : (whole f left : Forest) (read reserved after : List (code.Op A)) (offset : ℕ)
      (first found : Option ℕ) → SoFar whole f read first → reserved ≡ read
      → IsPushed reserved after (λ o. ReadsOp HasEdition m f o left found) → offset ≡ passed whole f
      → flat_len left ≤ flat_len f → IfSome found (λ n. n ≤ flat_len f)
      → SoFar whole left after (first_offset first found offset)
  so_far-step whole f left read reserved after offset first found s same pushed far shorter within =
      step whole f left read after pushed.0 offset (pushed.1 ∙ ap (λ xs. xs ++ pushed.0 ∷ []) same) far s.shorter
      shorter first found s within pushed.2

  -- a token more, which isn't refused
  pub so_far-token : (whole f left : Forest) (read reserved after : List (code.Op A)) (first : Option ℕ)
      → SoFar whole f read first → reserved ≡ read
      → IsPushed reserved after (λ o. ReadsOp HasEdition m f o left None) → flat_len left ≤ flat_len f
      → SoFar whole left after first
  so_far-token whole f left read reserved after (Some n) s same pushed shorter =
      so_far-step whole f left read reserved after (passed whole f) (Some n) None s same pushed refl shorter tt
  so_far-token whole f left read reserved after None s same pushed shorter =
      so_far-step whole f left read reserved after (passed whole f) None None s same pushed refl shorter tt

  -- a fault of the trees that are left is one of all
  pub later_fault : (whole left : Forest) (read : List (code.Op A)) (first : Option ℕ) (offset : ℕ)
      (e : located.LocatedError) → SoFar whole left read first → offset ≡ passed whole left
      → FailsAt e (λ x n. TemplateFaultAt HasEdition m x left n)
      → FailsAt (shifted offset e) (λ x n. TemplateFaultAt HasEdition m x whole n)
  later_fault whole left read first offset e s far h =
      fails-shifted offset e (λ x n. TemplateFaultAt HasEdition m x left n)
      (λ x n. TemplateFaultAt HasEdition m x whole n)
      (λ x n w. subst (λ (k : ℕ). TemplateFaultAt HasEdition m x whole k) (ap (λ (k : ℕ). k + n) (sym far))
      (s.fault x n w)) h

  -- all was read
  pub all_read : (whole left : Forest) (read : List (code.Op A)) (first : Option ℕ) → SoFar whole left read first
      → left ≡ none → Template HasEdition m whole (ops_of read)
  all_read whole left read first s e =
      subst (Template HasEdition m whole) (with_front-all read)
      (s.more no_ops (nothing left (ap (head m) e)))

  pub all_empty : (whole left : Forest) (read : List (code.Op A)) (first : Option ℕ) → SoFar whole left read first
      → IsEmptyOffset HasEdition m whole (ops_of read) first
  all_empty whole left read None s = s.empty.0
  all_empty whole left read (Some n) s = s.empty

-- ---- an offset that may be there

pub each_offset : (P Q : ℕ → Type 0) (r : Option ℕ) → ((n : ℕ) → P n → Q n) → IfSome r P → IfSome r Q
each_offset P Q None step h = tt
each_offset P Q (Some n) step h = step n h

pub further_offset : (P Q : ℕ → Type 0) (before : ℕ) (r : Option ℕ) → ((n : ℕ) → P n → Q (before + n)) → IfSome r P
    → IfSome (option_map (λ n. before + n) r) Q
further_offset P Q before None step h = tt
further_offset P Q before (Some n) step h = step n h

-- the first refused repetition of a repetition
pub further_first : (s : Option Separator) (body : Ops) (inside : Option ℕ) (bound : ℕ)
    → IfSome inside (λ n. n ≤ bound) → IfSome (first_in_repetition s body inside) (λ n. n ≤ 2 + bound)
further_first s body inside bound h = go (is_unseparated s && is_nullable body)
  where
    go : (b : Bool) → IfSome (if b then Some 1 else option_map (λ n. 2 + n) inside) (λ n. n ≤ 2 + bound)
    go true = let e : 1 ≤ 2 + bound = omega arith in e
    go false = further_offset (λ n. n ≤ bound) (λ n. n ≤ 2 + bound) 2 inside (λ n k. omega (arith, k)) h
