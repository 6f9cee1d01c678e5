-- What the parser of patterns and templates returns, by their grammar.
use Rattle.std.specs.Prelude.{◌≡◌, ◌+◌, ℕ, true, false, List, [], ◌∷◌, ◌++◌, Option, Some}
use Rattle.std.specs.Prelude.{None, Result, Ok, Err}
use Rattle.mbe_tt.specs.Trees.Leaf.{Leaf}
use Rattle.mbe_tt.specs.Trees.Tree.{Forest, passed}
use Rattle.mbe_tt.specs.declared.span.SyntaxContext.{SyntaxContext}
use Rattle.mbe_tt.specs.declared.span.Edition.{Edition}
use Rattle.mbe_semantics.specs.declared.fragment_kinds.MetaVarKind.{MetaVarKind}
use Rattle.mbe_semantics.specs.Syntax.Op.{Op, Ops, op, variable, group, repetition, Separator}
use Rattle.mbe_semantics.specs.Syntax.Nullable.{is_refused_op}
use Rattle.mbe_semantics.specs.Syntax.Template.{Mode, pattern, template, Fault, separator_of, Head}
use Rattle.mbe_semantics.specs.Syntax.Template.{ended, one, typed, opens_group, opens_repetition}
use Rattle.mbe_semantics.specs.Syntax.Template.{head, Specifies, Template}
use Rattle.mbe_ops.specs.declared.ops.Op as pushed
use Rattle.mbe_ops.specs.Views.{op_of}
use Rattle.mbe_ops.specs.declared.errors.error.SyntaxFault as reported
use Rattle.mbe_ops.specs.declared.errors.error.ReadError as read
use Rattle.mbe_ops.specs.Errors.ErrorViews.{fault_of}
use Rattle.mbe_parser.specs.declared.parser.Mode as code
use Rattle.mbe_parser.specs.FaultOffsets.{TemplateFaultAt}
use Rattle.mbe_parser.specs.RefusedRepetitions.{EmptyAt}

abbrev pub mode_of : code.Mode → Mode
mode_of code.TheVariants.Pattern = pattern
mode_of code.TheVariants.Template = template

-- why parsing stopped: out of memory, or a fault of which P holds
abbrev pub ReadFails : read.ReadError → (Fault → Type 0) → Type 0
ReadFails read.TheVariants.Memory P = Unit {0}
ReadFails (read.TheVariants.Fault f) P = P (fault_of f)

-- why no metavariable expression was parsed: out of memory, or the trees are none
abbrev pub NotExpression : {T : Type 0} → read.ReadError → Option T → Type 0
NotExpression read.TheVariants.Memory e = Unit {0}
NotExpression (read.TheVariants.Fault f) e =
    (f ≡ reported.TheVariants.InvalidExpression) × (e ≡ None)

-- ---- the suffix of a repetition, leaf by leaf

-- the leaves of the old separator and this leaf are the leaves of the new one
abbrev pub ExtendsSeparator : Option Separator → Leaf → Separator → Type 0
ExtendsSeparator old l new = (before : List Leaf) → separator_of before ≡ Some old
    → separator_of (before ++ l ∷ []) ≡ Some (Some new)

-- the leaves of the separator and this leaf begin no separator
abbrev pub NeverExtendsSeparator : Option Separator → Leaf → Type 0
NeverExtendsSeparator old l = (before following : List Leaf) → separator_of before ≡ Some old
    → separator_of (before ++ l ∷ following) ≡ None

-- ---- ops

-- the list with one op more at its end, and P holds of the op
abbrev pub IsPushed : {A : Type 0} → List (pushed.Op A) → List (pushed.Op A) → (Op → Type 0)
    → Type 0
IsPushed {A} before after P = (o : pushed.Op A) × (after ≡ before ++ o ∷ []) × P (op_of o)

module _ (HasEdition : SyntaxContext → Edition → Type 0) where
  -- this op is at the front, with the ops inside it, and these are the trees after it
  abbrev pub AtHead : Mode → Result Head Fault → Op → Forest → Type 0
  AtHead mode (Ok (one o rest)) p left = (o ≡ p) × (rest ≡ left)
  AtHead mode (Ok (typed name span specifier rest)) p left =
      (kind : Option MetaVarKind) × Specifies HasEdition specifier kind
      × (variable name kind span ≡ p) × (rest ≡ left)
  AtHead mode (Ok (opens_group d inside rest)) p left =
      (body : Ops) × Template HasEdition mode inside body × (group d body ≡ p) × (rest ≡ left)
  AtHead mode (Ok (opens_repetition separator repeat inside rest)) p left =
      (body : Ops) × Template HasEdition mode inside body × (repetition body separator repeat ≡ p)
      × (rest ≡ left)
  AtHead mode (Ok ended) p left = ⊥
  AtHead mode (Err f) p left = ⊥

  -- trees with this op at the front have their first fault at this offset
  abbrev pub FaultAtHead : Mode → Result Head Fault → Fault → ℕ → Type 0
  FaultAtHead mode h fault n =
      (f : Forest) → head mode f ≡ h → TemplateFaultAt HasEdition mode fault f n

  -- the offset of the first refused repetition of this op, in trees with the op at the front
  abbrev pub EmptyAtHead : Mode → Result Head Fault → Op → Option ℕ → Type 0
  EmptyAtHead mode h o None = is_refused_op o ≡ false
  EmptyAtHead mode h o (Some n) =
      (is_refused_op o ≡ true) × ((f : Forest) → head mode f ≡ h → EmptyAt HasEdition mode f n)

  -- the op at the front and the trees after it, with its first refused repetition
  abbrev pub IsHead : Mode → Result Head Fault → Op → Forest → Option ℕ → Type 0
  IsHead mode h o left empty = AtHead mode h o left × EmptyAtHead mode h o empty

  -- The first refused repetition of this op. If it has none, the first one of the trees after it.
  abbrev pub EmptyInOp : Mode → Forest → Op → Forest → Option ℕ → Type 0
  EmptyInOp mode before o left None = (is_refused_op o ≡ false)
      × ((n : ℕ) → EmptyAt HasEdition mode left n
      → EmptyAt HasEdition mode before (passed before left + n))
  EmptyInOp mode before o left (Some n) =
      (is_refused_op o ≡ true) × EmptyAt HasEdition mode before n

  -- The op was parsed, and these trees are left. The ops of those trees come after the op, and
  -- their first fault is the first of all. `found` is the offset of the op's first refused
  -- repetition.
  pub record ReadsOp (mode : Mode) (before : Forest) (o : Op) (left : Forest) (found : Option ℕ)
      : Type 0 where
    pub more : (os : Ops) → Template HasEdition mode left os
        → Template HasEdition mode before (op o os)
    pub fault : (f : Fault) (n : ℕ) → TemplateFaultAt HasEdition mode f left n
        → TemplateFaultAt HasEdition mode f before (passed before left + n)
    pub empty : EmptyInOp mode before o left found
