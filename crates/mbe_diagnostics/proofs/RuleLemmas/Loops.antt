-- Loops that add what each op of a list has.
use Rattle.std.proofs.Common.{ℕ, ◌≡◌, ◌≤◌, Bool, Option, List, [], ◌∷◌, ◌++◌, length, refl, ap, sym, ◌∙◌, append_assoc}
use Rattle.std.proofs.Common.{append-nil, arith}
use Rattle.mbe_semantics.specs.declared.fragment_kinds.RepeatKind.{RepeatKind}
use Rattle.mbe_semantics.specs.Syntax.Nullable.{may_skip}
use Rattle.mbe_semantics.specs.Syntax.Op.{Separator, Op, Ops, no_ops, op, repetition}
use Rattle.mbe_ops.specs.Views.{op_of, ops_of}
use Rattle.mbe_ops.specs.declared.ops.Op as code
use Rattle.mbe_ops.proofs.EqualityLemmas.{op_weight, ops_weight}
use Rattle.mbe_diagnostics.specs.RuleChecks.FollowCheck.{Follower, may_be_empty_op, may_be_empty, separators}
use Rattle.mbe_diagnostics.specs.RuleChecks.FollowCheck.{where_empty, firsts_of_op, firsts}

-- one op more is consumed, and what it has is added
pub one_op_more : {A : Type 0} {Y : Type 0} (f : Ops → List Y) (g : Op → List Y)
    → ((o : Op) (os : Ops) → f (op o os) ≡ g o ++ f os)
    → (before after all : List Y) (rest others : List (code.Op A)) (x : code.Op A)
    → rest ≡ x ∷ others → after ≡ before ++ g (op_of x)
    → before ++ f (ops_of rest) ≡ all → after ++ f (ops_of others) ≡ all
one_op_more f g step before after all rest others x e a h =
    ap (λ l. l ++ f (ops_of others)) a
    ∙ (append_assoc before (g (op_of x)) (f (ops_of others))
    ∙ (ap (λ l. before ++ l) (sym (step (op_of x) (ops_of others)))
    ∙ (ap (λ l. before ++ f (ops_of l)) (sym e) ∙ h)))

pub nothing : {X : Type 0} (xs : List X) → length xs ≡ 0 → xs ≡ []
nothing [] e = refl
nothing (x ∷ xs) e = absurd (omega (arith, e))

-- no op is left, and what they have is added
pub all_added : {A : Type 0} {Y : Type 0} (f : Ops → List Y) → f no_ops ≡ []
    → (found all : List Y) (rest : List (code.Op A)) → rest ≡ [] → found ++ f (ops_of rest) ≡ all → found ≡ all
all_added f none found all rest e h =
    let left : f (ops_of rest) ≡ [] = ap (λ l. f (ops_of l)) e ∙ none in
    sym (append-nil found) ∙ (ap (λ l. found ++ l) (sym left) ∙ h)

-- what is first is no heavier than all, nor is what is left
pub first_lighter : {A : Type 0} (rest others : List (code.Op A)) (x : code.Op A) (w : ℕ)
    → rest ≡ x ∷ others → ops_weight (ops_of rest) ≤ w → op_weight (op_of x) ≤ w
first_lighter rest others x w e h = let same = ap (λ l. ops_weight (ops_of l)) e in omega arith

pub rest_lighter : {A : Type 0} (rest others : List (code.Op A)) (x : code.Op A) (w : ℕ)
    → rest ≡ x ∷ others → ops_weight (ops_of rest) ≤ w → ops_weight (ops_of others) ≤ w
rest_lighter rest others x w e h = let same = ap (λ l. ops_weight (ops_of l)) e in omega arith

-- ---- what ops may begin with

-- a repetition begins with what its body does, or with its separator
pub rounds_firsts : (o : Op) (body held : Ops) (s : Option Separator) (k : RepeatKind) (e : Bool)
    → (before within after : List Follower) → o ≡ repetition body s k → held ≡ body → e ≡ may_be_empty held
    → within ≡ before ++ firsts held → after ≡ within ++ where_empty e (separators s) → after ≡ before ++ firsts_of_op o
rounds_firsts o body held s k e before within after ho hh he hw ha =
    ha
    ∙ (ap (λ l. l ++ where_empty e (separators s)) hw
    ∙ (append_assoc before (firsts held) (where_empty e (separators s))
    ∙ (ap (λ b. before ++ (firsts held ++ where_empty b (separators s))) he
    ∙ (ap (λ os. before ++ (firsts os ++ where_empty (may_be_empty os) (separators s))) hh
    ∙ ap (λ p. before ++ firsts_of_op p) (sym ho)))))

pub rounds_empty : (o : Op) (body held : Ops) (s : Option Separator) (k : RepeatKind) (e r : Bool)
    → o ≡ repetition body s k → held ≡ body → e ≡ may_be_empty held → r ≡ may_skip k e → r ≡ may_be_empty_op o
rounds_empty o body held s k e r ho hh he hr =
    hr ∙ (ap (may_skip k) (he ∙ ap may_be_empty hh) ∙ sym (ap may_be_empty_op ho))
