-- How many ops there are in parts of others, and what ops with a body come to.
use Rattle.std.proofs.Common.{◌≡◌, ◌<◌, ◌&&◌, Bool, true, Option, List, ◌∷◌, ap, sym, ◌∙◌, arith}
use Rattle.mbe_tt.specs.declared.tt.Delimiter.{Delimiter}
use Rattle.mbe_semantics.specs.declared.fragment_kinds.RepeatKind.{RepeatKind}
use Rattle.mbe_semantics.specs.Syntax.Op.{Separator, Op, Ops, group, repetition}
use Rattle.mbe_ops.specs.declared.ops.Op as code
use Rattle.mbe_ops.specs.Views.{op_of, ops_of}
use Rattle.mbe_ops.proofs.OpSizes.{op_size, ops_size}
use Rattle.mbe_diagnostics.specs.RuleChecks.Equivalence.{same_delimiter_kind, repeats_equivalently, is_equivalent}
use Rattle.mbe_diagnostics.specs.RuleChecks.Equivalence.{are_equivalent}
use Rattle.mbe_diagnostics.specs.RuleChecks.UnreachableRules.{only_op, is_some_tt_variable, is_list, is_tt_list}

-- the first op, and the ops after it, are fewer than all
pub first_smaller : {A : Type 0} (all rest : List (code.Op A)) (x : code.Op A) → all ≡ x ∷ rest
    → op_size (op_of x) < ops_size (ops_of all)
first_smaller all rest x e = let same = ap (λ l. ops_size (ops_of l)) e in omega arith

pub rest_smaller : {A : Type 0} (all rest : List (code.Op A)) (x : code.Op A) → all ≡ x ∷ rest
    → ops_size (ops_of rest) < ops_size (ops_of all)
rest_smaller all rest x e = let same = ap (λ l. ops_size (ops_of l)) e in omega arith

-- ---- what is alike

pub groups_alike : (o p : Op) (d e : Delimiter) (body other held holds : Ops) (opens inside : Bool)
    → o ≡ group d body → p ≡ group e other → held ≡ body → holds ≡ other → opens ≡ same_delimiter_kind d e → opens
    ≡ true
    → inside ≡ are_equivalent held holds → inside ≡ is_equivalent o p
groups_alike o p d e body other held holds opens inside ho hp hb hc he ht ha =
    ha ∙ (ap (λ x. are_equivalent x holds) hb ∙ (ap (are_equivalent body) hc
    ∙ (ap (λ x. x && are_equivalent body other) (sym (sym he ∙ ht))
    ∙ (ap (λ x. is_equivalent x (group e other)) (sym ho) ∙ ap (is_equivalent o) (sym hp)))))

pub repetitions_alike : (o p : Op) (body other held holds : Ops) (s t : Option Separator) (k l : RepeatKind)
    (round inside : Bool) → o ≡ repetition body s k → p ≡ repetition other t l → held ≡ body → holds ≡ other
    → round ≡ repeats_equivalently s k t l → round ≡ true → inside ≡ are_equivalent held holds → inside
    ≡ is_equivalent o p
repetitions_alike o p body other held holds s t k l round inside ho hp hb hc he ht ha =
    ha ∙ (ap (λ x. are_equivalent x holds) hb ∙ (ap (are_equivalent body) hc
    ∙ (ap (λ x. x && are_equivalent body other) (sym (sym he ∙ ht))
    ∙ (ap (λ x. is_equivalent x (repetition other t l)) (sym ho) ∙ ap (is_equivalent o) (sym hp)))))

-- ---- any trees

pub trees_seen : (o : Op) (body held : Ops) (s : Option Separator) (k : RepeatKind) (list inside : Bool)
    (only : Option Op)
    → o ≡ repetition body s k → held ≡ body → list ≡ is_list s k → list ≡ true → only ≡ only_op held
    → inside ≡ is_some_tt_variable only → inside ≡ is_tt_list o
trees_seen o body held s k list inside only ho hb hl ht hn ha =
    ha ∙ (ap is_some_tt_variable (hn ∙ ap only_op hb)
    ∙ (ap (λ x. x && is_some_tt_variable (only_op body)) (sym (sym hl ∙ ht)) ∙ ap is_tt_list (sym ho)))
