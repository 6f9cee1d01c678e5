-- Predicates one level down, and lists one predicate on.
use Rattle.std.proofs.Common.{◌≡◌, ℕ, suc, ◌-◌, ◌<◌, Bool, true, false, if◌then◌else◌, Option}
use Rattle.std.proofs.Common.{Ok, Err, refl, ap, sym, ◌∙◌, arith}
use Rattle.mbe_tt.specs.Trees.Leaf.{Ident}
use Rattle.mbe_tt.specs.Trees.Tree.{Forest, front_ident}
use Rattle.mbe_tt.specs.declared.span.Span.{Span}
use Rattle.mbe_cfg.specs.declared.cfg_fault.CfgFault.{CfgFault}
use Rattle.mbe_cfg.specs.declared.cfg_fault.CfgFaultKind.TheVariants as w
use Rattle.mbe_cfg.specs.declared.cfg_options.CfgOptions.{CfgOptions}
use Rattle.mbe_cfg.specs.CfgFaults.{fails}
use Rattle.mbe_cfg.specs.TreeFront.{start_span, is_empty}
use Rattle.mbe_cfg.specs.Predicates.{ValueResult, gives, result_with_name, go_on, item, items, predicate}

pub one_more : (n : ℕ) → 0 < n → n ≡ suc (n - 1)
one_more n h = omega (arith, h)

predicate_suc : (s : CfgOptions) (n : ℕ) (close : Span) (f : Forest)
    → predicate s (suc n) close f ≡ result_with_name s (predicate s n) close f (front_ident f)
unfolding predicate
predicate_suc s n close f = refl

predicate_zero : (s : CfgOptions) (close : Span) (f : Forest) → predicate s 0 close f
    ≡ fails w.TooDeep (start_span close f)
unfolding predicate
predicate_zero s close f = refl

-- what its name says, one level down
pub predicate_by : (s : CfgOptions) (n : ℕ) (close : Span) (f : Forest) (name : Option Ident) (r : ValueResult)
    → 0 < n → name ≡ front_ident f → r ≡ result_with_name s (predicate s (n - 1)) close f name → r
    ≡ predicate s n close f
predicate_by s n close f name r h e m =
    m ∙ (ap (result_with_name s (predicate s (n - 1)) close f) e
    ∙ (sym (predicate_suc s (n - 1) close f) ∙ sym (ap (λ k. predicate s k close f) (one_more n h))))

pub predicate_none : (s : CfgOptions) (n : ℕ) (close : Span) (f : Forest) (r : ValueResult)
    → n ≡ 0 → r ≡ fails w.TooDeep (start_span close f) → r ≡ predicate s n close f
predicate_none s n close f r e m = m ∙ (sym (predicate_zero s close f) ∙ sym (ap (λ k. predicate s k close f) e))

items_suc : (inner : Forest → ValueResult) (every : Bool) (close : Span) (n : ℕ) (so_far : Bool) (f : Forest)
    → items inner every close (suc n) so_far f
    ≡ (if is_empty f then Ok so_far else go_on (items inner every close n) (item inner every close so_far f))
unfolding items
items_suc inner every close n so_far f = refl

items_zero : (inner : Forest → ValueResult) (every : Bool) (close : Span) (so_far : Bool) (f : Forest)
    → items inner every close 0 so_far f ≡ Ok so_far
unfolding items
items_zero inner every close so_far f = refl

-- with a predicate at the front
items_by : (inner : Forest → ValueResult) (every : Bool) (close : Span) (n : ℕ) (so_far : Bool) (f : Forest)
    (r : ValueResult)
    → 0 < n → is_empty f ≡ false → r ≡ item inner every close so_far f
    → go_on (items inner every close (n - 1)) r ≡ items inner every close n so_far f
items_by inner every close n so_far f r h e m =
    ap (go_on (items inner every close (n - 1))) m
    ∙ (sym (ap (λ b. if b then Ok so_far else go_on (items inner every close (n - 1))
    (item inner every close so_far f)) e)
    ∙ (sym (items_suc inner every close (n - 1) so_far f)
    ∙ sym (ap (λ k. items inner every close k so_far f) (one_more n h))))

-- on to the next one
pub items_on : (inner : Forest → ValueResult) (every : Bool) (close : Span) (n : ℕ) (so_far : Bool) (f : Forest)
    (holds : Bool) (rest : Forest)
    → 0 < n → is_empty f ≡ false → gives holds rest ≡ item inner every close so_far f
    → items inner every close (n - 1) holds rest ≡ items inner every close n so_far f
items_on inner every close n so_far f holds rest h e m = items_by inner every close n so_far f (gives holds rest) h e m

pub items_fail : (inner : Forest → ValueResult) (every : Bool) (close : Span) (n : ℕ) (so_far : Bool) (f : Forest)
    (fault : CfgFault) → 0 < n → is_empty f ≡ false → Err fault ≡ item inner every close so_far f
    → Err fault ≡ items inner every close n so_far f
items_fail inner every close n so_far f fault h e m = items_by inner every close n so_far f (Err fault) h e m

-- at the end of the trees
pub items_end : (inner : Forest → ValueResult) (every : Bool) (close : Span) (n : ℕ) (so_far : Bool) (f : Forest)
    → 0 < n → is_empty f ≡ true → Ok so_far ≡ items inner every close n so_far f
items_end inner every close n so_far f h e =
    sym (ap (λ b. if b then Ok so_far else go_on (items inner every close (n - 1))
    (item inner every close so_far f)) e)
    ∙ (sym (items_suc inner every close (n - 1) so_far f)
    ∙ sym (ap (λ k. items inner every close k so_far f) (one_more n h)))

pub items_none : (inner : Forest → ValueResult) (every : Bool) (close : Span) (n : ℕ) (so_far : Bool) (f : Forest)
    → n ≡ 0 → Ok so_far ≡ items inner every close n so_far f
items_none inner every close n so_far f e =
    sym (items_zero inner every close so_far f)
    ∙ sym (ap (λ k. items inner every close k so_far f) e)
