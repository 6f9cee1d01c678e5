-- Attributes one level down, and lists one attribute on.
use Rattle.std.proofs.Common.{◌≡◌, ℕ, suc, ◌-◌, ◌<◌, Bool, true, false, ◌&&◌, if◌then◌else◌, Option, Some, None}
use Rattle.std.proofs.Common.{Result, Ok, Err, refl, ap, sym, ◌∙◌}
use Rattle.mbe_tt.specs.Trees.Leaf.{Ident}
use Rattle.mbe_tt.specs.Trees.Tree.{Forest, front_ident}
use Rattle.mbe_tt.specs.declared.span.Span.{Span}
use Rattle.mbe_cfg.specs.declared.cfg_fault.CfgFault.{CfgFault}
use Rattle.mbe_cfg.specs.declared.cfg_fault.CfgFaultKind.TheVariants as w
use Rattle.mbe_cfg.specs.declared.predicate.TheConstants.{DEPTH}
use Rattle.mbe_cfg.specs.declared.cfg_options.CfgOptions.{CfgOptions}
use Rattle.mbe_cfg.specs.CfgFaults.{fails}
use Rattle.mbe_cfg.specs.TreeFront.{Group, start_span, is_empty, attribute_group, after_next_comma}
use Rattle.mbe_cfg.specs.Predicates.{gives}
use Rattle.mbe_cfg.specs.Attributes.{all_so_far, metas, attribute_with_name, attribute, go_on, next_one, attributes}
use Rattle.mbe_cfg.proofs.PredicateLemmas.{one_more}

attribute_suc : (s : CfgOptions) (n : ℕ) (close : Span) (f : Forest)
    → attribute s (suc n) close f ≡ attribute_with_name s (attribute s n) f (front_ident f)
unfolding attribute
attribute_suc s n close f = refl

attribute_zero : (s : CfgOptions) (close : Span) (f : Forest) → attribute s 0 close f
    ≡ fails w.TooDeep (start_span close f)
unfolding attribute
attribute_zero s close f = refl

-- what its name says, one level down
pub attribute_by : (s : CfgOptions) (n : ℕ) (close : Span) (f : Forest) (name : Option Ident) (r : Result Bool CfgFault)
    → 0 < n → name ≡ front_ident f → r ≡ attribute_with_name s (attribute s (n - 1)) f name → r ≡ attribute s n close f
attribute_by s n close f name r h e m =
    m ∙ (ap (attribute_with_name s (attribute s (n - 1)) f) e
    ∙ (sym (attribute_suc s (n - 1) close f) ∙ sym (ap (λ k. attribute s k close f) (one_more n h))))

-- what the name says that was read at the front
pub attribute_named : (s : CfgOptions) (n : ℕ) (close : Span) (f read : Forest) (name : Ident)
    (r : Result Bool CfgFault)
    → 0 < n → Some name ≡ front_ident read → read ≡ f → r ≡ attribute_with_name s (attribute s (n - 1)) f (Some name)
    → r ≡ attribute s n close f
attribute_named s n close f read name r h word e m =
    attribute_by s n close f (Some name) r h (word ∙ ap front_ident e) m

pub attribute_none : (s : CfgOptions) (n : ℕ) (close : Span) (f : Forest) (r : Result Bool CfgFault)
    → n ≡ 0 → r ≡ fails w.TooDeep (start_span close f) → r ≡ attribute s n close f
attribute_none s n close f r e m = m ∙ (sym (attribute_zero s close f) ∙ sym (ap (λ k. attribute s k close f) e))

metas_suc : (inner : Forest → Result Bool CfgFault) (n : ℕ) (so_far : Bool) (f : Forest)
    → metas inner (suc n) so_far f ≡ (if is_empty f then Ok so_far else all_so_far (metas inner n) so_far f (inner f))
unfolding metas
metas_suc inner n so_far f = refl

metas_zero : (inner : Forest → Result Bool CfgFault) (so_far : Bool) (f : Forest) → metas inner 0 so_far f ≡ Ok so_far
unfolding metas
metas_zero inner so_far f = refl

-- with an attribute at the front
metas_by : (inner : Forest → Result Bool CfgFault) (n : ℕ) (so_far : Bool) (f : Forest) (r : Result Bool CfgFault)
    → 0 < n → is_empty f ≡ false → r ≡ inner f → all_so_far (metas inner (n - 1)) so_far f r ≡ metas inner n so_far f
metas_by inner n so_far f r h e m =
    ap (all_so_far (metas inner (n - 1)) so_far f) m
    ∙ (sym (ap (λ b. if b then Ok so_far else all_so_far (metas inner (n - 1)) so_far f (inner f)) e)
    ∙ (sym (metas_suc inner (n - 1) so_far f)
    ∙ sym (ap (λ k. metas inner k so_far f) (one_more n h))))

-- on to the next one
pub metas_on : (inner : Forest → Result Bool CfgFault) (n : ℕ) (so_far : Bool) (f : Forest)
    (one all : Bool) (rest : Forest)
    → 0 < n → is_empty f ≡ false → Ok one ≡ inner f → all ≡ (so_far && one) → rest ≡ after_next_comma f
    → metas inner (n - 1) all rest ≡ metas inner n so_far f
metas_on inner n so_far f one all rest h e m both after =
    ap (λ b. metas inner (n - 1) b rest) both
    ∙ (ap (metas inner (n - 1) (so_far && one)) after
    ∙ metas_by inner n so_far f (Ok one) h e m)

pub metas_fail : (inner : Forest → Result Bool CfgFault) (n : ℕ) (so_far : Bool) (f : Forest) (fault : CfgFault)
    → 0 < n → is_empty f ≡ false → Err fault ≡ inner f → Err fault ≡ metas inner n so_far f
metas_fail inner n so_far f fault h e m = metas_by inner n so_far f (Err fault) h e m

-- at the end of the trees
pub metas_end : (inner : Forest → Result Bool CfgFault) (n : ℕ) (so_far : Bool) (f : Forest)
    → 0 < n → is_empty f ≡ true → Ok so_far ≡ metas inner n so_far f
metas_end inner n so_far f h e =
    sym (ap (λ b. if b then Ok so_far else all_so_far (metas inner (n - 1)) so_far f (inner f)) e)
    ∙ (sym (metas_suc inner (n - 1) so_far f) ∙ sym (ap (λ k. metas inner k so_far f) (one_more n h)))

pub metas_none : (inner : Forest → Result Bool CfgFault) (n : ℕ) (so_far : Bool) (f : Forest)
    → n ≡ 0 → Ok so_far ≡ metas inner n so_far f
metas_none inner n so_far f e = sym (metas_zero inner so_far f) ∙ sym (ap (λ k. metas inner k so_far f) e)

attributes_suc : (s : CfgOptions) (n : ℕ) (so_far : Bool) (f : Forest)
    → attributes s (suc n) so_far f ≡ go_on (attribute s DEPTH) (attributes s n) so_far f (attribute_group f)
unfolding attributes
attributes_suc s n so_far f = refl

attributes_zero : (s : CfgOptions) (so_far : Bool) (f : Forest) → attributes s 0 so_far f ≡ gives so_far f
unfolding attributes
attributes_zero s so_far f = refl

attributes_by : (s : CfgOptions) (n : ℕ) (so_far : Bool) (f : Forest) (g : Option Group)
    → 0 < n → g ≡ attribute_group f → go_on (attribute s DEPTH) (attributes s (n - 1)) so_far f g
    ≡ attributes s n so_far f
attributes_by s n so_far f g h e =
    ap (go_on (attribute s DEPTH) (attributes s (n - 1)) so_far f) e
    ∙ (sym (attributes_suc s (n - 1) so_far f) ∙ sym (ap (λ k. attributes s k so_far f) (one_more n h)))

-- with the brackets of an attribute at the front
attributes_with : (s : CfgOptions) (n : ℕ) (so_far : Bool) (f : Forest) (g : Group) (r : Result Bool CfgFault)
    → 0 < n → Some g ≡ attribute_group f → r ≡ attribute s DEPTH g.close g.inside
    → next_one (attributes s (n - 1)) so_far g.rest r ≡ attributes s n so_far f
attributes_with s n so_far f g r h e m =
    ap (next_one (attributes s (n - 1)) so_far g.rest) m ∙ attributes_by s n so_far f (Some g) h e

-- on to the next one
pub attributes_on : (s : CfgOptions) (n : ℕ) (so_far : Bool) (f : Forest) (g : Group) (one all : Bool)
    → 0 < n → Some g ≡ attribute_group f → Ok one ≡ attribute s DEPTH g.close g.inside → all ≡ (so_far && one)
    → attributes s (n - 1) all g.rest ≡ attributes s n so_far f
attributes_on s n so_far f g one all h e m both =
    ap (λ b. attributes s (n - 1) b g.rest) both ∙ attributes_with s n so_far f g (Ok one) h e m

pub attributes_fail : (s : CfgOptions) (n : ℕ) (so_far : Bool) (f : Forest) (g : Group) (fault : CfgFault)
    → 0 < n → Some g ≡ attribute_group f → Err fault ≡ attribute s DEPTH g.close g.inside
    → Err fault ≡ attributes s n so_far f
attributes_fail s n so_far f g fault h e m = attributes_with s n so_far f g (Err fault) h e m

-- after the last one
pub attributes_end : (s : CfgOptions) (n : ℕ) (so_far : Bool) (f : Forest)
    → 0 < n → None ≡ attribute_group f → gives so_far f ≡ attributes s n so_far f
attributes_end s n so_far f h e = attributes_by s n so_far f None h e

pub attributes_none : (s : CfgOptions) (n : ℕ) (so_far : Bool) (f : Forest)
    → n ≡ 0 → gives so_far f ≡ attributes s n so_far f
attributes_none s n so_far f e = sym (attributes_zero s so_far f) ∙ sym (ap (λ k. attributes s k so_far f) e)
