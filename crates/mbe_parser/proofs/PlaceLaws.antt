-- A fault that has a place is the definition's fault, and it has one place.
use Rattle.std.specs.Prelude.{◌≡◌, ◌+◌, ℕ, suc, List, [], ◌∷◌, length, Some, Result, Ok, Err, refl}
use Rattle.std.proofs.Common.{ap, sym, ◌∙◌, subst, ◌⊎◌, inl, inr}
use Rattle.mbe_tt.specs.declared.span.SyntaxContext.{SyntaxContext}
use Rattle.mbe_tt.specs.declared.span.Edition.{Edition}
use Rattle.mbe_tt.specs.Trees.Tree.{Forest, none, passed}
use Rattle.mbe_semantics.specs.Syntax.Template as faults
use Rattle.mbe_semantics.specs.Syntax.Template.{Mode, Fault, Head, ended, one, typed, opens_group, opens_repetition}
use Rattle.mbe_semantics.specs.Syntax.Template.{head, Template, TemplateFault}
use Rattle.mbe_semantics.specs.Syntax.Op.{Ops}
use Rattle.mbe_laws.proofs.Definitions.TemplateLemmas.{ops_or_fault}
use Rattle.mbe_semantics.specs.Syntax.Definition as rules
use Rattle.mbe_semantics.specs.Syntax.Definition.{Rule, Rules}
use Rattle.mbe_parser.specs.FaultOffsets.{TemplateFaultAt, here, in_group, in_repetition, after_token}
use Rattle.mbe_parser.specs.FaultOffsets.{after_variable, after_group, after_repetition, RuleFaultAt}
use Rattle.mbe_parser.specs.FaultOffsets.{in_trees, in_pattern, in_template, RulesFaultAt, in_rule}
use Rattle.mbe_parser.specs.FaultOffsets.{unseparated, separated}

module _ (HasEdition : SyntaxContext → Edition → Type 0) where
  -- it is the first fault of the trees
  pub template_fault : (mode : Mode) (fault : Fault) {f : Forest} {n : ℕ}
      → TemplateFaultAt HasEdition mode fault f n → TemplateFault HasEdition mode fault f
  template_fault mode fault (here f e) = faults.here f e
  template_fault mode fault (in_group f inside rest d n e w) =
      faults.in_group f inside rest d e (template_fault mode fault w)
  template_fault mode fault (in_repetition f inside rest s repeat n e w) =
      faults.in_repetition f inside rest s repeat e (template_fault mode fault w)
  template_fault mode fault (after_token f rest o n e w) =
      faults.after_token f rest o e (template_fault mode fault w)
  template_fault mode fault (after_variable f rest name span specifier n e w) =
      faults.after_variable f rest name span specifier e (template_fault mode fault w)
  template_fault mode fault (after_group f inside rest d body n e b w) =
      faults.following_group f inside rest d body e b (template_fault mode fault w)
  template_fault mode fault (after_repetition f inside rest s repeat body n e b w) =
      faults.after_repetition f inside rest s repeat body e b (template_fault mode fault w)

  -- it is that of the first rule
  pub rule_fault : (separators : List ℕ) (missing fault : Fault) (f : Forest) {n : ℕ} → (f ≡ none → ⊥)
      → RuleFaultAt HasEdition fault f n → Rules HasEdition separators missing f [] (Some fault)
  rule_fault separators missing fault f some (in_trees e) = rules.no_rule f fault some e
  rule_fault separators missing fault f some (in_pattern o n e w) =
      rules.faulty_rule f o fault e (rules.in_pattern (template_fault faults.pattern fault w))
  rule_fault separators missing fault f some (in_template o reads n e t w) =
      rules.faulty_rule f o fault e (rules.in_template reads t (template_fault faults.template fault w))

  -- it is that of the rules, of which so many are read before
  abbrev pub IsFaultOf : List ℕ → Fault → Fault → Forest → ℕ → Type 0
  IsFaultOf separators missing fault f rule =
      (rs : List Rule) × Rules HasEdition separators missing f rs (Some fault) × (length rs ≡ rule)

  pub rules_fault : (separators : List ℕ) (missing fault : Fault) {f : Forest} {rule n : ℕ}
      → RulesFaultAt HasEdition separators missing fault f rule n → IsFaultOf separators missing fault f rule
  rules_fault separators missing fault (in_rule f n some w) =
      ([], rule_fault separators missing fault f some w, refl)
  rules_fault separators missing fault (unseparated f o r e a b m) = (
    r ∷ [],
    subst (λ (x : Fault). Rules HasEdition separators missing f (r ∷ []) (Some x)) m
        (rules.unseparated f o r e a b),
    refl,
  )
  rules_fault separators missing fault (separated f rest o r rule n e a b w) =
      let t = rules_fault separators missing fault w in
      (r ∷ t.0, rules.separated f rest o r t.0 (Some fault) e a b t.1, ap suc t.2)

  -- ---- one place

  -- where a fault of f is, by its head
  abbrev Placed : Mode → Fault → ℕ → Forest → Result Head Fault → Type 0
  Placed mode fault n f (Err e) = n ≡ 0
  Placed mode fault n f (Ok ended) = ⊥
  Placed mode fault n f (Ok (one o rest)) =
      (k : ℕ) × TemplateFaultAt HasEdition mode fault rest k × (n ≡ passed f rest + k)
  Placed mode fault n f (Ok (typed name span specifier rest)) =
      (k : ℕ) × TemplateFaultAt HasEdition mode fault rest k × (n ≡ passed f rest + k)
  Placed mode fault n f (Ok (opens_group d inside rest)) =
      ((k : ℕ) × TemplateFaultAt HasEdition mode fault inside k × (n ≡ 1 + k))
      ⊎ ((body : Ops) × (k : ℕ) × Template HasEdition mode inside body × TemplateFaultAt HasEdition mode fault rest k
      × (n ≡ passed f rest + k))
  Placed mode fault n f (Ok (opens_repetition s repeat inside rest)) =
      ((k : ℕ) × TemplateFaultAt HasEdition mode fault inside k × (n ≡ 2 + k))
      ⊎ ((body : Ops) × (k : ℕ) × Template HasEdition mode inside body × TemplateFaultAt HasEdition mode fault rest k
      × (n ≡ passed f rest + k))

  place_by_head : (mode : Mode) (fault : Fault) {f : Forest} {n : ℕ} → TemplateFaultAt HasEdition mode fault f n
      → Placed mode fault n f (head mode f)
  place_by_head mode fault (here f e) = subst (Placed mode fault 0 f) (sym e) refl
  place_by_head mode fault (in_group f inside rest d n e w) =
      subst (Placed mode fault (1 + n) f) (sym e) (inl (n, w, refl))
  place_by_head mode fault (in_repetition f inside rest s repeat n e w) =
      subst (Placed mode fault (2 + n) f) (sym e) (inl (n, w, refl))
  place_by_head mode fault (after_token f rest o n e w) =
      subst (Placed mode fault (passed f rest + n) f) (sym e) (n, w, refl)
  place_by_head mode fault (after_variable f rest name span specifier n e w) =
      subst (Placed mode fault (passed f rest + n) f) (sym e) (n, w, refl)
  place_by_head mode fault (after_group f inside rest d body n e b w) =
      subst (Placed mode fault (passed f rest + n) f) (sym e) (inr (body, n, b, w, refl))
  place_by_head mode fault (after_repetition f inside rest s repeat body n e b w) =
      subst (Placed mode fault (passed f rest + n) f) (sym e) (inr (body, n, b, w, refl))

  one_of : {P Q R : Type 0} → (P → R) → (Q → R) → P ⊎ Q → R
  one_of h k (inl p) = h p
  one_of h k (inr q) = k q

  -- two faults of the same trees are at one place
  pub one_place : (mode : Mode) (fault : Fault) {f : Forest} {n : ℕ} → TemplateFaultAt HasEdition mode fault f n
      → (other : Fault) (m : ℕ) → TemplateFaultAt HasEdition mode other f m → n ≡ m
  one_place mode fault (here f e) other m w = sym (subst (Placed mode other m f) e (place_by_head mode other w))
  one_place mode fault (in_group f inside rest d n e v) other m w =
      one_of (λ p. ap (λ i. 1 + i) (one_place mode fault v other p.0 p.1) ∙ sym p.2)
      (λ p. absurd (ops_or_fault HasEdition mode inside p.0 fault p.2 (template_fault mode fault v)))
      (subst (Placed mode other m f) e (place_by_head mode other w))
  one_place mode fault (in_repetition f inside rest s repeat n e v) other m w =
      one_of (λ p. ap (λ i. 2 + i) (one_place mode fault v other p.0 p.1) ∙ sym p.2)
      (λ p. absurd (ops_or_fault HasEdition mode inside p.0 fault p.2 (template_fault mode fault v)))
      (subst (Placed mode other m f) e (place_by_head mode other w))
  one_place mode fault (after_token f rest o n e v) other m w =
      let p = subst (Placed mode other m f) e (place_by_head mode other w) in
      ap (λ i. passed f rest + i) (one_place mode fault v other p.0 p.1) ∙ sym p.2
  one_place mode fault (after_variable f rest name span specifier n e v) other m w =
      let p = subst (Placed mode other m f) e (place_by_head mode other w) in
      ap (λ i. passed f rest + i) (one_place mode fault v other p.0 p.1) ∙ sym p.2
  one_place mode fault (after_group f inside rest d body n e b v) other m w =
      one_of (λ p. absurd (ops_or_fault HasEdition mode inside body other b (template_fault mode other p.1)))
      (λ p. ap (λ i. passed f rest + i) (one_place mode fault v other p.1 p.3) ∙ sym p.4)
      (subst (Placed mode other m f) e (place_by_head mode other w))
  one_place mode fault (after_repetition f inside rest s repeat body n e b v) other m w =
      one_of (λ p. absurd (ops_or_fault HasEdition mode inside body other b (template_fault mode other p.1)))
      (λ p. ap (λ i. passed f rest + i) (one_place mode fault v other p.1 p.3) ∙ sym p.4)
      (subst (Placed mode other m f) e (place_by_head mode other w))
