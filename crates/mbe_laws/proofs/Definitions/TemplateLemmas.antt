-- Trees that are ops have no fault. With one edition a context, the ops are one, and so are a definition's rules.
use Rattle.std.specs.Prelude.{◌≡◌, ◌⊎◌, Bool, true, false, List, [], ◌∷◌, ℕ, codes, Option, Some, None, Result, Ok, Err}
use Rattle.std.specs.Prelude.{refl}
use Rattle.std.proofs.Common.{sym, ap, subst, ◌∙◌, inl, inr}
use Rattle.std.specs.Str.{bytes_eq}
use Rattle.std.proofs.lemmas.Slice.Eq.{bytes_eq-Decides}
use Rattle.mbe_tt.specs.declared.span.SyntaxContext.{SyntaxContext}
use Rattle.mbe_tt.specs.declared.span.Edition.{Edition}
use Rattle.mbe_tt.specs.Trees.Leaf.{Ident}
use Rattle.mbe_tt.specs.Trees.Tree.{Forest, none}
use Rattle.mbe_semantics.specs.declared.fragment_kinds.MetaVarKind.{MetaVarKind}
use Rattle.mbe_semantics.specs.Syntax.Op as ops
use Rattle.mbe_semantics.specs.Syntax.Op.{Op, Ops, no_ops, op}
use Rattle.mbe_semantics.specs.Syntax.Template.{Mode, pattern, template, Fault, Head, ended, one, typed, opens_group}
use Rattle.mbe_semantics.specs.Syntax.Template.{opens_repetition, head, pat_kind, expr_kind, Specifies, dated_pat}
use Rattle.mbe_semantics.specs.Syntax.Template.{dated_expr, undated, Template, nothing, token, variable, grouped}
use Rattle.mbe_semantics.specs.Syntax.Template.{repeated, TemplateFault, here, in_group, in_repetition, after_token}
use Rattle.mbe_semantics.specs.Syntax.Template.{after_variable, following_group, after_repetition}
use Rattle.mbe_semantics.specs.Syntax.Definition as definition
use Rattle.mbe_semantics.specs.Syntax.Definition.{Rule, RuleTrees, rule_trees_at, after_separator, AreParts, PartsFault}
use Rattle.mbe_semantics.specs.Syntax.Definition.{in_pattern, in_template, Rules, no_rule, faulty_rule, unseparated}
use Rattle.mbe_semantics.specs.Syntax.Definition.{separated, with_refusal, IsMacroOfArguments, one_rule, faulty}
use Rattle.mbe_semantics.specs.Laws.Laws.{HasOneEdition, OpsOrFault, OneTemplate, OneDefinition}

both : (b : Bool) → b ≡ true → b ≡ false → ⊥
both b e f = cc

-- two texts that differ
other_text : (s a b : List ℕ) → bytes_eq a b ≡ false → bytes_eq s a ≡ true → bytes_eq s b ≡ true → ⊥
other_text s a b d e f =
    let p : s ≡ a = (bytes_eq-Decides s a).0 e in
    let q : s ≡ b = (bytes_eq-Decides s b).0 f in
    both _ ((bytes_eq-Decides a b).1 (sym p ∙ q)) d

not_ok : (r : Result RuleTrees Fault) (e : Fault) (o : RuleTrees) → r ≡ Err e → r ≡ Ok o → ⊥
not_ok r e o p q = cc

one_of : {A B C : Type 0} → (A → C) → (B → C) → A ⊎ B → C
one_of f g (inl a) = f a
one_of f g (inr b) = g b

module _ (HasEdition : SyntaxContext → Edition → Type 0) where
  -- the trees after the head, and inside it, are ops
  abbrev Parts : Mode → Ops → Result Head Fault → Type 0
  Parts mode os (Err e) = ⊥
  Parts mode os (Ok ended) = os ≡ no_ops
  Parts mode os (Ok (one o rest)) = (rs : Ops) × Template HasEdition mode rest rs × (os ≡ op o rs)
  Parts mode os (Ok (typed name span specifier rest)) =
      (kind : Option MetaVarKind) × (rs : Ops) × Specifies HasEdition specifier kind × Template HasEdition mode rest rs
      × (os ≡ op (ops.variable name kind span) rs)
  Parts mode os (Ok (opens_group d inside rest)) =
      (body : Ops) × (rs : Ops) × Template HasEdition mode inside body × Template HasEdition mode rest rs
      × (os ≡ op (ops.group d body) rs)
  Parts mode os (Ok (opens_repetition s repeat inside rest)) =
      (body : Ops) × (rs : Ops) × Template HasEdition mode inside body × Template HasEdition mode rest rs
      × (os ≡ op (ops.repetition body s repeat) rs)

  parts_of : (mode : Mode) {f : Forest} {os : Ops} → Template HasEdition mode f os → Parts mode os (head mode f)
  parts_of mode (nothing f e) = subst (Parts mode no_ops) (sym e) refl
  parts_of mode (token f rest o os e t) = subst (Parts mode (op o os)) (sym e) (os, t, refl)
  parts_of mode (variable f rest name span specifier kind os e s t) =
      subst (Parts mode (op (ops.variable name kind span) os)) (sym e) (kind, os, s, t, refl)
  parts_of mode (grouped f inside rest d body os e b t) =
      subst (Parts mode (op (ops.group d body) os)) (sym e) (body, os, b, t, refl)
  parts_of mode (repeated f inside rest s repeat body os e b t) =
      subst (Parts mode (op (ops.repetition body s repeat) os)) (sym e) (body, os, b, t, refl)

  -- ---- no fault

  no_fault : (mode : Mode) (fault : Fault) {f : Forest} → TemplateFault HasEdition mode fault f → (os : Ops)
      → Template HasEdition mode f os → ⊥
  no_fault mode fault (here f e) os t = subst (Parts mode os) e (parts_of mode t)
  no_fault mode fault (in_group f inside rest d e w) os t = let p =
      subst (Parts mode os) e (parts_of mode t) in no_fault mode fault w p.0 p.2
  no_fault mode fault (in_repetition f inside rest s repeat e w) os t = let p =
      subst (Parts mode os) e (parts_of mode t) in no_fault mode fault w p.0 p.2
  no_fault mode fault (after_token f rest o e w) os t = let p =
      subst (Parts mode os) e (parts_of mode t) in no_fault mode fault w p.0 p.1
  no_fault mode fault (after_variable f rest name span specifier e w) os t = let p =
      subst (Parts mode os) e (parts_of mode t) in no_fault mode fault w p.1 p.3
  no_fault mode fault (following_group f inside rest d body e b w) os t = let p =
      subst (Parts mode os) e (parts_of mode t) in no_fault mode fault w p.1 p.3
  no_fault mode fault (after_repetition f inside rest s repeat body e b w) os t = let p =
      subst (Parts mode os) e (parts_of mode t) in no_fault mode fault w p.1 p.3

  pub ops_or_fault : OpsOrFault HasEdition
  ops_or_fault mode f os fault t w = no_fault mode fault w os t

  -- ---- one fault

  abbrev FaultParts : Mode → Fault → Result Head Fault → Type 0
  FaultParts mode fault (Err e) = e ≡ fault
  FaultParts mode fault (Ok ended) = ⊥
  FaultParts mode fault (Ok (one o rest)) = TemplateFault HasEdition mode fault rest
  FaultParts mode fault (Ok (typed name span specifier rest)) = TemplateFault HasEdition mode fault rest
  FaultParts mode fault (Ok (opens_group d inside rest)) =
      TemplateFault HasEdition mode fault inside
      ⊎ ((body : Ops) × Template HasEdition mode inside body × TemplateFault HasEdition mode fault rest)
  FaultParts mode fault (Ok (opens_repetition s repeat inside rest)) =
      TemplateFault HasEdition mode fault inside
      ⊎ ((body : Ops) × Template HasEdition mode inside body × TemplateFault HasEdition mode fault rest)

  fault_parts : (mode : Mode) (fault : Fault) {f : Forest} → TemplateFault HasEdition mode fault f
      → FaultParts mode fault (head mode f)
  fault_parts mode fault (here f e) = subst (FaultParts mode fault) (sym e) refl
  fault_parts mode fault (in_group f inside rest d e w) = subst (FaultParts mode fault) (sym e) (inl w)
  fault_parts mode fault (in_repetition f inside rest s repeat e w) = subst (FaultParts mode fault) (sym e) (inl w)
  fault_parts mode fault (after_token f rest o e w) = subst (FaultParts mode fault) (sym e) w
  fault_parts mode fault (after_variable f rest name span specifier e w) = subst (FaultParts mode fault) (sym e) w
  fault_parts mode fault (following_group f inside rest d body e b w) =
      subst (FaultParts mode fault) (sym e) (inr (body, b, w))
  fault_parts mode fault (after_repetition f inside rest s repeat body e b w) =
      subst (FaultParts mode fault) (sym e) (inr (body, b, w))

  same_fault : (mode : Mode) (fault : Fault) {f : Forest} → TemplateFault HasEdition mode fault f → (other : Fault)
      → TemplateFault HasEdition mode other f → fault ≡ other
  same_fault mode fault (here f e) other w = subst (FaultParts mode other) e (fault_parts mode other w)
  same_fault mode fault (in_group f inside rest d e v) other w =
      one_of (λ u. same_fault mode fault v other u) (λ p. absurd (no_fault mode fault v p.0 p.1))
      (subst (FaultParts mode other) e (fault_parts mode other w))
  same_fault mode fault (in_repetition f inside rest s repeat e v) other w =
      one_of (λ u. same_fault mode fault v other u) (λ p. absurd (no_fault mode fault v p.0 p.1))
      (subst (FaultParts mode other) e (fault_parts mode other w))
  same_fault mode fault (after_token f rest o e v) other w =
      same_fault mode fault v other (subst (FaultParts mode other) e (fault_parts mode other w))
  same_fault mode fault (after_variable f rest name span specifier e v) other w =
      same_fault mode fault v other (subst (FaultParts mode other) e (fault_parts mode other w))
  same_fault mode fault (following_group f inside rest d body e b v) other w =
      one_of (λ u. absurd (no_fault mode other u body b)) (λ p. same_fault mode fault v other p.2)
      (subst (FaultParts mode other) e (fault_parts mode other w))
  same_fault mode fault (after_repetition f inside rest s repeat body e b v) other w =
      one_of (λ u. absurd (no_fault mode other u body b)) (λ p. same_fault mode fault v other p.2)
      (subst (FaultParts mode other) e (fault_parts mode other w))

  -- ---- one list of ops

  module _ (fn : HasOneEdition HasEdition) where
    same_kind : (specifier : Ident) {kind : Option MetaVarKind} → Specifies HasEdition specifier kind
        → (other : Option MetaVarKind) → Specifies HasEdition specifier other → kind ≡ other
    same_kind specifier (dated_pat e p a) other (dated_pat d q b) =
        ap (λ x. Some (pat_kind x)) (fn specifier.span.ctx e d a b)
    same_kind specifier (dated_pat e p a) other (dated_expr d q b) =
        absurd (other_text specifier.sym (codes "pat") (codes "expr") refl p q)
    same_kind specifier (dated_pat e p a) other (undated q r) = absurd (both _ p q)
    same_kind specifier (dated_expr e p a) other (dated_pat d q b) =
        absurd (other_text specifier.sym (codes "expr") (codes "pat") refl p q)
    same_kind specifier (dated_expr e p a) other (dated_expr d q b) =
        ap (λ x. Some (expr_kind x)) (fn specifier.span.ctx e d a b)
    same_kind specifier (dated_expr e p a) other (undated q r) = absurd (both _ p r)
    same_kind specifier (undated p r) other (dated_pat d q b) = absurd (both _ q p)
    same_kind specifier (undated p r) other (dated_expr d q b) = absurd (both _ q r)
    same_kind specifier (undated p r) other (undated q s) = refl

    same_ops : (mode : Mode) {f : Forest} {os : Ops} → Template HasEdition mode f os → (others : Ops)
        → Template HasEdition mode f others → os ≡ others
    same_ops mode (nothing f e) others t = sym (subst (Parts mode others) e (parts_of mode t))
    same_ops mode (token f rest o os e s) others t =
        let p = subst (Parts mode others) e (parts_of mode t) in ap (op o) (same_ops mode s p.0 p.1) ∙ sym p.2
    same_ops mode (variable f rest name span specifier kind os e k s) others t =
        let p = subst (Parts mode others) e (parts_of mode t) in
        ap (λ x. op (ops.variable name x span) os) (same_kind specifier k p.0 p.2)
        ∙ ap (op (ops.variable name p.0 span)) (same_ops mode s p.1 p.3) ∙ sym p.4
    same_ops mode (grouped f inside rest d body os e b s) others t =
        let p = subst (Parts mode others) e (parts_of mode t) in
        ap (λ x. op (ops.group d x) os) (same_ops mode b p.0 p.2) ∙ ap (op (ops.group d p.0)) (same_ops mode s p.1 p.3)
        ∙ sym p.4
    same_ops mode (repeated f inside rest w repeat body os e b s) others t =
        let p = subst (Parts mode others) e (parts_of mode t) in
        ap (λ x. op (ops.repetition x w repeat) os) (same_ops mode b p.0 p.2)
        ∙ ap (op (ops.repetition p.0 w repeat)) (same_ops mode s p.1 p.3) ∙ sym p.4

    -- ---- one list of rules

    same_rule : (o : RuleTrees) (r q : Rule) → AreParts HasEdition o r → AreParts HasEdition o q → r ≡ q
    same_rule o r q a b =
        ap (λ x. record r { style = x }) (a.style ∙ sym b.style)
        ∙ ap (λ x. record r { style = q.style; reads = x }) (same_ops pattern a.reads q.reads b.reads)
        ∙ ap (λ x. record q { writes = x }) (same_ops template a.writes q.writes b.writes)

    no_parts_fault : (o : RuleTrees) (r : Rule) (fault : Fault) → AreParts HasEdition o r
        → PartsFault HasEdition o fault → ⊥
    no_parts_fault o r fault a (in_pattern w) = no_fault pattern fault w r.reads a.reads
    no_parts_fault o r fault a (in_template reads t w) = no_fault template fault w r.writes a.writes

    same_parts_fault : (o : RuleTrees) (fault other : Fault) → PartsFault HasEdition o fault
        → PartsFault HasEdition o other → fault ≡ other
    same_parts_fault o fault other (in_pattern v) (in_pattern w) = same_fault pattern fault v other w
    same_parts_fault o fault other (in_pattern v) (in_template reads t w) = absurd (no_fault pattern fault v reads t)
    same_parts_fault o fault other (in_template reads t v) (in_pattern w) = absurd (no_fault pattern other w reads t)
    same_parts_fault o fault other (in_template reads t v) (in_template more u w) = same_fault template fault v other w

    module _ (separators : List ℕ) (missing : Fault) where
      abbrev Following : List Rule → Option Fault → Rule → Option Forest → Type 0
      Following rs fault r None = (rs ≡ r ∷ []) × (fault ≡ Some missing)
      Following rs fault r (Some rest) = (qs : List Rule) × Rules HasEdition separators missing rest qs fault
          × (rs ≡ r ∷ qs)

      abbrev RuleParts : List Rule → Option Fault → Result RuleTrees Fault → Type 0
      RuleParts rs fault (Err e) = (rs ≡ []) × (fault ≡ Some e)
      RuleParts rs fault (Ok o) =
          ((e : Fault) × PartsFault HasEdition o e × (rs ≡ []) × (fault ≡ Some e))
          ⊎ ((r : Rule) × AreParts HasEdition o r × Following rs fault r (after_separator separators o.back))

      begins : {f : Forest} {o : RuleTrees} → rule_trees_at f ≡ Ok o → f ≡ none → ⊥
      begins {f} {o} e n = not_ok (rule_trees_at f) _ o (ap rule_trees_at n) e

      rule_parts : {f : Forest} {rs : List Rule} {fault : Option Fault} → Rules HasEdition separators missing f rs fault
          →
          ((f ≡ none) × (rs ≡ []) × (fault ≡ None)) ⊎ ((f ≡ none → ⊥) × RuleParts rs fault (rule_trees_at f))
      rule_parts definition.ended = inl (refl, refl, refl)
      rule_parts (no_rule l fault d e) = inr (d, subst (RuleParts [] (Some fault)) (sym e) (refl, refl))
      rule_parts (faulty_rule f o fault e w) =
          inr (begins e, subst (RuleParts [] (Some fault)) (sym e) (inl (fault, w, refl, refl)))
      rule_parts (unseparated f o r e a b) =
          inr (
            begins e,
            subst (RuleParts (r ∷ []) (Some missing)) (sym e)
                (inr (r, a, subst (Following (r ∷ []) (Some missing) r) (sym b) (refl, refl))),
          )
      rule_parts (separated f rest o r rs fault e a b t) =
          inr (
            begins e,
            subst (RuleParts (r ∷ rs) fault) (sym e)
                (inr (r, a, subst (Following (r ∷ rs) fault r) (sym b) (rs, t, refl))),
          )

      -- of trees that begin a rule
      at_rule_trees : (f : Forest) (rs : List Rule) (fault : Option Fault) (o : RuleTrees)
          → Rules HasEdition separators missing f rs fault → rule_trees_at f ≡ Ok o → RuleParts rs fault (Ok o)
      at_rule_trees f rs fault o t e = go (rule_parts t)
        where
          go : ((f ≡ none) × (rs ≡ []) × (fault ≡ None)) ⊎ ((f ≡ none → ⊥) × RuleParts rs fault (rule_trees_at f))
              → RuleParts rs fault (Ok o)
          go (inl p) = absurd (begins e p.0)
          go (inr p) = subst (RuleParts rs fault) e p.1

      pub same_rules : {f : Forest} {rs : List Rule} {fault : Option Fault}
          → Rules HasEdition separators missing f rs fault → (qs : List Rule) (other : Option Fault) →
          Rules HasEdition separators missing f qs other → (rs ≡ qs) × (fault ≡ other)
      same_rules definition.ended qs other t = go (rule_parts t)
        where
          go : ((none ≡ none) × (qs ≡ []) × (other ≡ None))
              ⊎ ((none ≡ none → ⊥) × RuleParts qs other (rule_trees_at none)) → ([] ≡ qs) × (None ≡ other)
          go (inl p) = (sym p.1, sym p.2)
          go (inr p) = absurd (p.0 refl)
      same_rules (no_rule l fault d e) qs other t = go (rule_parts t)
        where
          go : ((l ≡ none) × (qs ≡ []) × (other ≡ None)) ⊎ ((l ≡ none → ⊥) × RuleParts qs other (rule_trees_at l))
              → ([] ≡ qs) × (Some fault ≡ other)
          go (inl p) = absurd (d p.0)
          go (inr p) = let q = subst (RuleParts qs other) e p.1 in (sym q.0, sym q.1)
      same_rules (faulty_rule f o fault e w) qs other t = go (at_rule_trees f qs other o t e)
        where
          go : RuleParts qs other (Ok o) → ([] ≡ qs) × (Some fault ≡ other)
          go (inl (e', v, p, q)) = (sym p, ap Some (same_parts_fault o fault e' w v) ∙ sym q)
          go (inr (r, a, p)) = absurd (no_parts_fault o r fault a w)
      same_rules (unseparated f o r e a b) qs other t = go (at_rule_trees f qs other o t e)
        where
          go : RuleParts qs other (Ok o) → (r ∷ [] ≡ qs) × (Some missing ≡ other)
          go (inl (e', v, p, q)) = absurd (no_parts_fault o r e' a v)
          go (inr (q, c, p)) = let m = subst (Following qs other q) b p in
              (ap (λ x. x ∷ []) (same_rule o r q a c) ∙ sym m.0, sym m.1)
      same_rules (separated f rest o r rs fault e a b s) qs other t =
          go (λ ps u. same_rules s ps other u) (at_rule_trees f qs other o t e)
        where
          go : ((ps : List Rule) → Rules HasEdition separators missing rest ps other → (rs ≡ ps) × (fault ≡ other))
              → RuleParts qs other (Ok o) → (r ∷ rs ≡ qs) × (fault ≡ other)
          go more (inl (e', v, p, q)) = absurd (no_parts_fault o r e' a v)
          go more (inr (q, c, p)) =
              let m = subst (Following qs other q) b p in
              let n = more m.0 m.1 in
              (ap (λ x. x ∷ rs) (same_rule o r q a c) ∙ ap (λ x. q ∷ x) n.0 ∙ sym m.2, n.1)

    same_arguments : (arguments body : Forest) (rs qs : List Rule) (fault other : Option Fault) →
        IsMacroOfArguments HasEdition arguments body rs fault → IsMacroOfArguments HasEdition arguments body qs other
        → (rs ≡ qs) × (fault ≡ other)
    same_arguments arguments body rs qs fault other (one_rule r a) (one_rule q b) =
        let e = same_rule _ r q a b in (ap (λ x. x ∷ []) e, ap (λ x. with_refusal (x ∷ []) None) e)
    same_arguments arguments body rs qs fault other (one_rule r a) (faulty e w) = absurd (no_parts_fault _ r e a w)
    same_arguments arguments body rs qs fault other (faulty e w) (one_rule r a) = absurd (no_parts_fault _ r e a w)
    same_arguments arguments body rs qs fault other (faulty e v) (faulty e' w) =
        (refl, ap Some (same_parts_fault _ e e' v w))

  pub one_template : OneTemplate HasEdition
  one_template fn mode f os others s t = same_ops fn mode s others t

  pub one_definition : OneDefinition HasEdition
  one_definition = record {
    rules = λ fn f rs qs fault other p q. same fn _ _ f rs qs fault other p q;
    body = λ fn f rs qs fault other p q. same fn _ _ f rs qs fault other p q;
    arguments = same_arguments;
  }
    where
      same : HasOneEdition HasEdition → (separators : List ℕ) (missing : Fault) (f : Forest) (rs qs : List Rule)
          (fault other : Option Fault) →
          ((first : Option Fault) × Rules HasEdition separators missing f rs first × (fault ≡ with_refusal rs first)) →
          ((first : Option Fault) × Rules HasEdition separators missing f qs first × (other ≡ with_refusal qs first))
          → (rs ≡ qs) × (fault ≡ other)
      same fn separators missing f rs qs fault other p q =
          let s = same_rules fn separators missing p.1 qs q.0 q.1 in
          (s.0, p.2 ∙ ap (λ x. with_refusal x p.0) s.0 ∙ ap (with_refusal qs) s.1 ∙ sym q.2)
