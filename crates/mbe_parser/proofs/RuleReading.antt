-- What one rule of a definition says of all its rules.
use Rattle.std.specs.Prelude.{◌≡◌, ◌≢◌, ◌==◌, ℕ, Bool, true, false, List, [], ◌∷◌, ◌++◌, Option, Some, None}
use Rattle.std.specs.Prelude.{if◌then◌else◌, refl}
use Rattle.std.proofs.Common.{ap, sym, ◌∙◌, subst, append-nil}
use Rattle.std.specs.List.{Contains, list_any}
use Rattle.std.proofs.lemmas.Option.{none-some, same_Some}
use Rattle.std.proofs.lemmas.Bool.{eqb-true}
use Rattle.std.proofs.lemmas.Cmp.{nat_eq_equiv}
use Rattle.std.proofs.lemmas.Map.Views.{list_any-from_Contains, Contains-from_any}
use Rattle.mbe_tt.specs.Trees.Leaf.{literal, punct, ident}
use Rattle.mbe_tt.specs.Trees.Tree.{Forest, none, leaf, group, rest_of, front_punct}
use Rattle.mbe_tt.specs.declared.tt.Punct.{Punct}
use Rattle.mbe_tt.specs.declared.span.SyntaxContext.{SyntaxContext}
use Rattle.mbe_tt.specs.declared.span.Edition.{Edition}
use Rattle.mbe_semantics.specs.Syntax.Template.{Fault}
use Rattle.mbe_semantics.specs.Syntax.Definition.{Rule, Rules, ended, unseparated, separated, after_separator}
use Rattle.mbe_parser.specs.declared.rules.Rule as code
use Rattle.mbe_parser.specs.RuleResults.{ReadsRule}
use Rattle.mbe_parser.specs.RuleViews.{rule_of, rules_seen}
use Rattle.mbe_parser.specs.FaultOffsets.{RuleFaultAt}
use Rattle.mbe_parser.proofs.PlaceLaws.{rule_fault}

-- ---- what separates two rules

module _ (separators : List ℕ) where
  -- one of the chars is in front
  abbrev pub IsSeparated : Forest → Type 0
  IsSeparated f = (p : Punct) × (front_punct f ≡ Some p) × Contains separators p.char

  after_if : (b : Bool) (rest : Forest) → b ≡ true → (if b then Some rest else None) ≡ Some rest
  after_if b rest e = ap (λ (c : Bool). if c then Some rest else None) e

  nothing_if : (b : Bool) (rest : Forest) → (b ≡ true → ⊥) → (if b then Some rest else None) ≡ None
  nothing_if true rest n = absurd (n refl)
  nothing_if false rest n = refl

  pub following-some : (f : Forest) → IsSeparated f → after_separator separators f ≡ Some (rest_of f)
  following-some none (p, e, k) = absurd (none-some p e)
  following-some (leaf (literal l) rest) (p, e, k) = absurd (none-some p e)
  following-some (leaf (ident i) rest) (p, e, k) = absurd (none-some p e)
  following-some (group d inside rest) (p, e, k) = absurd (none-some p e)
  following-some (leaf (punct q) rest) (p, e, k) =
      after_if (list_any (λ c. q.char == c) separators) rest
      (list_any-from_Contains nat_eq_equiv q.char separators
      (subst (λ (x : Punct). Contains separators x.char) (sym (same_Some q p e)) k))

  pub following-none : (f : Forest) → f ≢ none → (IsSeparated f → ⊥) → after_separator separators f ≡ None
  following-none none n k = absurd (n refl)
  following-none (leaf (literal l) rest) n k = refl
  following-none (leaf (ident i) rest) n k = refl
  following-none (group d inside rest) n k = refl
  following-none (leaf (punct q) rest) n k =
      nothing_if (list_any (λ c. q.char == c) separators) rest
      (λ h. k (q, refl, Contains-from_any eqb-true q.char separators h))

-- ---- all rules

module _ (HasEdition : SyntaxContext → Edition → Type 0) (separators : List ℕ) (missing : Fault) where
  -- the rules that are after those that were read
  abbrev pub Continues : List Rule → Forest → Forest → Type 0
  Continues before whole left = (rs : List Rule) (x : Option Fault) → Rules HasEdition separators missing left rs x
      → Rules HasEdition separators missing whole (before ++ rs) x

  pub at_fault : (x : Fault) (before : List Rule) (whole left : Forest) (n : ℕ) → Continues before whole left
      → left ≢ none → RuleFaultAt HasEdition x left n → Rules HasEdition separators missing whole before (Some x)
  at_fault x before whole left n c some w =
      subst (λ (rs : List Rule). Rules HasEdition separators missing whole rs (Some x)) (append-nil before)
      (c [] (Some x) (rule_fault HasEdition separators missing x left some w))

  pub at_end : (before : List Rule) (whole left : Forest) → Continues before whole left → left ≡ none
      → Rules HasEdition separators missing whole before None
  at_end before whole left c e =
      subst (λ (rs : List Rule). Rules HasEdition separators missing whole rs None) (append-nil before)
      (c [] None (subst (λ (g : Forest). Rules HasEdition separators missing g [] None) (sym e) ended))

  -- one rule more, with a separator after it
  pub one_more : (before : List Rule) (r : Rule) (whole left following rest : Forest) → Continues before whole left
      → ReadsRule HasEdition left r following
      → IsSeparated separators following → rest ≡ rest_of following → (rs : List Rule) (x : Option Fault)
      → Rules HasEdition separators missing rest rs x
      → Rules HasEdition separators missing whole (before ++ (r ∷ rs)) x
  one_more before r whole left following rest c reads e at rs x h =
      c (r ∷ rs) x (separated left rest reads.rule_trees r rs x reads.at reads.parts
      (ap (after_separator separators) reads.following ∙ (following-some separators following e ∙ ap Some (sym at))) h)

  -- the last rule, with nothing after it
  pub last_rule : (before : List Rule) (r : Rule) (whole left following : Forest) → Continues before whole left
      → ReadsRule HasEdition left r following
      → following ≡ none → Rules HasEdition separators missing whole (before ++ r ∷ []) None
  last_rule before r whole left following c reads e =
      c (r ∷ []) None (separated left none reads.rule_trees r [] None reads.at reads.parts
      (ap (after_separator separators) (reads.following ∙ e)) ended)

  -- a rule with no separator after it
  pub stray_rule : (before : List Rule) (r : Rule) (whole left following : Forest) → Continues before whole left
      → ReadsRule HasEdition left r following
      → following ≢ none → (IsSeparated separators following → ⊥)
      → Rules HasEdition separators missing whole (before ++ r ∷ []) (Some missing)
  stray_rule before r whole left following c reads n e =
      c (r ∷ []) (Some missing) (unseparated left reads.rule_trees r reads.at reads.parts
      (ap (after_separator separators) reads.following ∙ following-none separators following n e))

-- rules that were written one after the other
pub rules-push : {A : Type 0} (before : List (code.Rule A)) (r : code.Rule A)
    → rules_seen (before ++ r ∷ []) ≡ rules_seen before ++ rule_of r ∷ []
rules-push [] r = refl
rules-push (b ∷ before) r = ap (λ (rs : List Rule). rule_of b ∷ rs) (rules-push before r)

pub rules-push-more : {A : Type 0} (before : List (code.Rule A)) (r : code.Rule A) (rs : List Rule)
    → rules_seen (before ++ r ∷ []) ++ rs ≡ rules_seen before ++ (rule_of r ∷ rs)
rules-push-more [] r rs = refl
rules-push-more (b ∷ before) r rs = ap (λ (xs : List Rule). rule_of b ∷ xs) (rules-push-more before r rs)
