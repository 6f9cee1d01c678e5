-- Where the parts of a rule are.
use Rattle.std.specs.Prelude.{◌≡◌, ◌≢◌, ◌≤◌, ◌+◌, ℕ, suc, List, [], ◌∷◌, ◌++◌, length, Some, refl}
use Rattle.std.proofs.Common.{ap, sym, ◌∙◌, subst, arith, length-append}
use Rattle.mbe_tt.specs.declared.span.SyntaxContext.{SyntaxContext}
use Rattle.mbe_tt.specs.declared.span.Edition.{Edition}
use Rattle.mbe_tt.specs.Trees.Tree.{Forest, none, flat_len, rest_of, passed}
use Rattle.mbe_semantics.specs.Syntax.Template.{Fault}
use Rattle.mbe_semantics.specs.Syntax.Definition.{Rule, after_separator}
use Rattle.mbe_parser.specs.RuleResults.{ReadsRule}
use Rattle.mbe_parser.specs.declared.rules.Rule as code
use Rattle.mbe_parser.specs.RuleViews.{rule_of, rules_seen}
use Rattle.mbe_parser.proofs.RuleReading.{IsSeparated, following-some, following-none}
use Rattle.mbe_parser.specs.FaultOffsets.{RuleFaultAt, RulesFaultAt, in_rule, unseparated, separated}

-- ---- one rule after the other

module _ (HasEdition : SyntaxContext → Edition → Type 0) (separators : List ℕ) (missing : Fault) where
  -- a fault of the trees that are left is one of all, after so many rules
  pub record SoFar (rules : ℕ) (whole left : Forest) : Type 0 where
    pub at : (fault : Fault) (rule n : ℕ) → RulesFaultAt HasEdition separators missing fault left rule n
        → RulesFaultAt HasEdition separators missing fault whole (rules + rule) (passed whole left + n)
    pub shorter : flat_len left ≤ flat_len whole

  pub so_far-start : (f : Forest) → SoFar 0 f f
  so_far-start f = record {
    at = λ fault rule n w.
        let e : rule ≡ 0 + rule = omega arith in
        let p : n ≡ passed f f + n = omega arith in
        subst (λ (k : ℕ). RulesFaultAt HasEdition separators missing fault f k (passed f f + n)) e
        (subst (λ (k : ℕ). RulesFaultAt HasEdition separators missing fault f rule k) p w);
    shorter = omega arith;
  }

  -- a fault after as many rules, at the same place
  pub same_rules_place : (fault : Fault) (f : Forest) (rule k n m : ℕ) → rule ≡ k → n ≡ m
      → RulesFaultAt HasEdition separators missing fault f rule n
      → RulesFaultAt HasEdition separators missing fault f k m
  same_rules_place fault f rule k n m e p w =
      subst (λ (i : ℕ). RulesFaultAt HasEdition separators missing fault f i m) e
      (subst (λ (i : ℕ). RulesFaultAt HasEdition separators missing fault f rule i) p w)

  -- the same number of rules
  pub so_far-counted : (whole left : Forest) (n m : ℕ) → n ≡ m → SoFar n whole left → SoFar m whole left
  so_far-counted whole left n m e s = subst (λ (k : ℕ). SoFar k whole left) e s

  module _ (rules : ℕ) (whole left : Forest) (s : SoFar rules whole left) where
    -- one rule more, with a separator after it
    pub so_far-step : (r : Rule) (following rest : Forest) → ReadsRule HasEdition left r following
        → IsSeparated separators following → rest ≡ rest_of following → flat_len rest ≤ flat_len left
        → SoFar (rules + 1) whole rest
    so_far-step r following rest reads e l h =
        let shorter : flat_len left ≤ flat_len whole = s.shorter in
        let back : after_separator separators reads.rule_trees.back ≡ Some rest =
        ap (after_separator separators) reads.following
        ∙ (following-some separators following e ∙ ap Some (sym l)) in
        record {
          at = λ fault rule n w.
              let k : rules + suc rule ≡ (rules + 1) + rule = omega arith in
              let p : passed whole left + (passed left rest + n) ≡ passed whole rest + n = omega arith in
              same_rules_place fault whole _ _ _ _ k p (s.at fault (suc rule) (passed left rest + n)
              (separated left rest reads.rule_trees r rule n reads.at reads.parts back w));
          shorter = omega arith;
        }

    -- the next rule has a fault
    pub at_rule : (fault : Fault) (n : ℕ) → left ≢ none → RuleFaultAt HasEdition fault left n
        → RulesFaultAt HasEdition separators missing fault whole rules (passed whole left + n)
    at_rule fault n some w =
        let k : rules + 0 ≡ rules = omega arith in
        same_rules_place fault whole _ _ _ _ k refl (s.at fault 0 n (in_rule left n some w))

    -- nothing separates the next rule from what is after it
    pub at_stray : (r : Rule) (following : Forest) → ReadsRule HasEdition left r following
        → following ≢ none → (IsSeparated separators following → ⊥) → flat_len following ≤ flat_len left
        → RulesFaultAt HasEdition separators missing missing whole (rules + 1) (passed whole following)
    at_stray r following reads some n h =
        let shorter : flat_len left ≤ flat_len whole = s.shorter in
        let same : flat_len reads.rule_trees.back ≡ flat_len following = ap flat_len reads.following in
        let p : passed whole left + passed left reads.rule_trees.back ≡ passed whole following =
        omega (arith, same) in
        same_rules_place missing whole _ _ _ _ refl p (s.at missing 1 (passed left reads.rule_trees.back)
        (unseparated left reads.rule_trees r reads.at reads.parts
        (ap (after_separator separators) reads.following ∙ following-none separators following some n) refl))

-- a fault at the same place
pub rule_placed : (HasEdition : SyntaxContext → Edition → Type 0) (fault : Fault) (f : Forest) (n m : ℕ) → n ≡ m
    → RuleFaultAt HasEdition fault f n → RuleFaultAt HasEdition fault f m
rule_placed HasEdition fault f n m e w = subst (λ (k : ℕ). RuleFaultAt HasEdition fault f k) e w

-- one more at the end
pub length-push : {A : Type 0} (before : List A) (x : A) → length (before ++ x ∷ []) ≡ length before + 1
length-push before x = length-append before (x ∷ [])

-- the only rule that was pushed
pub one_pushed : {A : Type 0} (before after : List (code.Rule A)) (r : code.Rule A) → before ≡ []
    → after ≡ before ++ r ∷ [] → rules_seen after ≡ rule_of r ∷ []
one_pushed before after r n e = ap rules_seen e ∙ ap (λ xs. rules_seen (xs ++ r ∷ [])) n
