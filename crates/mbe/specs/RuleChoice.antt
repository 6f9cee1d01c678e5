-- The choice of a rule: definitions for contracts of private code.
use Rattle.std.specs.Prelude.{◌≡◌, ℕ, Bool, true, ◌||◌, ◌&&◌, nat_lt, nat_eq, if◌then◌else◌, List}
use Rattle.std.specs.Prelude.{slice_get, Contains, Option, Some, None}
use Rattle.mbe_tt.specs.declared.span.Span.{Span}
use Rattle.mbe_tt.specs.Trees.Top.{Top, top_group}
use Rattle.mbe_tt.specs.Grammars.Grammar.{Grammar}
use Rattle.mbe_semantics.specs.declared.macro_call_style.MacroCallStyle.{MacroCallStyle}
use Rattle.mbe_semantics.specs.Syntax.Definition.{Rule}
use Rattle.mbe_semantics.specs.Syntax.Nullable.{Checked}
use Rattle.mbe_semantics.specs.Readings.Item.{Items}
use Rattle.mbe_semantics.specs.Readings.Ambiguity.{Fits}
use Rattle.mbe_semantics.specs.Bindings.Environment.{environment_of}
use Rattle.mbe_semantics.specs.Transcription.Substitution.{IsSubstitution}
use Rattle.mbe_semantics.specs.Expansion.Expansion.{Applies, IsExpansion, FirstThatEnds, NoneEnds}
use Rattle.mbe_semantics.specs.Expansion.Recovery.{HasStyle, IsStyledAt}
use Rattle.mbe_semantics.specs.Expansion.Macro.{arm_of}
use Rattle.mbe_ops.specs.Errors.ErrorViews.{error_of}
use Rattle.mbe_bindings.specs.BindingViews.{env_of}
use Rattle.mbe_matcher.specs.Fronts.{starts_with_wrong_token}
use Rattle.mbe_parser.specs.RuleViews.{rule_of}
use Rattle.mbe.specs.ClosestRule.{IsMatchFailed, IsRecovered, ComesNear, IsNearest}
use Rattle.mbe.specs.declared.expander.Candidate.{Candidate}
use Rattle.mbe.specs.declared.expander.RuleChoice.{RuleChoice}
use Rattle.mbe.specs.declared.expander.RuleChoice.TheVariants as chosen
use Rattle.mbe.specs.declared.expander.Nearness.{Nearness}
use Rattle.mbe.specs.declared.expander.RuleFailure.{RuleFailure}
use Rattle.mbe.specs.declared.expander.RuleFailure.TheVariants as failure
use Rattle.mbe.specs.declared.expander.RuleOutcome.{RuleOutcome}
use Rattle.mbe.specs.declared.expander.RuleOutcome.TheVariants as outcome

-- no pattern has a refused repetition
abbrev pub AreChecked : List Rule → Type 0
AreChecked rules = (n : ℕ) (r : Rule) → slice_get rules n ≡ Some r → Checked r.reads

-- a candidate's index, and how near it comes
abbrev pub candidate_seen : {A : Type 0} → Candidate A → ℕ × Nearness
candidate_seen c = (c.idx, c.nearness)

-- fewer trees are unmatched, or as many and more is bound
abbrev pub is_nearer : Nearness → Nearness → Bool
is_nearer n than = nat_lt n.unmatched than.unmatched || nat_eq n.unmatched than.unmatched
    && nat_lt than.bound n.bound

-- the next candidate if it is nearer than the best before it, else the best
abbrev pub nearer_of : {A : Type 0} → Option (Candidate A) → Candidate A → Candidate A
nearer_of None next = next
nearer_of (Some best) next = if is_nearer next.nearness best.nearness then next else best

-- how near the rule comes
abbrev pub IsNearness : Grammar → Span → Top → Rule → Nearness → Type 0
IsNearness g call_site input r n = ComesNear g call_site input r n.unmatched n.bound

-- why a rule doesn't apply: its match failed; its template has a fault; or it begins with another
-- token than the argument
abbrev pub IsRuleFailure : {A : Type 0} → Grammar → (Span → Span → Type 0) → Span → Top → Rule
    → RuleFailure A → Type 0
IsRuleFailure g Marks call_site input r (failure.MatchFailed bindings err) =
    IsMatchFailed g call_site input r (error_of err) (env_of bindings)
IsRuleFailure g Marks call_site input r (failure.Faulty tree err) =
    IsRecovered g call_site input Marks r (top_group tree) (Some (error_of err))
    × ((is : Items) × Fits g r.reads input.1 is)
IsRuleFailure g Marks call_site input r failure.OtherStart =
    Checked r.reads × (starts_with_wrong_token g.dialect r.reads input.1 ≡ true)

-- a candidate is the rule at its index, with the reason why it doesn't apply
pub record IsCandidate {A : Type 0} (g : Grammar) (Marks : Span → Span
    → Type 0) (call_site : Span) (input : Top)
    (style : MacroCallStyle)
    (rs : List Rule) (c : Candidate A) : Type 0 where
  pub styled : IsStyledAt rs style c.idx (rule_of c.rule.now)
  pub failure : IsRuleFailure g Marks call_site input (rule_of c.rule.now) c.failure

-- the outcome of one rule, in a call of its style
abbrev pub IsRuleOutcome : {A : Type 0} → Grammar → (Span → Span → Type 0) → Span → Top → Rule
    → RuleOutcome A → Type 0
IsRuleOutcome g Marks call_site input r (outcome.Applies tree) =
    (a : Applies g r.style input.1 r)
    × IsSubstitution g Marks call_site (environment_of a.items) r.writes
    (top_group tree)
IsRuleOutcome g Marks call_site input r (outcome.Fails n failure) =
    (Applies g r.style input.1 r → ⊥) × IsNearness g call_site input r n
    × IsRuleFailure g Marks call_site input r failure

-- the outcome of all rules: the first that applies, the first that ends the call, or else the
-- closest one of the style
abbrev pub IsChosen : {A : Type 0} → Grammar → (Span → Span → Type 0) → MacroCallStyle → Span → Top
    → List Rule
    → RuleChoice A → Type 0
IsChosen g Marks style call_site input rs chosen.NoRule = HasStyle rs style → ⊥
IsChosen g Marks style call_site input rs (chosen.Expanded tree index) =
    (n : ℕ) × IsExpansion g style input.1 Marks call_site rs n (top_group tree) × (index ≡ arm_of n)
IsChosen g Marks style call_site input rs (chosen.Ended c) =
    FirstThatEnds g style input.1 rs c.idx (rule_of c.rule.now)
    × IsRuleFailure g Marks call_site input (rule_of c.rule.now) c.failure
IsChosen g Marks style call_site input rs (chosen.Closest c) =
    ((r : Rule) → Contains rs r → Applies g style input.1 r → ⊥) × NoneEnds g style input.1 rs
    × IsNearest g call_site input style rs c.idx (rule_of c.rule.now)
    × IsRuleFailure g Marks call_site input (rule_of c.rule.now) c.failure
