-- The first rule that is refused for a repetition that can read nothing, rule after rule.
use Rattle.std.specs.Prelude.{◌≡◌, ◌≤◌, ◌+◌, ◌||◌, ℕ, suc, Bool, true, false, if◌then◌else◌, refl, List, [], ◌∷◌, ◌++◌}
use Rattle.std.specs.Prelude.{length}
use Rattle.std.specs.Prelude.{Option, Some, None, option_map, is_some, IfSome, Result, Ok}
use Rattle.std.specs.List.{list_any}
use Rattle.std.proofs.Common.{ap, sym, ◌∙◌, subst, arith, length-append}
use Rattle.mbe_tt.specs.declared.span.SyntaxContext.{SyntaxContext}
use Rattle.mbe_tt.specs.declared.span.Edition.{Edition}
use Rattle.mbe_tt.specs.Trees.Tree.{Forest, none, flat_len, rest_of, passed}
use Rattle.mbe_semantics.specs.Syntax.Op.{Ops}
use Rattle.mbe_semantics.specs.Syntax.Nullable.{is_refused}
use Rattle.mbe_semantics.specs.declared.macro_call_style.MacroCallStyle.TheVariants.{FnLike}
use Rattle.mbe_semantics.specs.Syntax.Template.{pattern, template, Fault, empty_repetition, Template}
use Rattle.mbe_semantics.specs.Syntax.Definition.{Rule, RuleTrees, Rules, AreParts, PartsFault, after_separator}
use Rattle.mbe_semantics.specs.Syntax.Definition.{with_refusal, rule_trees_at, IsMacroOfArguments, one_rule, faulty}
use Rattle.mbe_parser.specs.ParserResults.{mode_of}
use Rattle.mbe_parser.specs.RuleResults.{ReadsRule}
use Rattle.mbe_parser.proofs.RuleReading.{IsSeparated, following-some}
use Rattle.mbe_parser.specs.declared.refusal.DefinitionRefusal.TheVariants as why
use Rattle.mbe_parser.specs.declared.refusal.RulesFault.{RulesFault}
use Rattle.mbe_parser.specs.FaultOffsets.{RulesFaultAt, pattern_offset}
use Rattle.mbe_parser.specs.RefusedRepetitions.{EmptyAt, RulesEmptyAt, in_rule, separated, IsEmptyOffset}
use Rattle.mbe_parser.specs.RefusedRepetitions.{IsRuleEmpty}
use Rattle.mbe_parser.specs.RefusedRepetitions.{RefusedAt, by_fault, by_empty, OneRefusedAt, by_empty_of}
use Rattle.mbe_parser.specs.Refusals.{refusal_of, AreRefused, IsOneRefused, first_of, refused}
use Rattle.mbe_parser.specs.Refusals.{empty_in_pattern}

-- a pattern of these is refused
abbrev pub refuses : List Rule → Bool
refuses rs = list_any (λ r. is_refused r.reads) rs

or_assoc : (a b c : Bool) → (a || (b || c)) ≡ ((a || b) || c)
or_assoc true b c = refl
or_assoc false b c = refl

or_false : (a : Bool) → (a || false) ≡ a
or_false true = refl
or_false false = refl

refuses-push : (rs : List Rule) (r : Rule) → refuses (rs ++ r ∷ []) ≡ (refuses rs || is_refused r.reads)
refuses-push [] r = or_false (is_refused r.reads)
refuses-push (q ∷ rs) r =
    ap (λ b. is_refused q.reads || b) (refuses-push rs r)
    ∙ or_assoc (is_refused q.reads) (refuses rs) (is_refused r.reads)

same_trees : (o p : RuleTrees) → ◌≡◌ {A = Result RuleTrees Fault} (Ok o) (Ok p) → o ≡ p
same_trees o p e = cc

-- ---- the pattern of one rule

module _ (HasEdition : SyntaxContext → Edition → Type 0) where
  -- in the rule of these trees
  pub rule_empty : (f : Forest) (o : RuleTrees) (r : Rule) (offset : Option ℕ) (before : ℕ) → rule_trees_at f ≡ Ok o
      → before ≡ pattern_offset f o → IsEmptyOffset HasEdition pattern o.reads r.reads offset
      → IsRuleEmpty HasEdition f r (option_map (λ n. before + n) offset)
  rule_empty f o r None before e p w = w
  rule_empty f o r (Some n) before e p w = (w.0, o, n, e, w.1, ap (λ (k : ℕ). k + n) p)

  -- ---- the one rule of a `macro` with arguments

  module _ (arguments body : Forest) where
    abbrev OneRule : RuleTrees
    OneRule = record { style = FnLike; reads = arguments; writes = body; back = none }

    -- why it is refused, as of any rules
    pub one_first : {rs : List Rule} {why : Option Fault} → IsMacroOfArguments HasEdition arguments body rs why
        → (first : Option Fault) × (why ≡ with_refusal rs first)
    one_first (one_rule r p) = (None, refl)
    one_first (faulty fault p) = (Some fault, refl)

    pub one_faulty : (rs : List Rule) (fault : Fault) → rs ≡ [] → PartsFault HasEdition OneRule fault
        → IsOneRefused HasEdition arguments body rs (Some fault)
    one_faulty rs fault e p =
        subst (λ (xs : List Rule). IsMacroOfArguments HasEdition arguments body xs (Some fault)) (sym e)
        (faulty fault p)

    one_read : (r : Rule) (rs : List Rule) (why : Option Fault) → rs ≡ r ∷ [] → AreParts HasEdition OneRule r
        → with_refusal (r ∷ []) None ≡ why → IsOneRefused HasEdition arguments body rs why
    one_read r rs why e p w =
        subst (λ (xs : List Rule). IsMacroOfArguments HasEdition arguments body xs why) (sym e)
        (subst (λ (x : Option Fault). IsMacroOfArguments HasEdition arguments body (r ∷ []) x) w (one_rule r p))

    -- it is refused for what its pattern has
    pub one_refused : (r : Rule) (rs : List Rule) (offset : Option ℕ) → rs ≡ r ∷ [] → AreParts HasEdition OneRule r
        → IsEmptyOffset HasEdition pattern arguments r.reads offset
        → IsOneRefused HasEdition arguments body rs (option_map (λ x. refusal_of x.fault) (empty_in_pattern offset))
    one_refused r rs None e p w =
        one_read r rs None e p (ap (λ (b : Bool). if b || false then Some empty_repetition else None) w)
    one_refused r rs (Some n) e p w =
        one_read r rs (Some empty_repetition) e p
        (ap (λ (b : Bool). if b || false then Some empty_repetition else None) w.0)

    -- there
    pub one_placed : (reads writes : Ops) (offset : Option ℕ) → Template HasEdition pattern arguments reads
        → Template HasEdition template body writes → IsEmptyOffset HasEdition pattern arguments reads offset
        → IfSome (empty_in_pattern offset)
        (λ x. OneRefusedAt HasEdition arguments body (refusal_of x.fault) (mode_of x.part) x.offset)
    one_placed reads writes None r t w = tt
    one_placed reads writes (Some n) r t w = by_empty_of reads writes n r t w.1

-- ---- rule after rule

module _ (HasEdition : SyntaxContext → Edition → Type 0) (separators : List ℕ) where
  -- an empty repetition at the same place
  same_place : (f : Forest) (rule k n m : ℕ) → rule ≡ k → n ≡ m → RulesEmptyAt HasEdition separators f rule n
      → RulesEmptyAt HasEdition separators f k m
  same_place f rule k n m e p w =
      subst (λ (i : ℕ). RulesEmptyAt HasEdition separators f i m) e
      (subst (λ (i : ℕ). RulesEmptyAt HasEdition separators f rule i) p w)

  -- what was found is the first, if a rule that was read is refused
  abbrev pub Settled : Forest → List Rule → Option RulesFault → Type 0
  Settled whole rs None = refuses rs ≡ false
  Settled whole rs (Some x) = (refuses rs ≡ true) × (x.fault ≡ why.EmptyRepetition)
      × RulesEmptyAt HasEdition separators whole x.rule x.offset

  -- else the first among the trees that are left is the first of all
  abbrev pub Goes : Forest → Forest → ℕ → Option RulesFault → Type 0
  Goes whole left rules None = (k n : ℕ) → RulesEmptyAt HasEdition separators left k n
      → RulesEmptyAt HasEdition separators whole (rules + k) (passed whole left + n)
  Goes whole left rules (Some x) = Unit {0}

  -- one rule more was read
  pub settled-more : (whole left following : Forest) (rs : List Rule) (r : Rule) (x : Option RulesFault)
      (offset : Option ℕ) (before rules : ℕ) → rules ≡ length rs → before ≡ passed whole left → Settled whole rs x
      → Goes whole left (length rs) x → ReadsRule HasEdition left r following → IsRuleEmpty HasEdition left r offset
      → Settled whole (rs ++ r ∷ []) (first_of x offset rules before)
  settled-more whole left following rs r (Some x) offset before rules e p s g reads w =
      (refuses-push rs r ∙ ap (λ b. b || is_refused r.reads) s.0, s.1, s.2)
  settled-more whole left following rs r None None before rules e p s g reads w =
      refuses-push rs r ∙ ap (λ b. b || is_refused r.reads) s ∙ w
  settled-more whole left following rs r None (Some n) before rules e p s g reads w =
      let same : reads.rule_trees ≡ w.1 = same_trees reads.rule_trees w.1 (sym reads.at ∙ w.3) in
      let at : RulesEmptyAt HasEdition separators left 0 n =
      subst (λ (i : ℕ). RulesEmptyAt HasEdition separators left 0 i) (sym w.5)
      (in_rule left w.1 r w.2 w.3 (subst (λ (o : RuleTrees). AreParts HasEdition o r) same reads.parts) w.4) in (
        refuses-push rs r ∙ ap (λ b. b || is_refused r.reads) s ∙ w.0,
        refl,
        same_place whole (length rs + 0) rules (passed whole left + n) (before + n) (omega (arith, e))
            (omega (arith, p)) (g 0 n at),
      )

  -- and a separator is after it
  pub goes-more : (whole left following rest : Forest) (rs : List Rule) (r : Rule) (x : Option RulesFault)
      (offset : Option ℕ) (before rules : ℕ) → Goes whole left (length rs) x → ReadsRule HasEdition left r following
      → IsRuleEmpty HasEdition left r offset → IsSeparated separators following → rest ≡ rest_of following
      → flat_len rest ≤ flat_len left → flat_len left ≤ flat_len whole
      → Goes whole rest (length (rs ++ r ∷ [])) (first_of x offset rules before)
  goes-more whole left following rest rs r (Some x) offset before rules g reads w e l h m = tt
  goes-more whole left following rest rs r None (Some n) before rules g reads w e l h m = tt
  goes-more whole left following rest rs r None None before rules g reads w e l h m =
      let back : after_separator separators reads.rule_trees.back ≡ Some rest =
      ap (after_separator separators) reads.following
      ∙ (following-some separators following e ∙ ap Some (sym l)) in
      let many : length (rs ++ r ∷ []) ≡ length rs + 1 = length-append rs (r ∷ []) in
      λ k n v. same_place whole (length rs + suc k) (length (rs ++ r ∷ []) + k)
      (passed whole left + (passed left rest + n)) (passed whole rest + n) (omega arith) (omega arith)
      (g (suc k) (passed left rest + n)
      (separated left rest reads.rule_trees r k n reads.at reads.parts w back v))

  -- ---- why all are refused

  -- for what is first, with a fault after it or without one
  pub refused-by : (f : Forest) (missing : Fault) (rs : List Rule) (x : Option RulesFault) (fault : RulesFault)
      → Settled f rs x → Rules HasEdition separators missing f rs (Some (refusal_of fault.fault))
      → AreRefused HasEdition separators missing f rs (option_map (λ y. refusal_of y.fault) (refused x fault))
  refused-by f missing rs None fault s h = (
    Some (refusal_of fault.fault),
    h,
    sym (ap (λ (b : Bool). if b then Some empty_repetition else Some (refusal_of fault.fault)) s),
  )
  refused-by f missing rs (Some x) fault s h = (
    Some (refusal_of fault.fault),
    h,
    ap (λ y. Some (refusal_of y)) s.1
        ∙ sym (ap (λ (b : Bool). if b then Some empty_repetition else Some (refusal_of fault.fault)) s.0),
  )

  pub refused-or-none : (f : Forest) (missing : Fault) (rs : List Rule) (x : Option RulesFault)
      → Settled f rs x → Rules HasEdition separators missing f rs None
      → AreRefused HasEdition separators missing f rs (option_map (λ y. refusal_of y.fault) x)
  refused-or-none f missing rs None s h =
      (None, h, sym (ap (λ (b : Bool). if b then Some empty_repetition else None) s))
  refused-or-none f missing rs (Some x) s h = (
    None,
    h,
    ap (λ y. Some (refusal_of y)) s.1
        ∙ sym (ap (λ (b : Bool). if b then Some empty_repetition else None) s.0),
  )

  -- and where
  pub placed-some : (f : Forest) (missing : Fault) (rs : List Rule) (x : Option RulesFault) → Settled f rs x
      → IfSome x (λ y. RefusedAt HasEdition separators missing f (refusal_of y.fault) y.rule y.offset)
  placed-some f missing rs None s = tt
  placed-some f missing rs (Some x) s =
      subst (λ y. RefusedAt HasEdition separators missing f (refusal_of y) x.rule x.offset) (sym s.1)
      (by_empty x.rule x.offset s.2)

  pub placed-by : (f : Forest) (missing : Fault) (rs : List Rule) (x : Option RulesFault) (fault : RulesFault)
      → Settled f rs x
      → RulesFaultAt HasEdition separators missing (refusal_of fault.fault) f fault.rule fault.offset
      → IfSome (refused x fault) (λ y. RefusedAt HasEdition separators missing f (refusal_of y.fault) y.rule y.offset)
  placed-by f missing rs None fault s h = by_fault (refusal_of fault.fault) fault.rule fault.offset h
  placed-by f missing rs (Some x) fault s h = placed-some f missing rs (Some x) s
