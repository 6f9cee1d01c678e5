-- What a rule says of an argument, from what it wants there.
use Rattle.std.proofs.Common.{◌≡◌, ◌⊎◌, ◌∙◌, ℕ, Bool, true, false, List, map, Option, Some, None, Result, Ok, Err, ap}
use Rattle.std.proofs.Common.{sym, subst, inl, inr}
use Rattle.std.proofs.lemmas.Bool.{true≢false}
use Rattle.std.specs.Prelude.{IfOk, option_map, slice_get}
use Rattle.std.proofs.lemmas.Option.{same_Some}
use Rattle.mbe_tt.specs.declared.span.Span.{Span}
use Rattle.mbe_tt.specs.declared.tt.Delimiter.{Delimiter}
use Rattle.mbe_tt.specs.Trees.Tree.{Forest, flat_len}
use Rattle.mbe_tt.specs.Grammars.Grammar.{Grammar}
use Rattle.mbe_semantics.specs.Syntax.Definition.{Rule}
use Rattle.mbe_semantics.specs.Syntax.Op.{Ops}
use Rattle.mbe_semantics.specs.Readings.Input.{input_of}
use Rattle.mbe_semantics.specs.Readings.Verdict.{Verdict, IsVerdict, one_reading, many_readings, ambiguous, stuck}
use Rattle.mbe_semantics.specs.Readings.Verdict.{stop_of}
use Rattle.mbe_matcher.specs.declared.matcher.Verdict as code
use Rattle.mbe_matcher.specs.declared.matcher.Verdict.TheVariants.{OneReading, Ambiguous, Stuck}
use Rattle.mbe_matcher.specs.MatchResults.{verdict_seen}
use Rattle.mbe_matcher.specs.Expected.{Expected}
use Rattle.mbe_matcher.specs.Readings.Divergence.{IsDivergence, Divergence}
use Rattle.mbe_matcher.proofs.Divergence.PartialReadings.{readings-part}
use Rattle.mbe.specs.RuleExplanation.{Explains, HasPattern, ExpectedThere}
use Rattle.mbe_diagnostics.specs.declared.outcome.MatchOutcome.{MatchOutcome}
use Rattle.mbe_diagnostics.specs.Outcome.{part_of, part_seen, pair_of, parts_seen, outcome_seen}
use Rattle.mbe_diagnostics.specs.SpanAt.{span_at}
use Rattle.mbe_session.specs.Explanation.{HasOutcome, PointsTo}

pub rule_says : {A E : Type 0} (r : Result (MatchOutcome A) E) (g : Grammar) (rules : List Rule) (argument : Delimiter
    × Forest)
    (index : ℕ) (verdict : code.Verdict) (expectations : List Expected) (offset : ℕ)
    (pair : Option (Expected × Expected))
    (tokens : Forest) (close : Span)
    → tokens ≡ argument.1 → close ≡ argument.0.close → Explains g rules argument.1 index (verdict_seen verdict)
    → ExpectedThere g rules argument.1 index (verdict_seen verdict) expectations
    → PointsTo g rules argument.1 index (verdict_seen verdict) offset pair
    → IfOk r (λ s. s.verdict ≡ verdict) → IfOk r (λ s. s.span ≡ span_at close tokens offset)
    → IfOk r (λ s. map part_seen s.expected.items ≡ map part_of expectations)
    → IfOk r (λ s. option_map parts_seen s.ambiguity ≡ option_map pair_of pair)
    → IfOk r (λ s. HasOutcome g rules argument index (outcome_seen s))
rule_says (Ok s) g rules argument index verdict expectations offset pair tokens close trees_are closing explains
    are_expected
    points v p w c =
    let same = sym (ap verdict_seen v) in
    record {
      expectations = expectations;
      offset = offset;
      pair = pair;
      explains = subst (Explains g rules argument.1 index) same explains;
      are_expected = subst (λ v. ExpectedThere g rules argument.1 index v expectations) same are_expected;
      points = subst (λ v. PointsTo g rules argument.1 index v offset pair) same points;
      place = p ∙ ap (λ x. span_at x tokens offset) closing ∙ ap (λ f. span_at argument.0.close f offset) trees_are;
      parts = w;
      two = c;
    }
rule_says (Err e) g rules argument index verdict expectations offset pair tokens close trees_are closing explains
    are_expected
    points v p w c = v

-- the place of a verdict, whatever names the tokens
pub stops_there : {A E : Type 0} (r : Result (MatchOutcome A) E) (v : Verdict) (tokens : Forest) (close : Span)
    (f : Forest)
    → tokens ≡ f → IfOk r (λ s. s.span ≡ span_at close tokens (stop_of tokens v))
    → IfOk r (λ s. s.span ≡ span_at close tokens (stop_of f v))
stops_there (Ok s) v tokens close f e p = p ∙ ap (λ x. span_at close tokens (stop_of x v)) e
stops_there (Err x) v tokens close f e p = p

-- two readings of an argument part
pub part_somewhere : (g : Grammar) (rules : List Rule) (argument : Forest) (index : ℕ) (r : Rule)
    → slice_get rules index ≡ Some r → Explains g rules argument index many_readings
    → IsDivergence g r.reads argument None → ⊥
part_somewhere g rules argument index r e h none =
    let same : h.0 ≡ r = same_Some h.0 r (sym h.1 ∙ e) in
    let v : IsVerdict g r.reads argument many_readings =
    subst (λ (x : Rule). IsVerdict g x.reads argument many_readings) same h.2 in
    let two = v.1 in
    let p = readings-part (input_of g argument) r.reads (flat_len argument) two.0 two.1 two.2 two.3 two.4 in
    none p.0 p.1

-- two readings part, or none do, by the pattern of the rule with this index
pub parts_there : (g : Grammar) (rules : List Rule) (argument : Forest) (index : ℕ) (pattern : Ops) (tokens : Forest)
    (p : Option Divergence) → HasPattern rules index pattern → tokens ≡ argument → IsDivergence g pattern tokens p
    → (r : Rule) × (slice_get rules index ≡ Some r) × IsDivergence g r.reads argument p
parts_there g rules argument index pattern tokens p h same it = (
  h.0,
  h.1,
  subst (λ x. IsDivergence g x argument p) (sym h.2) (subst (λ f. IsDivergence g pattern f p) same it),
)

abbrev is_many : Verdict → Bool
is_many one_reading = false
is_many many_readings = true
is_many (ambiguous q) = false
is_many (stuck q) = false

-- a verdict of the matcher that isn't that of several readings
pub not_many : (v : code.Verdict) → (v ≡ OneReading)
    ⊎ ((x : ℕ) × (v ≡ Ambiguous x)) ⊎ ((x : ℕ) × (v ≡ Stuck x))
    → verdict_seen v ≡ many_readings → ⊥
not_many v (inl w) e = true≢false (sym (ap is_many e) ∙ ap (λ x. is_many (verdict_seen x)) w)
not_many v (inr (inl w)) e = true≢false (sym (ap is_many e) ∙ ap (λ x. is_many (verdict_seen x)) w.1)
not_many v (inr (inr w)) e = true≢false (sym (ap is_many e) ∙ ap (λ x. is_many (verdict_seen x)) w.1)
