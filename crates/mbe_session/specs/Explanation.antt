-- The explanation of a call by the rules of its macro.
use Rattle.std.specs.Prelude.{◌≡◌, ◌++◌, ◌==◌, ◌&&◌, ◌+◌, ◌-◌, ◌^◌, nat_lt, min, ℕ, Bool, true}
use Rattle.std.specs.Prelude.{false, not, List, [], ◌∷◌, length, map, codes, slice_get, Option}
use Rattle.std.specs.Prelude.{Some, None, option_map, IfSome, if◌then◌else◌, max}
use Rattle.std.specs.Fmt.{decimal}
use Rattle.std.specs.String.{string_bytes}
use Rattle.mbe_tt.specs.declared.span.Span.{Span}
use Rattle.mbe_tt.specs.declared.tt.Delimiter.{Delimiter}
use Rattle.mbe_tt.specs.Trees.Tree.{Forest, flat_len}
use Rattle.mbe_tt.specs.Grammars.Grammar.{Grammar}
use Rattle.mbe_semantics.specs.Syntax.Definition.{Rule}
use Rattle.mbe_semantics.specs.Readings.Input.{input_of}
use Rattle.mbe_semantics.specs.Readings.Verdict.{Verdict, one_reading, many_readings, ambiguous}
use Rattle.mbe_semantics.specs.Readings.Verdict.{stuck, stop_of}
use Rattle.mbe_rewriter.specs.MacroItems.{MacroCall}
use Rattle.mbe_matcher.specs.Expected.{Expected}
use Rattle.mbe_matcher.specs.Readings.Divergence.{Divergence, DivergeFirst}
use Rattle.mbe.specs.RuleExplanation.{Explains, ExpectedThere, AmbiguousThere}
use Rattle.mbe_diagnostics.specs.Outcome.{RulePart, MatchOutcome, part_of, pair_of, outcome_seen}
use Rattle.mbe_diagnostics.specs.Outcome.{named_parts, message_text}
use Rattle.mbe_diagnostics.specs.SpanAt.{span_at}
use Rattle.mbe_session.specs.CallExpansion.{Setting, State, called_macro}
use Rattle.mbe_session.specs.declared.explanation.RuleExplanation as code
use Rattle.mbe_session.specs.declared.explanation.NotedRules.{NotedRules}
use Rattle.mbe_session.specs.declared.explanation.NotedRules.TheVariants as noted
use Rattle.mbe_session.specs.declared.notes.Level.{Level}
use Rattle.mbe_session.specs.declared.notes.Level.TheVariants as level
use Rattle.mbe_session.specs.declared.notes.Note as declared
use Rattle.mbe_session.specs.declared.settings.ExplainFilter.{ExplainFilter}
use Rattle.mbe_session.specs.declared.settings.ExplainFilter.TheVariants as explain
use Rattle.mbe_session.specs.BindingText.{BindingText, HasBindingTexts, binding_text_seen}

-- ---- outcomes

-- Two readings of an argument by the rule with this index first diverge there, and go on by these
-- parts.
abbrev pub DivergesThere : Grammar → List Rule → Forest → ℕ → Divergence → Type 0
DivergesThere g rules argument index p =
    (r : Rule) × (slice_get rules index ≡ Some r)
    × DivergeFirst (input_of g argument) r.reads (flat_len argument) p

-- The offset of the rule's verdict, and two parts of the rule. If there are several readings, it is
-- the offset where two of them first diverge, and the parts are what they go on by. Else it is the
-- offset where the match stops. For a local ambiguity, the parts are two by which the match could
-- go on there.
pub data PointsTo (g : Grammar) (rules : List Rule) (argument : Forest) (index : ℕ)
    : Verdict → ℕ → Option (Expected × Expected) → Type 0 where
  at_divergence : (p : Divergence) → DivergesThere g rules argument index p
      → PointsTo g rules argument index many_readings p.offset (Some (p.one, p.other))
  at_stop : (v : Verdict) (pair : Option (Expected × Expected)) → (v ≡ many_readings → ⊥)
      → AmbiguousThere g rules argument index v pair
      → PointsTo g rules argument index v (stop_of argument v) pair

-- The outcome of the rule with this index on an argument. It has the verdict, the span at the
-- verdict's offset, all parts that the rule expects there, and the two parts.
pub record HasOutcome (g : Grammar) (rules : List Rule) (argument : Delimiter × Forest) (index : ℕ)
    (outcome : MatchOutcome) : Type 0 where
  pub expectations : List Expected
  pub offset : ℕ
  pub pair : Option (Expected × Expected)
  pub explains : Explains g rules argument.1 index outcome.verdict
  pub are_expected : ExpectedThere g rules argument.1 index outcome.verdict expectations
  pub points : PointsTo g rules argument.1 index outcome.verdict offset pair
  pub place : outcome.place ≡ span_at argument.0.close argument.1 offset
  pub parts : outcome.expected ≡ map part_of expectations
  pub two : outcome.ambiguity ≡ option_map pair_of pair

-- The explanation of a call by one rule: its outcome, and what its variables are bound to if it
-- matches.
pub record RuleExplanation : Type 0 where
  pub outcome : MatchOutcome
  pub matched : List BindingText

abbrev pub explanation_seen : {A : Type 0} → code.RuleExplanation A → RuleExplanation
explanation_seen r =
    record { outcome = outcome_seen r.outcome; matched = map binding_text_seen r.matched.items }

-- The explanations of the first rules.
pub data ExplainsFirst (g : Grammar) (rules : List Rule) (argument : Delimiter
    × Forest) : List RuleExplanation → Type 0 where
  no_rule : ExplainsFirst g rules argument []
  one_more : (before : List RuleExplanation) (rule : RuleExplanation)
      → ExplainsFirst g rules argument before
      → HasOutcome g rules argument (length before) rule.outcome
      → HasBindingTexts g rules argument.1 (length before) rule.matched
      → ExplainsFirst g rules argument (before ++ rule ∷ [])

-- The explanations of all rules of the macro that a call names, if the macro has no error.
abbrev pub ExplainsRules : Setting → MacroCall → State → Delimiter × Forest → List RuleExplanation
    → Type 0
ExplainsRules e c s argument explanations =
    IfSome (called_macro s c) (λ m. m.err ≡ None
    → ExplainsFirst e.grammar m.rules argument explanations
    × (length explanations ≡ length m.rules))

-- ---- notes

-- A message about a part of a file, and its severity.
pub record Note : Type 0 where
  pub level : Level
  pub place : Span
  pub text : List ℕ
  -- Whether it is a child: it says more about the last note before it that is none.
  pub is_child : Bool

abbrev pub note_seen : {A : Type 0} → declared.Note A → Note
note_seen n = record {
  level = n.level;
  place = n.span;
  text = string_bytes n.message;
  is_child = n.is_child;
}

abbrev pub note_at : Bool → Span → List ℕ → Note
note_at is_child place text = record {
  level = level.Note;
  place = place;
  text = text;
  is_child = is_child;
}

abbrev pub child_at : Span → List ℕ → Note
child_at place text = note_at true place text

-- The name of a rule in messages.
abbrev pub rule_name : ℕ → List ℕ → List ℕ
rule_name number name = codes "rule " ++ (decimal number ++ (codes " of `" ++ (name ++ codes "!`")))

-- Where a part of a rule is. An end has no span.
abbrev pub part_note : List ℕ → List ℕ → Option Span → List Note
part_note rule text None = []
part_note rule text (Some place) = child_at place (text ++ (codes " in " ++ rule)) ∷ []

abbrev pub part_notes : List ℕ → List RulePart → List Note
part_notes rule [] = []
part_notes rule (p ∷ ps) = part_note rule p.text p.place ++ part_notes rule ps

unfoldable pub bound_text : List ℕ → List ℕ → List ℕ → List ℕ
bound_text rule variable text =
    variable ++ (codes " in " ++ (rule ++ (codes " is bound to " ++ text)))

-- What a variable is bound to, at its span in the rule.
abbrev pub binding_note : List ℕ → List ℕ → List ℕ → Option Span → List Note
binding_note rule variable text None = []
binding_note rule variable text (Some place) =
    child_at place (bound_text rule variable text) ∷ []

abbrev pub binding_notes : List ℕ → List BindingText → List Note
binding_notes rule [] = []
binding_notes rule (t ∷ ts) = binding_note rule t.variable.text t.text t.variable.place
    ++ binding_notes rule ts

unfoldable pub outcome_text : List ℕ → MatchOutcome → List ℕ
outcome_text rule outcome = message_text rule outcome

-- The outcome of a rule, and where the parts of the rule are that its message names. The notes on
-- the parts are children.
abbrev pub outcome_notes : List ℕ → Bool → MatchOutcome → List Note
outcome_notes rule is_child outcome =
    note_at is_child outcome.place (outcome_text rule outcome)
    ∷ part_notes rule (named_parts outcome)

-- The outcome of a rule, and what its variables are bound to.
abbrev pub rule_notes : List ℕ → Bool → RuleExplanation → List Note
rule_notes rule is_child r =
    outcome_notes rule is_child r.outcome ++ binding_notes rule r.matched

-- The next number of 64 bits. The last one is its own next.
abbrev pub next_number : ℕ → ℕ
next_number n = min (n + 1) (2 ^ 64 - 1)

-- Whether the rule with that number is chosen.
abbrev pub is_chosen : NotedRules → ℕ → Bool
is_chosen (noted.Only rule) number = number == rule
is_chosen (noted.Except rule) number = not (number == rule)

-- The notes of the rule with that number, if it is chosen.
abbrev pub chosen_notes : List ℕ → Bool → NotedRules → ℕ → RuleExplanation → List Note
chosen_notes name is_child chosen number s =
    if is_chosen chosen number then rule_notes (rule_name number name) is_child s else []

-- The notes of the chosen rules, in order. The first rule has that number.
abbrev pub rules_notes : List ℕ → Bool → NotedRules → ℕ → List RuleExplanation → List Note
rules_notes name is_child chosen number [] = []
rules_notes name is_child chosen number (s ∷ ss) =
    chosen_notes name is_child chosen number s
    ++ rules_notes name is_child chosen (next_number number) ss

-- How far a rule reaches: up to the offset where it stops. A rule that matches reaches furthest.
abbrev pub reach : Verdict → ℕ
reach one_reading = 2 ^ 64 - 1
reach many_readings = 2 ^ 64 - 1
reach (ambiguous q) = q
reach (stuck q) = q

-- The number of the closest rule: the first one that reaches furthest. The first of these rules has
-- the number `number`. Of those before it, rule `closest` is the closest one, and it reaches as far
-- as `furthest`.
abbrev pub closest_from : (number closest furthest : ℕ) → List RuleExplanation → ℕ
closest_from number closest furthest [] = closest
closest_from number closest furthest (s ∷ ss) =
    closest_from (next_number number)
    (if nat_lt furthest (reach s.outcome.verdict) then number else closest)
    (max furthest (reach s.outcome.verdict)) ss

-- The number of the closest rule of a macro. It is 1 if no rule reaches further than the start.
abbrev pub closest_rule : List RuleExplanation → ℕ
closest_rule ss = closest_from 1 1 0 ss

-- The notes on the rules of a macro. If they are children, the closest rule is the first one. Else
-- the rules are in order: no rule has the number 0.
abbrev pub explanation_notes : List ℕ → Bool → List RuleExplanation → List Note
explanation_notes name is_child ss =
    let first = if is_child then closest_rule ss else 0 in
    rules_notes name is_child (noted.Only first) 1 ss
    ++ rules_notes name is_child (noted.Except first) 1 ss

-- ---- which calls are explained

abbrev pub selects : ExplainFilter → Span → Bool → Bool
selects explain.Nothing call is_expanded = false
selects explain.Failed call is_expanded = not is_expanded
selects (explain.At file start end) call is_expanded =
    (call.file == file) && (not (nat_lt call.start start) && nat_lt call.start end)

-- The notes on a call: the explanation by each rule, if the call is to be explained. The first flag
-- says whether the notes on rules are children, and the second one whether the call is to be
-- explained.
abbrev pub NotesRules : Setting → MacroCall → State → Delimiter × Forest → Bool → Bool → List Note
    → List Note → Type 0
NotesRules e c s argument is_child false before after = after ≡ before
NotesRules e c s argument is_child true before after =
    (explanations : List RuleExplanation) × ExplainsRules e c s argument explanations
    × (after ≡ before ++ explanation_notes c.name.sym is_child explanations)
