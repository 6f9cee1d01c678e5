-- The outcome of matching a call against one rule: the verdict, what the rule expects where the
-- match stops, and the message.
use Rattle.std.specs.Prelude.{◌==◌, ◌&&◌, ◌||◌, ◌++◌, ℕ, Bool, true, false, if◌then◌else◌, List, []}
use Rattle.std.specs.Prelude.{◌∷◌, map, codes, Option, Some, None, option_map}
use Rattle.std.specs.Str.{bytes_eq}
use Rattle.std.specs.String.{string_bytes}
use Rattle.mbe_tt.specs.declared.span.Span.{Span}
use Rattle.mbe_tt.specs.declared.tt.Punct.{Punct}
use Rattle.mbe_tt.specs.declared.tt.DelimiterKind.{DelimiterKind}
use Rattle.mbe_tt.specs.declared.tt.DelimiterKind.TheVariants.{Parenthesis, Brace, Bracket}
use Rattle.mbe_tt.specs.declared.tt.DelimiterKind.TheVariants.{Invisible}
use Rattle.mbe_tt.specs.Trees.Literals.{ident_text, literal_output}
use Rattle.mbe_semantics.specs.declared.fragment_kinds.MetaVarKind.{MetaVarKind}
use Rattle.mbe_semantics.specs.Fragments.Kinds.{facts}
use Rattle.mbe_semantics.specs.Expansion.MatchError.{puncts_text}
use Rattle.mbe_semantics.specs.Syntax.Op.{Separator, ident_separator, literal_separator}
use Rattle.mbe_semantics.specs.Syntax.Op.{punct_separator, lifetime_separator, Op, token, group}
use Rattle.mbe_semantics.specs.Syntax.Op.{variable, repetition, expression, literal, ident, puncts}
use Rattle.mbe_semantics.specs.Readings.Verdict.{Verdict, one_reading, many_readings, ambiguous}
use Rattle.mbe_semantics.specs.Readings.Verdict.{stuck}
use Rattle.mbe_matcher.specs.MatchResults.{verdict_seen}
use Rattle.mbe_matcher.specs.Expected.{Expected, ending, closing, separating, reading}
use Rattle.mbe_diagnostics.specs.declared.rule_part.RulePart as declared
use Rattle.mbe_diagnostics.specs.declared.outcome.MatchOutcome as code

-- ---- texts

-- A text in backquotes.
abbrev pub quoted : List ℕ → List ℕ
quoted text = codes "`" ++ (text ++ codes "`")

-- A variable's name and its specifier. An unknown specifier is `?`.
abbrev pub variable_text : List ℕ → Option MetaVarKind → List ℕ
variable_text name None = codes "`$" ++ (name ++ (codes ":" ++ (codes "?" ++ codes "`")))
variable_text name (Some kind) = codes "`$"
    ++ (name ++ (codes ":" ++ ((facts kind).specifier ++ codes "`")))

abbrev pub opening : DelimiterKind → List ℕ
opening Parenthesis = codes "`(`"
opening Brace = codes "`{`"
opening Bracket = codes "`[`"
opening Invisible = codes "an invisible group"

abbrev pub separator_text : Separator → List ℕ
separator_text (ident_separator i) = quoted (ident_text i)
separator_text (literal_separator l) = quoted (literal_output l)
separator_text (punct_separator ps) = quoted (puncts_text ps)
separator_text (lifetime_separator p i) = codes "`'" ++ (ident_text i ++ codes "`")

-- A repetition or an expression is never expected by itself.
abbrev pub op_text : Op → List ℕ
op_text (token (literal l)) = quoted (literal_output l)
op_text (token (ident i)) = quoted (ident_text i)
op_text (token (puncts ps)) = quoted (puncts_text ps)
op_text (group d body) = opening d.kind
op_text (variable name kind span) = variable_text name kind
op_text (repetition body separator repeat) = []
op_text (expression e) = []

abbrev pub text_of : Expected → List ℕ
text_of ending = codes "the end of the call"
text_of closing = codes "the end of the group"
text_of (separating s) = separator_text s
text_of (reading o) = op_text o

-- ---- spans in the rule

abbrev pub first_place : List Punct → Option Span
first_place [] = None
first_place (p ∷ ps) = Some p.span

abbrev pub separator_place : Separator → Option Span
separator_place (ident_separator i) = Some i.span
separator_place (literal_separator l) = Some l.span
separator_place (punct_separator ps) = first_place ps
separator_place (lifetime_separator p i) = Some p.span

abbrev pub op_place : Op → Option Span
op_place (token (literal l)) = Some l.span
op_place (token (ident i)) = Some i.span
op_place (token (puncts ps)) = first_place ps
op_place (group d body) = Some d.opening
op_place (variable name kind span) = Some span
op_place (repetition body separator repeat) = None
op_place (expression e) = None

-- An end has no span in the rule.
abbrev pub place_of : Expected → Option Span
place_of ending = None
place_of closing = None
place_of (separating s) = separator_place s
place_of (reading o) = op_place o

-- ---- outcomes

-- A part of a rule: its text and its span.
pub record RulePart : Type 0 where
  pub text : List ℕ
  pub place : Option Span

abbrev pub part_of : Expected → RulePart
part_of w = record { text = text_of w; place = place_of w }

abbrev pub pair_of : Expected × Expected → RulePart × RulePart
pair_of p = (part_of p.0, part_of p.1)

-- The outcome of a rule. It has the verdict, its span in the call, and the parts that the rule
-- expects there. For a local ambiguity or several readings, it has two parts by which the match
-- could go on.
pub record MatchOutcome : Type 0 where
  pub verdict : Verdict
  pub place : Span
  pub expected : List RulePart
  pub ambiguity : Option (RulePart × RulePart)

-- ---- what the program's values mean

abbrev pub part_seen : {A : Type 0} → declared.RulePart A → RulePart
part_seen p = record { text = string_bytes p.text; place = p.span }

abbrev pub parts_seen : {A : Type 0} → declared.RulePart A × declared.RulePart A → RulePart
    × RulePart
parts_seen p = (part_seen p.0, part_seen p.1)

abbrev pub outcome_seen : {A : Type 0} → code.MatchOutcome A → MatchOutcome
outcome_seen s = record {
  verdict = verdict_seen s.verdict;
  place = s.span;
  expected = map part_seen s.expected.items;
  ambiguity = option_map parts_seen s.ambiguity;
}

-- ---- messages

abbrev pub is_same_place : Option Span → Option Span → Bool
is_same_place None None = true
is_same_place (Some a) (Some b) = (a.file == b.file) && (a.start == b.start)
is_same_place None (Some b) = false
is_same_place (Some a) None = false

abbrev pub is_same_part : RulePart → RulePart → Bool
is_same_part a b = bytes_eq a.text b.text && is_same_place a.place b.place

abbrev pub has_part : List RulePart → RulePart → Bool
has_part [] p = false
has_part (q ∷ qs) p = is_same_part q p || has_part qs p

-- The parts of the second list that aren't in `kept`, each once, after those in `kept`.
abbrev pub unique : List RulePart → List RulePart → List RulePart
unique kept [] = kept
unique kept (p ∷ ps) = if has_part kept p then unique kept ps else unique (kept ++ (p ∷ [])) ps

-- A list in words: `a`; `a or b`; `a, b or c`.
abbrev pub listed : List RulePart → List ℕ
listed [] = []
listed (a ∷ []) = a.text
listed (a ∷ (b ∷ [])) = a.text ++ (codes " or " ++ b.text)
listed (a ∷ (b ∷ (c ∷ more))) = a.text ++ (codes ", " ++ listed (b ∷ (c ∷ more)))

abbrev pub pair_text_by : Bool → List ℕ → List ℕ → List ℕ
pair_text_by true one other = one ++ codes " in two ways"
pair_text_by false one other = one ++ (codes " or " ++ other)

-- The text of two parts by which the match could go on.
unfoldable pub pair_text : RulePart × RulePart → List ℕ
pair_text p = pair_text_by (is_same_part p.0 p.1) p.0.text p.1.text

abbrev pub message_by : List ℕ → Verdict → List RulePart → Option (RulePart × RulePart) → List ℕ
message_by rule one_reading expected ambiguity = rule ++ codes " matches"
message_by rule many_readings expected None = rule ++ codes " matches the call in several ways"
message_by rule many_readings expected (Some pair) =
    rule
    ++ (codes " matches the call in several ways: here it can continue with " ++ pair_text pair)
message_by rule (ambiguous place) expected None = rule ++ codes " is ambiguous here"
message_by rule (ambiguous place) expected (Some pair) =
    rule ++ (codes " is ambiguous here: it can continue with " ++ pair_text pair)
message_by rule (stuck place) expected ambiguity =
    rule ++ (codes " stops here; expected " ++ listed (unique [] expected))

-- The message of an outcome, with the name of the rule.
abbrev pub message_text : List ℕ → MatchOutcome → List ℕ
message_text rule s = message_by rule s.verdict s.expected s.ambiguity

abbrev pub unique_pair : RulePart × RulePart → List RulePart
unique_pair p = if is_same_part p.0 p.1 then p.0 ∷ [] else p.0 ∷ (p.1 ∷ [])

abbrev pub parts_by : Verdict → List RulePart → Option (RulePart × RulePart) → List RulePart
parts_by one_reading expected ambiguity = []
parts_by many_readings expected None = []
parts_by many_readings expected (Some pair) = unique_pair pair
parts_by (ambiguous place) expected None = []
parts_by (ambiguous place) expected (Some pair) = unique_pair pair
parts_by (stuck place) expected ambiguity = unique [] expected

-- The parts of the rule that the message names, each once.
abbrev pub named_parts : MatchOutcome → List RulePart
named_parts s = parts_by s.verdict s.expected s.ambiguity
