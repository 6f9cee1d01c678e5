-- The texts of what the variables of a rule that matches are bound to.
use Rattle.std.specs.Prelude.{◌≡◌, ◌==◌, ◌-◌, ◌++◌, ℕ, if◌then◌else◌, List, [], ◌∷◌, map, codes}
use Rattle.std.specs.Prelude.{chars, Option, Some, None}
use Rattle.std.specs.Char.{encode_utf8}
use Rattle.std.specs.Fmt.{decimal}
use Rattle.std.specs.String.{string_bytes}
use Rattle.mbe_tt.specs.Trees.Tree.{Forest}
use Rattle.mbe_tt.specs.Grammars.Grammar.{Grammar}
use Rattle.mbe_semantics.specs.Syntax.Op.{Ops}
use Rattle.mbe_semantics.specs.Syntax.Definition.{Rule}
use Rattle.mbe_semantics.specs.Readings.Item.{Fragment}
use Rattle.mbe_semantics.specs.Bindings.Environment.{Environment, Value, fragment, list, empty}
use Rattle.mbe_semantics.specs.Bindings.Environment.{missing, Values, no_values, value, value_of}
use Rattle.mbe_semantics.specs.Transcription.Rounds.{value_count}
use Rattle.mbe.specs.RuleExplanation.{BindsThere, HasPattern}
use Rattle.mbe_diagnostics.specs.RuleChecks.Variables.{PatternVariable, variables_in}
use Rattle.mbe_diagnostics.specs.Excerpt.{excerpt}
use Rattle.mbe_diagnostics.specs.Outcome.{RulePart, part_seen, quoted, variable_text}
use Rattle.mbe_text.specs.RustText.Printer.{text_of}
use Rattle.mbe_session.specs.declared.binding_text.BindingText as code

-- ---- texts

abbrev pub tokens_text : List ℕ → List ℕ
tokens_text [] = codes "nothing"
tokens_text (c ∷ cs) = quoted (excerpt (chars (c ∷ cs)))

abbrev pub trees_text : Fragment → List ℕ
trees_text x = text_of 0 x.trees

-- The tokens in one line, shortened.
abbrev pub fragment_text : Fragment → List ℕ
fragment_text x = tokens_text (trees_text x)

abbrev pub between : Values → List ℕ
between no_values = []
between (value v vs) = codes ", "

-- If there are many rounds, the first ones and `…`. The rounds of a nested repetition are in
-- parentheses.
abbrev mutual
  pub value_text : Value → List ℕ
  value_text (fragment x) = fragment_text x
  value_text (list vs) = codes "(" ++ (values_text 16 vs ++ codes ")")
  value_text empty = codes "nothing"
  value_text (missing kind) = codes "nothing"

  pub values_text : ℕ → Values → List ℕ
  values_text room no_values = []
  values_text room (value v vs) =
      if room == 0 then encode_utf8 8230 else value_text v
      ++ (between vs ++ values_text (room - 1) vs)

-- The number of rounds.
abbrev pub rounds_text : ℕ → List ℕ
rounds_text n = if n == 1 then codes " (1 round)" else codes " (" ++ (decimal n ++ codes " rounds)")

-- The rounds, and their number.
abbrev pub list_text : Values → List ℕ
list_text vs = values_text 16 vs ++ rounds_text (value_count vs)

-- What a variable is bound to; for one in a repetition, in each round.
abbrev pub bound_text : Value → List ℕ
bound_text (list vs) = list_text vs
bound_text v = value_text v

abbrev pub value_text_or_nothing : Option Value → List ℕ
value_text_or_nothing None = codes "nothing"
value_text_or_nothing (Some v) = bound_text v

-- ---- bindings of a rule

-- A variable, as its text and its span in the rule, and the text of what it is bound to.
pub record BindingText : Type 0 where
  pub variable : RulePart
  pub text : List ℕ

abbrev pub binding_text_seen : {A : Type 0} → code.BindingText A → BindingText
binding_text_seen t = record { variable = part_seen t.variable; text = string_bytes t.text }

abbrev pub binding_text_of : Environment → PatternVariable → BindingText
binding_text_of env b = record {
  variable = record { text = variable_text b.name b.kind; place = Some b.place };
  text = value_text_or_nothing (value_of env b.name);
}

-- The variables of a pattern, in their order, with what they are bound to.
abbrev pub all_binding_texts : Option Environment → Ops → List BindingText
all_binding_texts None pattern = []
all_binding_texts (Some env) pattern = map (binding_text_of env) (variables_in 0 pattern)

-- The texts of what the variables of the rule with this index are bound to by an argument. There
-- are none if the rule doesn't match.
abbrev pub HasBindingTexts : Grammar → List Rule → Forest → ℕ → List BindingText → Type 0
HasBindingTexts g rules argument index matched =
    (bound : Option Environment) × (pattern : Ops) × BindsThere g rules argument index bound
    × HasPattern rules index pattern × (matched ≡ all_binding_texts bound pattern)
