-- The lints of definitions.
use Rattle.std.specs.Prelude.{◌≡◌, ℕ, codes, List, [], ◌∷◌, ◌++◌, Option, Some, None}
use Rattle.mbe_tt.specs.declared.span.Edition.{Edition}
use Rattle.mbe_tt.specs.declared.span.SyntaxContext.{SyntaxContext}
use Rattle.mbe_tt.specs.Trees.Leaf.{Ident}
use Rattle.mbe_semantics.specs.Syntax.Definition.{Rule}
use Rattle.mbe_semantics.specs.Syntax.Template.{Fault, unexpected_token, expected, invalid_repeat}
use Rattle.mbe_semantics.specs.Syntax.Template.{empty_repetition}
use Rattle.mbe_semantics.specs.Expansion.Macro.{Macro}
use Rattle.mbe_semantics.specs.Expansion.ParsedMacro.{IsParsedRules, IsParsedMacro}
use Rattle.mbe_rewriter.specs.MacroItems.{DefinitionForm, Rules, Body, Arguments, MacroDefinition}
use Rattle.mbe_diagnostics.specs.RuleChecks.Findings.{findings}
use Rattle.mbe_diagnostics.specs.RuleChecks.UnreachableRules.{unreachable_rules}
use Rattle.mbe_diagnostics.specs.Lints.Lint.{Lint, error_at}
use Rattle.mbe_diagnostics.specs.RuleChecks.FixedRepetitions.{fixed_repetitions}
use Rattle.mbe_diagnostics.specs.Lints.RepetitionLints.{fixed_lints}
use Rattle.mbe_diagnostics.specs.Lints.UnreachableLints.{unreachable_lints}
use Rattle.mbe_diagnostics.specs.Lints.ErrorLocation.{RefusedAt}
use Rattle.mbe_diagnostics.specs.declared.lints.error_location.ErrorLocation.{ErrorLocation}
use Rattle.mbe_diagnostics.specs.Lints.FindingMessages.{findings_lints}

-- The message for a fault of a definition: rustc's, if it has one, else the parser's.
unfoldable pub refusal_text : Fault → List ℕ
refusal_text (unexpected_token text) = text
refusal_text (expected text) = text
refusal_text invalid_repeat = codes "expected one of: `*`, `+`, or `?`"
refusal_text empty_repetition = codes "repetition matches empty token tree"

-- Why a definition is refused, if it is: at the token that can't be parsed, if there is one.
abbrev pub refusal_lints : Ident → Option Fault → Option ErrorLocation → List Lint
refusal_lints name None location = []
refusal_lints name (Some fault) None = error_at name.span (refusal_text fault)
refusal_lints name (Some fault) (Some location) = error_at location.span (refusal_text fault)

unfoldable pub no_rules_text : List ℕ
no_rules_text = codes "macros must contain at least one rule"

-- A definition without rules, if none is refused.
abbrev pub empty_lints : Ident → List Rule → Option Fault → List Lint
empty_lints name [] None = error_at name.span no_rules_text
empty_lints name [] (Some fault) = []
empty_lints name (r ∷ rs) err = []

-- The findings of a rule, and its repetitions without a variable that repeats there.
abbrev pub rule_lints : MacroDefinition → Rule → List Lint
rule_lints d r =
    findings_lints d (findings r.reads r.writes)
    ++ fixed_lints d (fixed_repetitions r.reads r.writes)

abbrev pub rules_lints : MacroDefinition → List Rule → List Lint
rules_lints d [] = []
rules_lints d (r ∷ rs) = rule_lints d r ++ rules_lints d rs

-- The lints of a parsed definition: why it is refused, the findings of the rules that were parsed,
-- and which of these rules no call reaches.
abbrev pub macro_lints : MacroDefinition → Macro → Option ErrorLocation → List Lint
macro_lints d m location =
    refusal_lints d.name m.err location
    ++ (empty_lints d.name m.rules m.err
    ++ (rules_lints d m.rules ++ unreachable_lints d (unreachable_rules m.rules)))

module _ (HasEdition : SyntaxContext → Edition → Type 0) where
  -- What a definition is parsed as: its rules up to the first fault, and that fault.
  abbrev pub IsReadIn : DefinitionForm → MacroDefinition → Macro → Type 0
  IsReadIn Rules d m = IsParsedRules HasEdition d.rules m
  IsReadIn Body d m = IsParsedMacro HasEdition None d.rules m
  IsReadIn (Arguments k pattern) d m = IsParsedMacro HasEdition (Some pattern) d.rules m

  -- The lints of a definition are added to those before.
  pub record IsLinted (d : MacroDefinition) (before after : List Lint) : Type 0 where
    pub rules : Macro
    pub read : IsReadIn d.form d rules
    pub location : Option ErrorLocation
    pub refused : RefusedAt HasEdition (d.delimiter).close d.rules rules d.form location
    pub are : after ≡ before ++ macro_lints d rules location

  -- The lints of one definition after another are added.
  abbrev pub AreLinted : List MacroDefinition → List Lint → List Lint → Type 0
  AreLinted [] before after = after ≡ before
  AreLinted (d ∷ ds) before after =
      (mid : List Lint) × IsLinted d before mid × AreLinted ds mid after
