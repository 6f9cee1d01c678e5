-- Why a definition is refused.
use Rattle.std.specs.Prelude.{◌≡◌, ◌+◌, ℕ, List, Option, Some, None}
use Rattle.mbe_tt.specs.declared.span.SyntaxContext.{SyntaxContext}
use Rattle.mbe_tt.specs.declared.span.Edition.{Edition}
use Rattle.mbe_tt.specs.Trees.Tree.{Forest}
use Rattle.mbe_ops.specs.Errors.ErrorViews.{fault_of}
use Rattle.mbe_semantics.specs.Syntax.Template.{Fault, empty_repetition}
use Rattle.mbe_semantics.specs.Syntax.Definition.{Rule, Rules, with_refusal, IsMacroOfArguments}
use Rattle.mbe_parser.specs.declared.parser.Mode.TheVariants as modes
use Rattle.mbe_parser.specs.declared.refusal.DefinitionRefusal as code
use Rattle.mbe_parser.specs.declared.refusal.RulesFault.{RulesFault}
use Rattle.mbe_parser.specs.declared.refusal.OneRuleFault.{OneRuleFault}

abbrev pub refusal_of : code.DefinitionRefusal → Fault
refusal_of (code.TheVariants.Syntax fault) = fault_of fault
refusal_of code.TheVariants.EmptyRepetition = empty_repetition

module _ (HasEdition : SyntaxContext → Edition → Type 0) where
  -- the rules that these chars separate, up to the first fault, and why they are refused
  abbrev pub AreRefused : List ℕ → Fault → Forest → List Rule → Option Fault → Type 0
  AreRefused separators missing f rs why =
      (first : Option Fault) × Rules HasEdition separators missing f rs first
      × (why ≡ with_refusal rs first)

  -- the one rule of a `macro` with arguments, and why it is refused
  abbrev pub IsOneRefused : Forest → Forest → List Rule → Option Fault → Type 0
  IsOneRefused arguments body rs why = IsMacroOfArguments HasEdition arguments body rs why

-- ---- the first of two

-- the first refused repetition of the rules, if the next rule has one at that offset of its trees
abbrev pub first_of : Option RulesFault → Option ℕ → ℕ → ℕ → Option RulesFault
first_of (Some x) offset rule before = Some x
first_of None None rule before = None
first_of None (Some n) rule before =
    Some (record { fault = code.TheVariants.EmptyRepetition; rule = rule; offset = before + n })

-- a refused repetition is reported before a fault
abbrev pub refused : Option RulesFault → RulesFault → Option RulesFault
refused (Some x) fault = Some x
refused None fault = Some fault

abbrev pub empty_in_pattern : Option ℕ → Option OneRuleFault
empty_in_pattern None = None
empty_in_pattern (Some n) =
    Some (record { fault = code.TheVariants.EmptyRepetition; part = modes.Pattern; offset = n })
