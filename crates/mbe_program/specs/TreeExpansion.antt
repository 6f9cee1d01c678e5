-- Expansions and verdicts of trees, by any grammar of fragments.
use Rattle.std.specs.Prelude.{◌≡◌, ⊤, ℕ, List, [], ◌∷◌, Option, Some, None}
use Rattle.mbe_tt.specs.declared.span.Edition.{Edition}
use Rattle.mbe_tt.specs.declared.span.Span.{Span}
use Rattle.mbe_tt.specs.declared.span.SyntaxContext.{SyntaxContext}
use Rattle.mbe_tt.specs.Trees.Tree.{Forest}
use Rattle.mbe_tt.specs.Trees.Top.{Top}
use Rattle.mbe_tt.specs.Grammars.Grammar.{Grammar}
use Rattle.mbe_semantics.specs.Syntax.Definition.{Rule}
use Rattle.mbe_semantics.specs.Expansion.Error.{ExpandError}
use Rattle.mbe_semantics.specs.Expansion.Macro.{Macro}
use Rattle.mbe_semantics.specs.Expansion.ParsedMacro.{IsParsedRules}
use Rattle.mbe_semantics.specs.Readings.Verdict.{Verdict, IsVerdict}
use Rattle.mbe_semantics.specs.declared.macro_call_style.MacroCallStyle.{MacroCallStyle}
use Rattle.mbe_ops.specs.Errors.ErrorViews.{parse_error_of}
use Rattle.mbe.specs.OneAnswer.{IsAnswer}
use Rattle.mbe_program.specs.declared.tree_expansion.DefinitionError.{DefinitionError}
use Rattle.mbe_program.specs.declared.tree_expansion.DefinitionError.TheVariants.{Refused}
use Rattle.mbe_program.specs.declared.tree_expansion.DefinitionError.TheVariants.{OutOfMemory}

-- Every syntax context has that edition.
abbrev pub IsEdition : Edition → SyntaxContext → Edition → Type 0
IsEdition edition context answer = answer ≡ edition

-- A span is marked by itself.
abbrev pub IsItself : Span → Span → Type 0
IsItself span marked = marked ≡ span

-- The grammar of definitions reads this macro from the definition in that edition, and reports no
-- fault.
pub record IsMacroOf (edition : Edition) (definition : Forest) (m : Macro) : Type 0 where
  pub read : IsParsedRules (IsEdition edition) definition (record { rules = m.rules; err = None })
  pub faultless : m.err ≡ None

-- The answer to a call of that style with this argument. The grammar of definitions reads the macro
-- from the definition in that edition, and reports no fault.
pub record ExpandsBy (g : Grammar) (edition : Edition) (definition : Forest)
    (style : MacroCallStyle) (argument : Top)
    (call_site : Span)
    (out : Forest) (index : Option ℕ) (err : Option ExpandError) : Type 0 where
  pub rules : List Rule
  pub read : IsParsedRules (IsEdition edition) definition (record { rules = rules; err = None })
  pub answers : IsAnswer g IsItself rules style argument call_site out index err

-- The definition has that fault in that edition, or memory ran out.
abbrev pub HasNoMacro : {A : Type 0} → Edition → Forest → DefinitionError A → Type 0
HasNoMacro edition definition (Refused error) =
    (rules : List Rule) × IsParsedRules (IsEdition edition) definition
    (record { rules = rules; err = Some (parse_error_of error) })
HasNoMacro edition definition OutOfMemory = ⊤

-- One verdict for each rule, in order.
abbrev pub AreVerdicts : Grammar → Forest → List Rule → List Verdict → Type 0
AreVerdicts g argument [] [] = ⊤
AreVerdicts g argument (r ∷ rs) (v ∷ vs) =
    IsVerdict g r.reads argument v × AreVerdicts g argument rs vs
AreVerdicts g argument [] (v ∷ vs) = ⊥
AreVerdicts g argument (r ∷ rs) [] = ⊥

-- The verdicts of rules on an argument. The grammar of definitions reads the rules from the
-- definition in that edition, and reports no fault.
pub record ExplainsBy (g : Grammar) (edition : Edition) (definition argument : Forest)
    (answers : List Verdict) : Type 0 where
  pub rules : List Rule
  pub read : IsParsedRules (IsEdition edition) definition (record { rules = rules; err = None })
  pub verdicts : AreVerdicts g argument rules answers
