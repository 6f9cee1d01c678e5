-- The expansion theorem. It relates three trees: those of the definition, the argument and the
-- result. It assumes the clauses of the calls that parse the definition and expand the argument,
-- and nothing else.
use Rattle.std.specs.Prelude.{◌≡◌, ◌↔◌, ℕ, List, Contains, Option, IsNone}
use Rattle.mbe_tt.specs.declared.span.Span.{Span}
use Rattle.mbe_tt.specs.declared.span.SyntaxContext.{SyntaxContext}
use Rattle.mbe_tt.specs.declared.span.Edition.{Edition}
use Rattle.mbe_tt.specs.Trees.Tree.{Forest}
use Rattle.mbe_tt.specs.Grammars.Grammar.{Grammar}
use Rattle.mbe_semantics.specs.declared.macro_call_style.MacroCallStyle.{MacroCallStyle}
use Rattle.mbe_semantics.specs.Syntax.Template.{Fault}
use Rattle.mbe_semantics.specs.Syntax.Definition.{Rule}
use Rattle.mbe_semantics.specs.Expansion.Error.{ExpandError}
use Rattle.mbe_semantics.specs.Expansion.Expansion.{Applies, NoneEnds}
use Rattle.mbe_semantics.specs.Expansion.Macro.{Macro, IsChecked, Expands}
use Rattle.mbe_semantics.specs.Expansion.ParsedMacro.{IsParsedRules, IsParsedMacro}
use Rattle.mbe_semantics.specs.Laws.Laws.{HasOneEdition}

-- A definition: the trees of `macro_rules`, or the trees of `macro`, with its arguments if it has
-- some.
pub data Definition : Type 0 where
  macro_rules : Forest → Definition
  declaration : Option Forest → Forest → Definition

module _ (Asked : SyntaxContext → Edition → Type 0) where
  -- the macro that the grammar of definitions reads from a definition
  abbrev pub IsMacroOf : Definition → Macro → Type 0
  IsMacroOf (macro_rules trees) m = IsParsedRules Asked trees m
  IsMacroOf (declaration arguments body) m = IsParsedMacro Asked arguments body m

module _ (Asked : SyntaxContext → Edition → Type 0) (Marks : Span → Span → Type 0) where
  -- If no rule ends the call, the result has no error exactly when some rule applies that the
  -- grammar of definitions reads from the definition. Then the result names the first such rule,
  -- and its tree is the substitution of that rule. With an error, the result names the closest rule
  -- of the style, if there is one. If each context has one edition, the grammar of definitions
  -- reads no other rules.
  pub record IsAnswerTo (g : Grammar) (definition : Definition) (argument : Forest)
      (style : MacroCallStyle)
      (call_site : Span) (out : Forest) (index : Option ℕ) (err : Option ExpandError) : Type 0 where
    pub rules : List Rule
    pub fault : Option Fault
    pub read : IsMacroOf Asked definition (record { rules = rules; err = fault })
    pub only : HasOneEdition Asked → (other : Macro) → IsMacroOf Asked definition other
        → other.rules ≡ rules
    pub exactly : NoneEnds g style argument rules
        → IsNone err ↔ ((r : Rule) × Contains rules r × Applies g style argument r)
    pub expands : Expands g Marks rules style argument call_site out index err

  -- Each call of `expand`, on a macro that `parse_macro_rules` or `parse_macro2` returned, has such
  -- a result.
  abbrev pub ExpandsFromTrees : Type 0
  ExpandsFromTrees =
      (g : Grammar) (definition : Definition) (argument : Forest) (m : Macro)
      (style : MacroCallStyle)
      (call_site : Span) (out : Forest) (index : Option ℕ) (err : Option ExpandError) →
      IsMacroOf Asked definition m → IsChecked m
      → Expands g Marks m.rules style argument call_site out index err →
      IsAnswerTo g definition argument style call_site out index err
