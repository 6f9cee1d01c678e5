-- What the parser of rules returns, by their grammar.
use Rattle.std.specs.Prelude.{◌≡◌, ℕ, Bool, false, List, Result, Ok, Err}
use Rattle.mbe_tt.specs.Trees.Leaf.{ident, is_text}
use Rattle.mbe_tt.specs.Trees.Tree.{Forest, leaf}
use Rattle.mbe_tt.specs.declared.span.SyntaxContext.{SyntaxContext}
use Rattle.mbe_tt.specs.declared.span.Edition.{Edition}
use Rattle.mbe_semantics.specs.declared.macro_call_style.MacroCallStyle.{MacroCallStyle}
use Rattle.mbe_semantics.specs.Syntax.Template.{Fault}
use Rattle.mbe_semantics.specs.Syntax.Definition.{RuleTrees, Rule, pattern_at, rule_trees_at}
use Rattle.mbe_semantics.specs.Syntax.Definition.{AreParts}
use Rattle.mbe_ops.specs.declared.errors.error.SyntaxFault as reported
use Rattle.mbe_ops.specs.Errors.ErrorViews.{fault_of}

-- an identifier of that text is in front
abbrev pub begins_with_ident : List ℕ → Forest → Bool
begins_with_ident word (leaf (ident i) rest) = is_text i.sym word
begins_with_ident word _ = false

-- the style of the rule in front, and the trees after it; or the fault
abbrev pub IsStyled : Result MacroCallStyle reported.SyntaxFault → Result RuleTrees Fault → Forest
    → Type 0
IsStyled (Ok style) r left = r ≡ pattern_at style left
IsStyled (Err f) r left = r ≡ Err (fault_of f)

-- the trees of the pattern and of the template of one rule of the style, and those after it; or the
-- fault
abbrev pub AreRuleTrees : MacroCallStyle → Result (Forest × Forest) reported.SyntaxFault
    → Result RuleTrees Fault
    → Forest → Type 0
AreRuleTrees style (Ok parts) (Ok o) left =
    (o.style ≡ style) × (o.reads ≡ parts.0) × (o.writes ≡ parts.1) × (o.back ≡ left)
AreRuleTrees style (Ok parts) (Err x) left = ⊥
AreRuleTrees style (Err f) (Ok o) left = ⊥
AreRuleTrees style (Err f) (Err x) left = fault_of f ≡ x

-- a rule of that style, with the trees of its pattern, of its template, and those after it
abbrev pub rule_of_parts : MacroCallStyle × Forest × Forest → Forest → RuleTrees
rule_of_parts g left = record { style = g.0; reads = g.1; writes = g.2; back = left }

-- the trees of one rule, and those after it; or the fault
abbrev pub IsRule : Result (MacroCallStyle × Forest × Forest) reported.SyntaxFault
    → Result RuleTrees Fault → Forest
    → Type 0
IsRule (Ok g) r left = r ≡ Ok (rule_of_parts g left)
IsRule (Err f) r left = r ≡ Err (fault_of f)

module _ (HasEdition : SyntaxContext → Edition → Type 0) where
  -- a rule is in front, and these are the trees after it
  pub record ReadsRule (before : Forest) (r : Rule) (left : Forest) : Type 0 where
    pub rule_trees : RuleTrees
    pub at : rule_trees_at before ≡ Ok rule_trees
    pub parts : AreParts HasEdition rule_trees r
    pub following : rule_trees.back ≡ left
