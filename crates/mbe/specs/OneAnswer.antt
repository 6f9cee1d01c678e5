-- A call has exactly one answer.
use Rattle.std.specs.Prelude.{◌≡◌, ℕ, List, Option, is_some}
use Rattle.mbe_tt.specs.declared.grammar.Dialect.TheVariants.{RustAnalyzer}
use Rattle.mbe_tt.specs.declared.span.Span.{Span}
use Rattle.mbe_tt.specs.Trees.Tree.{Forest}
use Rattle.mbe_tt.specs.Trees.Top.{Top}
use Rattle.mbe_tt.specs.Grammars.Grammar.{Grammar, IsLawful}
use Rattle.mbe_semantics.specs.declared.macro_call_style.MacroCallStyle.{MacroCallStyle}
use Rattle.mbe_semantics.specs.Syntax.Definition.{Rule}
use Rattle.mbe_semantics.specs.Expansion.Error.{ExpandError}
use Rattle.mbe_semantics.specs.Expansion.Expansion.{NoneEnds}
use Rattle.mbe_semantics.specs.Expansion.Macro.{Expands}
use Rattle.mbe_semantics.specs.Syntax.Op.{Ops}
use Rattle.mbe_semantics.specs.Bindings.Environment.{Environment}
use Rattle.mbe_semantics.specs.Transcription.Rounds.{Path}
use Rattle.mbe_semantics.specs.Transcription.Substitution.{faults}
use Rattle.mbe_semantics.specs.Laws.Laws.{HasOneAnswer}
use Rattle.mbe_transcriber.specs.TemplateFaults.{first_fault}
use Rattle.mbe.specs.ClosestRule.{Recovers}
use Rattle.mbe.specs.RuleChoice.{AreChecked}

-- the contract of `expand`: the tree, the index of its rule, and the error or none
pub record IsAnswer (g : Grammar) (Marks : Span → Span
    → Type 0) (rs : List Rule) (style : MacroCallStyle) (input : Top)
    (call_site : Span)
    (out : Forest) (index : Option ℕ) (err : Option ExpandError) : Type 0 where
  pub expands : Expands g Marks rs style input.1 call_site out index err
  pub recovers : Recovers g call_site input Marks rs style out index err

-- If the marker returns one span for each span, a call has at most one answer: one tree, one index,
-- and one error or none.
abbrev pub OneAnswer : (Span → Span → Type 0) → Type 0
OneAnswer Marks = HasOneAnswer Marks
    → (g : Grammar) (rs : List Rule) (style : MacroCallStyle) (input : Top)
    (call_site : Span)
    (out other : Forest) (index rule_index : Option ℕ) (err reported : Option ExpandError)
    → IsLawful g →
    IsAnswer g Marks rs style input call_site out index err
    → IsAnswer g Marks rs style input call_site other rule_index reported →
    (out ≡ other) × (index ≡ rule_index) × (err ≡ reported)

-- in rust-analyzer's dialect, no rule ends a call
abbrev pub NoRuleEnds : Type 0
NoRuleEnds = (g : Grammar) → g.dialect ≡ RustAnalyzer → (style : MacroCallStyle)
    (argument : Forest) (rs : List Rule) → NoneEnds g style argument rs

-- A template has a fault in the rounds of a path exactly if it has a first fault there.
abbrev pub FaultsAgree : Type 0
FaultsAgree = (call_site : Span) (env : Environment) (path : Path) (os : Ops)
    → is_some (first_fault call_site env path os) ≡ faults env path os

-- the marker returns some span for each span
abbrev pub HasSomeSpan : (Span → Span → Type 0) → Type 0
HasSomeSpan Marks = (s : Span) → (t : Span) × Marks s t

-- Then a call of checked rules has an answer.
abbrev pub HasAnswer : (Span → Span → Type 0) → Type 0
HasAnswer Marks = HasSomeSpan Marks
    → (g : Grammar) (rs : List Rule) (style : MacroCallStyle) (input : Top)
    (call_site : Span) → IsLawful g → AreChecked rs →
    (out : Forest) × (index : Option ℕ) × (err : Option ExpandError)
    × IsAnswer g Marks rs style input call_site out index err
