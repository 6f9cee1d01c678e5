-- What a macro writes with the marks of the program.
use Rattle.std.proofs.Common.{◌≡◌, ℕ, List, Option}
use Rattle.mbe_tt.specs.declared.span.Span.{Span}
use Rattle.mbe_tt.specs.Trees.Top.{Top}
use Rattle.mbe_tt.specs.Trees.Tree.{Forest}
use Rattle.mbe_tt.specs.Grammars.Grammar.{Grammar}
use Rattle.mbe_semantics.specs.declared.macro_call_style.MacroCallStyle.{MacroCallStyle}
use Rattle.mbe_semantics.specs.Syntax.Definition.{Rule}
use Rattle.mbe_semantics.specs.Expansion.Error.{ExpandError}
use Rattle.mbe.specs.OneAnswer.{IsAnswer}
use Rattle.mbe.proofs.MarkLemmas.{expands_so, recovered_so}
use Rattle.mbe_program.specs.TreeExpansion.{IsItself}

-- so it is written with each span as it is, where no other mark is returned
pub answers_unmarked : {A : Span → Span → Type 0} (g : Grammar) (rules : List Rule) (style : MacroCallStyle)
    (input : Top) (call_site : Span) (out : Forest) (i : Option ℕ)
    (err : Option ExpandError) → IsAnswer g A rules style input call_site out i err → ((s t : Span) → A s t → t ≡ s)
    → IsAnswer g IsItself rules style input call_site out i err
answers_unmarked g rules style input call_site out i err h only = record {
  expands = expands_so g only call_site rules style input.1 out i err h.expands;
  recovers = recovered_so g only call_site rules style input out i err h.recovers;
}
