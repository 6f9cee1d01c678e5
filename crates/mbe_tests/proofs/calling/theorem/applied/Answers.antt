use Rattle.std.proofs.Common.{◌≡◌, ◌∙◌, List, ap, sym, subst, is_some}
use Rattle.std.specs.Prelude.{Contains}
use Rattle.std.proofs.lemmas.Bool.{true≢false}
use Rattle.mbe_ops.specs.Errors.ErrorViews.{errors_of}
use Rattle.mbe_semantics.specs.Expansion.Expansion.{NoneEnds}
use Rattle.mbe_semantics.specs.Expansion.Macro.{Macro}
use Rattle.mbe_semantics.specs.Syntax.Definition.{Rule}
use Rattle.mbe_semantics.specs.declared.macro_call_style.MacroCallStyle.{MacroCallStyle}
use Rattle.mbe_tt.specs.Grammars.Grammar.{Grammar}
use Rattle.mbe_tt.specs.Trees.Tree.{Forest}
use Rattle.mbe_tests.proofs.calling.theorem.applied.Goals as goal

-- No rule ends a call by the same rules.
quiet_there : {g : Grammar} {s : MacroCallStyle} {f : Forest} {rs qs : List Rule} → rs ≡ qs → NoneEnds g s f qs
    → NoneEnds g s f rs
quiet_there {g = g} {s = s} {f = f} e h = subst (λ xs. NoneEnds g s f xs) (sym e) h

-- With an error no rule applies, if none ends the call: where one does, `expand` reports none.
pub returns-in-Some-clause-none : goal.returns-in-Some-clause-none
returns-in-Some-clause-none g c = λ _ quiet rule inside applies.
    let same = ap (λ (m : Macro). m.rules) c.as_macro-defined.ensures.same in
    let among = subst (λ (rs : List Rule). Contains rs rule) (sym same) inside in
    let none_ends = quiet_there same quiet in
    absurd (true≢false (sym (ap (λ e. is_some (errors_of e)) c.in-Some.is)
    ∙ c.in_ok-expanded.ensures.expands.complete none_ends rule among applies))

-- Without one, the tree is the expansion by the rules of the macro that was checked.
pub returns-in-None-clause-some : goal.returns-in-None-clause-some
returns-in-None-clause-some g c =
    let same = ap (λ (m : Macro). m.rules) c.as_macro-defined.ensures.same in
    let found = c.in_ok-expanded.ensures.expands.sound (ap (λ e. is_some (errors_of e)) c.in-None.is) in
    (found.0, rw same at found.1)
