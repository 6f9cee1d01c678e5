-- Where a definition that was read is refused.
use Rattle.std.specs.Prelude.{◌≡◌, Bool, true, false, if◌then◌else◌, [], ◌∷◌, List, ℕ, Option, Some, None, Result, Ok}
use Rattle.std.specs.Prelude.{Err, IfOk}
use Rattle.std.proofs.Common.{ap, sym, subst}
use Rattle.std.specs.List.{list_any}
use Rattle.mbe_tt.specs.declared.span.Edition.{Edition}
use Rattle.mbe_tt.specs.declared.span.Span.{Span}
use Rattle.mbe_tt.specs.declared.span.SyntaxContext.{SyntaxContext}
use Rattle.mbe_tt.specs.declared.tt.Delimiter.{Delimiter}
use Rattle.mbe_tt.specs.Trees.Tree.{Forest}
use Rattle.mbe_ops.specs.Errors.ErrorViews.{fault_of}
use Rattle.mbe_ops.specs.declared.errors.error.SyntaxFault as reported
use Rattle.mbe_semantics.specs.Syntax.Template.{Mode, Fault, empty_repetition}
use Rattle.mbe_semantics.specs.Syntax.Nullable.{is_refused}
use Rattle.mbe_semantics.specs.Syntax.Definition.{Rule}
use Rattle.mbe_semantics.specs.Expansion.Macro.{Macro}
use Rattle.mbe_rewriter.specs.MacroItems.{DefinitionForm, Rules, Body, Arguments}
use Rattle.mbe_parser.specs.RefusedRepetitions as refused
use Rattle.mbe_diagnostics.specs.declared.lints.error_location.ErrorLocation.{ErrorLocation}
use Rattle.mbe_diagnostics.specs.Lints.ErrorLocation.{RefusedAt, not_refused, in_rules, in_body, in_part}
use Rattle.mbe_diagnostics.specs.Lints.ErrorLocation.{rules_location, part_location}

-- what two clauses say of a result together
pub by_both : {T E : Type 0} (r : Result T E) (P Q R : T → Type 0) → ((x : T) → P x → Q x → R x) → IfOk r P → IfOk r Q
    → IfOk r R
by_both (Ok x) P Q R k p q = k x p q
by_both (Err e) P Q R k p q = tt

module _ (HasEdition : SyntaxContext → Edition → Type 0) (close : Span) (rules : Forest) where
  pub not_refused_at : (form : DefinitionForm) (m : Macro) (location : Option ErrorLocation) → m.err ≡ None → location
      ≡ None
      → RefusedAt HasEdition close rules m form location
  not_refused_at form m location e s =
      subst (λ (x : Option ErrorLocation). RefusedAt HasEdition close rules m form x) (sym s) (not_refused form e)

  module _ (why : Fault) (m : Macro) (location : Option ErrorLocation) (e : m.err ≡ Some why) where
    pub fault_in_rules : (rule n : ℕ) → location ≡ Some (rules_location close rules rule n)
        → refused.RefusedAt HasEdition (59 ∷ []) (fault_of reported.TheVariants.ExpectedSemicolon) rules why rule n
        → RefusedAt HasEdition close rules m Rules location
    fault_in_rules rule n s w =
        subst (λ (x : Option ErrorLocation). RefusedAt HasEdition close rules m Rules x) (sym s)
        (in_rules why rule n e w)

    pub fault_in_body : (rule n : ℕ) → location ≡ Some (rules_location close rules rule n)
        → refused.RefusedAt HasEdition (59 ∷ 44 ∷ []) (fault_of reported.TheVariants.ExpectedSeparator) rules why rule n
        → RefusedAt HasEdition close rules m Body location
    fault_in_body rule n s w =
        subst (λ (x : Option ErrorLocation). RefusedAt HasEdition close rules m Body x) (sym s) (in_body why rule n e w)

    pub fault_in_part : (k : Delimiter) (arguments : Forest) (part : Mode) (n : ℕ)
        → location ≡ Some (part_location k.close arguments close rules part n)
        → refused.OneRefusedAt HasEdition arguments rules why part n
        → RefusedAt HasEdition close rules m (Arguments k arguments) location
    fault_in_part k arguments part n s w =
        subst (λ (x : Option ErrorLocation). RefusedAt HasEdition close rules m (Arguments k arguments) x) (sym s)
        (in_part k arguments why part n e w)
