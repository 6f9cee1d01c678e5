-- What is said of definitions with the editions of one answer is said with those of another answer that allows them.
use Rattle.std.proofs.Common.{◌≡◌, List, [], ◌∷◌, Some, None, Result, Ok, Err, subst}
use Rattle.std.specs.Prelude.{OnOk}
use Rattle.mbe_tt.specs.declared.span.Edition.{Edition}
use Rattle.mbe_tt.specs.declared.span.SyntaxContext.{SyntaxContext}
use Rattle.mbe_tt.specs.Trees.Tree.{Forest}
use Rattle.mbe_semantics.specs.Expansion.Macro.{Macro}
use Rattle.mbe_rewriter.specs.MacroItems.{DefinitionForm, Rules, Body, Arguments, MacroDefinition}
use Rattle.mbe.proofs.EditionLemmas.{read_as, read_as_macro}
use Rattle.mbe_session.specs.Scopes.{IsEdition}
use Rattle.mbe_diagnostics.specs.Lints.Definitions.{definitions}
use Rattle.mbe_diagnostics.specs.Lints.Lint.{Lint}
use Rattle.mbe_diagnostics.specs.Lints.Linter.{IsReadIn, IsLinted, AreLinted}
use Rattle.mbe_session.proofs.RefusedEditions.{refused_read}

module _ {A B : SyntaxContext → Edition → Type 0} (more : (c : SyntaxContext) (e : Edition) → A c e → B c e) where
  read_in : (form : DefinitionForm) (d : MacroDefinition) (m : Macro) → IsReadIn A form d m → IsReadIn B form d m
  read_in Rules d m h = read_as more d.rules m h
  read_in Body d m h = read_as_macro more None d.rules m h
  read_in (Arguments k pattern) d m h = read_as_macro more (Some pattern) d.rules m h

  linted : (d : MacroDefinition) (before after : List Lint) → IsLinted A d before after → IsLinted B d before after
  linted d before after h = record {
    rules = h.rules;
    read = read_in d.form d h.rules h.read;
    location = h.location;
    refused = refused_read more h.refused;
    are = h.are;
  }

  pub all_linted : (ds : List MacroDefinition) (before after : List Lint) → AreLinted A ds before after
      → AreLinted B ds before after
  all_linted [] before after h = h
  all_linted (d ∷ ds) before after h =
      (h.0, linted d before h.0 h.1, all_linted ds h.0 after h.2)

pub tree_linted : {X R : Type 0} {A : SyntaxContext → Edition → Type 0} (r : Result X R) (edition : Edition)
    (f g : Forest) (before after : List Lint) → ((c : SyntaxContext) (e : Edition) → A c e → e ≡ edition) → f ≡ g
    → OnOk r (AreLinted A (definitions 1001 f) before after)
    → OnOk r (AreLinted (IsEdition edition) (definitions 1001 g) before after)
tree_linted {A = A} (Ok x) edition f g before after only same h =
    subst (λ k. AreLinted (IsEdition edition) (definitions 1001 k) before after) same
    (all_linted {A = A} {B = IsEdition edition} only (definitions 1001 f) before after h)
tree_linted (Err e) edition f g before after only same h = h
