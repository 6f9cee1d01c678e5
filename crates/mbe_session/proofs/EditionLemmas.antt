-- Definitions that are read in the edition of a file.
use Rattle.std.proofs.Common.{◌≡◌, Option, Some, None, Bor, ap, subst}
use Rattle.std.specs.Prelude.{Result, Ok, Err, IfOk, option_map, option_copied}
use Rattle.mbe_tt.specs.Trees.Top.{Top}
use Rattle.mbe_tt.specs.Trees.Tree.{Forest}
use Rattle.mbe_tt.specs.declared.span.Edition.{Edition}
use Rattle.mbe_tt.specs.declared.span.SyntaxContext.{SyntaxContext}
use Rattle.mbe_semantics.specs.Expansion.Macro.{Macro}
use Rattle.mbe_semantics.specs.Expansion.ParsedMacro.{IsParsedMacro}
use Rattle.mbe.proofs.EditionLemmas.{read_as_macro}
use Rattle.mbe_session.specs.Scopes.{IsEdition}

pub read_by : {X R : Type 0} {P Q : X → Type 0} (r : Result X R) → ((x : X) → P x → Q x) → IfOk r P → IfOk r Q
read_by (Ok x) more h = more x h
read_by (Err e) more h = h

-- a `macro` definition that was read by borrowed trees
pub macro_read : {X R : Type 0} {A : SyntaxContext → Edition → Type 0} (v : X → Macro) (r : Result X R)
    (a b : Option Forest) (body : Forest) (edition : Edition)
    → IfOk r (λ m. IsParsedMacro A a body (v m)) → a ≡ b → ((c : SyntaxContext) (e : Edition) → A c e → e ≡ edition)
    → IfOk r (λ m. IsParsedMacro (IsEdition edition) b body (v m))
macro_read {A = A} v (Ok m) a b body edition h e only =
    subst (λ x. IsParsedMacro (IsEdition edition) x body (v m)) e
    (read_as_macro {A = A} {B = IsEdition edition} only a body (v m) h)
macro_read v (Err x) a b body edition h e only = h

pub as_shown : (r : Option (Bor Top)) (o : Option Top) → option_copied r ≡ o
    → option_map (λ t. t.now.1) r ≡ option_map (λ t. t.1) o
as_shown None o e = ap (option_map (λ t. t.1)) e
as_shown (Some x) o e = ap (option_map (λ t. t.1)) e
