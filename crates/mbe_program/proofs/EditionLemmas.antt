-- Definitions that are read in the only edition that is returned.
use Rattle.std.proofs.Common.{◌≡◌, Option, subst}
use Rattle.mbe_tt.specs.declared.span.Edition.{Edition}
use Rattle.mbe_tt.specs.declared.span.SyntaxContext.{SyntaxContext}
use Rattle.mbe_tt.specs.Trees.Tree.{Forest}
use Rattle.mbe_semantics.specs.Syntax.Template.{Fault}
use Rattle.mbe_semantics.specs.Expansion.Macro.{Macro}
use Rattle.mbe_semantics.specs.Expansion.ParsedMacro.{IsParsedRules}
use Rattle.mbe.proofs.EditionLemmas.{read_as}
use Rattle.mbe_program.specs.TreeExpansion.{IsEdition}

-- so it is read in the only edition that is returned, with the fault that it reports
pub read_in : {A : SyntaxContext → Edition → Type 0} (edition : Edition) (f : Forest) (m : Macro) (fault : Option Fault)
    → IsParsedRules A f m
    → ((c : SyntaxContext) (e : Edition) → A c e → e ≡ edition) → m.err ≡ fault
    → IsParsedRules (IsEdition edition) f (record { rules = m.rules; err = fault })
read_in edition f m fault read only e =
    let P : Option Fault → Type 0 = λ x. IsParsedRules (IsEdition edition) f (record { rules = m.rules; err = x }) in
    subst P e (read_as only f m read)
