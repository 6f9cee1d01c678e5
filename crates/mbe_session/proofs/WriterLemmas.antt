-- What a writer took.
use Rattle.std.proofs.Common.{◌≡◌, ℕ, List, Option, None, Result, inr, subst}
use Rattle.std.specs.Prelude.{IfSome}
use Rattle.std.proofs.lemmas.Option.{IfSome_then}
use Rattle.mbe_tt.specs.Trees.Top.{Top}
use Rattle.mbe_text.specs.WriterBytes.{Writes}
use Rattle.mbe_session.specs.CallReplacements.{NoneCalled}
use Rattle.mbe_session.specs.Scopes.{Definition}
use Rattle.mbe_session.specs.declared.locations.CallPosition.{CallPosition}
use Rattle.mbe_session.specs.FileExpansion.{WritesOne}

-- ---- what is written

pub wrote : {T E : Type 0} (a b : Option (List ℕ)) (r : Result T E) (Is : List ℕ → Type 0) (bytes written : List ℕ)
    → Is bytes
    → written ≡ bytes → Writes a b r written → WritesOne a b r Is
wrote a b r Is bytes written is h w = inr (bytes, is, subst (Writes a b r) h w)

-- the text itself, where no known macro is called
pub wrote_unknown : {T E : Type 0} (a b : Option (List ℕ)) (r : Result T E) (c : Option Top) (ds : List Definition)
    (call : Option CallPosition) (bytes written text : List ℕ)
    → IfSome c (λ tree. call ≡ None → NoneCalled ds tree.1 → bytes ≡ text) → written ≡ bytes → Writes a b r written
    → IfSome c (λ tree. call ≡ None → NoneCalled ds tree.1 → WritesOne a b r (λ s. s ≡ text))
wrote_unknown a b r c ds call bytes written text h is w =
    IfSome_then c h (λ (tree : Top) same whole unknown.
    wrote a b r (λ s. s ≡ text) bytes written (same whole unknown) is w)
