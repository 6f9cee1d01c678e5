-- What doesn't begin with a character.
use Rattle.std.proofs.Common.{◌≡◌, ℕ, ◌==◌, false, List, [], ◌∷◌, refl}
use Rattle.mbe_text.specs.Characters.{begins_with, slash}
use Rattle.mbe_text.specs.RustTokens.{begins_doc}
use Rattle.mbe_text.specs.Identifiers.{begins_raw}
use Rattle.mbe_text.proofs.CharacterLemmas.{not_first}

pub no_doc : (cs : List ℕ) → begins_with (slash ∷ []) cs ≡ false → false ≡ begins_doc cs
no_doc [] h = refl
no_doc (c ∷ cs) h = let e : (c == slash) ≡ false = not_first c slash cs h in rw e refl

pub no_raw : (cs : List ℕ) → begins_with (114 ∷ []) cs ≡ false → false ≡ begins_raw cs
no_raw [] h = refl
no_raw (c ∷ cs) h = let e : (c == 114) ≡ false = not_first c 114 cs h in rw e refl
