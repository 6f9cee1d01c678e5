-- Names of kinds, and those that name none.
use Rattle.std.specs.Prelude.{◌≡◌, ℕ, Bool, true, false, List, [], ◌∷◌, None, refl}
use Rattle.std.proofs.Common.{sym}
use Rattle.std.specs.Str.{bytes_eq}
use Rattle.std.proofs.lemmas.Slice.Eq.{bytes_eq-Decides}
use Rattle.mbe_semantics.specs.declared.fragment_kinds.MetaVarKind.{MetaVarKind}
use Rattle.mbe_semantics.specs.Fragments.Kinds.{kind_named}

-- the name is none of these
abbrev pub IsNoneOf : List (List ℕ × MetaVarKind) → List ℕ → Type 0
IsNoneOf [] name = Unit {0}
IsNoneOf (row ∷ rows) name = (name ≡ row.0 → ⊥) × IsNoneOf rows name

false_by : (b : Bool) (P : Type 0) → (b ≡ true → P) → (P → ⊥) → b ≡ false
false_by true P h n = absurd (n (h refl))
false_by false P h n = refl

pub different : (a b : List ℕ) → (b ≡ a → ⊥) → bytes_eq a b ≡ false
different a b n = false_by (bytes_eq a b) (a ≡ b) (bytes_eq-Decides a b).0 (λ e. n (sym e))

-- no row has the name
pub kind_named-none : (rows : List (List ℕ × MetaVarKind)) (name : List ℕ) → IsNoneOf rows name
    → None ≡ kind_named rows name
kind_named-none [] name n = refl
kind_named-none (row ∷ rows) name n = rw (different row.0 name n.0) (kind_named-none rows name n.1)
