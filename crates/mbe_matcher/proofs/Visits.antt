-- A table of dots, one of which is met.
use Rattle.std.proofs.Common.{ℕ, ◌+◌, ◌≡◌, ◌<◌, inl, inr, ◌⊎◌, Option, Some, None, List, length, set, get_or, ◌∙◌, ap}
use Rattle.std.proofs.Common.{arith}
use Rattle.std.proofs.lemmas.Bool.Decides.{nat_tests}
use Rattle.std.proofs.lemmas.List.{get_or-set_same, get_or-set_other, length-set}
use Rattle.mbe_laws.proofs.States.Sift.{equal_or_not}
use Rattle.mbe_matcher.specs.VisitedSet.{visits_at, AreUnvisitedFrom}

-- the dot counts nothing elsewhere
elsewhere : (q offset : ℕ) → (offset ≡ q → ⊥) → visits_at q (Some offset) ≡ 0
elsewhere q offset h = grind (arith, nat_tests, h)

pub unvisited_set : (offsets : List (Option ℕ)) (offset i : ℕ) → i < length offsets
    → AreUnvisitedFrom offsets (offset + 1)
    → AreUnvisitedFrom (set offsets i (Some offset)) (offset + 1)
unvisited_set offsets offset i l h q more = record { counted = counted }
  where
    same : (n : ℕ) → n < length (set offsets i (Some offset)) → (n ≡ i) ⊎ (n ≡ i → ⊥)
        → visits_at q (get_or (set offsets i (Some offset)) n None) ≡ 0
    same n k (inl d) =
        ap (λ j. visits_at q (get_or (set offsets i (Some offset)) j None)) d
        ∙ ap (visits_at q) (get_or-set_same offsets i (Some offset) None l)
        ∙ elsewhere q offset (λ f. omega (arith, f, more))
    same n k (inr d) =
        ap (visits_at q) (get_or-set_other offsets i n (Some offset) None d)
        ∙ (h q more).counted n (let s : length (set offsets i (Some offset))
        ≡ length offsets = length-set offsets i (Some offset) in omega (arith, s, k))

    counted : (n : ℕ) → n < length (set offsets i (Some offset))
        → visits_at q (get_or (set offsets i (Some offset)) n None) ≡ 0
    counted n k = same n k (equal_or_not n i)
