-- A table of marks, one of which counts once more.
use Rattle.std.proofs.Common.{ℕ, ◌+◌, ◌-◌, ◌≡◌, ◌<◌, ◌≤◌, inl, inr, ◌⊎◌, List, [], ◌∷◌, length, set, get_or, refl, sym}
use Rattle.std.proofs.Common.{◌∙◌, ap, arith}
use Rattle.std.proofs.lemmas.Bool.Decides.{nat_tests}
use Rattle.std.proofs.lemmas.List.{get_or-set_same, get_or-set_other, length-set}
use Rattle.std.proofs.lemmas.List.Sums.{sum_by-cons, sum_by-set}
use Rattle.std.proofs.lemmas.Option.{slice_get_read, get_or_from_slice_get}
use Rattle.mbe_laws.proofs.States.Sift.{equal_or_not}
use Rattle.mbe_threads.specs.declared.visit_counts.Mark.{Mark}
use Rattle.mbe_threads.specs.VisitCounts.{count_at, unvisited, NoVisitsFrom, vacancies}

-- a mark of another place counts nothing there
elsewhere : (q : ℕ) (m : Mark) → (m.offset ≡ q → ⊥) → count_at q m ≡ 0
elsewhere q m h = grind (arith, nat_tests, h)

pub blank_set : (marks : List Mark) (offset i : ℕ) (m : Mark) → m.offset ≡ offset → i < length marks
    → NoVisitsFrom marks (offset + 1) → NoVisitsFrom (set marks i m) (offset + 1)
blank_set marks offset i m e l h q more = record { counted = counted }
  where
    same : (n : ℕ) → n < length (set marks i m) → (n ≡ i) ⊎ (n ≡ i → ⊥)
        → count_at q (get_or (set marks i m) n unvisited) ≡ 0
    same n k (inl d) =
        ap (λ j. count_at q (get_or (set marks i m) j unvisited)) d
        ∙ ap (count_at q) (get_or-set_same marks i m unvisited l)
        ∙ elsewhere q m (λ f. omega (arith, e, f, more))
    same n k (inr d) = ap (count_at q) (get_or-set_other marks i n m unvisited d)
        ∙ (h q more).counted n (let s : length (set marks i m)
        ≡ length marks = length-set marks i m in omega (arith, s, k))

    counted : (n : ℕ) → n < length (set marks i m) → count_at q (get_or (set marks i m) n unvisited) ≡ 0
    counted n k = same n k (equal_or_not n i)

mark_is : (marks : List Mark) (i : ℕ) (m : Mark) → i < length marks → m ≡ get_or marks i m → get_or marks i unvisited
    ≡ m
mark_is marks i m l e = get_or_from_slice_get marks i m unvisited (slice_get_read marks (length marks) i m refl l e)

here : (m : Mark) → count_at m.offset m ≡ m.count
here m = grind (arith, nat_tests)

pub vacancy_falls : (offset : ℕ) (marks : List Mark) (i : ℕ) (old : Mark) (count : ℕ) → i < length marks
    → old ≡ get_or marks i old → count ≡ count_at offset old → count < 2 →
    vacancies offset (set marks i (record { offset = offset; count = count + 1 })) < vacancies offset marks
vacancy_falls offset marks i old count l e c few =
    let m : Mark = record { offset = offset; count = count + 1 } in
    let s : vacancies offset (set marks i m) + (2 - count_at offset (get_or marks i unvisited))
    ≡ vacancies offset marks + (2 - count_at offset m) =
    sum_by-set (λ (m : Mark). 2 - count_at offset m) marks i m unvisited l in
    let a : count_at offset (get_or marks i unvisited) ≡ count =
    ap (count_at offset) (mark_is marks i old l e) ∙ sym c in
    let b : count_at offset m ≡ count + 1 = here m in
    omega (arith, s, few, a, b)

pub vacancies_most : (offset : ℕ) (marks : List Mark) → vacancies offset marks ≤ length marks + length marks
vacancies_most offset [] = omega arith
vacancies_most offset (m ∷ ms) =
    let s : vacancies offset (m ∷ ms) ≡ (2 - count_at offset m) + vacancies offset ms =
    sum_by-cons (λ (m : Mark). 2 - count_at offset m) m ms in
    let r : vacancies offset ms ≤ length ms + length ms = vacancies_most offset ms in
    omega (arith, s, r)
