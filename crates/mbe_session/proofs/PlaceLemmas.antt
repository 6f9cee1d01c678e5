-- Lines by the table of line feeds.
use Rattle.std.proofs.Common.{◌≡◌, ◌≢◌, ◌⊎◌, ℕ, zero, suc, ◌+◌, ◌-◌, ◌<◌, ◌≤◌, true, false, List, [], ◌∷◌, ◌++◌, length}
use Rattle.std.proofs.Common.{take, drop, get_or, count_by, refl, ap, sym, ◌∙◌, arith, inl, inr, subst, zero-add}
use Rattle.std.proofs.Common.{length-append}
use Rattle.std.specs.List.{slice_index, slice_range}
use Rattle.std.specs.Str.{IsUtf8, IsCharBoundary}
use Rattle.std.specs.List.Sorted.{IsPartitionPoint, IsPartitionedBy}
use Rattle.std.proofs.lemmas.Bool.{cases_lt, ltb-true, ltb-false}
use Rattle.std.proofs.lemmas.List.Sorted.{IsPartitionedBy-ltb, IsNonDecreasingBy-from_default}
use Rattle.std.proofs.lemmas.List.{get_or-append-add, get_or_append_left, length-take-le, take-append-drop}
use Rattle.std.proofs.lemmas.List.{get_or_default}
use Rattle.std.proofs.lemmas.Str.{IsCharBoundary-start, IsCharBoundary-end, IsCharBoundary-before_ascii}
use Rattle.std.proofs.lemmas.Str.{IsCharBoundary-after_ascii}
use Rattle.mbe_session.specs.Locations.{is_feed, begins_character, feeds_from, start_of, end_of, AreBefore, IsLocation}
use Rattle.mbe_session.proofs.FeedLemmas.{feed_at, found_at, feeds_rise, feeds_append, feeds_counted}
use Rattle.std.proofs.Math.Dec.{ltb}

abbrev Feeds : List ℕ → List ℕ
Feeds text = feeds_from 0 text

at_feed : (text : List ℕ) (k : ℕ) → k < length (Feeds text)
    → (get_or (Feeds text) k 0 < length text) × (get_or text (get_or (Feeds text) k 0) 0 ≡ 10)
at_feed text k h =
    let f = feed_at 0 text k h in (
      omega (arith, f.1),
      let e : get_or (Feeds text) k 0 - 0 ≡ get_or (Feeds text) k 0 = omega arith in
          rw (sym e) f.2,
    )

-- ---- where lines begin

pub start_low : (fs : List ℕ) (at n : ℕ) → AreBefore fs at n → start_of fs n ≤ at
start_low fs at zero h = omega arith
start_low fs at (suc n) h = omega (arith, h.below n (omega arith))

pub start_begins : (text : List ℕ) (n : ℕ) → n ≤ length (Feeds text)
    → (start_of (Feeds text) n ≡ 0) ⊎ (slice_index text (start_of (Feeds text) n - 1) ≡ 10)
start_begins text zero h = inl refl
start_begins text (suc n) h =
    let e : (get_or (Feeds text) n 0 + 1) - 1 ≡ get_or (Feeds text) n 0 = omega arith in
    inr (rw e (at_feed text n (omega (arith, h))).1)

pub start_border : (text : List ℕ) (n : ℕ) → IsUtf8 text → n ≤ length (Feeds text)
    → IsCharBoundary text (start_of (Feeds text) n)
start_border text zero u h = IsCharBoundary-start text u
start_border text (suc n) u h =
    let f = at_feed text n (omega (arith, h)) in
    IsCharBoundary-after_ascii text (get_or (Feeds text) n 0) u f.0 (omega (arith, f.1))

-- ---- where they end

pub end_cases : (fs : List ℕ) (n len : ℕ)
    → ((n < length fs) × (end_of fs n len ≡ get_or fs n 0)) ⊎ ((length fs ≤ n) × (end_of fs n len ≡ len))
end_cases [] n len = inr (omega arith, refl)
end_cases (f ∷ fs) zero len = inl (omega arith, refl)
end_cases (f ∷ fs) (suc n) len = elim (end_cases fs n len) [
  | inl h ↦ inl (
    omega (arith, h.0),
    h.1,
  )
  | inr h ↦ inr (omega (arith, h.0), h.1)
]

pub end_high : (fs : List ℕ) (at n len : ℕ) → at ≤ len → AreBefore fs at n → at ≤ end_of fs n len
end_high fs at n len l h = elim (end_cases fs n len) [
  | inl e ↦ omega (
    arith,
    e.1,
    h.above n (omega arith) e.0,
  )
  | inr e ↦ omega (arith, e.1, l)
]

pub end_within : (text : List ℕ) (n : ℕ) → end_of (Feeds text) n (length text) ≤ length text
end_within text n = elim (end_cases (Feeds text) n (length text)) [
  | inl e ↦ omega (
    arith,
    e.1,
    (at_feed text n e.0).0,
  )
  | inr e ↦ omega (arith, e.1)
]

pub end_ends : (text : List ℕ) (n : ℕ)
    → (end_of (Feeds text) n (length text) ≡ length text)
    ⊎ (slice_index text (end_of (Feeds text) n (length text)) ≡ 10)
end_ends text n = elim (end_cases (Feeds text) n (length text)) [
  | inl e ↦ inr (rw e.1
      (at_feed text n e.0).1)
  | inr e ↦ inl e.1
]

pub end_border : (text : List ℕ) (n : ℕ) → IsCharBoundary text (end_of (Feeds text) n (length text))
end_border text n = elim (end_cases (Feeds text) n (length text)) [
  | inl e ↦ rw e.1 (let f = at_feed text n e.0 in
      IsCharBoundary-before_ascii text (get_or (Feeds text) n 0) f.0 (omega (arith, f.1)))
  | inr e ↦ rw e.1 (IsCharBoundary-end text)
]

-- ---- no line feed between

feed_outside : (fs : List ℕ) (len n i k : ℕ) → n ≤ length fs → ((a b : ℕ) → a ≤ b → b < length fs
    → get_or fs a 0 ≤ get_or fs b 0) → k < length fs → get_or fs k 0 ≡ i → start_of fs n ≤ i → i < end_of fs n len → ⊥
feed_outside fs len zero i k w rise h e low high = elim (end_cases fs 0 len) [
  | inl c ↦ absurd (omega (arith, c.1, rise 0 k (omega arith) h, e, high))
  | inr c ↦ absurd (omega (arith, c.0, h))
]
feed_outside fs len (suc n) i k w rise h e low high = elim (cases_lt n k) [
  | inr l ↦ omega (arith, rise k n l (omega (arith, w)), e, low)
  | inl l ↦ elim (end_cases fs (suc n) len) [
    | inl c ↦ omega (arith, c.1, rise (suc n) k (omega (arith, l)) h, e, high)
    | inr c ↦ omega (arith, c.0, h, l)
  ]
]

pub none_between : (text : List ℕ) (n i : ℕ) → n ≤ length (Feeds text) → start_of (Feeds text) n ≤ i
    → i < end_of (Feeds text) n (length text) → slice_index text i ≢ 10
none_between text n i w low high ten =
    let f = found_at 0 text i (omega (arith, high, end_within text n)) ten in
    feed_outside (Feeds text) (length text) n i f.0 w (feeds_rise 0 text) f.1 (omega (arith, f.2)) low high

-- ---- how many precede

before_length : (xs ys : List ℕ) (at n : ℕ) → ((k : ℕ) → k < length xs → get_or xs k 0 < at) → ((k : ℕ)
    → k < length ys → at ≤ get_or ys k 0) → AreBefore (xs ++ ys) at n → n ≡ length xs
before_length xs ys at n below above h =
    let total : length (xs ++ ys) ≡ length xs + length ys = length-append xs ys in
    elim (cases_lt n (length xs)) [
      | inl l ↦ absurd (omega (
        arith,
        h.above n (omega arith) (omega (arith, l, total)),
        below n l,
        get_or_append_left xs ys 0 n l,
      ))
      | inr l ↦ elim (cases_lt (length xs) n) [
        | inl m ↦ absurd (omega (arith, h.below (length xs) m, above 0 (omega (arith, m, total, h.within)), beyond))
        | inr m ↦ omega (arith, l, m)
      ]
    ]
  where
    beyond : get_or (xs ++ ys) (length xs) 0 ≡ get_or ys 0 0
    beyond = let e : length xs + 0 ≡ length xs = omega arith in rw (sym e) (get_or-append-add xs ys 0 0)

pub line_counted : (text : List ℕ) (at n : ℕ) → at ≤ length text → AreBefore (Feeds text) at n
    → n ≡ count_by is_feed (take at text)
line_counted text at n l h =
    let split_at_column = length-take-le at text l in
    let split : Feeds text ≡ feeds_from 0 (take at text) ++ feeds_from at (drop at text) =
    ap Feeds (sym (take-append-drop at text)) ∙ feeds_append 0 (take at text) (drop at text)
    ∙ ap (λ m. feeds_from 0 (take at text) ++ feeds_from m (drop at text)) (zero-add _ ∙ split_at_column) in
    before_length (feeds_from 0 (take at text)) (feeds_from at (drop at text)) at n
    (λ k m. omega (arith, (feed_at 0 (take at text) k m).1, split_at_column))
    (λ k m. (feed_at at (drop at text) k m).0)
    (let P : List ℕ → Type 0 = λ fs. AreBefore fs at n in subst P split h)
    ∙ feeds_counted 0 (take at text)

pub place_found : (text fs : List ℕ) (at n : ℕ) → fs ≡ feeds_from 0 text → at ≤ length text → AreBefore fs at n
    → IsLocation text at (n + 1) (count_by begins_character (slice_range text (start_of fs n) at) + 1)
    (slice_range text (start_of fs n) (end_of fs n (length text)))
place_found text fs at n e l h = let P : List ℕ → Type 0 = λ gs. AreBefore gs at n
    → IsLocation text at (n + 1) (count_by begins_character (slice_range text (start_of gs n) at) + 1)
    (slice_range text (start_of gs n) (end_of gs n (length text))) in
    subst P (sym e) (λ b. record {
      start = start_of (Feeds text) n;
      end = end_of (Feeds text) n (length text);
      from_start = start_low (Feeds text) at n b;
      to_end = end_high (Feeds text) at n (length text) l b;
      within = end_within text n;
      begins = start_begins text n b.within;
      ends = end_ends text n;
      is_one = λ i. none_between text n i b.within;
      number = omega (arith, line_counted text at n l b);
      place = omega arith;
      is_shown = refl;
    }) h

pub start_cuts : (text fs : List ℕ) (n : ℕ) → fs ≡ feeds_from 0 text → IsUtf8 text → n ≤ length fs
    → IsCharBoundary text (start_of fs n)
start_cuts text fs n e u = let P : List ℕ → Type 0 = λ gs. n ≤ length gs
    → IsCharBoundary text (start_of gs n) in subst P (sym e) (start_border text n u)

pub end_cuts : (text fs : List ℕ) (n : ℕ) → fs ≡ feeds_from 0 text → IsCharBoundary text (end_of fs n (length text))
end_cuts text fs n e = let P : List ℕ
    → Type 0 = λ gs. IsCharBoundary text (end_of gs n (length text)) in subst P (sym e) (end_border text n)

-- ---- the search in the table

pub point_before : (fs : List ℕ) (at n : ℕ) → n ≤ length fs
    → IsPartitionPoint (λ y. ltb y at ≡ true) (λ y. ltb y at ≡ false) fs n → AreBefore fs at n
point_before fs at n w h = record {
  within = w;
  below = λ k l. ltb-true _ _ (h.0 k 0 (omega arith) l);
  above = λ k l m. ltb-false _ _ (h.1 k 0 l m);
}

pub parted : (text fs : List ℕ) (at : ℕ) → fs ≡ feeds_from 0 text → IsPartitionedBy (λ y. ltb y at) fs
parted text fs at e = let P : List ℕ → Type 0 = λ gs. IsPartitionedBy (λ y. ltb y at) gs in
    subst P (sym e) (IsPartitionedBy-ltb (λ y. y) (Feeds text) at (IsNonDecreasingBy-from_default (λ y. y)
    (Feeds text) 0 (feeds_rise 0 text)))

pub original_parts : (text fs shown : List ℕ) (at n start end columns : ℕ) → fs ≡ feeds_from 0 text → at ≤ length text
    → AreBefore fs at n → start ≡ start_of fs n → end ≡ end_of fs n (length text)
    → columns ≡ count_by begins_character (slice_range text start at) → shown ≡ slice_range text start end
    → IsLocation text at (n + 1) (columns + 1) shown
original_parts text fs shown at n start end columns e l h s t c r =
    rw r (rw c (rw t (rw s (place_found text fs at n e l h))))

pub feed_short : (text fs : List ℕ) (k d : ℕ) → fs ≡ feeds_from 0 text → k < length fs → get_or fs k d < length text
feed_short text fs k d e = let P : List ℕ → Type 0 = λ gs. k < length gs → get_or gs k d < length text in
    subst P (sym e) (λ h. omega (arith, (at_feed text k h).0, get_or_default (Feeds text) k d 0 h))

pub start_le_end : (fs : List ℕ) (at n len : ℕ) → at ≤ len → AreBefore fs at n → start_of fs n ≤ end_of fs n len
start_le_end fs at n len l h = omega (arith, start_low fs at n h, end_high fs at n len l h)
