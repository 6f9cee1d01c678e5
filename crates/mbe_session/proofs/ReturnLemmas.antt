-- Carriage returns that are taken out and put in, and what a search finds among the places where they were.
use Rattle.std.proofs.Common.{◌≡◌, ℕ, zero, suc, ◌+◌, ◌-◌, ◌<◌, ◌≤◌, Bool, true, false, List, [], ◌∷◌, ◌++◌, length}
use Rattle.std.proofs.Common.{map, take, drop, get_or, count_by, nat_lt, cond, Bor, length-append, refl, ap, sym, ◌∙◌}
use Rattle.std.proofs.Common.{arith, inl, inr, subst, Some, None, Result, Ok, Err}
use Rattle.std.specs.Prelude.{IfOk}
use Rattle.std.specs.List.Sorted.{IsPartitionedBy}
use Rattle.std.proofs.Math.Dec.{ltb}
use Rattle.std.proofs.Math.ListN.{drop_of_length-le}
use Rattle.std.proofs.lemmas.List.Sorted.{IsPartitionedBy-ltb, IsNonDecreasingBy-from_default}
use Rattle.std.proofs.lemmas.Bool.{le-ltb, lt-ltb}
use Rattle.std.proofs.lemmas.Grind.{common_steps}
use Rattle.std.proofs.lemmas.List.{append_assoc, append-nil, drop_more, take_more, map-append}
use Rattle.std.proofs.lemmas.List.Sums.{sum_by-cons}
use Rattle.std.specs.Str.Replace.{ReplacesMatches}
use Rattle.std.specs.Str.Pattern.{FindsText, LacksTextAt}
use Rattle.mbe_rewriter.specs.Splice.{SplicedPart}
use Rattle.mbe_session.specs.Locations.{is_feed, AreBefore}
use Rattle.mbe_session.specs.LineEndings.{IsAscending, with_endings_of, is_crlf, normalized, returns_from, with_crlf}

abbrev ends : List ℕ
ends = 13 ∷ 10 ∷ []

-- ---- taken out

goes_is : (byte : ℕ) (rest : List ℕ) → is_crlf byte rest ≡ true
    → (more : List ℕ) × (byte ∷ rest ≡ 13 ∷ 10 ∷ more)
goes_is byte [] h = grind (arith, common_steps)
goes_is byte (next ∷ more) h =
    let first : byte ≡ 13 = grind (arith, common_steps) in
    let second : next ≡ 10 = grind (arith, common_steps) in
    (more, rw first (rw second refl))

lacks_front : (byte : ℕ) (rest : List ℕ) (t : Bool) → is_crlf byte rest ≡ t → LacksTextAt ends (byte ∷ rest) 0
    → t ≡ false
lacks_front byte rest false e lacks = refl
lacks_front byte rest true e lacks = let g = goes_is byte rest e in absurd (lacks g.0 g.1)

plain_kept : (byte : ℕ) (rest : List ℕ) → is_crlf byte rest ≡ false → normalized (byte ∷ rest) ≡ byte ∷ normalized rest
unfolding normalized
plain_kept byte rest h = rw h refl

plain_before : (a : ℕ) (s more : List ℕ) → ((i : ℕ) → i < a → LacksTextAt ends s i) → drop a s ≡ 13 ∷ 10 ∷ more
    → normalized s ≡ take a s ++ 10 ∷ normalized more
unfolding normalized
plain_before zero s more lacks e = ap normalized e
plain_before (suc a) [] more lacks e = grind (arith, common_steps)
plain_before (suc a) (byte ∷ s) more lacks e =
    plain_kept byte s (lacks_front byte s _ refl (lacks 0 (omega arith)))
    ∙ ap (λ x. byte ∷ x) (plain_before a s more (λ i h. lacks (suc i) (omega (arith, h))) e)

plain_none : (s : List ℕ) → ((i : ℕ) → i ≤ length s → LacksTextAt ends s i) → normalized s ≡ s
unfolding normalized
plain_none [] lacks = refl
plain_none (byte ∷ s) lacks =
    plain_kept byte s (lacks_front byte s _ refl (lacks 0 (omega arith)))
    ∙ ap (λ x. byte ∷ x) (plain_none s (λ i h. lacks (suc i) (omega (arith, h))))

-- what `replace` leaves
pub taken_out : (n : ℕ) (s out : List ℕ) (p : Bor (List ℕ)) → p.now ≡ ends
    → ReplacesMatches (λ (p : Bor (List ℕ)). FindsText p.now) (λ p q. q.now ≡ p.now) (10 ∷ []) n p s out → out
    ≡ normalized s
taken_out zero s out p e h = h.1 ∙ sym (plain_none s (subst (λ x. FindsText x s None) e h.0))
taken_out (suc n) s out p e (a, b, q, rest, finds, keeps, on, is) =
    let found : FindsText ends s (Some (a, b)) = subst (λ x. FindsText x s (Some (a, b))) e finds in
    elim on [
      | inl later ↦ is ∙ ap (λ x. take a s ++ 10 ∷ x) (taken_out n (drop b s) rest q (keeps ∙ e) later.1)
          ∙ sym (plain_before a s (drop b s) found.0 found.1.split)
      | inr same ↦ absurd (omega (arith, same.0, found.1.ends))
    ]

-- ---- the search for them

-- bytes that aren't gone through yet
pub one_return : (text found all : List ℕ) (at : ℕ) → at < length text
    → is_crlf (get_or text at 0) (drop (at + 1) text) ≡ true
    → found ++ returns_from (at - length found) (drop at text) ≡ all → length found ≤ at
    → (found ++ (at - length found) ∷ [])
    ++ returns_from (at + 1 - length (found ++ (at - length found) ∷ [])) (drop (at + 1) text) ≡ all
unfolding returns_from
one_return text found all at h e is le =
    let place : at + 1 - length (found ++ (at - length found) ∷ []) ≡ at - length found =
    omega (arith, length-append found ((at - length found) ∷ [])) in
    let front : returns_from (at - length found) (drop at text)
    ≡ (at - length found) ∷ returns_from (at - length found) (drop (at + 1) text) =
    ap (returns_from (at - length found)) (drop_more text at 0 h) ∙ rw e refl in
    append_assoc found ((at - length found) ∷ []) _
    ∙ ap (λ m. found ++ (at - length found) ∷ returns_from m (drop (at + 1) text)) place
    ∙ ap (λ xs. found ++ xs) (sym front) ∙ is

pub no_return : (text found all : List ℕ) (at : ℕ) → at < length text
    → is_crlf (get_or text at 0) (drop (at + 1) text) ≡ false
    → found ++ returns_from (at - length found) (drop at text) ≡ all → length found ≤ at
    → found ++ returns_from (at + 1 - length found) (drop (at + 1) text) ≡ all
unfolding returns_from
no_return text found all at h e is le =
    let place : at + 1 - length found ≡ at - length found + 1 = omega (arith, le) in
    let front : returns_from (at - length found) (drop at text)
    ≡ returns_from (at - length found + 1) (drop (at + 1) text) =
    ap (returns_from (at - length found)) (drop_more text at 0 h) ∙ rw e refl in
    ap (λ m. found ++ returns_from m (drop (at + 1) text)) place ∙ ap (λ xs. found ++ xs) (sym front) ∙ is

pub all_returns : (text found all : List ℕ) (at : ℕ) → length text ≤ at
    → found ++ returns_from (at - length found) (drop at text) ≡ all
    → found ≡ all
unfolding returns_from
all_returns text found all at h is =
    sym (append-nil found) ∙ ap (λ xs. found ++ returns_from (at - length found) xs) (sym (drop_of_length-le text h))
    ∙ is

-- they rise
return_at : (at : ℕ) (text : List ℕ) (k : ℕ) → k < length (returns_from at text)
    → at ≤ get_or (returns_from at text) k 0
unfolding returns_from
return_at at [] k h = absurd (omega (arith, h))
return_at at (byte ∷ text) k h = return_by (is_crlf byte text) at text k (return_at at text)
    (return_at (at + 1) text) h
  where
    return_by : (t : Bool) (at : ℕ) (text : List ℕ) (k : ℕ)
        → ((k : ℕ) → k < length (returns_from at text) → at ≤ get_or (returns_from at text) k 0)
        → ((k : ℕ) → k < length (returns_from (at + 1) text) → at + 1 ≤ get_or (returns_from (at + 1) text) k 0)
        → k < length (cond t (at ∷ returns_from at text) (returns_from (at + 1) text))
        → at ≤ get_or (cond t (at ∷ returns_from at text) (returns_from (at + 1) text)) k 0
    return_by true at text zero same next h = omega arith
    return_by true at text (suc k) same next h = same k (omega (arith, h))
    return_by false at text k same next h = omega (arith, next k h)

pub returns_rise : (at : ℕ) (text : List ℕ) (i j : ℕ) → i ≤ j → j < length (returns_from at text)
    → get_or (returns_from at text) i 0 ≤ get_or (returns_from at text) j 0
unfolding returns_from
returns_rise at [] i j le h = absurd (omega (arith, h))
returns_rise at (byte ∷ text) i j le h =
    rise_by (is_crlf byte text) at text i j (return_at at text) (returns_rise at text)
    (returns_rise (at + 1) text) le h
  where
    rise_by : (t : Bool) (at : ℕ) (text : List ℕ) (i j : ℕ)
        → ((k : ℕ) → k < length (returns_from at text) → at ≤ get_or (returns_from at text) k 0)
        → ((i j : ℕ) → i ≤ j → j < length (returns_from at text)
        → get_or (returns_from at text) i 0 ≤ get_or (returns_from at text) j 0)
        → ((i j : ℕ) → i ≤ j → j < length (returns_from (at + 1) text)
        → get_or (returns_from (at + 1) text) i 0 ≤ get_or (returns_from (at + 1) text) j 0)
        → i ≤ j → j < length (cond t (at ∷ returns_from at text) (returns_from (at + 1) text))
        → get_or (cond t (at ∷ returns_from at text) (returns_from (at + 1) text)) i 0
        ≤ get_or (cond t (at ∷ returns_from at text) (returns_from (at + 1) text)) j 0
    rise_by true at text zero zero low same next le h = omega arith
    rise_by true at text zero (suc j) low same next le h = omega (arith, low j (omega (arith, h)))
    rise_by true at text (suc i) zero low same next le h = absurd (omega (arith, le))
    rise_by true at text (suc i) (suc j) low same next le h = same i j (omega (arith, le)) (omega (arith, h))
    rise_by false at text i j low same next le h = next i j le h

-- ---- how many are before a byte

none_counted : (fs : List ℕ) (at : ℕ) → ((k : ℕ) → k < length fs → at ≤ get_or fs k 0)
    → count_by (λ f. nat_lt f at) fs ≡ 0
none_counted [] at h = refl
none_counted (f ∷ fs) at h =
    let e : nat_lt f at ≡ false = le-ltb f at (h 0 (omega arith)) in
    let rest = none_counted fs at (λ k l. h (suc k) (omega (arith, l))) in
    let one : count_by (λ f. nat_lt f at) (f ∷ fs) ≡ 0 + count_by (λ f. nat_lt f at) fs =
    sum_by-cons (λ f. cond (nat_lt f at) 1 0) f fs ∙ rw e refl in
    omega (arith, rest, one)

pub counted : (fs : List ℕ) (at n : ℕ) → AreBefore fs at n → n ≡ count_by (λ f. nat_lt f at) fs
counted fs at zero h = sym (none_counted fs at (λ k l. h.above k (omega arith) l))
counted [] at (suc n) h = absurd (omega (arith, h.within))
counted (f ∷ fs) at (suc n) h =
    let e : nat_lt f at ≡ true = lt-ltb f at (h.below 0 (omega arith)) in
    let rest = counted fs at n (record {
      within = omega (arith, h.within);
      below = λ k l. h.below (suc k) (omega (arith, l));
      above = λ k l m. h.above (suc k) (omega (arith, l)) (omega (arith, m));
    }) in
    let one : count_by (λ f. nat_lt f at) (f ∷ fs) ≡ 1 + count_by (λ f. nat_lt f at) fs =
    sum_by-cons (λ f. cond (nat_lt f at) 1 0) f fs ∙ rw e refl in
    omega (arith, rest, one)

-- ---- put in

lacks_feed : (byte : ℕ) (rest : List ℕ) → LacksTextAt (10 ∷ []) (byte ∷ rest) 0 → is_feed byte ≡ false
lacks_feed byte rest lacks = feed_by (is_feed byte) refl
  where
    feed_by : (t : Bool) → is_feed byte ≡ t → is_feed byte ≡ false
    feed_by false e = e
    feed_by true e = let ten : byte ≡ 10 = grind (arith, common_steps) in absurd (lacks rest (rw ten refl))

with_kept : (byte : ℕ) (rest : List ℕ) → is_feed byte ≡ false → with_crlf (byte ∷ rest) ≡ byte ∷ with_crlf rest
unfolding with_crlf
with_kept byte rest h = rw h refl

with_before : (a : ℕ) (s more : List ℕ) → ((i : ℕ) → i < a → LacksTextAt (10 ∷ []) s i) → drop a s ≡ 10 ∷ more
    → with_crlf s ≡ take a s ++ 13 ∷ 10 ∷ with_crlf more
unfolding with_crlf
with_before zero s more lacks e = ap with_crlf e
with_before (suc a) [] more lacks e = grind (arith, common_steps)
with_before (suc a) (byte ∷ s) more lacks e =
    with_kept byte s (lacks_feed byte s (lacks 0 (omega arith)))
    ∙ ap (λ x. byte ∷ x) (with_before a s more (λ i h. lacks (suc i) (omega (arith, h))) e)

with_none : (s : List ℕ) → ((i : ℕ) → i ≤ length s → LacksTextAt (10 ∷ []) s i) → with_crlf s ≡ s
unfolding with_crlf
with_none [] lacks = refl
with_none (byte ∷ s) lacks =
    with_kept byte s (lacks_feed byte s (lacks 0 (omega arith)))
    ∙ ap (λ x. byte ∷ x) (with_none s (λ i h. lacks (suc i) (omega (arith, h))))

pub put_in : (n : ℕ) (s out : List ℕ) (p : Bor (List ℕ)) → p.now ≡ 10 ∷ []
    → ReplacesMatches (λ (p : Bor (List ℕ)). FindsText p.now) (λ p q. q.now ≡ p.now) (13 ∷ 10 ∷ []) n p s out
    → out ≡ with_crlf s
put_in zero s out p e h = h.1 ∙ sym (with_none s (subst (λ x. FindsText x s None) e h.0))
put_in (suc n) s out p e (a, b, q, rest, finds, keeps, on, is) =
    let found : FindsText (10 ∷ []) s (Some (a, b)) = subst (λ x. FindsText x s (Some (a, b))) e finds in
    elim on [
      | inl later ↦ is ∙ ap (λ x. take a s ++ 13 ∷ 10 ∷ x) (put_in n (drop b s) rest q (keeps ∙ e) later.1)
          ∙ sym (with_before a s (drop b s) found.0 found.1.split)
      | inr same ↦ absurd (omega (arith, same.0, found.1.ends))
    ]

-- ---- the search in the places

pub parted : (fs : List ℕ) (at : ℕ) → IsAscending fs → IsPartitionedBy (λ y. ltb y at) fs
parted fs at h = IsPartitionedBy-ltb (λ y. y) fs at (IsNonDecreasingBy-from_default (λ y. y) fs 0 h)

-- ---- results

pub ended_by : {X E : Type 0} (see : X → List ℕ) (r : Result X E) (returned text : List ℕ) (p : Bor (List ℕ))
    → (returned ≡ [] → ⊥)
    → p.now ≡ 10 ∷ []
    → IfOk r (λ x. (n : ℕ) × ReplacesMatches (λ (p : Bor (List ℕ)). FindsText p.now) (λ p q. q.now ≡ p.now)
    (13 ∷ 10 ∷ []) n p text (see x))
    → IfOk r (λ x. see x ≡ with_endings_of returned text)
ended_by see (Ok x) [] text p some e h = absurd (some refl)
ended_by see (Ok x) (feed ∷ feeds) text p some e h = put_in h.0 text (see x) p e h.1
ended_by see (Err x) returned text p some e h = h

pub one_more_placed : {X : Type 0} (see : X → SplicedPart) (f : SplicedPart
    → SplicedPart) (items found more : List X) (new item : X) (i : ℕ)
    → i < length items
    → item ≡ get_or items i item → more ≡ found ++ new ∷ [] → map see found ≡ map f (map see (take i items))
    → see new ≡ f (see item)
    → map see more ≡ map f (map see (take (i + 1) items))
one_more_placed see f items found more new item i h is e before one =
    ap (map see) e ∙ map-append see found (new ∷ [])
    ∙ ap (λ xs. xs ++ see new ∷ []) before
    ∙ ap (λ x. map f (map see (take i items)) ++ x ∷ []) (one ∙ ap (λ x. f (see x)) is)
    ∙ sym (ap (map f) (ap (map see) (take_more items i item h)
    ∙ map-append see (take i items) (get_or items i item ∷ []))
    ∙ map-append f (map see (take i items)) (see (get_or items i item) ∷ []))
