-- Where the line feeds of a text are.
use Rattle.std.proofs.Common.{◌≡◌, ◌≢◌, ℕ, zero, suc, ◌+◌, ◌-◌, ◌<◌, ◌≤◌, nat_eq, Bool, true, false, List, [], ◌∷◌}
use Rattle.std.proofs.Common.{◌++◌, length, take, get_or, count_by, cond, refl, ap, sym, ◌∙◌, arith, zero-add, subst}
use Rattle.std.proofs.lemmas.Grind.{common_steps}
use Rattle.std.proofs.lemmas.List.{length-take-le, take_more, append-nil}
use Rattle.std.proofs.lemmas.List.Sums.{sum_by-cons}
use Rattle.mbe_session.specs.Locations.{is_feed, feeds_from}

-- a line feed of bytes that begin at that number
abbrev pub IsFeed : ℕ → List ℕ → ℕ → Type 0
IsFeed b xs p = (b ≤ p) × (p < b + length xs) × (get_or xs (p - b) 0 ≡ 10)

-- the feeds of a byte and those after it
abbrev pub step : Bool → ℕ → List ℕ → List ℕ
step true b rest = b ∷ rest
step false b rest = rest

pub feeds_cons : (b x : ℕ) (xs : List ℕ) → feeds_from b (x ∷ xs) ≡ step (is_feed x) b (feeds_from (b + 1) xs)
unfolding feeds_from
feeds_cons b x xs = elim (is_feed x) as (λ t. (cond t (b ∷ feeds_from (b + 1) xs) (feeds_from
    (b + 1) xs)) ≡ step t b (feeds_from (b + 1) xs)) [ true ↦ refl | false ↦ refl ]

pub feeds_none : (b : ℕ) → feeds_from b [] ≡ []
unfolding feeds_from
feeds_none b = refl

is_ten : (x : ℕ) → is_feed x ≡ true → x ≡ 10
is_ten x h = grind (arith, common_steps)

is_other : (x : ℕ) → is_feed x ≡ false → x ≢ 10
is_other x h = grind (arith, common_steps)

feed_later : (b x : ℕ) (xs : List ℕ) (p : ℕ) → IsFeed (b + 1) xs p → IsFeed b (x ∷ xs) p
feed_later b x xs p h = (
  omega (arith, h.0),
  omega (arith, h.1),
  let e : p - b ≡ suc (p - (b + 1)) =
      omega (arith, h.0) in rw e h.2,
)

feed_by : (t : Bool) (b x : ℕ) (xs rest : List ℕ) (k : ℕ) → is_feed x ≡ t → ((j : ℕ) → j < length rest
    → IsFeed (b + 1) xs (get_or rest j 0)) → k < length (step t b rest)
    → IsFeed b (x ∷ xs) (get_or (step t b rest) k 0)
feed_by true b x xs rest zero e ih h = (
  omega arith,
  omega arith,
  let s : b - b ≡ 0 = omega arith in
      rw s (is_ten x e),
)
feed_by true b x xs rest (suc k) e ih h = feed_later b x xs _ (ih k (omega (arith, h)))
feed_by false b x xs rest k e ih h = feed_later b x xs _ (ih k h)

pub feed_at : (b : ℕ) (xs : List ℕ) (k : ℕ) → k < length (feeds_from b xs)
    → IsFeed b xs (get_or (feeds_from b xs) k 0)
unfolding feeds_from
feed_at b [] k h = absurd (omega (arith, h))
feed_at b (x ∷ xs) k h = let P : List ℕ → Type 0 = λ fs. k < length fs → IsFeed b (x ∷ xs) (get_or fs k 0) in
    subst P (sym (feeds_cons b x xs)) (feed_by (is_feed x) b x xs (feeds_from (b + 1) xs) k refl (feed_at
    (b + 1) xs)) h

found_by : (t : Bool) (b x : ℕ) (xs rest : List ℕ) (i : ℕ) → is_feed x ≡ t → ((j : ℕ) → j < length xs
    → get_or xs j 0 ≡ 10 → (k : ℕ) × (k < length rest) × (get_or rest k 0 ≡ b + 1 + j)) → i < suc (length xs)
    → get_or (x ∷ xs) i 0 ≡ 10
    → (k : ℕ) × (k < length (step t b rest)) × (get_or (step t b rest) k 0 ≡ b + i)
found_by true b x xs rest zero e ih h ten = (0, omega arith, omega arith)
found_by true b x xs rest (suc i) e ih h ten = let f = ih i (omega (arith, h)) ten in
    (suc f.0, omega (arith, f.1), omega (arith, f.2))
found_by false b x xs rest zero e ih h ten = absurd (is_other x e ten)
found_by false b x xs rest (suc i) e ih h ten = let f = ih i (omega (arith, h)) ten in (f.0, f.1, omega (arith, f.2))

pub found_at : (b : ℕ) (xs : List ℕ) (i : ℕ) → i < length xs → get_or xs i 0 ≡ 10
    → (k : ℕ) × (k < length (feeds_from b xs)) × (get_or (feeds_from b xs) k 0 ≡ b + i)
found_at b [] i h e = absurd (omega (arith, h))
found_at b (x ∷ xs) i h e = let P : List ℕ → Type 0 = λ fs. (k : ℕ) × (k < length fs) × (get_or fs k 0 ≡ b + i) in
    subst P (sym (feeds_cons b x xs)) (found_by (is_feed x) b x xs (feeds_from (b + 1) xs) i refl (found_at
    (b + 1) xs) h e)

rise_by : (t : Bool) (b : ℕ) (rest : List ℕ) (i j : ℕ) → ((k : ℕ) → k < length rest → b + 1 ≤ get_or rest k 0)
    → ((m n : ℕ) → m ≤ n → n < length rest → get_or rest m 0 ≤ get_or rest n 0) → i ≤ j
    → j < length (step t b rest) → get_or (step t b rest) i 0 ≤ get_or (step t b rest) j 0
rise_by true b rest zero zero low ih le h = omega arith
rise_by true b rest zero (suc j) low ih le h = omega (arith, low j (omega (arith, h)))
rise_by true b rest (suc i) zero low ih le h = absurd (omega (arith, le))
rise_by true b rest (suc i) (suc j) low ih le h = ih i j (omega (arith, le)) (omega (arith, h))
rise_by false b rest i j low ih le h = ih i j le h

pub feeds_rise : (b : ℕ) (xs : List ℕ) (i j : ℕ) → i ≤ j → j < length (feeds_from b xs)
    → get_or (feeds_from b xs) i 0 ≤ get_or (feeds_from b xs) j 0
unfolding feeds_from
feeds_rise b [] i j le h = absurd (omega (arith, h))
feeds_rise b (x ∷ xs) i j le h = let P : List ℕ → Type 0 = λ fs. j < length fs → get_or fs i 0 ≤ get_or fs j 0 in
    subst P (sym (feeds_cons b x xs)) (rise_by (is_feed x) b (feeds_from (b + 1) xs) i j (λ k h. (feed_at
    (b + 1) xs k h).0) (feeds_rise (b + 1) xs) le) h

step_append : (t : Bool) (b : ℕ) (xs ys : List ℕ) → step t b (xs ++ ys) ≡ step t b xs ++ ys
step_append true b xs ys = refl
step_append false b xs ys = refl

pub feeds_append : (b : ℕ) (xs ys : List ℕ)
    → feeds_from b (xs ++ ys) ≡ feeds_from b xs ++ feeds_from (b + length xs) ys
unfolding feeds_from
feeds_append b [] ys = let e : b + 0 ≡ b = omega arith in rw e refl
feeds_append b (x ∷ xs) ys =
    let e : (b + 1) + length xs ≡ b + suc (length xs) = omega arith in
    feeds_cons b x (xs ++ ys)
    ∙ ap (step (is_feed x) b) (feeds_append (b + 1) xs ys)
    ∙ step_append (is_feed x) b _ _
    ∙ ap (λ n. step (is_feed x) b (feeds_from (b + 1) xs) ++ feeds_from n ys) e
    ∙ ap (λ fs. fs ++ feeds_from (b + suc (length xs)) ys) (sym (feeds_cons b x xs))

step_length : (t : Bool) (b : ℕ) (xs : List ℕ) → length (step t b xs) ≡ cond t 1 0 + length xs
step_length true b xs = omega arith
step_length false b xs = omega arith

pub feeds_counted : (b : ℕ) (xs : List ℕ) → length (feeds_from b xs) ≡ count_by is_feed xs
unfolding feeds_from
feeds_counted b [] = refl
feeds_counted b (x ∷ xs) =
    ap length (feeds_cons b x xs) ∙ step_length (is_feed x) b (feeds_from (b + 1) xs)
    ∙ ap (λ n. cond (is_feed x) 1 0 + n) (feeds_counted (b + 1) xs)
    ∙ sym (sum_by-cons (λ y. cond (is_feed y) 1 0) x xs)

-- ---- the table's making

feeds_taken : (text : List ℕ) (i x : ℕ) (t : Bool) → i < length text → x ≡ get_or text i 0 → is_feed x ≡ t
    → feeds_from 0 (take (i + 1) text) ≡ feeds_from 0 (take i text) ++ step t i []
feeds_taken text i x t l e r =
    let split_at_column : length (take i text) ≡ i = length-take-le i text (omega (arith, l)) in
    ap (feeds_from 0) (take_more text i 0 l ∙ ap (λ y. take i text ++ y ∷ []) (sym e))
    ∙ feeds_append 0 (take i text) (x ∷ [])
    ∙ ap (λ m. feeds_from 0 (take i text) ++ feeds_from m (x ∷ [])) (zero-add _ ∙ split_at_column)
    ∙ ap (λ fs. feeds_from 0 (take i text) ++ fs) (feeds_cons i x [] ∙ ap (λ b. step b i (feeds_from (i + 1) [])) r
    ∙ ap (step t i) (feeds_none (i + 1)))

pub one_more : (text : List ℕ) (i x : ℕ) → i < length text → x ≡ get_or text i 0 → nat_eq x 10 ≡ true
    → feeds_from 0 (take (i + 1) text) ≡ feeds_from 0 (take i text) ++ i ∷ []
one_more text i x l e r = feeds_taken text i x true l e r

pub none_more : (text : List ℕ) (i x : ℕ) → i < length text → x ≡ get_or text i 0 → nat_eq x 10 ≡ false
    → feeds_from 0 (take (i + 1) text) ≡ feeds_from 0 (take i text)
none_more text i x l e r = feeds_taken text i x false l e r ∙ append-nil _
