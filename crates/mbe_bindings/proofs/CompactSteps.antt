-- The loops over the lists of a compacted log.
use Rattle.std.specs.Prelude.{◌≡◌, ◌≢◌, ◌≤◌, ◌<◌, ◌+◌, ℕ, zero, suc, List, [], ◌∷◌, ◌++◌, length, map, take, slice_get}
use Rattle.std.specs.Prelude.{Option, Some, None, option_to_list, refl}
use Rattle.std.proofs.Common.{arith, sym, ap, subst, ◌∙◌, ◌⊎◌, inl, inr}
use Rattle.mbe_semantics.specs.declared.list_prefix.ListPrefix.{ListPrefix}
use Rattle.mbe_log.specs.Chain.{Chain, chain_len}
use Rattle.mbe_bindings.specs.LogCompaction.{Table, kept_of}
use Rattle.mbe_bindings.specs.KeptLists.{cut_list, cut_at, IsListKept, IsCutKept, kept_lists, AreCutKept, IsNumbered}
use Rattle.mbe_bindings.specs.KeptLists.{AreUnmoved}
use Rattle.mbe_log.proofs.ChainLemmas.{in_range}
use Rattle.mbe_log.proofs.LogLemmas.{same_or_not}

-- ---- looking through

-- it is so of the first so many
abbrev pub AreSoFar : {X : Type 0} → (X → Type 0) → List X → ℕ → Type 0
AreSoFar {X} P xs n = (j : ℕ) (x : X) → j < n → slice_get xs j ≡ Some x → P x

pub one_further : {X : Type 0} (P : X → Type 0) (xs : List X) (n : ℕ) (y : X) → AreSoFar P xs n → slice_get xs n
    ≡ Some y
    → P y → AreSoFar P xs (n + 1)
one_further P xs n y h s p j x l e = go (same_or_not j n)
  where
    go : (j ≡ n) ⊎ (j ≢ n) → P x
    go (inl k) = let same : y ≡ x = (let u = subst (λ i. slice_get xs i ≡ Some x) k e in cc) in subst P same p
    go (inr k) = h j x (omega (arith, l, k)) e

-- the lists that are kept among the first so many
abbrev pub AreCutSoFar : {T : Type 0} → Table → Table → (T → Type 0) → List (Chain T) → ℕ → Type 0
AreCutSoFar {T} all t P ls n = (i : ℕ) (k : ListPrefix) → i < n → slice_get t i ≡ Some (Some k)
    → (l : Chain T) × (slice_get ls i ≡ Some l) × IsCutKept all P k.first l

pub list_cut : {T : Type 0} (t : Table) (P : T → Type 0) (ls : List (Chain T)) (n : ℕ) → AreCutSoFar t t P ls n
    → IsListKept t P ls n → AreCutSoFar t t P ls (n + 1)
list_cut {T} t P ls n h w i k l e = go (same_or_not i n)
  where
    go : (i ≡ n) ⊎ (i ≢ n) → (x : Chain T) × (slice_get ls i ≡ Some x) × IsCutKept t P k.first x
    go (inl m) =
        let a = w k (subst (λ j. slice_get t j ≡ Some (Some k)) m e) in
        (a.0, subst (λ j. slice_get ls j ≡ Some a.0) (sym m) a.1, a.2)
    go (inr m) = h i k (omega (arith, l, m)) e

pub all_cut : {T : Type 0} (t : Table) (P : T → Type 0) (ls : List (Chain T)) (n : ℕ) → length t ≤ n
    → AreCutSoFar t t P ls n → AreCutKept t P ls
all_cut t P ls n long h i k s = h i k (let u = in_range t i (Some k) s in omega (arith, u, long)) s

pub one_stays : {T : Type 0} (t : Table) (ls : List (Chain T)) (n : ℕ) (l : Chain T) (k : ListPrefix)
    → AreUnmoved t ls n
    → slice_get ls n ≡ Some l → slice_get t n ≡ Some (Some k) → k.list ≡ n → k.first ≡ chain_len l
    → AreUnmoved t ls (n + 1)
one_stays t ls n l k h s e a b i less = go (same_or_not i n)
  where
    whole : k ≡ record { list = n; first = chain_len l }
    whole = ap (λ x. record { list = x; first = k.first }) a ∙ ap (λ x. record { list = n; first = x }) b

    go : (i ≡ n) ⊎ (i ≢ n)
        → (x : Chain _) × (slice_get ls i ≡ Some x) × (slice_get t i
        ≡ Some (Some (record { list = i; first = chain_len x })))
    go (inl m) = subst (λ j. (x : Chain _) × (slice_get ls j ≡ Some x)
        × (slice_get t j ≡ Some (Some (record { list = j; first = chain_len x })))) (sym m)
        (l, s, e ∙ ap (λ x. Some (Some x)) whole)
    go (inr m) = h i (omega (arith, less, m))

-- ---- numbers

abbrev pub kept_count : Table → ℕ
kept_count [] = 0
kept_count (None ∷ t) = kept_count t
kept_count (Some k ∷ t) = suc (kept_count t)

pub numbered_none : (n : ℕ) (t : Table) → IsNumbered n t → IsNumbered n (t ++ None ∷ []) × (kept_count (t ++ None
    ∷ []) ≡ kept_count t)
numbered_none n [] w = (tt, refl)
numbered_none n (None ∷ t) w = numbered_none n t w
numbered_none n (Some k ∷ t) w = let a = numbered_none (suc n) t w.1 in ((w.0, a.0), ap suc a.1)

pub numbered_some : (n : ℕ) (t : Table) (k : ListPrefix) → IsNumbered n t → k.list ≡ n + kept_count t
    → IsNumbered n (t ++ Some k ∷ []) × (kept_count (t ++ Some k ∷ []) ≡ kept_count t + 1)
numbered_some n [] k w e = (((let u = e in omega (arith, u)), tt), omega arith)
numbered_some n (None ∷ t) k w e = numbered_some n t k w e
numbered_some n (Some q ∷ t) k w e =
    let a = numbered_some (suc n) t k w.1 (omega (arith, e)) in
    ((w.0, a.0), (let u = a.1 in omega (arith, u)))

-- ---- writing

none_taken : {X : Type 0} (xs : List X) → take 0 xs ≡ []
none_taken [] = refl
none_taken (x ∷ xs) = refl

pub take_one : {X : Type 0} (n : ℕ) (xs : List X) (x : X) → slice_get xs n ≡ Some x → take (n + 1) xs
    ≡ take n xs ++ x ∷ []
take_one zero [] x s = absurd (let z : ⊥ = cc in z)
take_one zero (y ∷ xs) x s = let e : y ≡ x = cc in ap (λ z. z ∷ take 0 xs) e ∙ ap (λ t. x ∷ t) (none_taken xs)
take_one (suc n) [] x s = absurd (let z : ⊥ = cc in z)
take_one (suc n) (y ∷ xs) x s =
    let m : suc n + 1 ≡ suc (n + 1) = omega arith in
    ap (λ j. take j (y ∷ xs)) m ∙ ap (λ t. y ∷ t) (take_one n xs x s)

map_one : {X Y : Type 0} (f : X → Y) (xs : List X) (x : X) → map f (xs ++ x ∷ []) ≡ map f xs ++ f x ∷ []
map_one f [] x = refl
map_one f (y ∷ xs) x = ap (λ t. f y ∷ t) (map_one f xs x)

-- one entry more of a list that is cut
pub cut_further : {T : Type 0} (f : T → T) (own : List T) (n : ℕ) (x : T) → slice_get own n ≡ Some x
    → map f (take (n + 1) own) ≡ map f (take n own) ++ f x ∷ []
cut_further f own n x s = ap (map f) (take_one n own x s) ∙ map_one f (take n own) x

-- one list further
pub kept_further : {T : Type 0} (all : Table) (f : T → T) (t : Table) (ls : List (Chain T)) (n : ℕ)
    → kept_lists all f (take (n + 1) t) ls
    ≡ kept_lists all f (take n t) ls ++ option_to_list (cut_at all f (kept_of (slice_get t n)) (slice_get ls n))
kept_further {T} all f t ls n = ap (λ j. kept_lists all f (take j t) ls) (let e : n + 1 ≡ suc n = omega arith in e)
    ∙ go t ls n
  where
    nothing : (n : ℕ) → take {A = Option ListPrefix} n [] ≡ []
    nothing zero = refl
    nothing (suc n) = refl

    nowhere : (t : Table) → kept_lists all f t [] ≡ []
    nowhere [] = refl
    nowhere (o ∷ t) = refl

    no_list : (o : Option ListPrefix) → cut_at {T = T} all f o None ≡ None
    no_list None = refl
    no_list (Some k) = refl

    go : (t : Table) (ls : List (Chain T)) (n : ℕ) → kept_lists all f (take (suc n) t) ls
        ≡ kept_lists all f (take n t) ls ++ option_to_list (cut_at all f (kept_of (slice_get t n)) (slice_get ls n))
    go [] ls n = sym (ap (λ y. kept_lists all f y ls ++ []) (nothing n))
    go (o ∷ t) [] n = nowhere (take (suc n) (o ∷ t))
        ∙ sym (ap (λ y. y ++ option_to_list (cut_at all f (kept_of (slice_get (o ∷ t) n)) None)) (nowhere (take n (o
        ∷ t)))
        ∙ ap option_to_list (no_list (kept_of (slice_get (o ∷ t) n))))
    go (None ∷ t) (x ∷ ls) zero = ap (λ y. kept_lists all f y ls) (none_taken t)
    go (Some q ∷ t) (x ∷ ls) zero = ap (λ y. cut_list all f q.first x ∷ kept_lists all f y ls) (none_taken t)
    go (None ∷ t) (x ∷ ls) (suc n) = go t ls n
    go (Some q ∷ t) (x ∷ ls) (suc n) = ap (λ ys. cut_list all f q.first x ∷ ys) (go t ls n)
