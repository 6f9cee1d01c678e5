-- Marking a node.
use Rattle.std.proofs.Common.{ℕ, zero, suc, ◌+◌, ◌≡◌, ◌⊎◌, ◌<◌, ◌≤◌, inl, inr, Bool, true, false, List, [], ◌∷◌, ◌++◌}
use Rattle.std.proofs.Common.{drop, take, length, get_or, refl, sym, ◌∙◌, ap, subst, arith}
use Rattle.std.proofs.Math.ListN.{set, replicate}
use Rattle.std.proofs.Math.Seq.{drop-cons}
use Rattle.std.proofs.lemmas.List.{get_or-set_same, get_or-set_other, get_or-replicate, length-replicate}
use Rattle.mbe_semantics.specs.Matching.Lists.{In}
use Rattle.mbe_matcher.specs.declared.readings.edges.Edge.{Edge}
use Rattle.mbe_matcher.specs.Readings.Graph.{Path, none, along, is_marked, AreFrom, AreClosed, unmarked}

pub unmarked-set : (ms : List Bool) (t : ℕ) → t < length ms → is_marked ms t ≡ false
    → unmarked (set ms t true) < unmarked ms
unmarked-set [] t l e = absurd (omega arith)
unmarked-set (true ∷ ms) zero l e = cc
unmarked-set (false ∷ ms) zero l e = omega arith
unmarked-set (true ∷ ms) (suc t) l e = unmarked-set ms t (omega arith) e
unmarked-set (false ∷ ms) (suc t) l e =
    let a : unmarked (set ms t true) < unmarked ms = unmarked-set ms t (omega arith) e in omega arith

pub marked-kept : (ms : List Bool) (t n : ℕ) → t < length ms → is_marked ms n ≡ true
    → is_marked (set ms t true) n ≡ true
marked-kept ms t n l e = either (let c : (n ≡ t) ⊎ ((n < t) ⊎ (t < n)) = grind arith in c)
  where
    either : ((n ≡ t) ⊎ ((n < t) ⊎ (t < n))) → is_marked (set ms t true) n ≡ true
    either (inl f) = subst (λ v. is_marked (set ms t true) v ≡ true) (sym f) (get_or-set_same ms t true false l)
    either (inr (inl m)) = get_or-set_other ms t n true false (λ f. absurd (omega (arith, f))) ∙ e
    either (inr (inr m)) = get_or-set_other ms t n true false (λ f. absurd (omega (arith, f))) ∙ e

-- a marked node was marked, or is this one
pub from-set : (es : List Edge) (start : ℕ) (ms : List Bool) (e : Edge) → In e es → is_marked ms e.source ≡ true
    → AreFrom es start ms → AreFrom es start (set ms e.target true)
from-set es start ms e h s f n g = either (let c : (n ≡ e.target) ⊎ ((n < e.target) ⊎ (e.target < n)) = grind arith
    in c)
  where
    either : ((n ≡ e.target) ⊎ ((n < e.target) ⊎ (e.target < n))) → Path es start n
    either (inl k) = along n e h (f e.source s) k
    either (inr (inl m)) = f n (sym (get_or-set_other ms e.target n true false (λ k. absurd (omega (arith, k)))) ∙ g)
    either (inr (inr m)) = f n (sym (get_or-set_other ms e.target n true false (λ k. absurd (omega (arith, k)))) ∙ g)

pub in-drop : (es : List Edge) (k : ℕ) (e : Edge) → In e (drop k es) → In e es
in-drop es zero e h = h
in-drop [] (suc k) e h = h
in-drop (x ∷ es) (suc k) e h = inr (in-drop es k e h)

-- one edge more that leads on to nothing new
pub closed-more : (es : List Edge) (ms : List Bool) (x : Edge) (all : List Edge) → all ≡ x ∷ es →
    (is_marked ms x.source ≡ true → x.target < length ms → is_marked ms x.target ≡ true) → AreClosed es ms
    → AreClosed all ms
closed-more es ms x all e h c = subst (λ v. AreClosed v ms) (sym e) both
  where
    both : AreClosed (x ∷ es) ms
    both y (inl f) =
        subst (λ (v : Edge). is_marked ms v.source ≡ true → v.target < length ms → is_marked ms v.target ≡ true)
        (sym f) h
    both y (inr m) = c y m

pub closed-none : (ms : List Bool) (all : List Edge) → all ≡ [] → AreClosed all ms
closed-none ms all e y h = absurd (subst (λ v. In y v) e h)

-- ---- lists

pub set-length : (ms : List Bool) (t : ℕ) → length (set ms t true) ≡ length ms
set-length [] t = refl
set-length (m ∷ ms) zero = refl
set-length (m ∷ ms) (suc t) = ap suc (set-length ms t)

pub drop-none : {A : Type 0} (xs : List A) (k : ℕ) → length xs ≤ k → drop k xs ≡ []
drop-none [] zero l = refl
drop-none [] (suc k) l = refl
drop-none (x ∷ xs) zero l = absurd (omega arith)
drop-none (x ∷ xs) (suc k) l = drop-none xs k (omega arith)

pub edge-next : (es : List Edge) (k : ℕ) (d : Edge) → k < length es → drop k es ≡ get_or es k d ∷ drop (k + 1) es
edge-next es k d l = drop-cons es k d l ∙ ap (λ v. get_or es k d ∷ drop v es) (let e : suc k ≡ k + 1 = omega arith in e)

pub edge-in : (es : List Edge) (k : ℕ) (d : Edge) → k < length es → In (get_or es k d) es
edge-in es k d l = in-drop es k (get_or es k d) (subst (λ v. In (get_or es k d) v) (sym (edge-next es k d l)) (inl
    refl))

-- what a slice of a list writes back
pub written-back : (n : ℕ) (xs ys : List Bool) → length xs ≡ length ys → n ≡ length ys
    → take n (xs ++ drop (length xs) ys) ≡ xs
written-back zero [] [] e f = refl
written-back (suc n) [] [] e f = cc
written-back n [] (y ∷ ys) e f = cc
written-back n (x ∷ xs) [] e f = cc
written-back zero (x ∷ xs) (y ∷ ys) e f = cc
written-back (suc n) (x ∷ xs) (y ∷ ys) e f =
    ap (λ v. x ∷ v) (written-back n xs ys (omega arith) (omega arith))

past_end : (ms : List Bool) (k : ℕ) → length ms ≤ k → is_marked ms k ≡ false
past_end [] k l = refl
past_end (m ∷ ms) zero l = absurd (omega arith)
past_end (m ∷ ms) (suc k) l = past_end ms k (omega arith)

none_marked : (n k : ℕ) → is_marked (replicate n false) k ≡ false
none_marked n k = either (let c : (k < n) ⊎ (n ≤ k) = grind arith in c)
  where
    either : ((k < n) ⊎ (n ≤ k)) → is_marked (replicate n false) k ≡ false
    either (inl l) = get_or-replicate n k false false l
    either (inr l) = past_end (replicate n false) k (let e : length (replicate n false) ≡ n =
        length-replicate n false in omega arith)

-- the start alone is marked
pub start-alone : (es : List Edge) (n start : ℕ) (ms : List Bool) → ms ≡ replicate n false
    → AreFrom es start (set ms start true)
start-alone es n start ms e k h = either (let c : (k ≡ start) ⊎ ((k < start) ⊎ (start < k)) = grind arith in c)
  where
    unmarked_there : is_marked ms k ≡ true → Path es start k
    unmarked_there g = let f : false ≡ true = sym (ap (λ v. is_marked v k) e ∙ none_marked n k) ∙ g in cc

    either : ((k ≡ start) ⊎ ((k < start) ⊎ (start < k))) → Path es start k
    either (inl f) = none k f
    either (inr (inl l)) =
        unmarked_there (sym (get_or-set_other ms start k true false (λ f. absurd (omega (arith, f)))) ∙ h)
    either (inr (inr l)) =
        unmarked_there (sym (get_or-set_other ms start k true false (λ f. absurd (omega (arith, f)))) ∙ h)

pub start-marked : (ms : List Bool) (start : ℕ) → start < length ms → is_marked (set ms start true) start ≡ true
start-marked ms start l = get_or-set_same ms start true false l
