-- A walk by a stack where each key goes out once, turn by turn.
use Rattle.std.proofs.Common.{ℕ, zero, suc, ◌+◌, ◌≡◌, ◌<◌, ◌≤◌, ◌⊎◌, inl, inr, Bool, true, false, List, [], ◌∷◌, ◌++◌}
use Rattle.std.proofs.Common.{map, reverse, length, refl, sym, ◌∙◌, ap, subst, arith, append_assoc, append-nil}
use Rattle.std.specs.Prelude.{nat_lt}
use Rattle.std.proofs.lemmas.Bool.{lt-ltb, le-ltb}
use Rattle.std.proofs.lemmas.List.{length-reverse, reverse-append}
use Rattle.mbe_semantics.specs.Syntax.Op.{Ops}
use Rattle.mbe_semantics.specs.Readings.Input.{Input}
use Rattle.mbe_semantics.specs.Readings.Reading.{PartialReading}
use Rattle.mbe_semantics.specs.Readings.Steps.{epsilons}
use Rattle.mbe_semantics.specs.Matching.Lists.{In}
use Rattle.mbe_semantics.specs.Matching.ThreadModel.{ThreadModel, erase, epsilons_of}
use Rattle.mbe_semantics.specs.Matching.States.{state_count, thread_state}
use Rattle.mbe_laws.proofs.Matching.Forest.{in_either}
use Rattle.mbe_laws.proofs.Matching.Sound.{idle-sound}
use Rattle.mbe_laws.proofs.Matching.ThreadModels.{erase_epsilon}
use Rattle.mbe_laws.specs.Bounded.ClosureTwoEach.{cons_if, append_if, times, walk, turns}
use Rattle.mbe_laws.specs.Reports.Backward.{visit_turns}
use Rattle.mbe_laws.proofs.States.Sift.{room, room_taken, equal_or_not, times_same, times_other, times_grow}
use Rattle.mbe_laws.proofs.States.Walk.{steps_for, len_append}
use Rattle.mbe_laws.proofs.States.States.{number-within}
use Rattle.mbe_laws.proofs.Matching.ThreadModels.{epsilon_short}
use Rattle.mbe_laws.proofs.Loop.BoundedOffsets.{same_number}
use Rattle.mbe_matcher.specs.ReportPass.{IsHere}
use Rattle.mbe_matcher.specs.FirstAndLast.{Visit, enter, leave, visits_of, key_of, leaves_of, model_first, model_back}

steps_grow : (c r t : ℕ) → r ≤ t → steps_for c r ≤ steps_for c t
unfolding steps_for
steps_grow c zero t l = omega arith
steps_grow c (suc r) zero l = absurd (omega (arith, l))
steps_grow c (suc r) (suc t) l = let h : steps_for c r ≤ steps_for c t =
    steps_grow c r t (omega (arith, l)) in omega (arith, h)

steps_fall : (c r t : ℕ) → r < t → c + steps_for c r ≤ steps_for c t
unfolding steps_for
steps_fall c r zero l = absurd (omega (arith, l))
steps_fall c r (suc t) l = let h : steps_for c r ≤ steps_for c t =
    steps_grow c r t (omega (arith, l)) in omega (arith, h)

-- What is walked over: what comes of a member, its key, and which members there may be.
pub record Transitions (A : Type 0) : Type 1 where
  pub kids : A → List A
  pub key : A → ℕ
  pub Good : A → Type 0
  pub most : ℕ
  pub keys : ℕ
  pub good : (x y : A) → Good x → In y (kids x) → Good y
  pub few : (x : A) → Good x → length (kids x) ≤ most
  pub within : (x : A) → Good x → (0 < key x) × (key x ≤ keys)

module _ {A : Type 0} (w : Transitions A) where
  -- what went out, and what the stack will still give, are the whole
  pub record Walks (all stack : List A) (seen : List ℕ) (out : List A) : Type 0 where
    pub sound : (x : A) → In x stack → w.Good x
    pub n : ℕ
    pub enough : length stack + steps_for w.most (room w.key 1 w.keys seen) < n
    pub total : out ++ walk w.kids w.key 1 n seen stack ≡ all

  pub walks_start : (n : ℕ) (stack : List A) → ((x : A) → In x stack → w.Good x)
      → length stack + steps_for w.most (room w.key 1 w.keys []) < n →
      Walks (walk w.kids w.key 1 n [] stack) stack [] []
  walks_start n stack g l = record { sound = g; n = n; enough = l; total = refl }

  pub walks_end : (all : List A) (seen : List ℕ) (out : List A) → Walks all [] seen out → out ≡ all
  unfolding walk
  walks_end all seen out k = go k.n k.total
    where
      go : (n : ℕ) → out ++ walk w.kids w.key 1 n seen [] ≡ all → out ≡ all
      go zero e = sym (append-nil out) ∙ e
      go (suc n) e = sym (append-nil out) ∙ e

  turn : (n : ℕ) (seen : List ℕ) (x : A) (stack : List A) (b : Bool) → nat_lt (times (w.key x) seen) 1 ≡ b →
      walk w.kids w.key 1 (suc n) seen (x ∷ stack)
      ≡ cons_if b x (walk w.kids w.key 1 n (cons_if b (w.key x) seen) (append_if b (w.kids x) stack))
  unfolding walk
  turn n seen x stack b e = ap (λ c. cons_if c x
      (walk w.kids w.key 1 n (cons_if c (w.key x) seen) (append_if c (w.kids x) stack))) e

  some_turn : (n m : ℕ) → m < n → (k : ℕ) × (n ≡ suc k)
  some_turn zero m l = absurd (omega (arith, l))
  some_turn (suc n) m l = (n, refl)

  module _ (all : List A) (seen : List ℕ) (out : List A) (x : A) (stack : List A)
      (k : Walks all (x ∷ stack) seen out) where
    pub walks_good : w.Good x
    walks_good = k.sound x (inl refl)

    -- seen before: dropped
    pub walks_drop : 1 ≤ times (w.key x) seen → Walks all stack seen out
    walks_drop l =
        let r : (m : ℕ) × (k.n ≡ suc m) = some_turn k.n
        (length (x ∷ stack) + steps_for w.most (room w.key 1 w.keys seen)) k.enough in
        let e : k.n ≡ suc r.0 = r.1 in
        let g = k.enough in
        record {
          sound = λ y m. k.sound y (inr m);
          n = r.0;
          enough = omega (arith, g, e);
          total =
              ap (λ t. out ++ t) (sym (ap (λ n. walk w.kids w.key 1 n seen (x ∷ stack)) e
              ∙ turn r.0 seen x stack false (le-ltb (times (w.key x) seen) 1 l)))
              ∙ k.total;
        }

    -- else it goes out, and what comes of it goes upon the stack
    pub walks_take : times (w.key x) seen < 1 → Walks all (w.kids x ++ stack) (w.key x ∷ seen) (out ++ (x ∷ []))
    walks_take l =
        let r : (m : ℕ) × (k.n ≡ suc m) = some_turn k.n
        (length (x ∷ stack) + steps_for w.most (room w.key 1 w.keys seen)) k.enough in
        let e : k.n ≡ suc r.0 = r.1 in
        let g = k.enough in
        let b : (0 < w.key x) × (w.key x ≤ w.keys) = w.within x walks_good in
        let a : room w.key 1 w.keys (w.key x ∷ seen) < room w.key 1 w.keys seen =
        room_taken w.key 1 w.keys (w.key x) seen b.0 b.1 l in
        let f : w.most + steps_for w.most (room w.key 1 w.keys (w.key x ∷ seen))
        ≤ steps_for w.most (room w.key 1 w.keys seen) =
        steps_fall w.most (room w.key 1 w.keys (w.key x ∷ seen)) (room w.key 1 w.keys seen) a in
        let c : length (w.kids x ++ stack) ≡ length (w.kids x) + length stack = len_append (w.kids x) stack in
        let d : length (w.kids x) ≤ w.most = w.few x walks_good in
        record {
          sound = λ y m. elim (in_either y (w.kids x) stack m)
              [ inl h ↦ w.good x y walks_good h | inr h ↦ k.sound y (inr h) ];
          n = r.0;
          enough = omega (arith, g, e, f, c, d);
          total =
              append_assoc out (x ∷ []) (walk w.kids w.key 1 r.0 (w.key x ∷ seen) (w.kids x ++ stack))
              ∙ ap (λ t. out ++ t) (sym (ap (λ n. walk w.kids w.key 1 n seen (x ∷ stack)) e
              ∙ turn r.0 seen x stack true (lt-ltb (times (w.key x) seen) 1 l)))
              ∙ k.total;
        }

-- ---- outlines

from_map : (f : PartialReading → ThreadModel) (o : ThreadModel) (xs : List PartialReading) → In o (map f xs)
    → (x : PartialReading) × In x xs × (o ≡ f x)
from_map f o [] m = absurd m
from_map f o (x ∷ xs) (inl e) = (x, inl refl, e)
from_map f o (x ∷ xs) (inr m) = let r = from_map f o xs m in (r.0, inr r.1, r.2)

len_map : {A B : Type 0} (f : A → B) (xs : List A) → length (map f xs) ≡ length xs
len_map f [] = refl
len_map f (x ∷ xs) = ap suc (len_map f xs)

module _ (i : Input) (pattern : Ops) (q : ℕ) where
  pub here_epsilon : (o u : ThreadModel) → IsHere i pattern q o → In u (epsilons_of i q o) → IsHere i pattern q u
  here_epsilon o u (x, a, e) m =
      let c : map erase (epsilons i q x) ≡ epsilons_of i q o = erase_epsilon i q x a.1 ∙ ap (epsilons_of i q) e in
      let r : (y : PartialReading) × In y (epsilons i q x) × (u ≡ erase y) =
      from_map erase u (epsilons i q x) (subst (In u) (sym c) m) in
      (r.0, idle-sound i pattern q x a r.0 r.1, sym r.2)

  pub here_few : (o : ThreadModel) → IsHere i pattern q o → length (epsilons_of i q o) ≤ 2
  here_few o (x, a, e) =
      let c : map erase (epsilons i q x) ≡ epsilons_of i q o = erase_epsilon i q x a.1 ∙ ap (epsilons_of i q) e in
      subst (λ v. length v ≤ 2) c (subst (λ v. v ≤ 2) (sym (len_map erase (epsilons i q x))) (epsilon_short i q x))

  pub here_number : (o : ThreadModel) → IsHere i pattern q o → (0 < thread_state o)
      × (thread_state o ≤ state_count pattern)
  here_number o (x, a, e) = subst (λ v. (0 < v) × (v ≤ state_count pattern)) (sym (same_number x) ∙ ap thread_state e)
      (number-within i pattern x a.0)

  abbrev pub forward : Transitions ThreadModel
  forward = record {
    kids = epsilons_of i q;
    key = thread_state;
    Good = IsHere i pattern q;
    most = 2;
    keys = state_count pattern;
    good = here_epsilon;
    few = here_few;
    within = here_number;
  }

  room_ones : {A : Type 0} (key : A → ℕ) (n : ℕ) → room key 1 n [] ≡ n
  unfolding room
  room_ones key zero = refl
  room_ones key (suc n) = let e : room key 1 n [] ≡ n = room_ones key n in omega (arith, e)

  steps_two : (n : ℕ) → steps_for 2 n ≡ n + n
  unfolding steps_for
  steps_two zero = refl
  steps_two (suc n) = let e : steps_for 2 n ≡ n + n = steps_two n in omega (arith, e)

  steps_three : (n : ℕ) → steps_for 3 n ≡ n + n + n
  unfolding steps_for
  steps_three zero = refl
  steps_three (suc n) = let e : steps_for 3 n ≡ n + n + n = steps_three n in omega (arith, e)

  pub forward_start : (os : List ThreadModel) → ((o : ThreadModel) → In o os → IsHere i pattern q o)
      → Walks forward (model_first i (state_count pattern) q os) os [] []
  forward_start os g = walks_start forward (turns (length os) (state_count pattern)) os g
      (let e : steps_for 2 (room thread_state 1 (state_count pattern) [])
      ≡ state_count pattern + state_count pattern = ap (steps_for 2) (room_ones thread_state (state_count pattern))
      ∙ steps_two (state_count pattern) in omega (arith, e))

  -- ---- visits

  unfoldable pub GoodVisit : Visit → Type 0
  GoodVisit (enter o) = IsHere i pattern q o
  GoodVisit (leave o) = IsHere i pattern q o

  in_visits : (v : Visit) (o : ThreadModel) (os : List ThreadModel) → In v (map enter os ++ (leave o ∷ []))
      → ((u : ThreadModel) × In u os × (v ≡ enter u)) ⊎ (v ≡ leave o)
  in_visits v o [] (inl e) = inr e
  in_visits v o [] (inr m) = absurd m
  in_visits v o (u ∷ os) (inl e) = inl (u, inl refl, e)
  in_visits v o (u ∷ os) (inr m) = go (in_visits v o os m)
    where
      go : (((x : ThreadModel) × In x os × (v ≡ enter x)) ⊎ (v ≡ leave o))
          → ((x : ThreadModel) × In x (u ∷ os) × (v ≡ enter x)) ⊎ (v ≡ leave o)
      go (inl (x, h, e)) = inl (x, inr h, e)
      go (inr e) = inr e

  in_reverse : (o : ThreadModel) (os : List ThreadModel) → In o (reverse os) → In o os
  in_reverse o [] m = m
  in_reverse o (u ∷ os) m = go (λ h. in_reverse o os h)
      (in_either o (reverse os) (u ∷ []) (subst (In o) (reverse-append (u ∷ []) os) m))
    where
      go : (In o (reverse os) → In o os) → In o (reverse os) ⊎ In o (u ∷ []) → In o (u ∷ os)
      go f (inl h) = inr (f h)
      go f (inr (inl e)) = inl e
      go f (inr (inr h)) = absurd h

  pub visit_good : (v w : Visit) → GoodVisit v → In w (visits_of i q v) → GoodVisit w
  unfolding GoodVisit
  visit_good (enter o) w a m = go (in_visits w o (reverse (epsilons_of i q o)) m)
    where
      go : (((u : ThreadModel) × In u (reverse (epsilons_of i q o)) × (w ≡ enter u)) ⊎ (w ≡ leave o)) → GoodVisit w
      go (inl (u, h, e)) = subst GoodVisit (sym e) (here_epsilon o u a (in_reverse u (epsilons_of i q o) h))
      go (inr e) = subst GoodVisit (sym e) a
  visit_good (leave o) w a m = absurd m

  pub visit_few : (v : Visit) → GoodVisit v → length (visits_of i q v) ≤ 3
  unfolding GoodVisit
  visit_few (enter o) g =
      let a : length (map enter (reverse (epsilons_of i q o)) ++ (leave o ∷ []))
      ≡ length (map enter (reverse (epsilons_of i q o))) + 1 =
      len_append (map enter (reverse (epsilons_of i q o))) (leave o ∷ []) in
      let b : length (map enter (reverse (epsilons_of i q o))) ≡ length (reverse (epsilons_of i q o)) =
      len_map enter (reverse (epsilons_of i q o)) in
      let c : length (reverse (epsilons_of i q o)) ≡ length (epsilons_of i q o) = length-reverse (epsilons_of i q o) in
      let d : length (epsilons_of i q o) ≤ 2 = here_few o g in
      omega (arith, a, b, c, d)
  visit_few (leave o) g = omega arith

  pub visit_within : (v : Visit) → GoodVisit v → (0 < key_of v)
      × (key_of v ≤ suc (state_count pattern + state_count pattern))
  unfolding GoodVisit
  visit_within (enter o) g = let w : (0 < thread_state o) × (thread_state o ≤ state_count pattern) =
      here_number o g in let a = w.0 in let b = w.1 in (omega (arith, a), omega (arith, b))
  visit_within (leave o) g = let w : (0 < thread_state o) × (thread_state o ≤ state_count pattern) =
      here_number o g in let b = w.1 in (omega arith, omega (arith, b))

  abbrev pub backward : Transitions Visit
  backward = record {
    kids = visits_of i q;
    key = key_of;
    Good = GoodVisit;
    most = 3;
    keys = suc (state_count pattern + state_count pattern);
    good = visit_good;
    few = visit_few;
    within = visit_within;
  }

  entered_good : (os : List ThreadModel) → ((o : ThreadModel) → In o os → IsHere i pattern q o) → (v : Visit)
      → In v (map enter os) → GoodVisit v
  unfolding GoodVisit
  entered_good [] g v m = absurd m
  entered_good (o ∷ os) g v (inl e) = subst GoodVisit (sym e) (g o (inl refl))
  entered_good (o ∷ os) g v (inr m) = entered_good os (λ u h. g u (inr h)) v m

  pub backward_start : (os : List ThreadModel) → ((o : ThreadModel) → In o os → IsHere i pattern q o) →
      (all : List Visit) × (leaves_of all ≡ model_back i (state_count pattern) q os)
      × Walks backward all (map enter os) [] []
  backward_start os g = (
    walk (visits_of i q) key_of 1 (visit_turns (length os) (state_count pattern)) [] (map enter os),
    refl,
    walks_start backward (visit_turns (length os) (state_count pattern)) (map enter os) (entered_good os g)
        (let e : steps_for 3 (room key_of 1 (suc (state_count pattern + state_count pattern)) [])
        ≡ suc (state_count pattern + state_count pattern) + suc (state_count pattern + state_count pattern)
        + suc (state_count pattern + state_count pattern) =
        ap (steps_for 3) (room_ones key_of (suc (state_count pattern + state_count pattern)))
        ∙ steps_three (suc (state_count pattern + state_count pattern)) in
        let l : length (map enter os) ≡ length os = len_map enter os in omega (arith, e, l)),
  )

-- ---- each dot is left once, since it is entered once

-- none of the visits leaves the dot of this number
pub NoneLeaves : ℕ → List Visit → Type 0
NoneLeaves n [] = Unit {0}
NoneLeaves n (enter o ∷ vs) = NoneLeaves n vs
NoneLeaves n (leave o ∷ vs) = (n ≡ thread_state o → ⊥) × NoneLeaves n vs

-- those that are to be left were entered, and weren't left yet
pub ToLeave : List ℕ → List ℕ → List Visit → Type 0
ToLeave seen visited [] = Unit {0}
ToLeave seen visited (enter o ∷ vs) = ToLeave seen visited vs
ToLeave seen visited (leave o ∷ vs) =
    (times (suc (thread_state o + thread_state o)) seen ≡ 0) × (0 < times (thread_state o) visited)
    × NoneLeaves (thread_state o) vs × ToLeave seen visited vs

-- the keys that were seen, where these dots were entered
pub record Entered (seen visited : List ℕ) (stack : List Visit) : Type 0 where
  pub once : (n : ℕ) → times (n + n) seen ≡ times n visited
  pub before : (n : ℕ) → 0 < times (suc (n + n)) seen → 0 < times n visited
  pub to_leave : ToLeave seen visited stack

not_odd : (n m : ℕ) → n + n ≡ suc (m + m) → ⊥
not_odd n m e = omega (arith, e)

same_half : (n m : ℕ) → n + n ≡ m + m → n ≡ m
same_half n m e = omega (arith, e)

same_odd : (n m : ℕ) → suc (n + n) ≡ suc (m + m) → n ≡ m
same_odd n m e = omega (arith, e)

to_leave_entered : (os : List ThreadModel) → ToLeave [] [] (map enter os)
unfolding ToLeave
to_leave_entered [] = tt
to_leave_entered (o ∷ os) = to_leave_entered os

pub entered_start : (os : List ThreadModel) → Entered [] [] (map enter os)
entered_start os = record {
  once = λ n. refl;
  before = λ n l. absurd (omega (arith, l));
  to_leave = to_leave_entered os;
}

module _ (i : Input) (q : ℕ) (seen visited : List ℕ) (o : ThreadModel) (vs : List Visit) where
  n0 : ℕ
  n0 = thread_state o

  -- a dot that was entered is dropped
  pub entered_drop : Entered seen visited (enter o ∷ vs) → Entered seen visited vs
  unfolding ToLeave
  entered_drop e = record { once = e.once; before = e.before; to_leave = e.to_leave }

  none_leaves : (us : List Visit) → ToLeave seen visited us → times (thread_state o) visited ≡ 0
      → NoneLeaves (thread_state o) us
  unfolding ToLeave NoneLeaves
  none_leaves [] t z = tt
  none_leaves (enter u ∷ us) t z = none_leaves us t z
  none_leaves (leave u ∷ us) t z = (
    (λ e. let p = t.1 in let d : times (thread_state u) visited ≡ 0 = ap (λ k. times k visited) (sym e)
        ∙ z in omega (arith, p, d)),
    none_leaves us t.3 z,
  )

  still_to_leave : (us : List Visit) → ToLeave seen visited us
      → ToLeave ((thread_state o + thread_state o) ∷ seen) (thread_state o ∷ visited) us
  unfolding ToLeave
  still_to_leave [] t = tt
  still_to_leave (enter u ∷ us) t = still_to_leave us t
  still_to_leave (leave u ∷ us) t = (
    times_other (suc (thread_state u + thread_state u)) (thread_state o + thread_state o) seen
        (λ e. not_odd (thread_state o) (thread_state u) (sym e)) ∙ t.0,
    (let a = t.1 in let b : times (thread_state u) visited
        ≤ times (thread_state u) (thread_state o ∷ visited) =
        times_grow (thread_state u) (thread_state o) visited in omega (arith, a, b)),
    t.2,
    still_to_leave us t.3,
  )

  with_entered : (os : List ThreadModel) (s m : List ℕ) (us : List Visit) → ToLeave s m us
      → ToLeave s m (map enter os ++ us)
  unfolding ToLeave
  with_entered [] s m us t = t
  with_entered (u ∷ os) s m us t = with_entered os s m us t

  pub entered_take : Entered seen visited (enter o ∷ vs) → times (thread_state o) visited ≡ 0 →
      Entered (key_of (enter o) ∷ seen) (thread_state o ∷ visited) (visits_of i q (enter o) ++ vs)
  unfolding ToLeave
  entered_take e z = record { once = once; before = before; to_leave = to_leave }
    where
      once : (n : ℕ) → times (n + n) ((thread_state o + thread_state o) ∷ seen) ≡ times n (thread_state o ∷ visited)
      once n = go (equal_or_not n (thread_state o))
        where
          go : (n ≡ thread_state o) ⊎ (n ≡ thread_state o → ⊥)
              → times (n + n) ((thread_state o + thread_state o) ∷ seen) ≡ times n (thread_state o ∷ visited)
          go (inl d) = times_same (n + n) (thread_state o + thread_state o) seen (ap (λ k. k + k) d)
              ∙ ap suc (e.once n) ∙ sym (times_same n (thread_state o) visited d)
          go (inr d) = times_other (n + n) (thread_state o + thread_state o) seen
              (λ f. d (same_half n (thread_state o) f)) ∙ e.once n ∙ sym (times_other n (thread_state o) visited d)

      before : (n : ℕ) → 0 < times (suc (n + n)) ((thread_state o + thread_state o) ∷ seen)
          → 0 < times n (thread_state o ∷ visited)
      before n l =
          let a : times (suc (n + n)) ((thread_state o + thread_state o) ∷ seen) ≡ times (suc (n + n)) seen =
          times_other (suc (n + n)) (thread_state o + thread_state o) seen
          (λ f. not_odd (thread_state o) n (sym f)) in
          let b : 0 < times n visited = e.before n (omega (arith, a, l)) in
          let c : times n visited ≤ times n (thread_state o ∷ visited) = times_grow n (thread_state o) visited in
          omega (arith, b, c)

      fresh : (k : ℕ) → times (suc (thread_state o + thread_state o)) seen ≡ k → k ≡ 0
      fresh zero d = refl
      fresh (suc k) d = let b : 0 < times (thread_state o) visited =
          e.before (thread_state o) (omega (arith, d)) in absurd (omega (arith, b, z))

      left : ToLeave ((thread_state o + thread_state o) ∷ seen) (thread_state o ∷ visited) (leave o ∷ vs)
      left = (
        times_other (suc (thread_state o + thread_state o)) (thread_state o + thread_state o) seen
            (λ f. not_odd (thread_state o) (thread_state o) (sym f))
            ∙ fresh (times (suc (thread_state o + thread_state o)) seen) refl,
        (let a : times (thread_state o) (thread_state o ∷ visited)
            ≡ suc (times (thread_state o) visited) =
            times_same (thread_state o) (thread_state o) visited refl in omega (arith, a)),
        none_leaves vs e.to_leave z,
        still_to_leave vs e.to_leave,
      )

      to_leave : ToLeave ((thread_state o + thread_state o) ∷ seen) (thread_state o ∷ visited)
          ((map enter (reverse (epsilons_of i q o)) ++ (leave o ∷ [])) ++ vs)
      to_leave = subst (ToLeave ((thread_state o + thread_state o) ∷ seen) (thread_state o ∷ visited))
          (sym (append_assoc (map enter (reverse (epsilons_of i q o))) (leave o ∷ []) vs))
          (with_entered (reverse (epsilons_of i q o)) ((thread_state o + thread_state o) ∷ seen)
          (thread_state o ∷ visited) (leave o ∷ vs) left)

  -- a dot that is to be left is left
  pub leaves_now : Entered seen visited (leave o ∷ vs) → times (key_of (leave o)) seen < 1
  unfolding ToLeave
  leaves_now e = let z = e.to_leave.0 in omega (arith, z)

  others_to_leave : (us : List Visit) → NoneLeaves (thread_state o) us → ToLeave seen visited us
      → ToLeave (suc (thread_state o + thread_state o) ∷ seen) visited us
  unfolding ToLeave NoneLeaves
  others_to_leave [] n t = tt
  others_to_leave (enter u ∷ us) n t = others_to_leave us n t
  others_to_leave (leave u ∷ us) n t = (
    times_other (suc (thread_state u + thread_state u)) (suc (thread_state o + thread_state o)) seen
        (λ e. n.0 (sym (same_odd (thread_state u) (thread_state o) e))) ∙ t.0,
    t.1,
    t.2,
    others_to_leave us n.1 t.3,
  )

  pub entered_leave : Entered seen visited (leave o ∷ vs) → Entered (key_of (leave o) ∷ seen) visited vs
  unfolding ToLeave
  entered_leave e = record { once = once; before = before; to_leave = others_to_leave vs e.to_leave.2 e.to_leave.3 }
    where
      once : (n : ℕ) → times (n + n) (suc (thread_state o + thread_state o) ∷ seen) ≡ times n visited
      once n = times_other (n + n) (suc (thread_state o + thread_state o)) seen (not_odd n (thread_state o))
          ∙ e.once n

      before : (n : ℕ) → 0 < times (suc (n + n)) (suc (thread_state o + thread_state o) ∷ seen) → 0 < times n visited
      before n l = go (equal_or_not n (thread_state o))
        where
          go : (n ≡ thread_state o) ⊎ (n ≡ thread_state o → ⊥) → 0 < times n visited
          go (inl d) = subst (λ k. 0 < times k visited) (sym d) e.to_leave.1
          go (inr d) = e.before n (subst (λ k. 0 < k)
              (times_other (suc (n + n)) (suc (thread_state o + thread_state o)) seen
              (λ f. d (same_odd n (thread_state o) f))) l)
