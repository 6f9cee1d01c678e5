-- The outlines of the two ends note what all beginnings do.
use Rattle.std.proofs.Common.{ℕ, zero, suc, ◌+◌, ◌≡◌, ◌<◌, ◌≤◌, ◌⊎◌, inl, inr, Some, Bool, true, false, List, [], ◌∷◌}
use Rattle.std.proofs.Common.{◌++◌, map, length, reverse, refl, sym, ◌∙◌, ap, subst, arith}
use Rattle.std.specs.Prelude.{nat_lt}
use Rattle.std.specs.List.{filter_map}
use Rattle.std.proofs.lemmas.List.{map-append}
use Rattle.mbe_tt.specs.Trees.Tree.{Forest, flat_len}
use Rattle.mbe_tt.specs.Grammars.Grammar.{Grammar, IsLawful}
use Rattle.mbe_semantics.specs.Syntax.Op.{Ops}
use Rattle.mbe_semantics.specs.Syntax.Nullable.{Checked}
use Rattle.mbe_semantics.specs.Readings.Input.{Input, input_of}
use Rattle.mbe_semantics.specs.Readings.Reading.{PartialReading, EndsAt, start}
use Rattle.mbe_semantics.specs.Readings.Steps.{Move, move, next, epsilons}
use Rattle.mbe_semantics.specs.Readings.Verdict.{Verdict, IsVerdict, stop_of}
use Rattle.mbe_semantics.specs.Matching.Lists.{In}
use Rattle.mbe_semantics.specs.Matching.States.{state_count, state_number, thread_state}
use Rattle.mbe_semantics.specs.Matching.Closure.{closure, moves_of, targets, has_ambiguity}
use Rattle.mbe_semantics.specs.Matching.ThreadModel.{ThreadModel, erase, erase_move, epsilons_of, next_of}
use Rattle.mbe_semantics.specs.Matching.Frontier.{after_of, first_width}
use Rattle.mbe_semantics.proofs.InputLemmas.{lawful_input}
use Rattle.mbe_laws.proofs.Matching.Forest.{in_either}
use Rattle.mbe_laws.proofs.Matching.Sound.{idle-sound}
use Rattle.mbe_laws.proofs.Matching.ThreadModels.{erase_epsilon}
use Rattle.mbe_laws.proofs.Matching.Moves.{next-takes}
use Rattle.mbe_laws.proofs.Matching.Ambiguities.{from_filter, in_filter, from_targets, in_targets}
use Rattle.mbe_laws.proofs.Matching.Advance.{inv-start}
use Rattle.mbe_laws.specs.Bounded.ClosureTwoEach.{cons_if, append_if, times, walk, turns}
use Rattle.mbe_laws.specs.Reports.Ends.{firsts, lasts}
use Rattle.mbe_laws.specs.Reports.Backward as back
use Rattle.mbe_laws.specs.Reports.Backward.{visits, visit_number, leaves_in, visit_turns, closure_first, closure_back}
use Rattle.mbe_laws.proofs.States.Sift.{from_sift}
use Rattle.mbe_laws.proofs.Loop.BoundedOffsets.{same_number, erase_moves, after_alike, width_alike}
use Rattle.mbe_laws.proofs.Loop.TurnedOffsets.{map_reverse}
use Rattle.mbe_laws.proofs.Reports.EndLemmas.{from_reverse}
use Rattle.mbe_matcher.specs.Failures.{Notes, no_notes, noted_at, ReachesWith, at_start, at_next, AreNotes}
use Rattle.mbe_matcher.specs.FirstAndLast.{ends_noted, Visit, enter, leave, visits_of, key_of, leaves_of, model_first}
use Rattle.mbe_matcher.specs.FirstAndLast.{model_back, first_moves, back_moves, model_notes, EndsFollow, follow_start}
use Rattle.mbe_matcher.specs.FirstAndLast.{follow_next, AreModelNotes, ModelPassLaw}
use Rattle.mbe_matcher.proofs.TwoEnds.{head, head_some, Ends, ends_at_start, ends_same, same_move, ends_go, led, known}
use Rattle.mbe_matcher.proofs.TwoEnds.{here, clear_moves}

-- ---- walks of what stands for the members

length_map : {A B : Type 0} (f : A → B) (xs : List A) → length (map f xs) ≡ length xs
length_map f [] = refl
length_map f (x ∷ xs) = ap suc (length_map f xs)

module _ {A B : Type 0} (h : A → B) (kids : A → List A) (key : A → ℕ) (kids' : B → List B) (key' : B → ℕ)
    (Good : A → Type 0)
    (below : (x : A) → Good x → map h (kids x) ≡ kids' (h x)) (same : (x : A) → key' (h x) ≡ key x)
    (good : (x y : A) → Good x → In y (kids x) → Good y) where
  map_cons_if : (b : Bool) (x : A) (xs : List A) → map h (cons_if b x xs) ≡ cons_if b (h x) (map h xs)
  map_cons_if true x xs = refl
  map_cons_if false x xs = refl

  map_append_if : (b : Bool) (xs ys : List A) → map h (append_if b xs ys) ≡ append_if b (map h xs) (map h ys)
  map_append_if true xs ys = map-append h xs ys
  map_append_if false xs ys = refl

  in_append_if : (b : Bool) (x : A) (xs ys : List A) → In x (append_if b xs ys) → In x xs ⊎ In x ys
  in_append_if true x xs ys m = in_either x xs ys m
  in_append_if false x xs ys m = inr m

  map_walk : (k n : ℕ) (seen : List ℕ) (xs : List A) → ((x : A) → In x xs → Good x)
      → map h (walk kids key k n seen xs) ≡ walk kids' key' k n seen (map h xs)
  unfolding walk
  map_walk k zero seen xs a = refl
  map_walk k (suc n) seen [] a = refl
  map_walk k (suc n) seen (x ∷ xs) a =
      map_cons_if few x (walk kids key k n (cons_if few (key x) seen) (append_if few (kids x) xs))
      ∙ ap (cons_if few (h x)) (map_walk k n (cons_if few (key x) seen) (append_if few (kids x) xs) all)
      ∙ ap (λ l. cons_if few (h x) (walk kids' key' k n (cons_if few (key x) seen) l))
      (map_append_if few (kids x) xs ∙ ap (λ l. append_if few l (map h xs)) (below x (a x (inl refl))))
      ∙ ap (λ m. cons_if (nat_lt (times m seen) k) (h x)
      (walk kids' key' k n (cons_if (nat_lt (times m seen) k) m seen)
      (append_if (nat_lt (times m seen) k) (kids' (h x)) (map h xs))))
      (sym (same x))
    where
      few : Bool
      few = nat_lt (times (key x) seen) k

      all : (y : A) → In y (append_if few (kids x) xs) → Good y
      all y m = elim (in_append_if few y (kids x) xs m) [ inl l ↦ good x y (a x (inl refl)) l | inr r ↦ a y (inr r) ]

-- ---- visits

shape : back.Visit → Visit
shape (back.enter x) = enter (erase x)
shape (back.leave x) = leave (erase x)

shape_entered : (xs : List PartialReading) → map shape (map back.enter xs) ≡ map enter (map erase xs)
unfolding shape
shape_entered [] = refl
shape_entered (x ∷ xs) = ap (λ l. enter (erase x) ∷ l) (shape_entered xs)

shape_left : (vs : List back.Visit) → map erase (leaves_in vs) ≡ leaves_of (map shape vs)
unfolding shape
shape_left [] = refl
shape_left (back.enter x ∷ vs) = shape_left vs
shape_left (back.leave x ∷ vs) = ap (λ l. erase x ∷ l) (shape_left vs)

in_entered : (z x : PartialReading) (xs : List PartialReading)
    → In (back.enter z) (map back.enter xs ++ (back.leave x ∷ []))
    → In z xs
in_entered z x [] (inl e) = cc
in_entered z x [] (inr h) = absurd h
in_entered z x (y ∷ xs) (inl e) = inl (let f : z ≡ y = cc in f)
in_entered z x (y ∷ xs) (inr h) = inr (in_entered z x xs h)

module _ (i : Input) (pattern : Ops) (q : ℕ) where
  GoodVisit : back.Visit → Type 0
  GoodVisit (back.enter x) = EndsAt i pattern q x
  GoodVisit (back.leave x) = Unit {0}

  visit_kids : (v : back.Visit) → GoodVisit v → map shape (visits i q v) ≡ visits_of i q (shape v)
  unfolding GoodVisit shape
  visit_kids (back.enter x) a =
      map-append shape (map back.enter (reverse (epsilons i q x))) (back.leave x ∷ [])
      ∙ ap (λ l. l ++ (leave (erase x) ∷ []))
      (shape_entered (reverse (epsilons i q x))
      ∙ ap (map enter) (map_reverse erase (epsilons i q x) ∙ ap reverse (erase_epsilon i q x a.1)))
  visit_kids (back.leave x) a = refl

  visit_key : (v : back.Visit) → key_of (shape v) ≡ visit_number v
  unfolding shape
  visit_key (back.enter x) = ap (λ n. n + n) (same_number x)
  visit_key (back.leave x) = ap (λ n. suc (n + n)) (same_number x)

  visit_good : (v w : back.Visit) → GoodVisit v → In w (visits i q v) → GoodVisit w
  unfolding GoodVisit
  visit_good (back.enter x) (back.enter y) a m =
      idle-sound i pattern q x a y (from_reverse y (epsilons i q x) (in_entered y x (reverse (epsilons i q x)) m))
  visit_good (back.enter x) (back.leave y) a m = tt
  visit_good (back.leave x) w a m = absurd m

  all_good : (xs : List PartialReading) → ((x : PartialReading) → In x xs → EndsAt i pattern q x) → (v : back.Visit)
      → In v (map back.enter xs) → GoodVisit v
  unfolding GoodVisit
  all_good [] a v m = absurd m
  all_good (x ∷ xs) a v (inl e) = subst GoodVisit (sym e) (a x (inl refl))
  all_good (x ∷ xs) a v (inr m) = all_good xs (λ y h. a y (inr h)) v m

  pub first_erased : (d : ℕ) (xs : List PartialReading) → ((x : PartialReading) → In x xs → EndsAt i pattern q x)
      → map erase (closure_first i d q xs) ≡ model_first i d q (map erase xs)
  first_erased d xs a =
      map_walk erase (epsilons i q) state_number (epsilons_of i q) thread_state (EndsAt i pattern q)
      (λ x b. erase_epsilon i q x b.1)
      same_number (λ x y b m. idle-sound i pattern q x b y m)
      1 (turns (length xs) d) [] xs a
      ∙ ap (λ n. walk (epsilons_of i q) thread_state 1 (turns n d) [] (map erase xs)) (sym (length_map erase xs))

  pub back_erased : (d : ℕ) (xs : List PartialReading) → ((x : PartialReading) → In x xs → EndsAt i pattern q x)
      → map erase (closure_back i d q xs) ≡ model_back i d q (map erase xs)
  back_erased d xs a =
      shape_left (walk (visits i q) visit_number 1 (visit_turns (length xs) d) [] (map back.enter xs))
      ∙ ap leaves_of (map_walk shape (visits i q) visit_number (visits_of i q) key_of GoodVisit visit_kids visit_key
      visit_good
      1 (visit_turns (length xs) d) [] (map back.enter xs) (all_good xs a)
      ∙ ap (walk (visits_of i q) key_of 1 (visit_turns (length xs) d) []) (shape_entered xs)
      ∙ ap (λ n. walk (visits_of i q) key_of 1 (visit_turns n d) [] (map enter (map erase xs)))
      (sym (length_map erase xs)))

-- ---- what leads on

from_firsts : (x : PartialReading) (ys : List PartialReading) → In x (firsts ys) → In x ys
from_firsts x ys h = from_sift state_number 1 [] ys x h

from_lasts : (x : PartialReading) (ys : List PartialReading) → In x (reverse (lasts ys)) → In x ys
from_lasts x ys h = from_reverse x ys (from_firsts x (reverse ys)
    (from_reverse x (firsts (reverse ys)) (from_reverse x (lasts ys) h)))

led_among : (i : Input) (q : ℕ) (us ys : List PartialReading) → ((x : PartialReading) → In x us → In x ys)
    → (z : PartialReading)
    → In z (targets (moves_of i q us)) → In z (targets (moves_of i q ys))
led_among i q us ys f z m =
    let r : (k : ℕ) × (g : Bool) × In (move k g z) (moves_of i q us) = from_targets z (moves_of i q us) m in
    let s : (x : PartialReading) × In x us × (next i q x ≡ Some (move r.0 r.1 z)) =
    from_filter (next i q) (move r.0 r.1 z) us r.2 in
    in_targets r.0 r.1 z (moves_of i q ys) (in_filter (next i q) s.0 (move r.0 r.1 z) ys (f s.0 s.1) s.2)

-- ---- from place to place

module _ (g : Grammar) (pattern : Ops) (argument : Forest) (w : IsLawful g) (checked : Checked pattern) where
  abbrev i : Input
  i = input_of g argument

  abbrev d : ℕ
  d = state_count pattern

  -- The pass is at the place with these lists, as the run of all beginnings is.
  pub record ReportPass (q : ℕ) (os ps : List ThreadModel) (before : Notes) : Type 0 where
    pub xs : List PartialReading
    pub fs : List PartialReading
    pub bs : List PartialReading
    pub comes : ReachesWith (input_of g argument) pattern q xs before
    pub ends : Ends g pattern argument w checked q xs fs bs
    pub fs_at : (x : PartialReading) → In x fs → EndsAt (input_of g argument) pattern q x
    pub bs_at : (x : PartialReading) → In x bs → EndsAt (input_of g argument) pattern q x
    pub firsts_are : map erase fs ≡ os
    pub lasts_are : map erase bs ≡ ps

  pub pass_start : ReportPass 0 (erase (start pattern) ∷ []) (erase (start pattern) ∷ []) no_notes
  pass_start = record {
    xs = start pattern ∷ [];
    fs = start pattern ∷ [];
    bs = start pattern ∷ [];
    comes = at_start;
    ends = ends_at_start g pattern argument w checked;
    fs_at = (inv-start i pattern (flat_len argument) (lawful_input g argument w) checked).sound;
    bs_at = (inv-start i pattern (flat_len argument) (lawful_input g argument w) checked).sound;
    firsts_are = refl;
    lasts_are = refl;
  }

  module _ (q : ℕ) (os ps : List ThreadModel) (before : Notes) (p : ReportPass q os ps before) where
    ys : List PartialReading
    ys = closure i q p.xs

    in_first : (x : PartialReading) → In x (closure_first i d q p.fs) → In x (closure i q p.xs)
    in_first x m = from_firsts x (closure i q p.xs) (subst (In x) p.ends.0 m)

    in_back : (x : PartialReading) → In x (closure_back i d q p.bs) → In x (closure i q p.xs)
    in_back x m = from_lasts x (closure i q p.xs) (subst (In x) p.ends.1 m)

    at_here : (x : PartialReading) → In x (closure i q p.xs) → EndsAt i pattern q x
    at_here x m = here g pattern argument w checked p.comes x m

    first_is : map erase (closure_first i d q p.fs) ≡ model_first i d q os
    first_is = first_erased i pattern q d p.fs p.fs_at ∙ ap (model_first i d q) p.firsts_are

    back_is : map erase (closure_back i d q p.bs) ≡ model_back i d q ps
    back_is = back_erased i pattern q d p.bs p.bs_at ∙ ap (model_back i d q) p.lasts_are

    pub first_moves_are : first_moves i d q os ≡ map erase_move (moves_of i q (closure_first i d q p.fs))
    first_moves_are = ap (filter_map (next_of i q)) (sym first_is)
        ∙ erase_moves i pattern q (closure_first i d q p.fs) (λ x m. at_here x (in_first x m))

    back_moves_are : back_moves i d q ps ≡ map erase_move (moves_of i q (closure_back i d q p.bs))
    back_moves_are = ap (filter_map (next_of i q)) (sym back_is)
        ∙ erase_moves i pattern q (closure_back i d q p.bs) (λ x m. at_here x (in_back x m))

    -- they note the same
    pub pass_notes : model_notes i pattern q os ps before ≡ noted_at i q (map erase (closure i q p.xs)) before
    pass_notes =
        sym (ap (λ l. ends_noted i q l (map erase (closure_back i d q p.bs)) before) first_is
        ∙ ap (λ l. ends_noted i q (model_first i d q os) l before) back_is)
        ∙ ends_same g pattern argument w checked q p.xs p.fs p.bs before p.comes p.ends

    pub pass_next : (m n : ℕ) (f : Bool) (y : PartialReading) (ms : List Move)
        → moves_of i q (closure i q p.xs) ≡ move n f y ∷ ms → has_ambiguity (move n f y ∷ ms) ≡ false → m ≡ q + n →
        ReportPass m (map after_of (back_moves i d q ps)) (map after_of (first_moves i d q os))
        (model_notes i pattern q os ps before)
    pass_next m n f y ms e c k = record {
      xs = reverse (targets (move n f y ∷ ms));
      fs = targets (moves_of i q (closure_back i d q p.bs));
      bs = targets (moves_of i q (closure_first i d q p.fs));
      comes = subst (λ t. ReachesWith i pattern m (reverse (targets (move n f y ∷ ms))) t) (sym pass_notes)
          (at_next q m n f y ms p.xs before p.comes e c k);
      ends = ends_go g pattern argument w checked q m n f y ms p.xs p.fs p.bs before p.comes p.ends e c k;
      fs_at = λ z h. led g pattern argument w checked q m n f y ms p.xs before p.comes e c k z
          (led_among i q (closure_back i d q p.bs) (closure i q p.xs) in_back z h);
      bs_at = λ z h. led g pattern argument w checked q m n f y ms p.xs before p.comes e c k z
          (led_among i q (closure_first i d q p.fs) (closure i q p.xs) in_first z h);
      firsts_are = sym (ap (map after_of) back_moves_are ∙ after_alike (moves_of i q (closure_back i d q p.bs)));
      lasts_are = sym (ap (map after_of) first_moves_are ∙ after_alike (moves_of i q (closure_first i d q p.fs)));
    }

    -- the first step over tokens is as wide
    pub pass_width : (n : ℕ) (f : Bool) (y : PartialReading) (ms : List Move)
        → moves_of i q (closure i q p.xs) ≡ move n f y ∷ ms → first_width (first_moves i d q os) ≡ Some n
    pass_width n f y ms e =
        let l : (ns : List Move) × (moves_of i q (closure_first i d q p.fs) ≡ move n f y ∷ ns) =
        head_some (moves_of i q (closure_first i d q p.fs)) (move n f y)
        (same_move g pattern argument w checked q p.xs p.fs p.bs before p.comes p.ends ∙ ap head e) in
        ap first_width first_moves_are ∙ ap (λ ks. first_width (map erase_move ks)) l.1

    pub pass_move : (n : ℕ) → first_width (first_moves i d q os) ≡ Some n
        → (f : Bool) × (y : PartialReading) × (ms : List Move) × (moves_of i q (closure i q p.xs) ≡ move n f y ∷ ms)
    pass_move n e =
        let r : (f : Bool) × (y : PartialReading) × (ks : List Move)
        × (moves_of i q (closure_first i d q p.fs) ≡ move n f y ∷ ks) =
        width_alike n (moves_of i q (closure_first i d q p.fs)) (ap first_width (sym first_moves_are) ∙ e) in
        let l : (ms : List Move) × (moves_of i q (closure i q p.xs) ≡ move n r.0 r.1 ∷ ms) =
        head_some (moves_of i q (closure i q p.xs)) (move n r.0 r.1)
        (sym (same_move g pattern argument w checked q p.xs p.fs p.bs before p.comes p.ends) ∙ ap head r.3) in
        (r.0, r.1, l.0, l.1)

  -- ---- where all come, the outlines of the ends do

  abbrev Followed : ℕ → List PartialReading → Notes → Type 0
  Followed q xs before = (os : List ThreadModel) × (ps : List ThreadModel) × EndsFollow i pattern q os ps before
      × ((p : ReportPass q os ps before) × (p.xs ≡ xs))

  pub followed : {q : ℕ} {xs : List PartialReading} {before : Notes} → ReachesWith i pattern q xs before
      → Followed q xs before
  unfolding pass_start pass_next
  followed at_start = (erase (start pattern) ∷ [], erase (start pattern) ∷ [], follow_start, (pass_start, refl))
  followed (at_next q m n f y ms xs before h e c k) = go (followed h)
    where
      go : Followed q xs before → Followed m (reverse (targets (move n f y ∷ ms)))
          (noted_at i q (map erase (closure i q xs)) before)
      go (os, ps, follow, (p, same)) =
          let e' : moves_of i q (closure i q p.xs) ≡ move n f y ∷ ms =
          ap (λ l. moves_of i q (closure i q l)) same ∙ e in
          subst (λ t. Followed m (reverse (targets (move n f y ∷ ms))) t)
          (pass_notes q os ps before p ∙ ap (λ l. noted_at i q (map erase (closure i q l)) before) same) (
            map after_of (back_moves i d q ps),
            map after_of (first_moves i d q os),
            follow_next q m n os ps before follow (pass_width q os ps before p n f y ms e') k,
            (pass_next q os ps before p m n f y ms e' c k, refl),
          )

  -- ---- where these come up to the stop, all do

  pub passes : (v : Verdict) → IsVerdict g pattern argument v → {q : ℕ} {os ps : List ThreadModel} {before : Notes}
      → EndsFollow i pattern q os ps before →
      q ≤ stop_of argument v → ReportPass q os ps before
  passes v is follow_start l = pass_start
  passes v is (follow_next q m n os ps before h e k) l = on (λ a. passes v is h a)
    where
      Next : Type 0
      Next = ReportPass m (map after_of (back_moves i d q ps)) (map after_of (first_moves i d q os))
          (model_notes i pattern q os ps before)

      at : q < m → ReportPass q os ps before → ReportPass m (map after_of (back_moves i d q ps))
          (map after_of (first_moves i d q os)) (model_notes i pattern q os ps before)
      at s p =
          let r : (f : Bool) × (y : PartialReading) × (ms : List Move)
          × (moves_of i q (closure i q p.xs) ≡ move n f y ∷ ms) =
          pass_move q os ps before p n e in
          let c : has_ambiguity (moves_of i q (closure i q p.xs)) ≡ false =
          clear_moves g pattern argument w checked v is q p.xs (known g pattern argument w checked p.comes)
          (omega (arith, s, l)) (has_ambiguity (moves_of i q (closure i q p.xs))) refl in
          pass_next q os ps before p m n r.0 r.1 r.2 r.3 (ap has_ambiguity (sym r.3) ∙ c) k

      -- a step over tokens takes some
      some : ReportPass q os ps before → q < m
      some p =
          let r : (f : Bool) × (y : PartialReading) × (ms : List Move)
          × (moves_of i q (closure i q p.xs) ≡ move n f y ∷ ms) =
          pass_move q os ps before p n e in
          let s : (z : PartialReading) × In z (closure i q p.xs) × (next i q z ≡ Some (move n r.0 r.1)) =
          from_filter (next i q) (move n r.0 r.1) (closure i q p.xs)
          (subst (λ t. In (move n r.0 r.1) t) (sym r.3) (inl refl)) in
          let t : (0 < n) × (q + n ≤ flat_len argument) =
          next-takes i (flat_len argument) q n r.0 s.0 r.1 (lawful_input g argument w) s.2 in
          let t0 = t.0 in omega (arith, t0, k)

      on : (q ≤ stop_of argument v → ReportPass q os ps before)
          → ReportPass m (map after_of (back_moves i d q ps)) (map after_of (first_moves i d q os))
          (model_notes i pattern q os ps before)
      on r = let p : ReportPass q os ps before = r (omega (arith, k, l)) in at (some p) p

pub model_pass : ModelPassLaw
model_pass g pattern argument w checked v is q l notes = (there, back)
  where
    there : AreNotes (input_of g argument) pattern q notes → AreModelNotes (input_of g argument) pattern q notes
    there (xs, before, come, e) =
        let r = followed g pattern argument w checked come in (
          r.0,
          r.1,
          before,
          r.2,
          e ∙ sym (pass_notes g pattern argument w checked q r.0 r.1 before r.3.0
              ∙ ap (λ l. noted_at (input_of g argument) q (map erase (closure (input_of g argument) q l)) before)
              r.3.1),
        )

    back : AreModelNotes (input_of g argument) pattern q notes → AreNotes (input_of g argument) pattern q notes
    back (os, ps, before, come, e) =
        let p : ReportPass g pattern argument w checked q os ps before =
        passes g pattern argument w checked v is come l in
        (p.xs, before, p.comes, e ∙ pass_notes g pattern argument w checked q os ps before p)
