-- The loop over places of a program that holds at most two of each dot.
use Rattle.std.proofs.Common.{ℕ, zero, suc, ◌+◌, ◌≡◌, ◌⊎◌, ◌<◌, ◌≤◌, inl, inr, Option, Some, None, Bool, true, false}
use Rattle.std.proofs.Common.{◌||◌, not, nat_eq, List, [], ◌∷◌, map, length, refl, sym, ◌∙◌, ap, subst, arith}
use Rattle.std.proofs.Common.{option_map}
use Rattle.std.specs.Prelude.{nat_lt}
use Rattle.std.specs.List.{filter_map, cons_option}
use Rattle.std.proofs.lemmas.List.{map-append}
use Rattle.mbe_semantics.specs.Syntax.Op.{Ops, no_ops}
use Rattle.mbe_semantics.specs.Readings.Item.{Items, items_width}
use Rattle.mbe_semantics.specs.Readings.Input.{Input}
use Rattle.mbe_semantics.specs.Readings.Reading.{Frame, inside, within, PartialReading, partial, offset, EndsAt, start}
use Rattle.mbe_semantics.specs.Readings.Reading.{Reading}
use Rattle.mbe_semantics.specs.Readings.Steps.{epsilons, Move, move, next}
use Rattle.mbe_semantics.specs.Matching.Lists.{In}
use Rattle.mbe_semantics.specs.Syntax.Nullable.{Checked}
use Rattle.mbe_semantics.specs.Laws.Lawful.{Lawful}
use Rattle.mbe_semantics.specs.Matching.ThreadModel.{ThreadModel, frames_of, erase, erase_move, epsilons_of, next_of}
use Rattle.mbe_semantics.specs.Matching.ThreadModel.{finished_of}
use Rattle.mbe_semantics.specs.Matching.Closure.{closure, moves_of, targets, completed, completions, has_ambiguity_with}
use Rattle.mbe_semantics.specs.Matching.Closure.{has_ambiguity}
use Rattle.mbe_semantics.specs.Readings.Verdict.{ambiguous, stuck, IsVerdictOn, verdict_of, verdict_at}
use Rattle.mbe_semantics.specs.Matching.Frontier.{ambiguous_with, ambiguity, after_of, first_width}
use Rattle.mbe_semantics.specs.Bindings.Account.{Commands, commands_of}
use Rattle.mbe_laws.proofs.Matching.Forest.{in_either}
use Rattle.mbe_laws.proofs.Matching.Sound.{idle-sound}
use Rattle.mbe_laws.proofs.Matching.ThreadModels.{erase_epsilon, erase_next, erase_finished}
use Rattle.mbe_laws.proofs.Matching.Law.{Inv}
use Rattle.mbe_laws.proofs.Matching.Advance.{some_width, right-ambiguous, right-stuck, last-place}
use Rattle.mbe_laws.proofs.Matching.Final.{right_of, reading_of}
use Rattle.mbe_semantics.specs.Matching.States.{state_count, states_after, state_number, frames_after, thread_state}
use Rattle.mbe_laws.specs.Bounded.ClosureTwoEach.{cons_if, append_if, times, first_two_each, walk, turns}
use Rattle.mbe_laws.specs.Bounded.ClosureTwoEach.{closure_two_each}
use Rattle.mbe_laws.specs.Loop.StackClosure.{kept, stack_moves, stack_ends, StateNumbersStep}
use Rattle.mbe_laws.proofs.Run.Moves.{same-end, same-one, same-clash, same-width}
use Rattle.mbe_laws.proofs.Run.BoundedRun.{Mirrors, mirrors_start, mirrors-next, two_each-is, none_left, some_left}

pub state_numbers_step : StateNumbersStep
state_numbers_step = record {
  past = λ o rest e f up. omega arith;
  into_group = λ d b rest e f up. omega arith;
  into_repetition = λ b rest s k p e f g up. omega arith;
  out_of_group = λ rest e f up. omega arith;
  out_of_repetition = λ b rest s k p e f g up. omega arith;
}

-- ---- outlines

same_after : (up : List Frame) → frames_after (frames_of up) ≡ states_after up
same_after [] = refl
same_after (inside d b rest is ∷ up) = ap (λ v. state_count rest + v) (same_after up)
same_after (within b s k rest is rs ∷ up) = ap (λ v. state_count rest + v) (same_after up)

pub same_number : (x : PartialReading) → thread_state (erase x) ≡ state_number x
same_number (partial rest is up) = ap (λ v. state_count rest + v) (same_after up)

map_cons_if : (b : Bool) (x : PartialReading) (xs : List PartialReading)
    → map erase (cons_if b x xs) ≡ cons_if b (erase x) (map erase xs)
map_cons_if true x xs = refl
map_cons_if false x xs = refl

map_append_if : (b : Bool) (xs ys : List PartialReading)
    → map erase (append_if b xs ys) ≡ append_if b (map erase xs) (map erase ys)
map_append_if true xs ys = map-append erase xs ys
map_append_if false xs ys = refl

in_append_if : (b : Bool) (x : PartialReading) (xs ys : List PartialReading) → In x (append_if b xs ys) → In x xs
    ⊎ In x ys
in_append_if true x xs ys h = in_either x xs ys h
in_append_if false x xs ys h = inr h

module _ (i : Input) (pat : Ops) (q : ℕ) where
  erase_walk : (n : ℕ) (seen : List ℕ) (xs : List PartialReading) → ((x : PartialReading) → In x xs → EndsAt i pat q x)
      →
      map erase (walk (epsilons i q) state_number 2 n seen xs)
      ≡ walk (epsilons_of i q) thread_state 2 n seen (map erase xs)
  unfolding walk
  erase_walk zero seen xs a = refl
  erase_walk (suc n) seen [] a = refl
  erase_walk (suc n) seen (x ∷ xs) a =
      map_cons_if few x (walk (epsilons i q) state_number 2 n (cons_if few (state_number x) seen)
      (append_if few (epsilons i q x) xs))
      ∙ ap (cons_if few (erase x)) (erase_walk n (cons_if few (state_number x) seen) (append_if few (epsilons i q x) xs)
      all)
      ∙ ap (λ l. cons_if few (erase x) (walk (epsilons_of i q) thread_state 2 n (cons_if few (state_number x) seen) l))
      (map_append_if few (epsilons i q x) xs ∙ ap (λ l. append_if few l (map erase xs))
      (erase_epsilon i q x (a x (inl refl)).1))
      ∙ ap (λ m. cons_if (nat_lt (times m seen) 2) (erase x)
      (walk (epsilons_of i q) thread_state 2 n (cons_if (nat_lt (times m seen) 2) m seen)
      (append_if (nat_lt (times m seen) 2) (epsilons_of i q (erase x)) (map erase xs))))
      (sym (same_number x))
    where
      few : Bool
      few = nat_lt (times (state_number x) seen) 2

      all : (y : PartialReading) → In y (append_if few (epsilons i q x) xs) → EndsAt i pat q y
      all y m = elim (in_append_if few y (epsilons i q x) xs m)
          [ inl h ↦ idle-sound i pat q x (a x (inl refl)) y h | inr h ↦ a y (inr h) ]

  len_map : {A B : Type 0} (f : A → B) (xs : List A) → length (map f xs) ≡ length xs
  len_map f [] = refl
  len_map f (x ∷ xs) = ap suc (len_map f xs)

  pub erase_closed : (d : ℕ) (xs : List PartialReading) → ((x : PartialReading) → In x xs → EndsAt i pat q x)
      → map erase (closure_two_each i d q xs) ≡ kept i d q (map erase xs)
  erase_closed d xs a =
      erase_walk (turns (length xs) d) [] xs a
      ∙ ap (λ n. walk (epsilons_of i q) thread_state 2 (turns n d) [] (map erase xs)) (sym (len_map erase xs))

  cons_moves : (o : Option Move) (ms : List Move)
      → cons_option (option_map erase_move o) (map erase_move ms) ≡ map erase_move (cons_option o ms)
  cons_moves None ms = refl
  cons_moves (Some m) ms = refl

  pub erase_moves : (ys : List PartialReading) → ((y : PartialReading) → In y ys → EndsAt i pat q y)
      → filter_map (next_of i q) (map erase ys) ≡ map erase_move (moves_of i q ys)
  erase_moves [] a = refl
  erase_moves (y ∷ ys) a =
      ap (λ o. cons_option o (filter_map (next_of i q) (map erase ys))) (sym (erase_next i q y (a y (inl refl)).1))
      ∙ ap (cons_option (option_map erase_move (next i q y))) (erase_moves ys (λ z m. a z (inr m)))
      ∙ cons_moves (next i q y) (moves_of i q ys)

cons_ends : (o : Option Items) (rs : List Items)
    → cons_option (option_map commands_of o) (map commands_of rs) ≡ map commands_of (cons_option o rs)
cons_ends None rs = refl
cons_ends (Some r) rs = refl

erase_ends : (ys : List PartialReading) → filter_map finished_of (map erase ys) ≡ map commands_of (completions ys)
erase_ends [] = refl
erase_ends (y ∷ ys) =
    ap (λ o. cons_option o (filter_map finished_of (map erase ys))) (sym (erase_finished y))
    ∙ ap (cons_option (option_map commands_of (completed y))) (erase_ends ys)
    ∙ cons_ends (completed y) (completions ys)

same_with : (n : ℕ) (f : Bool) (ms : List Move) → ambiguous_with n f (map erase_move ms) ≡ has_ambiguity_with n f ms
same_with n f [] = refl
same_with n f (move m g z ∷ ms) = ap (λ b. (f || g || not (nat_eq n m)) || b) (same_with n f ms)

pub ambiguity_alike : (ms : List Move) → ambiguity (map erase_move ms) ≡ has_ambiguity ms
ambiguity_alike [] = refl
ambiguity_alike (move n f y ∷ ms) = same_with n f ms

pub after_alike : (ms : List Move) → map after_of (map erase_move ms) ≡ map erase (targets ms)
after_alike [] = refl
after_alike (move n f y ∷ ms) = ap (λ l. erase y ∷ l) (after_alike ms)

pub width_alike : (m : ℕ) (ms : List Move) → first_width (map erase_move ms) ≡ Some m
    → (f : Bool) × (y : PartialReading) × (ks : List Move) × (ms ≡ move m f y ∷ ks)
width_alike m [] e = cc
width_alike m (move n f y ∷ ms) e = let d : n ≡ m = cc in (f, y, ms, ap (λ k. move k f y ∷ ms) d)

no_width : (ms : List Move) → first_width (map erase_move ms) ≡ None → ms ≡ []
no_width [] e = refl
no_width (move n f y ∷ ms) e = cc

count_verdict : {A B : Type 0} (f : A → B) (len : ℕ) (rs : List A)
    → verdict_at len (length (map f rs)) ≡ verdict_of len rs
count_verdict f len [] = refl
count_verdict f len (r ∷ []) = refl
count_verdict f len (r ∷ t ∷ rs) = refl

module _ (i : Input) (pat : Ops) (len : ℕ) (lawful : Lawful i len) (checked : Checked pat) where
  -- the stack, the top first, with which the program comes to q
  pub record ComesAt (q : ℕ) (thread_stack : List ThreadModel) : Type 0 where
    pub xs : List PartialReading
    pub zs : List PartialReading
    pub mirrors : Mirrors i pat len lawful checked q xs zs
    pub same : map erase xs ≡ thread_stack

  pub reaches_start : (o : ThreadModel) → erase (start pat) ≡ o → ComesAt 0 (o ∷ [])
  reaches_start o e = record {
    xs = start pat ∷ [];
    zs = start pat
        ∷ [];
    mirrors = mirrors_start i pat len lawful checked;
    same = ap (λ v. v ∷ []) e;
  }

  module _ (q : ℕ) (thread_stack : List ThreadModel) (c : ComesAt q thread_stack) where
    v : Mirrors i pat len lawful checked q c.xs c.zs
    v = c.mirrors

    kept_is : kept i (state_count pat) q thread_stack ≡ map erase (first_two_each (closure i q c.zs))
    kept_is =
        ap (kept i (state_count pat) q) (sym c.same) ∙ sym (erase_closed i pat q (state_count pat) c.xs c.mirrors.sound)
        ∙ ap (map erase) (two_each-is i pat len lawful checked q c.xs c.zs c.mirrors)

    two_each_at : (y : PartialReading) → In y (first_two_each (closure i q c.zs)) → EndsAt i pat q y
    two_each_at y m = Rattle.mbe_laws.proofs.Run.Moves.two_each_at i pat len lawful checked q c.zs c.mirrors.inv y m

    pub moves_are : stack_moves i (state_count pat) q thread_stack
        ≡ map erase_move (moves_of i q (first_two_each (closure i q c.zs)))
    moves_are = ap (filter_map (next_of i q)) kept_is
        ∙ erase_moves i pat q (first_two_each (closure i q c.zs)) two_each_at

    pub ends_are : stack_ends i (state_count pat) q thread_stack
        ≡ map commands_of (completions (first_two_each (closure i q c.zs)))
    ends_are = ap (filter_map finished_of) kept_is ∙ erase_ends (first_two_each (closure i q c.zs))

    pub ambiguity_is : ambiguity (stack_moves i (state_count pat) q thread_stack)
        ≡ has_ambiguity (moves_of i q (closure i q c.zs))
    ambiguity_is = ap ambiguity moves_are ∙ ambiguity_alike (moves_of i q (first_two_each (closure i q c.zs)))
        ∙ same-clash i pat len lawful checked q c.zs c.mirrors.inv

    -- two of the steps clash
    pub right_ambiguity : ambiguity (stack_moves i (state_count pat) q thread_stack) ≡ true
        → IsVerdictOn i pat len (ambiguous q)
    right_ambiguity e = right-ambiguous i pat len lawful checked q c.zs c.mirrors.inv (sym ambiguity_is ∙ e)

    none_here : first_width (stack_moves i (state_count pat) q thread_stack) ≡ None → moves_of i q (closure i q c.zs)
        ≡ []
    none_here e = go (moves_of i q (closure i q c.zs)) refl
      where
        go : (ks : List Move) → moves_of i q (closure i q c.zs) ≡ ks → moves_of i q (closure i q c.zs) ≡ []
        go [] d = d
        go (move m g z ∷ ks) d =
            absurd (some_left i pat len lawful checked q c.xs c.zs c.mirrors m g z ks d
            (no_width (moves_of i q (first_two_each (closure i q c.zs))) (ap first_width (sym moves_are) ∙ e)))

    -- nothing goes on before the end
    pub right_none : first_width (stack_moves i (state_count pat) q thread_stack) ≡ None → q < len
        → IsVerdictOn i pat len (stuck q)
    right_none e l = right-stuck i pat len lawful checked q c.zs c.mirrors.inv (none_here e) no_reading
      where
        no_reading : (is : Items) → Reading i pat len is → ⊥
        no_reading is r =
            let b : offset (partial no_ops is []) ≤ q =
            last-place i pat len lawful checked q c.zs c.mirrors.inv (none_here e) (partial no_ops is []) (tt, r.0) in
            let w : items_width is ≡ len = r.1 in
            omega (arith, b, w, l)

    -- the end
    pub right_end : q ≡ len → IsVerdictOn i pat len
        (verdict_at len (length (stack_ends i (state_count pat) q thread_stack)))
    right_end e = subst (IsVerdictOn i pat len)
        (sym (ap (λ l. verdict_at len (length l)) ends_are
        ∙ count_verdict commands_of len (completions (first_two_each (closure i q c.zs)))
        ∙ same-end len (closure i q c.zs)))
        (at_end q e c.mirrors.inv)
      where
        at_end : (p : ℕ) → p ≡ len → Inv i pat p c.zs
            → IsVerdictOn i pat len (verdict_of len (completions (closure i p c.zs)))
        at_end p d = subst (λ k. Inv i pat k c.zs
            → IsVerdictOn i pat len (verdict_of len (completions (closure i k c.zs))))
            (sym d)
            (λ w. right_of i pat len lawful checked c.zs w (completions (closure i len c.zs)) refl)

    -- what the only reading binds
    pub binds_end : (e : Commands) → q ≡ len → stack_ends i (state_count pat) q thread_stack ≡ e ∷ []
        → (is : Items) × Reading i pat len is × (e ≡ commands_of is)
    binds_end e f g = go (completions (first_two_each (closure i q c.zs))) refl (sym ends_are ∙ g)
      where
        at_end : (is : Items) (p : ℕ) → p ≡ len → Inv i pat p c.zs → completions (closure i p c.zs) ≡ is ∷ []
            → Reading i pat len is
        at_end is p d = subst (λ k. Inv i pat k c.zs → completions (closure i k c.zs) ≡ is ∷ [] → Reading i pat len is)
            (sym d)
            (λ w h. reading_of i pat len lawful checked c.zs w is (subst (In is) (sym h) (inl refl)))

        go : (rs : List Items) → completions (first_two_each (closure i q c.zs)) ≡ rs → map commands_of rs ≡ e ∷ []
            → (is : Items) × Reading i pat len is × (e ≡ commands_of is)
        go [] a b = cc
        go (is ∷ []) a b = (
          is,
          at_end is q f c.mirrors.inv (same-one is (closure i q c.zs) a),
          let k : e
              ≡ commands_of is = cc in k,
        )
        go (is ∷ js ∷ rs) a b = cc

    -- on to the next place: the steps in order, the first on top
    pub arrives_next : (m : ℕ) → first_width (stack_moves i (state_count pat) q thread_stack) ≡ Some m
        → ambiguity (stack_moves i (state_count pat) q thread_stack) ≡ false →
        ComesAt (q + m) (map after_of (stack_moves i (state_count pat) q thread_stack)) × (0 < m) × (q + m ≤ len)
    arrives_next m e k =
        let r : (f : Bool) × (y : PartialReading) × (ms : List Move)
        × (moves_of i q (first_two_each (closure i q c.zs)) ≡ move m f y ∷ ms) =
        width_alike m (moves_of i q (first_two_each (closure i q c.zs))) (ap first_width (sym moves_are) ∙ e) in
        go r.0 r.1 r.2 r.3 (moves_of i q (closure i q c.zs)) refl
      where
        go : (f : Bool) (y : PartialReading) (ms : List Move) → moves_of i q (first_two_each (closure i q c.zs))
            ≡ move m f y ∷ ms
            → (ks : List Move) → moves_of i q (closure i q c.zs) ≡ ks →
            ComesAt (q + m) (map after_of (stack_moves i (state_count pat) q thread_stack)) × (0 < m) × (q + m ≤ len)
        go f y ms a [] b = let w : move m f y ∷ ms ≡ [] =
            sym a ∙ none_left i pat len lawful checked q c.xs c.zs c.mirrors b in cc
        go f y ms a (move n g z ∷ ks) b =
            let calm : has_ambiguity (move n g z ∷ ks) ≡ false = ap has_ambiguity (sym b) ∙ sym ambiguity_is ∙ k in
            let w : n ≡ m = same-width i pat len lawful checked q c.zs c.mirrors.inv m n f g y z ms ks a b calm in
            let s : (0 < n) × (q + n ≤ len) = some_width i pat len lawful checked q c.zs c.mirrors.inv n g z ks b
            calm in
            let s0 = s.0 in
            let s1 = s.1 in (
              subst (λ j. ComesAt (q + j) (map after_of (stack_moves i (state_count pat) q thread_stack))) w
                  (record {
                    xs = targets (moves_of i q (first_two_each (closure i q c.zs)));
                    zs = targets (moves_of i q (closure i q c.zs));
                    mirrors = mirrors-next i pat len lawful checked q c.xs c.zs c.mirrors n g z ks b calm;
                    same = sym (ap (map after_of) moves_are
                        ∙ after_alike (moves_of i q (first_two_each (closure i q c.zs))));
                  }),
              omega (arith, s0, w),
              omega (arith, s1, w),
            )
