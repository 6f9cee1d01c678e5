-- What all beginnings note up to a place is one thing: from each place a match goes on to one other.
use Rattle.std.specs.Prelude.{◌≡◌, ◌<◌, ◌≤◌, ◌+◌, ◌⊎◌, ℕ, List, [], ◌∷◌, map, reverse, Option, Some, None, refl}
use Rattle.std.specs.List.{filter_map}
use Rattle.std.proofs.Common.{ap, sym, subst, ◌∙◌, arith, inl, inr}
use Rattle.std.proofs.lemmas.Bool.{cases_lt}
use Rattle.std.proofs.lemmas.Option.{none-some, same_Some}
use Rattle.mbe_semantics.specs.Syntax.Op.{Ops}
use Rattle.mbe_semantics.specs.Readings.Input.{Input}
use Rattle.mbe_semantics.specs.Readings.Reading.{PartialReading, start}
use Rattle.mbe_semantics.specs.Readings.Steps.{Move, move, next}
use Rattle.mbe_semantics.specs.Laws.Lawful.{Lawful}
use Rattle.mbe_semantics.specs.Matching.Closure.{closure, moves_of, targets}
use Rattle.mbe_semantics.specs.Matching.ThreadModel.{erase}
use Rattle.mbe_laws.proofs.Matching.Moves.{next-takes}
use Rattle.mbe_matcher.specs.Failures.{Notes, no_notes, noted_at, ReachesWith, at_start, at_next, AreNotes}

-- how far the first move goes
abbrev first_over : List Move → Option ℕ
first_over [] = None
first_over (move n f y ∷ ms) = Some n

module _ (i : Input) (length : ℕ) (lawful : Lawful i length) where
  first_some : (q n : ℕ) (ys : List PartialReading) → first_over (filter_map (next i q) ys) ≡ Some n → 0 < n
  first_some q n [] w = absurd (none-some n w)
  first_some q n (y ∷ ys) w = go (next i q y) refl (first_some q n ys)
    where
      go : (m : Option Move) → next i q y ≡ m → (first_over (filter_map (next i q) ys) ≡ Some n → 0 < n) → 0 < n
      go None e others = others (rw e at w)
      go (Some (move m f z)) e others =
          let same : m ≡ n = same_Some m n (rw e at w) in
          subst (λ (k : ℕ). 0 < k) same (next-takes i length q m f y z lawful e).0

  module _ (pattern : Ops) where
    -- how far the beginnings go that come to a place
    abbrev width : ℕ → List PartialReading → Option ℕ
    width q xs = first_over (moves_of i q (closure i q xs))

    some_width : (q n : ℕ) (xs : List PartialReading) → width q xs ≡ Some n → 0 < n
    some_width q n xs w = first_some q n (closure i q xs) w

    same_width : (q r n m : ℕ) (xs ys : List PartialReading) → q ≡ r → xs ≡ ys → width q xs ≡ Some n → width r ys
        ≡ Some m
        → n ≡ m
    same_width q r n m xs ys at same v w = same_Some n m (sym v ∙ ap (λ p. width p xs) at ∙ ap (width r) same ∙ w)

    same_moves : (q r : ℕ) (xs ys : List PartialReading) → q ≡ r → xs ≡ ys
        → moves_of i q (closure i q xs) ≡ moves_of i r (closure i r ys)
    same_moves q r xs ys at same =
        ap (λ p. moves_of i p (closure i p xs)) at ∙ ap (λ zs. moves_of i r (closure i r zs)) same

    pub same_noted : (q r : ℕ) (xs ys : List PartialReading) (b c : Notes) → q ≡ r → xs ≡ ys → b ≡ c
        → noted_at i q (map erase (closure i q xs)) b ≡ noted_at i r (map erase (closure i r ys)) c
    same_noted q r xs ys b c at same before =
        ap (λ p. noted_at i p (map erase (closure i p xs)) b) at ∙ ap
        (λ zs. noted_at i r (map erase (closure i r zs)) b) same
        ∙ ap (noted_at i r (map erase (closure i r ys))) before

    three : (q r : ℕ) → (q ≡ r) ⊎ ((q < r) ⊎ (r < q))
    three q r = go (cases_lt q r) (cases_lt r q)
      where
        go : (q < r) ⊎ (r ≤ q) → (r < q) ⊎ (q ≤ r) → (q ≡ r) ⊎ ((q < r) ⊎ (r < q))
        go (inl l) k = inr (inl l)
        go (inr l) (inl k) = inr (inr k)
        go (inr l) (inr k) = inl (omega (arith, l, k))

    -- at one place what comes there, and what was noted before, are the same
    abbrev Same : ℕ → ℕ → List PartialReading → List PartialReading → Notes → Notes → Type 0
    Same q r xs ys b c = q ≡ r → (xs ≡ ys) × (b ≡ c)

    -- what is at an earlier place goes on to the later one, or to one before it
    abbrev GoesTo : ℕ → ℕ → List PartialReading → Type 0
    GoesTo q r xs = q < r → (n : ℕ) → width q xs ≡ Some n → q + n ≤ r

    -- what goes on to one place does so from one place
    one_before : (q r n p m o : ℕ) (xs ys : List PartialReading) (b c : Notes) → width q xs ≡ Some n → width r ys
        ≡ Some p
        → m ≡ q + n → o ≡ r + p → m ≡ o
        → GoesTo q r xs → GoesTo r q ys → (q ≡ r) ⊎ ((q < r) ⊎ (r < q)) → q ≡ r
    one_before q r n p m o xs ys b c w v d e at before after (inl s) = s
    one_before q r n p m o xs ys b c w v d e at before after (inr (inl l)) =
        let x = before l n w in let y = some_width r p ys v in absurd (omega (arith, x, y, d, e, at))
    one_before q r n p m o xs ys b c w v d e at before after (inr (inr l)) =
        let x = after l p v in let y = some_width q n xs w in absurd (omega (arith, x, y, d, e, at))

    -- of a later place m, which comes after r
    step_goes : (q r n p m : ℕ) (xs ys : List PartialReading) (b c : Notes) → q < m → width q xs ≡ Some n
        → width r ys ≡ Some p → m ≡ r + p
        → Same q r xs ys b c → GoesTo q r xs → GoesTo r q ys → (q ≡ r) ⊎ ((q < r) ⊎ (r < q)) → q + n ≤ m
    step_goes q r n p m xs ys b c l w v e same before after (inl s) = let x =
        same_width q r n p xs ys s (same s).0 w v in omega (arith, x, s, e)
    step_goes q r n p m xs ys b c l w v e same before after (inr (inl k)) = let x = before k n w in omega (arith, x, e)
    step_goes q r n p m xs ys b c l w v e same before after (inr (inr k)) = let x =
        after k p v in absurd (omega (arith, x, e, l))

    flipped : (q r : ℕ) (xs ys : List PartialReading) (b c : Notes) → Same q r xs ys b c → Same r q ys xs c b
    flipped q r xs ys b c same s = let x = same (sym s) in (sym x.0, sym x.1)

    -- what comes to two places, and what was noted before each
    record Compared (q r : ℕ) (xs ys : List PartialReading) (b c : Notes) : Type 0 where
      pub same : Same q r xs ys b c
      pub before : GoesTo q r xs
      pub after : GoesTo r q ys

    abbrev next_notes : ℕ → List PartialReading → Notes → Notes
    next_notes q xs b = noted_at i q (map erase (closure i q xs)) b

    with_start : {r : ℕ} {ys : List PartialReading} {c : Notes} → ReachesWith i pattern r ys c
        → Compared 0 r (start pattern ∷ []) ys no_notes c
    with_start at_start = record {
      same = λ at. (refl, refl);
      before = λ l n w. absurd (omega (arith, l));
      after = λ l n w. absurd (omega (arith, l));
    }
    with_start (at_next r m n f y ms ys c g w k d) =
        let h = with_start g in
        let v : width r ys ≡ Some n = ap first_over w in
        record {
          same = λ at. let l = some_width r n ys v in absurd (omega (arith, l, d, at));
          before = λ l p u. step_goes 0 r p n m (start pattern ∷ []) ys no_notes c l u v d h.same h.before h.after
              (three 0 r);
          after = λ l p u. absurd (omega (arith, l));
        }

    with_next : {r : ℕ} {ys : List PartialReading} {c : Notes} (q m n : ℕ) (xs : List PartialReading) (b : Notes)
        (ns : List Move)
        → moves_of i q (closure i q xs) ≡ ns
        → first_over ns ≡ Some n → m ≡ q + n
        → ((s : ℕ) (zs : List PartialReading) (a : Notes) → ReachesWith i pattern s zs a → Compared q s xs zs b a)
        → ReachesWith i pattern r ys c → Compared m r (reverse (targets ns)) ys (next_notes q xs b) c
    with_next q m n xs b ns t u d old at_start =
        let h = old 0 (start pattern ∷ []) no_notes at_start in
        let w : width q xs ≡ Some n = ap first_over t ∙ u in
        record {
          same = λ at. let l = some_width q n xs w in absurd (omega (arith, l, d, at));
          before = λ l p v. absurd (omega (arith, l));
          after = λ l p v. step_goes 0 q p n m (start pattern ∷ []) xs no_notes b l v w d
              (flipped q 0 xs (start pattern ∷ []) b no_notes h.same) h.after h.before (three 0 q);
        }
    with_next q m n xs b ns t u d old (at_next r o p f y ms ys c g z k e) =
        let h = old r ys c g in
        let later = with_next q m n xs b ns t u d old g in
        let other = old o (reverse (targets (move p f y ∷ ms))) (next_notes r ys c)
        (at_next r o p f y ms ys c g z k e) in
        let w : width q xs ≡ Some n = ap first_over t ∙ u in
        let v : width r ys ≡ Some p = ap first_over z in
        record {
          same = λ at.
              let s : q ≡ r = one_before q r n p m o xs ys b c w v d e at h.before h.after (three q r) in
              let both = h.same s in (
                ap (λ (js : List Move). reverse (targets js)) (sym t ∙ same_moves q r xs ys s both.0 ∙ z),
                same_noted q r xs ys b c s both.0 both.1,
              );
          before = λ l a j. step_goes m r a p o (reverse (targets ns)) ys (next_notes q xs b) c l j v e later.same
              later.before later.after (three m r);
          after = λ l a j. step_goes o q a n m (reverse (targets (move p f y ∷ ms))) xs (next_notes r ys c) b l j w d
              (flipped q o xs (reverse (targets (move p f y ∷ ms))) b (next_notes r ys c) other.same) other.after
              other.before (three o q);
        }

    compared : {q : ℕ} {xs : List PartialReading} {b : Notes} → ReachesWith i pattern q xs b
        → (r : ℕ) (ys : List PartialReading) (c : Notes) → ReachesWith i pattern r ys c
        → Compared q r xs ys b c
    compared at_start r ys c g = with_start g
    compared (at_next q m n f y ms xs b h w k d) r ys c g =
        with_next q m n xs b (move n f y ∷ ms) w refl d (compared h) g

    pub notes_once : (q : ℕ) (x y : Notes) → AreNotes i pattern q x → AreNotes i pattern q y → x ≡ y
    notes_once q x y (xs, b, f, e) (ys, c, g, d) = let s =
        (compared f q ys c g).same refl in e ∙ same_noted q q xs ys b c refl s.0 s.1 ∙ sym d
