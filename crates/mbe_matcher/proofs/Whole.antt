-- As long as no third position of a dot was dropped, the stack stands for all beginnings that come to the place, and
-- what is noted is theirs.
use Rattle.std.proofs.Common.{ℕ, ◌+◌, ◌≡◌, Some, Bool, false, List, [], ◌∷◌, ◌++◌, map, reverse, sym, ◌∙◌, ap, subst}
use Rattle.std.specs.List.{filter_map}
use Rattle.std.proofs.lemmas.List.{reverse-append, reverse-reverse}
use Rattle.mbe_semantics.specs.Syntax.Op.{Ops}
use Rattle.mbe_semantics.specs.Syntax.Nullable.{Checked}
use Rattle.mbe_semantics.specs.Readings.Input.{Input}
use Rattle.mbe_semantics.specs.Readings.Reading.{PartialReading, EndsAt, start}
use Rattle.mbe_semantics.specs.Readings.Steps.{Move, move}
use Rattle.mbe_semantics.specs.Laws.Lawful.{Lawful}
use Rattle.mbe_semantics.specs.Matching.States.{state_count}
use Rattle.mbe_semantics.specs.Matching.Lists.{In}
use Rattle.mbe_semantics.specs.Matching.Closure.{closure, moves_of, targets, has_ambiguity}
use Rattle.mbe_semantics.specs.Matching.ThreadModel.{ThreadModel, erase, erase_move, epsilons_of, next_of}
use Rattle.mbe_semantics.specs.Matching.Frontier.{ambiguity, after_of, first_width}
use Rattle.mbe_laws.proofs.Matching.Law.{Inv, held-all, held-sound}
use Rattle.mbe_laws.specs.Loop.StackClosure.{kept, stack_moves}
use Rattle.mbe_laws.specs.Orders.Order.{ReachesUnbounded, whole_start, whole_next, reversed_order}
use Rattle.mbe_laws.proofs.Orders.Spare.{turning}
use Rattle.mbe_laws.proofs.Orders.DropLemmas.{whole-inv}
use Rattle.mbe_laws.proofs.Loop.BoundedOffsets.{erase_moves, ambiguity_alike, after_alike, width_alike}
use Rattle.mbe_laws.proofs.Loop.TurnedOffsets.{map_reverse}
use Rattle.mbe_laws.proofs.Loop.FlagLoop.{Fills, fills_start, fills_take, fills_end}
use Rattle.mbe_matcher.specs.Failures.{Notes, no_notes, noted_at, ReachesWith, at_start, at_next, AreNotes}

-- ---- at a place

-- what went out, and all that the stack leads to, are all that is held
abbrev pub FillsAll : Input → Ops → ℕ → List ThreadModel → List ThreadModel → List ThreadModel → Type 0
FillsAll i pattern q thread_stack stack out =
    Checked pattern → (xs : List PartialReading) → ((x : PartialReading) → In x xs → EndsAt i pattern q x)
    → map erase xs ≡ reverse thread_stack → Fills i pattern q (map erase (closure i q xs)) (reverse stack) out

module _ (i : Input) (pattern : Ops) (q len : ℕ) (lawful : Lawful i len) (thread_stack : List ThreadModel) where
  pub fills_first : FillsAll i pattern q thread_stack thread_stack []
  fills_first checked xs sound same = fills_start i pattern len lawful checked q xs (reverse thread_stack) sound same

  -- the last goes out, and its idle steps are pushed, the first of them last
  pub fills_more : (stack front out : List ThreadModel) (o : ThreadModel) → stack ≡ front ++ o ∷ []
      → FillsAll i pattern q thread_stack stack out →
      FillsAll i pattern q thread_stack (front ++ reverse (epsilons_of i q o)) (out ++ o ∷ [])
  fills_more stack front out o is fills checked xs sound same =
      let all = map erase (closure i q xs) in
      let top : Fills i pattern q all (o ∷ reverse front) out =
      subst (λ l. Fills i pattern q all l out) (ap reverse is ∙ reverse-append front (o ∷ []))
      (fills checked xs sound same) in
      let turned : epsilons_of i q o ++ reverse front ≡ reverse (front ++ reverse (epsilons_of i q o)) =
      ap (λ l. l ++ reverse front) (sym (reverse-reverse (epsilons_of i q o)))
      ∙ sym (reverse-append front (reverse (epsilons_of i q o))) in
      subst (λ l. Fills i pattern q all l (out ++ o ∷ [])) turned
      (fills_take i pattern len lawful checked q all out o (reverse front) top)

  pub fills_whole : (stack out kept : List ThreadModel) → stack ≡ [] → out ≡ kept
      → FillsAll i pattern q thread_stack stack out
      → Checked pattern → (xs : List PartialReading) →
      ((x : PartialReading) → In x xs → EndsAt i pattern q x) → map erase xs ≡ reverse thread_stack → kept
      ≡ map erase (closure i q xs)
  fills_whole stack out kept none done fills checked xs sound same =
      let all = map erase (closure i q xs) in
      sym done ∙ fills_end i pattern len lawful checked q all out
      (subst (λ l. Fills i pattern q all l out) (ap reverse none) (fills checked xs sound same))

-- ---- from place to place

-- the beginnings that the stack shows, with what was noted before
pub record WholeWith (i : Input) (pattern : Ops) (q : ℕ) (thread_stack : List ThreadModel) (before : Notes) : Type 0
  where
    pub xs : List PartialReading
    pub comes : ReachesWith i pattern q xs before
    pub same : map erase xs ≡ reverse thread_stack

reaches_whole : (i : Input) (pattern : Ops) (q : ℕ) (xs : List PartialReading) (before : Notes)
    → ReachesWith i pattern q xs before → ReachesUnbounded reversed_order i pattern q xs
reaches_whole i pattern _ _ _ at_start = whole_start
reaches_whole i pattern _ _ _ (at_next q m n f y ms xs before c e k a) =
    whole_next q m n f y ms xs (reaches_whole i pattern q xs before c) e k a

pub whole_first : (i : Input) (pattern : Ops) (q : ℕ) (o : ThreadModel) → q ≡ 0 → erase (start pattern) ≡ o
    → WholeWith i pattern q (o ∷ []) no_notes
whole_first i pattern q o z e =
    subst (λ k. WholeWith i pattern k (o ∷ []) no_notes) (sym z)
    (record { xs = start pattern ∷ []; comes = at_start; same = ap (λ x. x ∷ []) e })

module _ (i : Input) (pattern : Ops) (len : ℕ) (lawful : Lawful i len) (checked : Checked pattern) (q : ℕ)
    (thread_stack : List ThreadModel) (before : Notes)
    (w : WholeWith i pattern q thread_stack before) where
  inv : Inv i pattern q w.xs
  inv = whole-inv i pattern len lawful checked reversed_order turning (reaches_whole i pattern q w.xs before w.comes)

  pub whole_sound : (x : PartialReading) → In x w.xs → EndsAt i pattern q x
  whole_sound = inv.sound

  pub whole_all : (x : PartialReading) → EndsAt i pattern q x → In x (closure i q w.xs)
  whole_all x a = held-all i pattern len lawful checked q w.xs inv x a

  closed_at : (x : PartialReading) → In x (closure i q w.xs) → EndsAt i pattern q x
  closed_at x m = held-sound i pattern len lawful checked q w.xs inv x m

  module _ (all : kept i (state_count pattern) q (reverse thread_stack) ≡ map erase (closure i q w.xs)) where
    pub whole_notes : AreNotes i pattern q (noted_at i q (kept i (state_count pattern) q (reverse thread_stack)) before)
    whole_notes = (w.xs, before, w.comes, ap (λ l. noted_at i q l before) all)

    moves : stack_moves i (state_count pattern) q (reverse thread_stack)
        ≡ map erase_move (moves_of i q (closure i q w.xs))
    moves = ap (filter_map (next_of i q)) all ∙ erase_moves i pattern q (closure i q w.xs) closed_at

    pub whole_after : (m n : ℕ) → first_width (stack_moves i (state_count pattern) q (reverse thread_stack)) ≡ Some n
        → ambiguity (stack_moves i (state_count pattern) q (reverse thread_stack)) ≡ false → m ≡ q + n →
        WholeWith i pattern m (map after_of (stack_moves i (state_count pattern) q (reverse thread_stack)))
        (noted_at i q (kept i (state_count pattern) q (reverse thread_stack)) before)
    whole_after m n over calm at =
        go (width_alike n (moves_of i q (closure i q w.xs)) (ap first_width (sym moves) ∙ over))
      where
        go : ((f : Bool) × (y : PartialReading) × (ms : List Move)
            × (moves_of i q (closure i q w.xs) ≡ move n f y ∷ ms)) →
            WholeWith i pattern m (map after_of (stack_moves i (state_count pattern) q (reverse thread_stack)))
            (noted_at i q (kept i (state_count pattern) q (reverse thread_stack)) before)
        go (f, y, ms, d) = record {
          xs = reverse (targets (move n f y ∷ ms));
          comes = subst (λ l. ReachesWith i pattern m (reverse (targets (move n f y ∷ ms))) (noted_at i q l before))
              (sym all)
              (at_next q m n f y ms w.xs before w.comes d
              (ap has_ambiguity (sym d) ∙ sym (ambiguity_alike (moves_of i q (closure i q w.xs)))
              ∙ ap ambiguity (sym moves) ∙ calm)
              at);
          same =
              map_reverse erase (targets (move n f y ∷ ms))
              ∙ ap reverse (sym (after_alike (move n f y ∷ ms)) ∙ ap (λ l. map after_of (map erase_move l)) (sym d)
              ∙ ap (map after_of) (sym moves));
        }
