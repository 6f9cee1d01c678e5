-- The loop over the stack at a place, where the stack has its last on top.
use Rattle.std.proofs.Common.{ℕ, ◌+◌, ◌≡◌, ◌<◌, ◌≤◌, List, [], ◌∷◌, ◌++◌, map, reverse, length, sym, ◌∙◌, ap, subst}
use Rattle.std.proofs.Common.{arith}
use Rattle.std.proofs.lemmas.List.{length-reverse, reverse-append, reverse-reverse}
use Rattle.mbe_semantics.specs.Syntax.Op.{Ops}
use Rattle.mbe_semantics.specs.Readings.Input.{Input}
use Rattle.mbe_semantics.specs.Readings.Reading.{PartialReading, EndsAt}
use Rattle.mbe_semantics.specs.Matching.Lists.{In}
use Rattle.mbe_semantics.specs.Matching.ThreadModel.{ThreadModel, erase, epsilons_of}
use Rattle.mbe_semantics.specs.Matching.States.{state_count, thread_state}
use Rattle.mbe_laws.specs.Bounded.ClosureTwoEach.{times}
use Rattle.mbe_laws.specs.Loop.StackClosure.{kept}
use Rattle.mbe_laws.proofs.Loop.BoundedLoop.{Keeps, left_over, keeps_start, keeps_end, keeps_number, keeps_drop}
use Rattle.mbe_laws.proofs.Loop.BoundedLoop.{keeps_take}

-- what a stack leaves, seen from either end
over_reverse : (d : ℕ) (seen : List ℕ) (stack : List ThreadModel)
    → left_over d seen (reverse stack) ≡ left_over d seen stack
over_reverse d seen stack = let e : length (reverse stack) ≡ length stack = length-reverse stack in omega (arith, e)

module _ (i : Input) (pat : Ops) (q : ℕ) where
  abbrev pub KeepsTo : List ThreadModel → List ThreadModel → List ℕ → List ThreadModel → Type 0
  KeepsTo all stack seen out = Keeps i pat q all (reverse stack) seen out

  pub turned_keeps : (xs : List PartialReading) (thread_stack : List ThreadModel)
      → ((x : PartialReading) → In x xs → EndsAt i pat q x)
      → map erase xs ≡ reverse thread_stack
      → KeepsTo (kept i (state_count pat) q (reverse thread_stack)) thread_stack [] []
  turned_keeps xs thread_stack a e = keeps_start i pat q xs (reverse thread_stack) a e

  pub turned_done : (all : List ThreadModel) (seen : List ℕ) (out : List ThreadModel) → KeepsTo all [] seen out → out
      ≡ all
  turned_done all seen out k = keeps_end i pat q all seen out k

  module _ (all : List ThreadModel) (seen : List ℕ) (out : List ThreadModel) (o : ThreadModel)
      (stack : List ThreadModel)
      (k : KeepsTo all (stack ++ (o ∷ [])) seen out) where
    top : Keeps i pat q all (o ∷ reverse stack) seen out
    top = subst (λ l. Keeps i pat q all l seen out) (reverse-append stack (o ∷ [])) k

    before : left_over (state_count pat) seen (o ∷ reverse stack) ≡ left_over (state_count pat) seen (stack ++ (o ∷ []))
    before = ap (left_over (state_count pat) seen) (sym (reverse-append stack (o ∷ [])))
        ∙ over_reverse (state_count pat) seen (stack ++ (o ∷ []))

    pub turned_number : (0 < thread_state o) × (thread_state o ≤ state_count pat)
    turned_number = keeps_number i pat q all seen out o (reverse stack) top

    -- the last is popped: seen twice, it is dropped
    pub turned_drop : 2 ≤ times (thread_state o) seen
        → KeepsTo all stack seen out
        × (left_over (state_count pat) seen stack < left_over (state_count pat) seen (stack ++ (o ∷ [])))
    turned_drop l =
        let r : Keeps i pat q all (reverse stack) seen out
        × (left_over (state_count pat) seen (reverse stack) < left_over (state_count pat) seen (o ∷ reverse stack)) =
        keeps_drop i pat q all seen out o (reverse stack) top l in (
          r.0,
          subst (λ n. left_over (state_count pat) seen stack < n) before
              (subst (λ n. n < left_over (state_count pat) seen (o ∷ reverse stack))
              (over_reverse (state_count pat) seen stack) r.1),
        )

    -- else it goes out, and its idle steps are pushed, the first of them last
    pub turned_take : times (thread_state o) seen < 2 →
        KeepsTo all (stack ++ reverse (epsilons_of i q o)) (thread_state o ∷ seen) (out ++ (o ∷ []))
        × (left_over (state_count pat) (thread_state o ∷ seen) (stack ++ reverse (epsilons_of i q o))
        < left_over (state_count pat) seen (stack ++ (o ∷ [])))
    turned_take l =
        let r : Keeps i pat q all (epsilons_of i q o ++ reverse stack) (thread_state o ∷ seen) (out ++ (o ∷ []))
        × (left_over (state_count pat) (thread_state o ∷ seen) (epsilons_of i q o ++ reverse stack)
        < left_over (state_count pat) seen (o ∷ reverse stack)) = keeps_take i pat q all seen out o (reverse stack) top
        l in (
          subst (λ m. Keeps i pat q all m (thread_state o ∷ seen) (out ++ (o ∷ []))) new r.0,
          subst (λ n. left_over (state_count pat) (thread_state o ∷ seen) (stack ++ reverse (epsilons_of i q o)) < n)
              before
              (subst (λ n. n < left_over (state_count pat) seen (o ∷ reverse stack)) after r.1),
        )
      where
        new : epsilons_of i q o ++ reverse stack ≡ reverse (stack ++ reverse (epsilons_of i q o))
        new = ap (λ m. m ++ reverse stack) (sym (reverse-reverse (epsilons_of i q o)))
            ∙ sym (reverse-append stack (reverse (epsilons_of i q o)))

        after : left_over (state_count pat) (thread_state o ∷ seen) (epsilons_of i q o ++ reverse stack)
            ≡ left_over (state_count pat) (thread_state o ∷ seen) (stack ++ reverse (epsilons_of i q o))
        after = ap (left_over (state_count pat) (thread_state o ∷ seen)) new
            ∙ over_reverse (state_count pat) (thread_state o ∷ seen) (stack ++ reverse (epsilons_of i q o))
