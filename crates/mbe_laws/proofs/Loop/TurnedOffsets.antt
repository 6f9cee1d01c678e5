-- The loop over places of a program whose stack has its last on top, and takes what waits in the order in which it
-- waits.
use Rattle.std.proofs.Common.{ℕ, ◌+◌, ◌≡◌, ◌<◌, ◌≤◌, Some, None, Bool, true, false, List, [], ◌∷◌, ◌++◌, map, reverse}
use Rattle.std.proofs.Common.{length, refl, sym, ◌∙◌, ap, subst, arith}
use Rattle.std.proofs.lemmas.List.{reverse-append, map-append}
use Rattle.mbe_semantics.specs.Syntax.Op.{Ops}
use Rattle.mbe_semantics.specs.Readings.Item.{Items}
use Rattle.mbe_semantics.specs.Readings.Input.{Input}
use Rattle.mbe_semantics.specs.Readings.Reading.{PartialReading, start, Reading}
use Rattle.mbe_semantics.specs.Readings.Steps.{Move, move}
use Rattle.mbe_semantics.specs.Syntax.Nullable.{Checked}
use Rattle.mbe_semantics.specs.Laws.Lawful.{Lawful}
use Rattle.mbe_semantics.specs.Matching.ThreadModel.{ThreadModel, erase}
use Rattle.mbe_semantics.specs.Matching.Closure.{closure, moves_of, targets, has_ambiguity}
use Rattle.mbe_semantics.specs.Readings.Verdict.{ambiguous, stuck, IsVerdictOn, verdict_at}
use Rattle.mbe_semantics.specs.Matching.Frontier.{ambiguity, after_of, first_width}
use Rattle.mbe_semantics.specs.Bindings.Account.{Commands, commands_of}
use Rattle.mbe_laws.proofs.Matching.Advance.{some_width}
use Rattle.mbe_laws.proofs.Matching.Ambiguities.{targets_distinct}
use Rattle.mbe_semantics.specs.Matching.States.{state_count}
use Rattle.mbe_laws.specs.Bounded.ClosureTwoEach.{first_two_each}
use Rattle.mbe_laws.specs.Loop.StackClosure.{stack_moves, stack_ends}
use Rattle.mbe_laws.specs.Orders.Order.{Reordered}
use Rattle.mbe_laws.proofs.Run.Moves.{same-width, two_each_once}
use Rattle.mbe_laws.proofs.Run.BoundedRun.{none_left}
use Rattle.mbe_laws.proofs.Orders.Spare.{turning}
use Rattle.mbe_laws.proofs.Orders.OrderLemmas.{Mirrored, mirrors_any}
use Rattle.mbe_laws.proofs.Loop.BoundedOffsets as places
use Rattle.mbe_laws.proofs.Loop.BoundedOffsets.{ComesAt, reaches_start, moves_are, ambiguity_is, after_alike}
use Rattle.mbe_laws.proofs.Loop.BoundedOffsets.{width_alike}

pub map_reverse : {A B : Type 0} (f : A → B) (xs : List A) → map f (reverse xs) ≡ reverse (map f xs)
map_reverse f [] = refl
map_reverse f (x ∷ xs) =
    ap (map f) (reverse-append (x ∷ []) xs) ∙ map-append f (reverse xs) (x ∷ [])
    ∙ ap (λ l. l ++ (f x ∷ [])) (map_reverse f xs)
    ∙ sym (reverse-append (f x ∷ []) (map f xs))

module _ (i : Input) (pat : Ops) (len : ℕ) (lawful : Lawful i len) (checked : Checked pat) where
  -- on to the next place in any order: `new` is the stack there, the top first
  module _ (q : ℕ) (thread_stack : List ThreadModel) (c : ComesAt i pat len lawful checked q thread_stack) where
    two : List PartialReading
    two = first_two_each (closure i q c.zs)

    pub reaches_in : (m : ℕ) → first_width (stack_moves i (state_count pat) q thread_stack) ≡ Some m
        → ambiguity (stack_moves i (state_count pat) q thread_stack) ≡ false →
        (us : List PartialReading) (new : List ThreadModel)
        → Reordered us (targets (moves_of i q (first_two_each (closure i q c.zs))))
        → map erase us ≡ new →
        ComesAt i pat len lawful checked (q + m) new × (0 < m) × (q + m ≤ len)
    reaches_in m e k us new r s =
        let w : (f : Bool) × (y : PartialReading) × (ms : List Move)
        × (moves_of i q (first_two_each (closure i q c.zs)) ≡ move m f y ∷ ms) =
        width_alike m (moves_of i q (first_two_each (closure i q c.zs)))
        (ap first_width (sym (moves_are i pat len lawful checked q thread_stack c)) ∙ e) in
        go w.0 w.1 w.2 w.3 (moves_of i q (closure i q c.zs)) refl
      where
        at_next : (j : ℕ) → Mirrored i pat len lawful checked j us → ComesAt i pat len lawful checked j new
        at_next j v = record { xs = us; zs = v.0; mirrors = v.1; same = s }

        go : (f : Bool) (y : PartialReading) (ms : List Move) → moves_of i q (first_two_each (closure i q c.zs))
            ≡ move m f y ∷ ms
            → (ks : List Move) → moves_of i q (closure i q c.zs) ≡ ks →
            ComesAt i pat len lawful checked (q + m) new × (0 < m) × (q + m ≤ len)
        go f y ms a [] b = let w : move m f y ∷ ms ≡ [] =
            sym a ∙ none_left i pat len lawful checked q c.xs c.zs c.mirrors b in cc
        go f y ms a (move n g z ∷ ks) b =
            let calm : has_ambiguity (move n g z ∷ ks) ≡ false =
            ap has_ambiguity (sym b) ∙ sym (ambiguity_is i pat len lawful checked q thread_stack c) ∙ k in
            let w : n ≡ m = same-width i pat len lawful checked q c.zs c.mirrors.inv m n f g y z ms ks a b calm in
            let t : (0 < n) × (q + n ≤ len) = some_width i pat len lawful checked q c.zs c.mirrors.inv n g z ks b
            calm in
            let t0 = t.0 in
            let t1 = t.1 in (
              subst (λ j. ComesAt i pat len lawful checked (q + j) new) w
                  (at_next (q + n) (mirrors_any i pat len lawful checked q c.xs c.zs c.mirrors us r n g z ks b calm)),
              omega (arith, t0, w),
              omega (arith, t1, w),
            )

  -- the stack with which the program comes to q, the last on top
  abbrev pub ComesTo : ℕ → List ThreadModel → Type 0
  ComesTo q thread_stack = ComesAt i pat len lawful checked q (reverse thread_stack)

  pub turned_start : (o : ThreadModel) → erase (start pat) ≡ o → ComesTo 0 (o ∷ [])
  turned_start o e = reaches_start i pat len lawful checked o e

  module _ (q : ℕ) (thread_stack : List ThreadModel) (c : ComesTo q thread_stack) where
    pub turned_ambiguity : ambiguity (stack_moves i (state_count pat) q (reverse thread_stack)) ≡ true
        → IsVerdictOn i pat len (ambiguous q)
    turned_ambiguity e = places.right_ambiguity i pat len lawful checked q (reverse thread_stack) c e

    pub turned_none : first_width (stack_moves i (state_count pat) q (reverse thread_stack)) ≡ None → q < len
        → IsVerdictOn i pat len (stuck q)
    turned_none e l = places.right_none i pat len lawful checked q (reverse thread_stack) c e l

    pub turned_end : q ≡ len → IsVerdictOn i pat len
        (verdict_at len (length (stack_ends i (state_count pat) q (reverse thread_stack))))
    turned_end e = places.right_end i pat len lawful checked q (reverse thread_stack) c e

    pub turned_binds : (e : Commands) → q ≡ len → stack_ends i (state_count pat) q (reverse thread_stack) ≡ e ∷ []
        → (is : Items) × Reading i pat len is × (e ≡ commands_of is)
    turned_binds e f g = places.binds_end i pat len lawful checked q (reverse thread_stack) c e f g

    -- on to the next place: the stack takes what waits as it is
    pub turned_next : (m : ℕ) (new : List ThreadModel)
        → first_width (stack_moves i (state_count pat) q (reverse thread_stack)) ≡ Some m
        → ambiguity (stack_moves i (state_count pat) q (reverse thread_stack)) ≡ false →
        new ≡ map after_of (stack_moves i (state_count pat) q (reverse thread_stack)) → ComesTo (q + m) new × (0 < m)
        × (q + m ≤ len)
    turned_next m new e k g =
        reaches_in q (reverse thread_stack) c m e k
        (reverse (targets (moves_of i q (first_two_each (closure i q c.zs))))) (reverse new)
        (turning (q + m) (targets (moves_of i q (first_two_each (closure i q c.zs))))
        (targets_distinct i pat q (first_two_each (closure i q c.zs))
        (two_each_once i pat len lawful checked q c.zs c.mirrors.inv)))
        (map_reverse erase (targets (moves_of i q (first_two_each (closure i q c.zs))))
        ∙ ap reverse (sym (g ∙ ap (map after_of) (moves_are i pat len lawful checked q (reverse thread_stack) c)
        ∙ after_alike (moves_of i q (first_two_each (closure i q c.zs))))))
