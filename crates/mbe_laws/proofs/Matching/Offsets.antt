-- The matcher's loop over places.
use Rattle.std.proofs.Common.{ℕ, suc, ◌+◌, ◌≡◌, ◌<◌, ◌≤◌, inl, inr, Some, None, Bool, true, false, ◌||◌, not, nat_eq}
use Rattle.std.proofs.Common.{List, [], ◌∷◌, ◌++◌, map, reverse, length, refl, sym, ◌∙◌, ap, subst, arith}
use Rattle.std.proofs.lemmas.List.{reverse-append, reverse-reverse, map-append}
use Rattle.mbe_semantics.specs.Syntax.Op.{Ops, no_ops}
use Rattle.mbe_semantics.specs.Readings.Item.{Items, items_width}
use Rattle.mbe_semantics.specs.Readings.Input.{Input}
use Rattle.mbe_semantics.specs.Readings.Reading.{PartialReading, partial, offset, start, Reading}
use Rattle.mbe_semantics.specs.Readings.Steps.{Move, move}
use Rattle.mbe_semantics.specs.Matching.Lists.{In, Distinct}
use Rattle.mbe_semantics.specs.Matching.Trace.{trace, fresh}
use Rattle.mbe_semantics.specs.Syntax.Nullable.{Checked}
use Rattle.mbe_semantics.specs.Laws.Lawful.{Lawful}
use Rattle.mbe_semantics.specs.Matching.ThreadModel.{ThreadModel, Advance, advance, erase, erase_move}
use Rattle.mbe_semantics.specs.Matching.Closure.{closure, moves_of, targets, completions, has_ambiguity_with}
use Rattle.mbe_semantics.specs.Matching.Closure.{has_ambiguity}
use Rattle.mbe_semantics.specs.Readings.Verdict.{Verdict, ambiguous, stuck, IsVerdictOn, verdict_of, verdict_at}
use Rattle.mbe_semantics.specs.Matching.Frontier.{Stack, Frontier, ambiguous_with, ambiguity, after_of, first_width}
use Rattle.mbe_laws.proofs.Matching.Forest.{in_left, in_right, distinct_append}
use Rattle.mbe_laws.proofs.Matching.Law.{Inv}
use Rattle.mbe_laws.proofs.Matching.Advance.{inv-start, inv-next, next_fresh, some_width, right-ambiguous, right-stuck}
use Rattle.mbe_laws.proofs.Matching.Advance.{last-place}
use Rattle.mbe_laws.proofs.Matching.Final.{right_of, reading_of}
use Rattle.mbe_semantics.specs.Bindings.Account.{Commands, commands_of}

len_map : {A B : Type 0} (f : A → B) (xs : List A) → length (map f xs) ≡ length xs
len_map f [] = refl
len_map f (x ∷ xs) = ap suc (len_map f xs)

-- the order does not matter
in_reverse : {A : Type 0} (x : A) (xs : List A) → In x xs → In x (reverse xs)
in_reverse x [] h = h
in_reverse x (y ∷ xs) (inl e) = subst (λ l. In x l) (sym (reverse-append (y ∷ []) xs))
    (in_right x (reverse xs) (y ∷ []) (inl e))
in_reverse x (y ∷ xs) (inr m) = subst (λ l. In x l) (sym (reverse-append (y ∷ []) xs))
    (in_left x (reverse xs) (y ∷ []) (in_reverse x xs m))

from_reverse : {A : Type 0} (x : A) (xs : List A) → In x (reverse xs) → In x xs
from_reverse x xs h = subst (λ l. In x l) (reverse-reverse xs) (in_reverse x (reverse xs) h)

distinct_reverse : {A K : Type 0} (key : A → K) (xs : List A) → Distinct key xs → Distinct key (reverse xs)
distinct_reverse key [] d = tt
distinct_reverse {A} {K} key (x ∷ xs) d =
    subst (Distinct key) (sym (reverse-append (x ∷ []) xs))
    (distinct_append key (reverse xs) (x ∷ []) (distinct_reverse key xs d.1) ((λ y h. absurd h), tt) across)
  where
    across : (u v : A) → In u (reverse xs) → In v (x ∷ []) → key u ≡ key v → ⊥
    across u v m (inl e) f = d.0 u (from_reverse u xs m) (sym (f ∙ ap key e))
    across u v m (inr h) f = absurd h

map_reverse : {A B : Type 0} (f : A → B) (xs : List A) → map f (reverse xs) ≡ reverse (map f xs)
map_reverse f [] = refl
map_reverse f (x ∷ xs) =
    ap (map f) (reverse-append (x ∷ []) xs) ∙ map-append f (reverse xs) (x ∷ [])
    ∙ ap (λ l. l ++ (f x ∷ [])) (map_reverse f xs)
    ∙ sym (reverse-append (f x ∷ []) (map f xs))

inv_reverse : (i : Input) (pat : Ops) (q : ℕ) (xs : List PartialReading)
    → ((x : PartialReading) → In x xs → fresh (trace x) ≡ true) → Inv i pat q xs → Inv i pat q (reverse xs)
inv_reverse i pat q xs f v = record {
  sound = λ x h. v.sound x (from_reverse x xs h);
  once = distinct_reverse trace xs v.once;
  roots = inl (λ x h. f x (from_reverse x xs h));
  all = λ y a r. in_reverse y xs (v.all y a r);
  jump = v.jump;
  some = (v.some.0, in_reverse v.some.0 xs v.some.1);
  calm = v.calm;
}

-- the stack with which the matcher comes to q
pub record Comes (i : Input) (pat : Ops) (q : ℕ) (thread_stack : List ThreadModel) : Type 0 where
  pub xs : List PartialReading
  pub inv : Inv i pat q xs
  pub same : map erase xs ≡ reverse thread_stack

pub stack_of : (i : Input) (pat : Ops) (q : ℕ) (thread_stack : List ThreadModel) → (c : Comes i pat q thread_stack)
    → Stack i pat q c.xs thread_stack
stack_of i pat q thread_stack c = record { sound = c.inv.sound; same = c.same }

same_with : (n : ℕ) (f : Bool) (ms : List Move) → ambiguous_with n f (map erase_move ms) ≡ has_ambiguity_with n f ms
same_with n f [] = refl
same_with n f (move m g z ∷ ms) = ap (λ b. (f || g || not (nat_eq n m)) || b) (same_with n f ms)

same_clash : (ms : List Move) → ambiguity (map erase_move ms) ≡ has_ambiguity ms
same_clash [] = refl
same_clash (move n f y ∷ ms) = same_with n f ms

same_targets : (ms : List Move) → map after_of (map erase_move ms) ≡ map erase (targets ms)
same_targets [] = refl
same_targets (move n f y ∷ ms) = ap (λ l. erase y ∷ l) (same_targets ms)

count_verdict : {A : Type 0} (len : ℕ) (rs : List A) → verdict_of len rs ≡ verdict_at len (length rs)
count_verdict len [] = refl
count_verdict len (r ∷ []) = refl
count_verdict len (r ∷ s ∷ rs) = refl

no_width : (ws : List Advance) → first_width ws ≡ None → ws ≡ []
no_width [] e = refl
no_width (advance n f o ∷ ws) e = cc

some_first : (m : ℕ) (ws : List Advance) → first_width ws ≡ Some m
    → (f : Bool) × (o : ThreadModel) × (vs : List Advance) × (ws ≡ advance m f o ∷ vs)
some_first m [] e = cc
some_first m (advance n f o ∷ ws) e = let d : n ≡ m = cc in (f, o, ws, ap (λ k. advance k f o ∷ ws) d)

module _ (i : Input) (pat : Ops) (len : ℕ) (lawful : Lawful i len) (checked : Checked pat) where
  pub reaches_start : (o : ThreadModel) → erase (start pat) ≡ o → Comes i pat 0 (o ∷ [])
  reaches_start o e = record {
    xs = start pat
        ∷ [];
    inv = inv-start i pat len lawful checked;
    same = ap (λ v. v ∷ []) e;
  }

  module _ (q : ℕ) (thread_stack : List ThreadModel) (c : Comes i pat q thread_stack) (ws : List Advance)
      (n : List Commands)
      (s : Frontier i q thread_stack ws n) where
    moves : List Move
    moves = moves_of i q (closure i q c.xs)

    settled : (ws ≡ map erase_move (moves_of i q (closure i q c.xs)))
        × (n ≡ map commands_of (completions (closure i q c.xs)))
    settled = s pat c.xs checked (stack_of i pat q thread_stack c)

    pub right_ambiguity : ambiguity ws ≡ true → IsVerdictOn i pat len (ambiguous q)
    right_ambiguity e =
        right-ambiguous i pat len lawful checked q c.xs c.inv
        (sym (same_clash (moves_of i q (closure i q c.xs))) ∙ ap ambiguity (sym settled.0) ∙ e)

    -- nothing goes on before the end
    pub right_none : first_width ws ≡ None → q < len → IsVerdictOn i pat len (stuck q)
    right_none e l = right-stuck i pat len lawful checked q c.xs c.inv none no_reading
      where
        empty : (ms : List Move) → map erase_move ms ≡ [] → ms ≡ []
        empty [] f = refl
        empty (m ∷ ms) f = cc

        none : moves_of i q (closure i q c.xs) ≡ []
        none = empty (moves_of i q (closure i q c.xs)) (sym settled.0 ∙ no_width ws e)

        no_reading : (is : Items) → Reading i pat len is → ⊥
        no_reading is r =
            let b : offset (partial no_ops is []) ≤ q =
            last-place i pat len lawful checked q c.xs c.inv none (partial no_ops is []) (tt, r.0) in
            let w : items_width is ≡ len = r.1 in
            omega arith

    -- the end
    pub right_end : (v : Verdict) → q ≡ len → v ≡ verdict_at len (length n) → IsVerdictOn i pat len v
    right_end v e f = subst (IsVerdictOn i pat len)
        (sym (f ∙ ap (λ l. verdict_at len (length l)) settled.1
        ∙ ap (verdict_at len) (len_map commands_of (completions (closure i q c.xs)))
        ∙ sym (count_verdict len (completions (closure i q c.xs))))) (at_end q e c.inv)
      where
        at_end : (p : ℕ) → p ≡ len → Inv i pat p c.xs
            → IsVerdictOn i pat len (verdict_of len (completions (closure i p c.xs)))
        at_end p d = subst (λ k. Inv i pat k c.xs
            → IsVerdictOn i pat len (verdict_of len (completions (closure i k c.xs))))
            (sym d)
            (λ w. right_of i pat len lawful checked c.xs w (completions (closure i len c.xs)) refl)

    -- what the only reading binds
    pub binds_end : (e : Commands) → q ≡ len → n ≡ e ∷ [] → (is : Items) × Reading i pat len is × (e ≡ commands_of is)
    binds_end e f g = at_end q f c.inv (completions (closure i q c.xs)) refl (sym settled.1 ∙ g)
      where
        at_end : (p : ℕ) → p ≡ len → Inv i pat p c.xs → (rs : List Items) → completions (closure i p c.xs) ≡ rs
            → map commands_of rs ≡ e ∷ [] →
            (is : Items) × Reading i pat len is × (e ≡ commands_of is)
        at_end p d w [] g h = cc
        at_end p d w (is ∷ rs) g h = (
          is,
          subst (λ k. Inv i pat k c.xs → completions (closure i k c.xs) ≡ is ∷ rs → Reading i pat len is) (sym d)
              (λ w' g'. reading_of i pat len lawful checked c.xs w' is (subst (In is) (sym g') (inl refl))) w g,
          (let k : e ≡ commands_of is = cc in k),
        )

    -- on to the next place
    reaches_with : (m : ℕ) (f : Bool) (o : ThreadModel) (vs : List Advance) (new : List ThreadModel) → ws
        ≡ advance m f o ∷ vs
        → ambiguity ws ≡ false → new ≡ map after_of ws →
        Comes i pat (q + m) new × (0 < m) × (q + m ≤ len)
    reaches_with m f o vs new e k g =
        go (moves_of i q (closure i q c.xs)) refl (sym settled.0 ∙ e)
        (sym (same_clash (moves_of i q (closure i q c.xs))) ∙ ap ambiguity (sym settled.0) ∙ k)
        (sym (same_targets (moves_of i q (closure i q c.xs))) ∙ ap (map after_of) (sym settled.0) ∙ sym g)
      where
        go : (ms : List Move) → moves_of i q (closure i q c.xs) ≡ ms → map erase_move ms ≡ advance m f o ∷ vs
            → has_ambiguity ms ≡ false → map erase (targets ms) ≡ new →
            Comes i pat (q + m) new × (0 < m) × (q + m ≤ len)
        go [] a b d h = cc
        go (move l f' y ∷ ms) a b d h =
            let same : l ≡ m = cc in
            let w : (0 < l) × (q + l ≤ len) = some_width i pat len lawful checked q c.xs c.inv l f' y ms a d in (
              subst (λ j. Comes i pat (q + j) new) same
                  (record {
                    xs = reverse (targets (move l f' y ∷ ms));
                    inv = inv_reverse i pat (q + l) (targets (move l f' y ∷ ms))
                        (next_fresh i pat len lawful checked q c.xs c.inv l f' y ms a d)
                        (inv-next i pat len lawful checked q c.xs c.inv l f' y ms a d);
                    same = map_reverse erase (targets (move l f' y ∷ ms)) ∙ ap reverse h;
                  }),
              omega arith,
              omega arith,
            )

    pub arrives_next : (m : ℕ) (new : List ThreadModel) → first_width ws ≡ Some m → ambiguity ws ≡ false → new
        ≡ map after_of ws →
        Comes i pat (q + m) new × (0 < m) × (q + m ≤ len)
    arrives_next m new e k g =
        let w : (f : Bool) × (o : ThreadModel) × (vs : List Advance) × (ws ≡ advance m f o ∷ vs) = some_first m ws e in
        reaches_with m w.0 w.1 w.2 new w.3 k g
