-- One turn of the stack, and what a settled stack stands for.
use Rattle.std.proofs.Common.{ℕ, ◌≡◌, inl, inr, Option, Some, None, List, [], ◌∷◌, ◌++◌, map, reverse, refl, sym, ◌∙◌}
use Rattle.std.proofs.Common.{ap, subst, option_map, option_to_list, append-nil}
use Rattle.std.specs.List.{cons_option}
use Rattle.std.proofs.lemmas.List.{reverse-append, reverse-reverse, map-append}
use Rattle.std.proofs.lemmas.Grind.{flat_map-append}
use Rattle.mbe_semantics.specs.Syntax.Op.{Ops}
use Rattle.mbe_semantics.specs.Readings.Item.{Items}
use Rattle.mbe_semantics.specs.Readings.Input.{Input}
use Rattle.mbe_semantics.specs.Readings.Reading.{PartialReading, offset, EndsAt}
use Rattle.mbe_semantics.specs.Readings.Steps.{epsilons, Move, next}
use Rattle.mbe_semantics.specs.Matching.Lists.{In}
use Rattle.mbe_semantics.specs.Syntax.Nullable.{Checked}
use Rattle.mbe_semantics.specs.Laws.Lawful.{Lawful}
use Rattle.mbe_semantics.specs.Matching.ThreadModel.{ThreadModel, Advance, erase, erase_move, epsilons_of, next_of}
use Rattle.mbe_semantics.specs.Matching.ThreadModel.{finished_of}
use Rattle.mbe_semantics.specs.Matching.Closure.{whole, closure, moves_of, completed, completions}
use Rattle.mbe_semantics.specs.Matching.Frontier.{Stack}
use Rattle.mbe_laws.proofs.Matching.Forest.{in_either}
use Rattle.mbe_laws.proofs.Matching.Rank.{idle-falls, whole-step}
use Rattle.mbe_laws.proofs.Matching.ThreadModels.{erase_epsilon, erase_next, erase_finished}
use Rattle.mbe_semantics.specs.Bindings.Account.{Commands, commands_of}

map_cons : (o : Option Move) (ms : List Move)
    → map erase_move (cons_option o ms) ≡ option_to_list (option_map erase_move o) ++ map erase_move ms
map_cons None ms = refl
map_cons (Some m) ms = refl

count_cons : (o : Option Items) (rs : List Items)
    → map commands_of (cons_option o rs) ≡ option_to_list (option_map commands_of o) ++ map commands_of rs
count_cons None rs = refl
count_cons (Some r) rs = refl

module _ (i : Input) (pat : Ops) (len : ℕ) (lawful : Lawful i len) (checked : Checked pat) (q : ℕ) where
  -- the top of the stack
  top : (xs : List PartialReading) (thread_stack : List ThreadModel) (o : ThreadModel) → map erase xs ≡ o
      ∷ reverse thread_stack →
      (x : PartialReading) × (ys : List PartialReading) × (xs ≡ x ∷ ys) × (erase x ≡ o)
      × (map erase ys ≡ reverse thread_stack)
  top [] thread_stack o e = cc
  top (x ∷ xs) thread_stack o e = let f : erase x ≡ o = cc in let g : map erase xs ≡ reverse thread_stack =
      cc in (x, xs, refl, f, g)

  closed_step : (x : PartialReading) (ys : List PartialReading) → EndsAt i pat q x → closure i q (x ∷ ys) ≡ x
      ∷ closure i q (epsilons i q x ++ ys)
  closed_step x ys a =
      ap (λ l. l ++ closure i q ys) (whole-step i pat q lawful checked x a)
      ∙ ap (λ l. x ∷ l) (sym (flat_map-append (whole i q) (epsilons i q x) ys))

  pub record Turn (xs : List PartialReading) (o : ThreadModel) (new : List ThreadModel) : Type 0 where
    pub ys : List PartialReading
    pub stack : Stack i pat q ys new
    pub moves : map erase_move (moves_of i q (closure i q xs))
        ≡ option_to_list (next_of i q o) ++ map erase_move (moves_of i q (closure i q ys))
    pub ends : map commands_of (completions (closure i q xs))
        ≡ option_to_list (finished_of o) ++ map commands_of (completions (closure i q ys))

  turn_at : (x : PartialReading) (ys : List PartialReading) (thread_stack new : List ThreadModel) (o : ThreadModel)
      → ((z : PartialReading) → In z (x ∷ ys) → EndsAt i pat q z) → erase x ≡ o → map erase ys ≡ reverse thread_stack →
      new ≡ thread_stack ++ reverse (epsilons_of i q o) → Turn (x ∷ ys) o new
  turn_at x ys thread_stack new o a e f g =
      let ax : EndsAt i pat q x = a x (inl refl) in
      let p : offset x ≡ q = ax.1 in
      record {
        ys = epsilons i q x ++ ys;
        stack = record { sound = sound; same = same p };
        moves =
            ap (λ l. map erase_move (moves_of i q l)) (closed_step x ys ax)
            ∙ map_cons (next i q x) (moves_of i q (closure i q (epsilons i q x ++ ys)))
            ∙ ap (λ v. option_to_list v ++ map erase_move (moves_of i q (closure i q (epsilons i q x ++ ys))))
            (erase_next i q x p ∙ ap (next_of i q) e);
        ends =
            ap (λ l. map commands_of (completions l)) (closed_step x ys ax)
            ∙ count_cons (completed x) (completions (closure i q (epsilons i q x ++ ys)))
            ∙ ap (λ v. option_to_list v ++ map commands_of (completions (closure i q (epsilons i q x ++ ys))))
            (erase_finished x ∙ ap finished_of e);
      }
    where
      sound : (z : PartialReading) → In z (epsilons i q x ++ ys) → EndsAt i pat q z
      sound z h = elim (in_either z (epsilons i q x) ys h)
          [ inl m ↦ (idle-falls i pat q lawful checked x z (a x (inl refl)) m).0 | inr m ↦ a z (inr m) ]

      same : offset x ≡ q → map erase (epsilons i q x ++ ys) ≡ reverse new
      same p =
          map-append erase (epsilons i q x) ys
          ∙ ap (λ l. l ++ map erase ys) (erase_epsilon i q x p ∙ ap (epsilons_of i q) e)
          ∙ ap (λ l. epsilons_of i q o ++ l) f
          ∙ ap (λ l. l ++ reverse thread_stack) (sym (reverse-reverse (epsilons_of i q o)))
          ∙ sym (reverse-append thread_stack (reverse (epsilons_of i q o)))
          ∙ ap reverse (sym g)

  pub turn : (xs : List PartialReading) (thread_stack new : List ThreadModel) (o : ThreadModel)
      → Stack i pat q xs (thread_stack ++ (o ∷ []))
      → new ≡ thread_stack ++ reverse (epsilons_of i q o) → Turn xs o new
  turn xs thread_stack new o s g =
      let t : (x : PartialReading) × (ys : List PartialReading) × (xs ≡ x ∷ ys) × (erase x ≡ o)
      × (map erase ys ≡ reverse thread_stack) =
      top xs thread_stack o (s.same ∙ reverse-append thread_stack (o ∷ [])) in
      subst (λ l. Turn l o new) (sym t.2)
      (turn_at t.0 t.1 thread_stack new o (λ z m. s.sound z (subst (λ l. In z l) (sym t.2) m)) t.3 t.4 g)

  pub empty_stack : (xs : List PartialReading) → Stack i pat q xs [] → xs ≡ []
  empty_stack [] s = refl
  empty_stack (x ∷ xs) s = let e : map erase (x ∷ xs) ≡ [] = s.same in cc

-- what a loop over the stack keeps: the steps so far and those of the stack are those of the first stack
pub record Keeps (i : Input) (pat : Ops) (q : ℕ) (xs : List PartialReading) (thread_stack : List ThreadModel)
    (ws : List Advance)
    (n : List Commands) : Type 0 where
  pub ys : List PartialReading
  pub stack : Stack i pat q ys thread_stack
  pub moves : ws ++ map erase_move (moves_of i q (closure i q ys)) ≡ map erase_move (moves_of i q (closure i q xs))
  pub ends : n ++ map commands_of (completions (closure i q ys)) ≡ map commands_of (completions (closure i q xs))

pub keeps_start : (i : Input) (pat : Ops) (q : ℕ) (xs : List PartialReading) (thread_stack : List ThreadModel)
    → Stack i pat q xs thread_stack
    → Keeps i pat q xs thread_stack [] []
keeps_start i pat q xs thread_stack s = record { ys = xs; stack = s; moves = refl; ends = refl }

pub keeps_end : (i : Input) (pat : Ops) (len : ℕ) → Lawful i len → Checked pat
    → (q : ℕ) (xs : List PartialReading) (ws : List Advance) (n : List Commands) → Keeps i pat q xs [] ws n →
    (ws ≡ map erase_move (moves_of i q (closure i q xs))) × (n ≡ map commands_of (completions (closure i q xs)))
keeps_end i pat len w c q xs ws n k =
    let e : k.ys ≡ [] = empty_stack i pat len w c q k.ys k.stack in
    let f : ws ++ map erase_move (moves_of i q (closure i q [])) ≡ map erase_move (moves_of i q (closure i q xs)) =
    subst (λ l. ws ++ map erase_move (moves_of i q (closure i q l)) ≡ map erase_move (moves_of i q (closure i q xs))) e
    k.moves in
    let g : n ++ map commands_of (completions (closure i q [])) ≡ map commands_of (completions (closure i q xs)) =
    subst (λ l. n ++ map commands_of (completions (closure i q l)) ≡ map commands_of (completions (closure i q xs))) e
    k.ends in
    (sym (append-nil ws) ∙ f, sym (append-nil n) ∙ g)
