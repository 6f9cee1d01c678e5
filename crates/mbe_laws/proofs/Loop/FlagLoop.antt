-- The loop over the stack at a place, as long as it has dropped nothing: what went out, and all that the stack leads
-- to, are all that is held.
use Rattle.std.proofs.Common.{ℕ, ◌≡◌, inl, inr, List, [], ◌∷◌, ◌++◌, map, refl, sym, ◌∙◌, ap, append_assoc, append-nil}
use Rattle.std.proofs.lemmas.List.{map-append}
use Rattle.std.proofs.lemmas.Grind.{flat_map-append}
use Rattle.mbe_semantics.specs.Syntax.Op.{Ops}
use Rattle.mbe_semantics.specs.Readings.Input.{Input}
use Rattle.mbe_semantics.specs.Readings.Reading.{PartialReading, EndsAt}
use Rattle.mbe_semantics.specs.Readings.Steps.{epsilons}
use Rattle.mbe_semantics.specs.Matching.Lists.{In}
use Rattle.mbe_semantics.specs.Syntax.Nullable.{Checked}
use Rattle.mbe_semantics.specs.Laws.Lawful.{Lawful}
use Rattle.mbe_semantics.specs.Matching.Closure.{whole, closure}
use Rattle.mbe_semantics.specs.Matching.ThreadModel.{ThreadModel, erase, epsilons_of}
use Rattle.mbe_laws.proofs.Matching.Forest.{in_either}
use Rattle.mbe_laws.proofs.Matching.Sound.{idle-sound}
use Rattle.mbe_laws.proofs.Matching.Rank.{whole-step}
use Rattle.mbe_laws.proofs.Matching.ThreadModels.{erase_epsilon}

pub record Fills (i : Input) (pat : Ops) (q : ℕ) (all stack out : List ThreadModel) : Type 0 where
  pub ys : List PartialReading
  pub sound : (y : PartialReading) → In y ys → EndsAt i pat q y
  pub same : map erase ys ≡ stack
  pub total : out ++ map erase (closure i q ys) ≡ all

module _ (i : Input) (pat : Ops) (len : ℕ) (lawful : Lawful i len) (checked : Checked pat) (q : ℕ) where
  pub fills_start : (xs : List PartialReading) (thread_stack : List ThreadModel)
      → ((x : PartialReading) → In x xs → EndsAt i pat q x)
      → map erase xs ≡ thread_stack → Fills i pat q (map erase (closure i q xs)) thread_stack []
  fills_start xs thread_stack a e = record { ys = xs; sound = a; same = e; total = refl }

  pub fills_end : (all out : List ThreadModel) → Fills i pat q all [] out → out ≡ all
  fills_end all out k = go k.ys k.same k.total
    where
      go : (ys : List PartialReading) → map erase ys ≡ [] → out ++ map erase (closure i q ys) ≡ all → out ≡ all
      go [] e t = sym (append-nil out) ∙ t
      go (y ∷ ys) e t = cc

  -- one goes out, and what comes of it goes upon the stack
  pub fills_take : (all out : List ThreadModel) (o : ThreadModel) (stack : List ThreadModel)
      → Fills i pat q all (o ∷ stack) out
      → Fills i pat q all (epsilons_of i q o ++ stack) (out ++ (o ∷ []))
  fills_take all out o stack k = go k.ys k.sound k.same k.total
    where
      go : (ys : List PartialReading) → ((y : PartialReading) → In y ys → EndsAt i pat q y) → map erase ys ≡ o ∷ stack
          → out ++ map erase (closure i q ys) ≡ all → Fills i pat q all (epsilons_of i q o ++ stack) (out ++ (o ∷ []))
      go [] a e t = cc
      go (x ∷ ys) a e t =
          let f : erase x ≡ o = cc in
          let g : map erase ys ≡ stack = cc in
          record {
            ys = epsilons i q x ++ ys;
            sound = λ y m. elim (in_either y (epsilons i q x) ys m)
                [ inl h ↦ idle-sound i pat q x (a x (inl refl)) y h | inr h ↦ a y (inr h) ];
            same = map-append erase (epsilons i q x) ys
                ∙ ap (λ v. v ++ map erase ys) (erase_epsilon i q x (a x (inl refl)).1 ∙ ap (epsilons_of i q) f)
                ∙ ap (λ v. epsilons_of i q o ++ v) g;
            total =
                append_assoc out (o ∷ []) (map erase (closure i q (epsilons i q x ++ ys)))
                ∙ ap (λ v. out ++ (v ∷ map erase (closure i q (epsilons i q x ++ ys)))) (sym f)
                ∙ ap (λ l. out ++ (erase x ∷ map erase l)) (flat_map-append (whole i q) (epsilons i q x) ys)
                ∙ sym (ap (λ l. out ++ map erase (l ++ closure i q ys))
                (whole-step i pat q lawful checked x (a x (inl refl))))
                ∙ t;
          }
