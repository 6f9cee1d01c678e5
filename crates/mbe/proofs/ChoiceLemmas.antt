-- The first of the rules that applies or ends the call, found by trying one after the other.
use Rattle.std.specs.Prelude.{◌≡◌, ◌<◌, ◌≤◌, ◌+◌, ◌^◌, ℕ, zero, suc, List, [], ◌∷◌, length, take, slice_get}
use Rattle.std.specs.Prelude.{slice_index_or, map, Contains, Some, Result, Ok, Err, refl}
use Rattle.std.proofs.Common.{ap, sym, subst, arith, add-one, ◌∙◌}
use Rattle.std.proofs.Math.Seq.{take-nil}
use Rattle.std.proofs.lemmas.Bool.{lt-ltb, le-ltb}
use Rattle.std.specs.Result.{OkIff, result_ok}
use Rattle.mbe_semantics.specs.Expansion.Macro.{arm_of}
use Rattle.std.proofs.lemmas.Option.{none-some, same_Some}
use Rattle.mbe_tt.specs.Trees.Tree.{Forest}
use Rattle.mbe_tt.specs.Grammars.Grammar.{Grammar}
use Rattle.mbe_semantics.specs.declared.macro_call_style.MacroCallStyle.{MacroCallStyle}
use Rattle.mbe_semantics.specs.Syntax.Definition.{Rule}
use Rattle.mbe_semantics.specs.Expansion.Expansion.{Applies, FirstThatApplies, this_one, a_later_one}
use Rattle.mbe_semantics.specs.Expansion.Expansion.{IsFinal, FirstThatEnds, this_ends, a_later_ends, NoneEnds}
use Rattle.mbe_semantics.specs.Expansion.Recovery.{IsStyledAt}

module _ (g : Grammar) (style : MacroCallStyle) (argument : Forest) where
  -- no rule of these applies, and none ends the call
  abbrev pub NoneDecides : List Rule → Type 0
  NoneDecides [] = Unit {0}
  NoneDecides (r ∷ rs) =
      (Applies g style argument r → ⊥) × (IsFinal g style argument r → ⊥) × NoneDecides rs

module _ (g : Grammar) (style : MacroCallStyle) (argument : Forest) where
  pub first_at : (rs : List Rule) (n : ℕ) (r : Rule) (a : Applies g style argument r)
      → NoneDecides g style argument (take n rs) → slice_get rs n ≡ Some r
      → FirstThatApplies g style argument rs n r a
  first_at [] n r a before e = absurd (none-some r e)
  first_at (x ∷ rs) zero r a before e =
      subst (λ (y : Rule). FirstThatApplies g style argument (y ∷ rs) 0 r a) (sym (same_Some x r e)) (this_one r rs a)
  first_at (x ∷ rs) (suc n) r a before e =
      a_later_one x r rs n (suc n) a before.0 before.1 (first_at rs n r a before.2 e) refl

  pub end_at : (rs : List Rule) (n : ℕ) (r : Rule) → NoneDecides g style argument (take n rs)
      → slice_get rs n ≡ Some r → (Applies g style argument r → ⊥) → IsFinal g style argument r
      → FirstThatEnds g style argument rs n r
  end_at [] n r before e fails ends = absurd (none-some r e)
  end_at (x ∷ rs) zero r before e fails ends =
      subst (λ (y : Rule). FirstThatEnds g style argument (y ∷ rs) 0 r) (sym (same_Some x r e))
      (this_ends r rs fails ends)
  end_at (x ∷ rs) (suc n) r before e fails ends =
      a_later_ends x r rs n (suc n) before.0 before.1 (end_at rs n r before.2 e fails ends) refl

  none_at : (rs : List Rule) (r : Rule) → NoneDecides g style argument rs → (k : ℕ) → k < length rs
      → slice_index_or rs k r ≡ r → Applies g style argument r → ⊥
  none_at [] r n k l e a = absurd (omega (arith, l))
  none_at (x ∷ rs) r n zero l e a = n.0 (subst (Applies g style argument) (sym e) a)
  none_at (x ∷ rs) r n (suc k) l e a = none_at rs r n.2 k (omega arith) e a

  pub none_contained : (rs : List Rule) (r : Rule) → NoneDecides g style argument rs → Contains rs r
      → Applies g style argument r → ⊥
  none_contained rs r n c a = none_at rs r n c.0 c.1 c.2 a

  pub none_ends : (rs : List Rule) → NoneDecides g style argument rs → NoneEnds g style argument rs
  none_ends _ d _ _ (this_ends r rs fails ends) = d.1 ends
  none_ends _ d _ _ (a_later_ends r s rs n m fails goes_on f e) = none_ends rs d.2 n s f

  more_at : (rs : List Rule) (n : ℕ) (r : Rule) → NoneDecides g style argument (take n rs) → slice_get rs n ≡ Some r
      → (Applies g style argument r → ⊥) → (IsFinal g style argument r → ⊥)
      → NoneDecides g style argument (take (suc n) rs)
  more_at [] n r before e h k = tt
  more_at (x ∷ rs) zero r before e h k = (
    λ a. h (subst (Applies g style argument) (same_Some x r e) a),
    λ a. k (subst (IsFinal g style argument) (same_Some x r e) a),
    tt,
  )
  more_at (x ∷ rs) (suc n) r before e h k = (before.0, before.1, more_at rs n r before.2 e h k)

  -- one rule more that doesn't apply and doesn't end the call
  pub none_more : (rs : List Rule) (n : ℕ) (r : Rule) → NoneDecides g style argument (take n rs)
      → slice_get rs n ≡ Some r → (Applies g style argument r → ⊥) → (IsFinal g style argument r → ⊥)
      → NoneDecides g style argument (take (n + 1) rs)
  none_more rs n r before e h k = rw add-one (more_at rs n r before e h k)

  -- the first one that applies is one of them
  pub contains_first : {rs : List Rule} {n : ℕ} {r : Rule} {a : Applies g style argument r}
      → FirstThatApplies g style argument rs n r a → Contains rs r
  contains_first (this_one r rs a) = (0, omega arith, refl)
  contains_first (a_later_one r s rs n m a not_r goes_on f e) = let c =
      contains_first f in (suc c.0, let l = c.1 in omega (arith, l), c.2)

  -- where a rule applies first, none ends the call
  pub applies_first : {rs : List Rule} {n : ℕ} {r : Rule} {a : Applies g style argument r}
      → FirstThatApplies g style argument rs n r a → NoneEnds g style argument rs
  applies_first (this_one r rs a) _ _ (this_ends _ _ fails ends) = fails a
  applies_first (this_one r rs a) _ _ (a_later_ends _ _ _ _ _ fails goes_on f e) = fails a
  applies_first (a_later_one r s rs n m a not_r goes_on f e) _ _ (this_ends _ _ fails ends) = goes_on ends
  applies_first (a_later_one r s rs n m a not_r goes_on f e) _ _ (a_later_ends _ t _ k _ fails other h d) =
      applies_first f k t h

  -- the rule that ends the call has the style, at its index
  pub styled_end : {rs : List Rule} {n : ℕ} {r : Rule} → FirstThatEnds g style argument rs n r
      → IsStyledAt rs style n r
  styled_end (this_ends r rs fails ends) = (refl, ends.0)
  styled_end (a_later_ends r s rs n m fails goes_on f e) = rw e (styled_end f)

  -- one rule at most ends the call first
  pub same_end : {rs : List Rule} {n : ℕ} {r : Rule} → FirstThatEnds g style argument rs n r
      → (m : ℕ) (s : Rule) → FirstThatEnds g style argument rs m s → (n ≡ m) × (r ≡ s)
  same_end (this_ends r rs fails ends) _ _ (this_ends _ _ _ _) = (refl, refl)
  same_end (this_ends r rs fails ends) _ _ (a_later_ends _ _ _ _ _ _ goes_on f e) = absurd (goes_on ends)
  same_end (a_later_ends r s rs n m fails goes_on f e) _ _ (this_ends _ _ _ ends) = absurd (goes_on ends)
  same_end (a_later_ends r s rs n m fails goes_on f e) _ _ (a_later_ends _ t _ k _ _ _ h d) =
      let both = same_end f k t h in (e ∙ ap suc both.0 ∙ sym d, both.1)

-- a member seen by a function
pub seen_at : {X Y : Type 0} (f : X → Y) (xs : List X) (i : ℕ) (x : X) → i < length xs → x ≡ slice_index_or xs i x
    → slice_get (map f xs) i ≡ Some (f x)
seen_at f [] i x l e = absurd (omega (arith, l))
seen_at f (y ∷ ys) zero x l e = ap (λ z. Some (f z)) (sym e)
seen_at f (y ∷ ys) (suc i) x l e = seen_at f ys i x (omega arith) e

pub length_seen : {X Y : Type 0} (f : X → Y) (xs : List X) → length (map f xs) ≡ length xs
length_seen f [] = refl
length_seen f (x ∷ xs) = ap suc (length_seen f xs)

-- what is seen at an index of those that are seen
pub seen_there : {X Y : Type 0} (f : X → Y) (xs : List X) (i : ℕ) (x : X) → i < length (map f xs)
    → x ≡ slice_index_or xs i x → slice_get (map f xs) i ≡ Some (f x)
seen_there f xs i x l e = seen_at f xs i x (subst (λ n. i < n) (length_seen f xs) l) e

pub all_seen : {X Y : Type 0} (f : X → Y) (xs : List X) (n : ℕ) → length xs ≤ n → take n (map f xs) ≡ map f xs
all_seen f [] n h = take-nil n
all_seen f (x ∷ xs) zero h = absurd (omega (arith, h))
all_seen f (x ∷ xs) (suc n) h = ap (λ (ys : List _). f x ∷ ys) (all_seen f xs n (omega arith))

-- a place, where it fits 32 bits
pub arm_at : {E : Type 0} (r : Result ℕ E) (n : ℕ) → OkIff r (n < 2 ^ 32) n → result_ok r ≡ arm_of n
arm_at (Ok x) n h = rw (lt-ltb n (2 ^ 32) h.0) (ap Some h.1)
arm_at (Err e) n h = let k : 2 ^ 32 ≤ n = omega (arith, h) in rw (le-ltb n (2 ^ 32) k) refl
