-- What is read of a list goes through its links.
use Rattle.std.proofs.Common.{◌≡◌, ◌<◌, ◌≤◌, ◌-◌, ℕ, zero, suc, List, [], ◌∷◌, ◌++◌, length, map, take, reverse, Option}
use Rattle.std.proofs.Common.{Some, None, refl, sym, ◌∙◌, ap, subst, arith, append_assoc, get_or}
use Rattle.std.specs.Prelude.{slice_get}
use Rattle.indexmap.proofs.ReorderLemmas.{map-reverse}
use Rattle.std.proofs.lemmas.List.{map-append}
use Rattle.std.proofs.lemmas.List.{reverse-append, reverse-reverse}
use Rattle.mbe_semantics.specs.declared.list_prefix.ListPrefix.{ListPrefix}
use Rattle.mbe_log.specs.Chain.{Chain, chain_len, IsWithin, IsChained, link_in, own_in}
use Rattle.mbe_bindings.specs.FlatEntries.{Flat, ends, continues, own_of, entry_at, AreSlots, slots_down}
use Rattle.mbe_bindings.specs.LinkTraversal.{Collected, SlotsCollected, left_of}
use Rattle.mbe_log.proofs.ChainLemmas.{got, link_some, same_list, part_there}

module _ {T : Type 0} (lists : List (Chain T)) where
  reversed : (found own : List T) → reverse (found ++ reverse own) ≡ own ++ reverse found
  reversed found own = reverse-append found (reverse own) ∙ ap (λ x. x ++ reverse found) (reverse-reverse own)

  pub collected-step : (start part : ListPrefix) (l : Chain T) (found more : List T) (next : Option ListPrefix)
      → IsChained lists
      → slice_get lists part.list ≡ Some l →
      Collected lists start (Some part) found → next ≡ link_in l.link part.first
      → more ≡ found ++ reverse (take (own_in l.link part.first) l.own) →
      Collected lists start next more
  collected-step start part l found more None ch h f n m =
      subst (Flat lists start) (sym (ap reverse m ∙ reversed found (take (own_in l.link part.first) l.own)))
      (f.1 (take (own_in l.link part.first) l.own) (ends part l (take (own_in l.link part.first) l.own) h (sym n) refl))
  collected-step start part l found more (Some q) ch h f n m = (
    (ch part.list l q h (link_some l.link part.first q (sym n))).1,
    λ ys g. subst (Flat lists start) (append_assoc ys (take (own_in l.link part.first) l.own) (reverse found)
        ∙ ap (λ x. ys ++ x) (sym (ap reverse m ∙ reversed found (take (own_in l.link part.first) l.own))))
        (f.1 (ys ++ take (own_in l.link part.first) l.own)
        (continues part l q ys (ys ++ take (own_in l.link part.first) l.own) h (sym n) g refl)),
  )

  pub left-falls : (part : ListPrefix) (l : Chain T) (next : Option ListPrefix) → IsChained lists
      → slice_get lists part.list ≡ Some l → next ≡ link_in l.link part.first →
      suc (left_of next) ≤ left_of (Some part)
  left-falls part l None ch h n = omega arith
  left-falls part l (Some q) ch h n = let k =
      (ch part.list l q h (link_some l.link part.first q (sym n))).0 in omega (arith, k)

  pub collected-step-at : (start part : ListPrefix) (l : Chain T) (found more : List T) (here next : Option ListPrefix)
      → IsChained lists → here ≡ Some part →
      Collected lists start here found → l ≡ get_or lists part.list l → next ≡ link_in l.link part.first →
      more ≡ found ++ reverse (take (own_in l.link part.first) l.own) → Collected lists start next more
  collected-step-at start part l found more here next ch i f e n m =
      let g = subst (λ o. Collected lists start o found) i f in
      collected-step start part l found more next ch (same_list lists part l g.0 e) g n m

  pub left-falls-at : (start part : ListPrefix) (l : Chain T) (found : List T) (here next : Option ListPrefix)
      → IsChained lists
      → here ≡ Some part →
      Collected lists start here found → l ≡ get_or lists part.list l → next ≡ link_in l.link part.first
      → suc (left_of next) ≤ left_of here
  left-falls-at start part l found here next ch i f e n =
      let g = subst (λ o. Collected lists start o found) i f in
      subst (λ o. suc (left_of next) ≤ left_of o) (sym i) (left-falls part l next ch (same_list lists part l g.0 e) n)

  pub collected-end : (start : ListPrefix) (found more : List T) (here : Option ListPrefix) → here ≡ None
      → Collected lists start here found → more ≡ reverse found → Flat lists start more
  collected-end start found more here i f m =
      subst (Flat lists start) (sym m) (subst (λ o. Collected lists start o found) i f)

-- ---- places

-- the first suc n of a list
take-next : {X : Type 0} (xs : List X) (n : ℕ) → n < length xs
    → (x : X) × (slice_get xs n ≡ Some x) × (take (suc n) xs ≡ take n xs ++ x ∷ [])
take-next [] n h = absurd (omega (arith, h))
take-next (x ∷ xs) zero h = (x, refl, refl)
take-next (x ∷ xs) (suc n) h = let k = take-next xs n (omega (arith, h)) in (k.0, k.1, ap (λ t. x ∷ t) k.2)

module _ {T : Type 0} (lists : List (Chain T)) where
  pub down : (at : ℕ) (l : Chain T) (n : ℕ) → slice_get lists at ≡ Some l → n ≤ length l.own →
      map (entry_at lists) (slots_down at n) ≡ map Some (reverse (take n l.own))
  down at l zero s h = refl
  down at l (suc n) s h =
      let k = take-next l.own n (omega (arith, h)) in
      let here : own_of (slice_get lists at) n ≡ Some k.0 = ap (λ o. own_of o n) s ∙ k.1 in
      ap (λ t. own_of (slice_get lists at) n ∷ t) (down at l n s (omega (arith, h)))
      ∙ ap (λ o. o ∷ map Some (reverse (take n l.own))) here
      ∙ ap (map Some) (sym (ap reverse k.2 ∙ reverse-append (take n l.own) (k.0 ∷ [])))

  own_within : (part : ListPrefix) (l : Chain T) → part.first ≤ chain_len l → own_in l.link part.first ≤ length l.own
  own_within part l h = go l.link part.first h
    where
      go : (k : Option ListPrefix) (n : ℕ) → n ≤ chain_len (record l { link = k }) → own_in k n ≤ length l.own
      go None n h = omega (arith, h)
      go (Some p) n h = omega (arith, h)

  -- a part has no more own entries than its list
  pub own_room : (part : ListPrefix) (l : Chain T) (n : ℕ) → IsWithin lists part → l ≡ get_or lists part.list l
      → own_in l.link part.first ≡ n → n ≤ length l.own
  own_room part l n w e o =
      let k : w.0 ≡ l = sym (e ∙ got lists part.list w.0 l w.1) in
      let r = own_within part l (subst (λ x. part.first ≤ chain_len x) k w.2) in omega (arith, r, o)

  -- so is the one from which the walk goes on
  pub collected_there : (start part : ListPrefix) (found : List ListPrefix) (here : Option ListPrefix) → here
      ≡ Some part
      → SlotsCollected lists start here found → part.list < length lists
  collected_there start part found here i f = part_there lists part (subst (λ o. Collected lists start o f.0) i f.2).0

  pub places-step : (start part : ListPrefix) (l : Chain T) (found more : List ListPrefix)
      (here next : Option ListPrefix) (count : ℕ)
      → IsChained lists → here ≡ Some part →
      SlotsCollected lists start here found → l ≡ get_or lists part.list l → next ≡ link_in l.link part.first
      → count ≡ own_in l.link part.first →
      more ≡ found ++ slots_down part.list count → SlotsCollected lists start next more
  places-step start part l found more here next count ch i f e n o m =
      let g = subst (λ o. Collected lists start o f.0) i f.2 in
      let s : slice_get lists part.list ≡ Some l = same_list lists part l g.0 e in
      let w : g.0.0 ≡ l = let q = g.0.1 in cc in
      let own = take (own_in l.link part.first) l.own in (
        f.0 ++ reverse own,
        ap (map (entry_at lists)) (m ∙ ap (λ x. found ++ slots_down part.list x) o)
            ∙ map-append (entry_at lists) found (slots_down part.list (own_in l.link part.first))
            ∙ ap (λ x. x ++ map (entry_at lists) (slots_down part.list (own_in l.link part.first))) f.1
            ∙ ap (λ x. map Some f.0 ++ x) (down part.list l (own_in l.link part.first) s
            (own_within part l (subst (λ x. part.first ≤ chain_len x) w g.0.2)))
            ∙ sym (map-append Some f.0 (reverse own)),
        collected-step-at lists start part l f.0 (f.0 ++ reverse own) here next ch i f.2 e n refl,
      )

  pub places-end : (start : ListPrefix) (found more : List ListPrefix) (here : Option ListPrefix) → here ≡ None
      → SlotsCollected lists start here found → more ≡ reverse found →
      AreSlots lists start more
  places-end start found more here i f m = (
    reverse f.0,
    collected-end lists start f.0 (reverse f.0) here i f.2 refl,
    ap (map (entry_at lists)) m ∙ map-reverse (entry_at lists) found ∙ ap reverse f.1 ∙ sym (map-reverse Some f.0),
  )

pub down-one : (at n : ℕ) → 0 < n → slots_down at n ≡ record { list = at; first = n - 1 } ∷ slots_down at (n - 1)
down-one at zero h = absurd (omega (arith, h))
down-one at (suc n) h = let m : n ≡ suc n - 1 =
    omega arith in ap (λ j. record { list = at; first = j } ∷ slots_down at j) m

-- ---- a part of one entry, or of two

take_none : {T : Type 0} (own : List T) → [] ≡ take 0 own
take_none [] = refl
take_none (y ∷ own) = refl

first_alone : {T : Type 0} (own : List T) (x : T) → slice_get own 0 ≡ Some x → x ∷ [] ≡ take 1 own
first_alone [] x e = cc
first_alone (y ∷ own) x e = let k : x ≡ y = cc in ap (λ z. z ∷ []) k ∙ ap (λ t. y ∷ t) (take_none own)

pub only_entry : {T : Type 0} (lists : List (Chain T)) (part : ListPrefix) (l : Chain T) (x : T)
    → slice_get lists part.list ≡ Some l →
    link_in l.link part.first ≡ None → own_in l.link part.first ≡ 1 → slice_get l.own 0 ≡ Some x
    → Flat lists part (x ∷ [])
only_entry lists part l x s h o e = ends part l (x ∷ []) s h (first_alone l.own x e ∙ ap (λ n. take n l.own) (sym o))

first_two : {T : Type 0} (own : List T) (x y : T) → slice_get own 0 ≡ Some x → slice_get own 1 ≡ Some y
    → x ∷ (y ∷ []) ≡ take 2 own
first_two [] x y e f = cc
first_two (a ∷ []) x y e f = cc
first_two (a ∷ (b ∷ own)) x y e f =
    let k : x ≡ a = cc in
    let l : y ≡ b = cc in
    ap (λ z. z ∷ (y ∷ [])) k ∙ ap (λ z. a ∷ (z ∷ [])) l ∙ ap (λ t. a ∷ (b ∷ t)) (take_none own)

pub two_entries : {T : Type 0} (lists : List (Chain T)) (part : ListPrefix) (l : Chain T) (x y : T)
    → slice_get lists part.list ≡ Some l → link_in l.link part.first ≡ None → own_in l.link part.first ≡ 2
    → slice_get l.own 0 ≡ Some x → slice_get l.own 1 ≡ Some y → Flat lists part (x ∷ (y ∷ []))
two_entries lists part l x y s h o e f =
    ends part l (x ∷ (y ∷ [])) s h (first_two l.own x y e f ∙ ap (λ n. take n l.own) (sym o))
