-- A list that is found, and one with an entry more.
use Rattle.std.proofs.Common.{◌≡◌, ◌<◌, ◌≤◌, ℕ, zero, suc, List, [], ◌∷◌, ◌++◌, length, Option, Some, None, sym, ◌∙◌}
use Rattle.std.proofs.Common.{ap, subst, arith, get_or}
use Rattle.std.specs.Prelude.{slice_get, ◌↔◌, IsTrue, nat_le, nat_lt}
use Rattle.std.proofs.Common.{set, inl, inr}
use Rattle.std.proofs.lemmas.Bool.Decides.{nat_tests}
use Rattle.std.proofs.lemmas.List.{get_or-set_same}
use Rattle.std.proofs.lemmas.Option.{slice_get-get_or}
use Rattle.mbe_semantics.specs.declared.list_prefix.ListPrefix.{ListPrefix}
use Rattle.mbe_log.specs.Chain.{Chain, chain_len, link_to, longer, forked, IsExtended, IsWithin, link_in}

pub got : {X : Type 0} (xs : List X) (i : ℕ) (x d : X) → slice_get xs i ≡ Some x → get_or xs i d ≡ x
got [] i x d h = cc
got (y ∷ xs) zero x d h = cc
got (y ∷ xs) (suc i) x d h = got xs i x d h

pub in_range : {X : Type 0} (xs : List X) (i : ℕ) (x : X) → slice_get xs i ≡ Some x → i < length xs
in_range [] i x h = absurd (let e : ⊥ = cc in e)
in_range (y ∷ xs) zero x h = omega arith
in_range (y ∷ xs) (suc i) x h = let k = in_range xs i x h in omega (arith, k)

pub link_some : (k : Option ListPrefix) (n : ℕ) (q : ListPrefix) → link_in k n ≡ Some q → k ≡ Some q
link_some None n q h = absurd (let e : ⊥ = cc in e)
link_some (Some p) zero q h = absurd (let e : ⊥ = cc in e)
link_some (Some p) (suc n) q h = h

module _ {T : Type 0} (lists : List (Chain T)) where
  pub same_list : (part : ListPrefix) (l : Chain T) → IsWithin lists part → l ≡ get_or lists part.list l
      → slice_get lists part.list ≡ Some l
  same_list part l w e = w.1 ∙ ap Some (sym (e ∙ got lists part.list w.0 l w.1))

-- ---- a part of a list that is found

module _ {T : Type 0} (lists : List (Chain T)) where
  -- the list of a part is there
  pub part_there : (part : ListPrefix) → IsWithin lists part → part.list < length lists
  part_there part w = in_range lists part.list w.0 w.1

  -- where a part's list is found twice it is the same
  same_found : (part : ListPrefix) (a b : Chain T) → IsWithin lists part → a ≡ get_or lists part.list a
      → b ≡ get_or lists part.list b → a ≡ b
  same_found part a b w e f = (e ∙ got lists part.list w.0 a w.1) ∙ sym (f ∙ got lists part.list w.0 b w.1)

  -- the part is within its list by that list's length
  pub within_if : (part : ListPrefix) (l : Chain T) (n : ℕ) → part.list < length lists → l ≡ get_or lists part.list l
      → n ≡ chain_len l → IsTrue (nat_le part.first n) ↔ IsWithin lists part
  within_if part l n h e len =
      let there : slice_get lists part.list ≡ Some l =
      slice_get-get_or lists part.list l h ∙ ap Some (sym e) in (
        λ t. let f : part.first ≤ n = grind (arith, nat_tests) in (l, there, subst (λ k. part.first ≤ k) len f),
        λ w. let same : w.0 ≡ l = sym (e ∙ got lists part.list w.0 l w.1) in
            let f : part.first ≤ n =
            subst (λ k. part.first ≤ k) (sym len) (subst (λ x. part.first ≤ chain_len x) same w.2) in
            grind (arith, nat_tests),
      )

  -- a list that isn't there has no part
  pub within_unless : (part : ListPrefix) → length lists ≤ part.list
      → IsTrue (nat_lt part.list (length lists)) ↔ IsWithin lists part
  within_unless part h = (
    λ t. absurd (let f : part.list < length lists = grind (arith, nat_tests) in omega (arith, f, h)),
    λ w. absurd (let k = part_there part w in omega (arith, k, h)),
  )

  -- one entry more in place: the list is found to be no longer than the part, then for writing, and then for its length
  pub extended_here : (part : ListPrefix) (short at after new : Chain T) (x : T) (len first : ℕ) → IsWithin lists part
      → short ≡ get_or lists part.list short → len ≡ chain_len short → len ≤ part.first
      → at ≡ get_or lists part.list at → new ≡ longer at x
      → after ≡ get_or (set lists part.list new) part.list after → first ≡ chain_len after
      → IsExtended lists (set lists part.list new) part (record { list = part.list; first = first }) x
  extended_here part short at after new x len first w e l le f n g k =
      let there = same_list lists part at w f in
      let same : w.0 ≡ at = sym (f ∙ got lists part.list w.0 at w.1) in
      let within : part.first ≤ chain_len at = subst (λ c. part.first ≤ chain_len c) same w.2 in
      let long : len ≡ chain_len at = l ∙ ap chain_len (same_found part short at w e f) in
      let written : after ≡ new = g ∙ get_or-set_same lists part.list new after (part_there part w) in
      let full : first ≡ chain_len (longer at x) = k ∙ ap chain_len (written ∙ n) in (
        at,
        there,
        inl (
          omega (arith, within, long, le),
          ap (set lists part.list) n,
          ap (λ m. record { list = part.list; first = m }) full,
        ),
      )

  -- the list with that link and that entry goes on from the part
  pub forked_by : (part : ListPrefix) (at empty list : Chain T) (x : T) (link : Option ListPrefix) → link
      ≡ link_to part at
      → empty ≡ record { link = link; own = [] } → list ≡ longer empty x → list ≡ forked part at x
  forked_by part at empty list x link k e n =
      let with : Option ListPrefix → Chain T = λ it. record { link = it; own = x ∷ [] } in
      n ∙ (ap (λ c. longer c x) e ∙ ap with k)

  -- one entry more in a new list: the list is found to be longer than the part, and then for its link
  pub extended_apart : (part : ListPrefix) (long at list : Chain T) (new : List (Chain T)) (x : T) (len count first : ℕ)
      → IsWithin lists part → long ≡ get_or lists part.list long → len ≡ chain_len long → part.first < len
      → at ≡ get_or lists part.list at → list ≡ forked part at x → new ≡ lists ++ list ∷ []
      → count ≡ length lists → first ≡ chain_len list
      → IsExtended lists new part (record { list = count; first = first }) x
  extended_apart part long at list new x len count first w e l lt f n g k m =
      let more : len ≡ chain_len at = l ∙ ap chain_len (same_found part long at w e f) in (
        at,
        same_list lists part at w f,
        inr (
          omega (arith, more, lt),
          g ∙ ap (λ c. lists ++ c ∷ []) n,
          ap (λ c. record { list = c; first = first }) k
              ∙ ap (λ c. record { list = length lists; first = c }) (m ∙ ap chain_len n),
        ),
      )
