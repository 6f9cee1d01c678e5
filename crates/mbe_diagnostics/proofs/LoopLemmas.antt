-- Relations that a recursion over a list defines, as a loop over the list comes to them: whatever the rest of the list
-- leads to, the
-- whole list leads to.
use Rattle.std.proofs.Common.{◌≡◌, ◌∙◌, ◌+◌, ◌<◌, ◌≤◌, ℕ, List, [], ◌∷◌, length, drop, ap, subst, sym}
use Rattle.std.proofs.lemmas.List.{drop_all, drop_more}
use Rattle.std.specs.Prelude.{get_or}

module _ {X S : Type 0} (R : List X → S → S → Type 0) (items : List X) (start now : S) where
  pub one_less : (item : X) (i : ℕ) (next : S) → i < length items → item ≡ get_or items i item
      → ((end : S) → R (drop (i + 1) items) next end → R (item ∷ drop (i + 1) items) now end)
      → ((end : S) → R (drop i items) now end → R items start end)
      → (end : S) → R (drop (i + 1) items) next end → R items start end
  one_less item i next within is step before end rest =
      let same : drop i items ≡ item ∷ drop (i + 1) items =
      drop_more items i item within ∙ ap (λ x. x ∷ drop (i + 1) items) (sym is) in
      before end (subst (λ xs. R xs now end) (sym same) (step end rest))

  pub none_left : (i : ℕ) → length items ≤ i → ((end : S) → R (drop i items) now end → R items start end)
      → R [] now now → R items start now
  none_left i all before nothing = before now (subst (λ xs. R xs now now) (sym (drop_all i items all)) nothing)
