-- What is asked of a local is found in the list of its context.
use Rattle.std.proofs.Common.{◌≡◌, ℕ, zero, suc, true, false, List, [], ◌∷◌, ◌++◌, length, get_or, map, ◌<◌, Some, refl}
use Rattle.std.proofs.Common.{ap, sym, subst, ◌∙◌, ◌⊎◌, inl, inr, arith}
use Rattle.std.specs.Prelude.{◌==◌, ◌||◌, option_map}
use Rattle.std.specs.List.{slice_get}
use Rattle.std.proofs.lemmas.Bool.{eqb-true, eq-eqb}
use Rattle.std.proofs.lemmas.List.{length-append}
use Rattle.std.proofs.lemmas.Option.{slice_get-map, slice_get-get_or}
use Rattle.mbe_rewriter.specs.declared.hygiene.local_names.BindingState.{BindingState}
use Rattle.std.specs.declared.vec.Vec.{Vec}
use Rattle.mbe_rewriter.specs.declared.hygiene.local_names.Word as code_word
use Rattle.mbe_rewriter.specs.Hygiene.EventViews.{word_of}
use Rattle.mbe_rewriter.specs.Hygiene.LocalNames.{Word, context, is_edge, is_relevant, is_undecided_use}
use Rattle.mbe_rewriter.specs.Hygiene.LocalNames.{undecided_use_at, undecided_uses, has_undecided_use, after_word}
use Rattle.mbe_rewriter.specs.Hygiene.Buckets.{bucket_of, is_in_bucket, bucket, buckets, AreBuckets, buckets_of}
use Rattle.mbe_rewriter.proofs.Renaming.SameLemmas.{true_or_false, both, neither, neither_left, neither_right}
use Rattle.mbe_rewriter.proofs.Renaming.BesideLemmas.{no_doubt, as_before}

-- a word that isn't in the list of a local's context doesn't concern the local
apart : (w v : Word) → is_in_bucket (bucket_of (context w)) v ≡ false → is_relevant w v ≡ false
apart w v h =
    let other = neither_left (bucket_of (context v) == bucket_of (context w)) (is_edge v.role) h in
    let no_edge = neither_right (bucket_of (context v) == bucket_of (context w)) (is_edge v.role) h in
    elim (true_or_false (context w == context v)) [
      | inl e ↦ absurd (both (bucket_of (context v) == bucket_of (context w)) true
          (eq-eqb (bucket_of (context v)) (bucket_of (context w))
          (ap bucket_of (sym (eqb-true (context w) (context v) e)))) other)
      | inr e ↦ neither (context w == context v) (is_edge v.role) e no_edge
    ]

pub same_doubts : (w : Word) (p : BindingState) (ws : List Word)
    → undecided_uses w p (bucket (bucket_of (context w)) ws) ≡ undecided_uses w p ws
same_doubts w p [] = refl
same_doubts w p (v ∷ vs) = elim (true_or_false (is_in_bucket (bucket_of (context w)) v)) [
  | inl e ↦ rw e (ap (λ ds. undecided_use_at w p v ++ ds) (same_doubts w (after_word w p v) vs))
  | inr e ↦ rw e (rw (no_doubt w p v (apart w v e)) (rw (as_before w p v (apart w v e)) (same_doubts w p vs)))
]

pub same_doubted : (w : Word) (p : BindingState) (ws : List Word)
    → has_undecided_use w p (bucket (bucket_of (context w)) ws) ≡ has_undecided_use w p ws
same_doubted w p [] = refl
same_doubted w p (v ∷ vs) = elim (true_or_false (is_in_bucket (bucket_of (context w)) v)) [
  | inl e ↦ rw e (ap (λ b. is_undecided_use w p v || b) (same_doubted w (after_word w p v) vs))
  | inr e ↦ rw e (rw (no_doubt w p v (apart w v e)) (rw (as_before w p v (apart w v e)) (same_doubted w p vs)))
]

-- ---- the lists

last_or_before : {X : Type 0} (xs : List X) (x y : X) (i : ℕ) → slice_get (xs ++ (x ∷ [])) i ≡ Some y
    → (slice_get xs i ≡ Some y) ⊎ ((i ≡ length xs) × (y ≡ x))
last_or_before [] x y zero e = inr (refl, cc)
last_or_before [] x y (suc i) e = cc
last_or_before (z ∷ zs) x y zero e = inl e
last_or_before (z ∷ zs) x y (suc i) e = elim (last_or_before zs x y i e) [
  | inl h ↦ inl h
  | inr h ↦ inr (ap suc h.0, h.1)
]

as_many : (ws : List Word) (m : ℕ) → length (buckets ws m) ≡ m
as_many ws zero = refl
as_many ws (suc m) = let e = length-append (buckets ws m) (bucket m ws ∷ []) in omega (arith, e, as_many ws m)

are_lists : (ws : List Word) (m : ℕ) → AreBuckets ws (buckets ws m)
are_lists ws zero n l e = cc
are_lists ws (suc m) n l e = elim (last_or_before (buckets ws m) (bucket m ws) l n e) [
  | inl h ↦ are_lists ws m n l h
  | inr h ↦ h.1 ∙ ap (λ k. bucket k ws) (sym (h.0 ∙ as_many ws m))
]

pub lists_are : (ws : List Word) (m : ℕ) (ls : List (List Word)) → ls ≡ buckets ws m → AreBuckets ws ls
lists_are ws m ls e = subst (AreBuckets ws) (sym e) (are_lists ws m)

-- the list that is found at a context's number
list_is : {A : Type 0} (ws : List Word) (vs : List (Vec code_word.Word A)) (n : ℕ) (v : Vec code_word.Word A)
    → AreBuckets ws (buckets_of vs) → n < length vs → v ≡ get_or vs n v → map word_of v.items ≡ bucket n ws
list_is ws vs n v are l e =
    are n (map word_of v.items) (slice_get-map (λ x. map word_of x.items) vs n
    ∙ ap (option_map (λ x. map word_of x.items)) (slice_get-get_or vs n v l ∙ ap Some (sym e)))

pub beside_is : {A : Type 0} (w : Word) (ws : List Word) (vs : List (Vec code_word.Word A)) (n : ℕ)
    (v : Vec code_word.Word A) (found : List code_word.Word) → AreBuckets ws (buckets_of vs) → n < length vs
    → v ≡ get_or vs n v → n ≡ bucket_of (context w) → found ≡ v.items
    → map word_of found ≡ bucket (bucket_of (context w)) ws
beside_is w ws vs n v found are l e same all =
    ap (map word_of) all ∙ list_is ws vs n v are l e ∙ ap (λ k. bucket k ws) same
