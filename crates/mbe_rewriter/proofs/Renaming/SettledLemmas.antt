-- Each local is decided, or one of its uses is listed, or it meets no other of its name.
use Rattle.std.proofs.Common.{◌≡◌, ℕ, Bool, true, false, List, [], ◌∷◌, ◌++◌, refl, ap, sym, subst, ◌∙◌}
use Rattle.std.proofs.Common.{◌⊎◌, inl, inr}
use Rattle.std.specs.Prelude.{◌&&◌, ◌||◌, if◌then◌else◌}
use Rattle.mbe_rewriter.specs.declared.hygiene.local_names.UndecidedUse.{UndecidedUse}
use Rattle.mbe_rewriter.specs.declared.hygiene.local_names.BindingState.{BindingState}
use Rattle.mbe_rewriter.specs.declared.hygiene.local_names.BindingState.TheVariants.{Unbound}
use Rattle.mbe_rewriter.specs.Hygiene.Laws.{IsIn, IsDecided, IsListed, EachIsSettled}
use Rattle.mbe_rewriter.specs.Hygiene.LocalNames.{Word, locals, is_shared, is_undecided_use, undecided_use_at}
use Rattle.mbe_rewriter.specs.Hygiene.LocalNames.{undecided_uses, has_undecided_use, is_met, is_in_doubt, after_word}
use Rattle.mbe_rewriter.specs.Hygiene.LocalNames.{undecided_uses_of, undecided_of}
use Rattle.mbe_rewriter.specs.Hygiene.Renamer.{words_in}
use Rattle.mbe_rewriter.proofs.Renaming.SameLemmas.{true_or_false, both}

in_left : {A : Type 0} (x : A) (xs ys : List A) → IsIn x xs → IsIn x (xs ++ ys)
in_left x [] ys i = absurd i
in_left x (y ∷ xs) ys i = elim i [
  | inl e ↦ inl e
  | inr h ↦ inr (in_left x xs ys h)
]

in_right : {A : Type 0} (x : A) (xs ys : List A) → IsIn x ys → IsIn x (xs ++ ys)
in_right x [] ys i = i
in_right x (y ∷ xs) ys i = inr (in_right x xs ys i)

-- one of the uses is of that local
abbrev HasUse : Word → List UndecidedUse → Type 0
HasUse w us = (u : UndecidedUse) × IsIn u us × (u.bound ≡ w.span)

has_use : (w : Word) (p : BindingState) (vs : List Word) → has_undecided_use w p vs ≡ true
    → HasUse w (undecided_uses w p vs)
has_use w p [] e = absurd (both true true refl (sym e))
has_use w p (v ∷ vs) e = elim (true_or_false (is_undecided_use w p v)) [
  | inl h ↦
      let u : UndecidedUse = record { bound = w.span; place = v.span } in
      let here : IsIn u (undecided_use_at w p v) = rw h (inl refl) in
      (u, in_left u (undecided_use_at w p v) (undecided_uses w (after_word w p v) vs) here, refl)
  | inr h ↦
      let rest : has_undecided_use w (after_word w p v) vs ≡ true =
      sym (ap (λ b. b || has_undecided_use w (after_word w p v) vs) h) ∙ e in
      let found = has_use w (after_word w p v) vs rest in (
        found.0,
        in_right found.0 (undecided_use_at w p v) (undecided_uses w (after_word w p v) vs) found.1,
        found.2,
      )
]

-- the uses of each local are listed
listed_of : (ws : List Word) (names : List (List ℕ)) (ls : List Word) (b : Word) → IsIn b ls
    → HasUse b (undecided_uses_of ws names b) → HasUse b (undecided_of ws names ls)
listed_of ws names [] b i h = absurd i
listed_of ws names (w ∷ ls) b i h = elim i [
  | inl e ↦
      let here = subst (λ x. IsIn h.0 (undecided_uses_of ws names x)) e h.1 in
      (h.0, in_left h.0 (undecided_uses_of ws names w) (undecided_of ws names ls) here, h.2)
  | inr j ↦
      let found = listed_of ws names ls b j h in
      (found.0, in_right found.0 (undecided_uses_of ws names w) (undecided_of ws names ls) found.1, found.2)
]

all_three : (a b c : Bool) → a ≡ true → b ≡ true → c ≡ true → (a && (b && c)) ≡ true
all_three true true c ea eb ec = ec
all_three true false c ea eb ec = eb
all_three false b c ea eb ec = ea

-- the uses of a local in doubt
doubted : (ws : List Word) (names : List (List ℕ)) (b : Word) → is_in_doubt ws names b ≡ true
    → HasUse b (undecided_uses b Unbound ws) → HasUse b (undecided_uses_of ws names b)
doubted ws names b e h =
    subst (λ x. HasUse b (if x then undecided_uses b Unbound ws else [])) (sym e) h

settled : (names : List (List ℕ)) (ws : List Word) (b : Word) → IsIn b (locals ws)
    → IsDecided names ws b ⊎ (IsListed names ws b ⊎ (is_met names b Unbound ws ≡ false))
settled names ws b i = elim (true_or_false (has_undecided_use b Unbound ws)) [
  | inr n ↦ inl (record { bound = i; decided = λ e. n })
  | inl d ↦ elim (true_or_false (is_shared ws names b)) [
    | inr n ↦ inl (record { bound = i; decided = λ e. absurd (both (is_shared ws names b) true e n) })
    | inl s ↦ elim (true_or_false (is_met names b Unbound ws)) [
      | inr n ↦ inr (inr n)
      | inl m ↦
          let doubt = all_three (is_shared ws names b) (has_undecided_use b Unbound ws)
          (is_met names b Unbound ws) s d m in
          inr (inl (listed_of ws names (locals ws) b i (doubted ws names b doubt (has_use b Unbound ws d))))
    ]
  ]
]

pub each_is_settled : EachIsSettled
each_is_settled names ns f b i = settled names (words_in ns f) b i
