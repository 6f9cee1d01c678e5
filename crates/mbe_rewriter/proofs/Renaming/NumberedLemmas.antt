-- Whether a name such as `a_1` is taken is seen by the words that end in a digit.
use Rattle.std.proofs.Common.{◌≡◌, ℕ, zero, suc, ◌+◌, ◌-◌, ◌%◌, ◌^◌, ◌<◌, Bool, true, List, [], ◌∷◌, ◌++◌, refl, ap}
use Rattle.std.proofs.Common.{sym, ◌∙◌, inl, inr, arith}
use Rattle.std.proofs.lemmas.Grind.{common_steps}
use Rattle.std.proofs.lemmas.List.{append_assoc}
use Rattle.std.proofs.lemmas.Fmt.{decimal_by_steps}
use Rattle.std.specs.Prelude.{◌||◌, codes, decimal, if◌then◌else◌}
use Rattle.mbe_rewriter.specs.Hygiene.Buckets.{ends_in_digit, numbered_words}
use Rattle.mbe_rewriter.specs.Hygiene.LocalNames.{Word, Naming, is_written, is_word, contains_name, is_given, is_taken}
use Rattle.mbe_rewriter.specs.Hygiene.LocalNames.{numbered, first_free, fresh, AreTaken}
use Rattle.mbe_rewriter.proofs.Renaming.SameLemmas.{true_or_false, both, not_same}

last_digit : (xs : List ℕ) (d : ℕ) → d < 10 → ends_in_digit (xs ++ ((48 + d) ∷ [])) ≡ true
last_digit xs d l = grind (arith, common_steps)

-- a number ends in a digit, whatever is before it
number_ends : (n : ℕ) → n < 2 ^ 64 → (xs : List ℕ) → ends_in_digit (xs ++ decimal n) ≡ true
number_ends =
    decimal_by_steps (λ n ds. (xs : List ℕ) → ends_in_digit (xs ++ ds) ≡ true) (λ n l xs. last_digit xs n l)
    (λ n ds l h xs. ap ends_in_digit (sym (append_assoc xs ds ((48 + n % 10) ∷ [])))
    ∙ last_digit (xs ++ ds) (n % 10) (omega arith))

name_ends : (text : List ℕ) (n : ℕ) → n < 2 ^ 64 → ends_in_digit (numbered text n) ≡ true
name_ends text n l =
    ap ends_in_digit (sym (append_assoc text (codes "_") (decimal n))) ∙ number_ends n l (text ++ codes "_")

-- a text that ends in a digit is a word's if it is that of a word that does
same_word : (ws : List Word) (t : List ℕ) → ends_in_digit t ≡ true → is_word (numbered_words ws) t ≡ is_word ws t
same_word [] t h = refl
same_word (v ∷ vs) t h = elim (true_or_false (ends_in_digit v.text)) [
  | inl e ↦ rw e (ap (λ b. is_written v t || b) (same_word vs t h))
  | inr e ↦ rw e (rw (not_same v.text t (λ s. both (ends_in_digit t) true h (ap ends_in_digit (sym s) ∙ e)))
      (grind (arith, same_word vs t h)))
]

same_taken : (ws : List Word) (names : List (List ℕ)) (given : List Naming) (text : List ℕ) (n : ℕ) → n < 2 ^ 64
    → is_taken (numbered_words ws) names given (numbered text n) ≡ is_taken ws names given (numbered text n)
same_taken ws names given text n l =
    let t = numbered text n in
    ap (λ b. b || (contains_name names t || is_given given t)) (same_word ws t (name_ends text n l))

same_first : (f g : List ℕ → Bool) (text : List ℕ) (k n : ℕ) → n + k < 2 ^ 64
    → ((m : ℕ) → m < 2 ^ 64 → f (numbered text m) ≡ g (numbered text m)) → first_free f text k n ≡ first_free g text k n
unfolding first_free
same_first f g text zero n l h = refl
same_first f g text (suc k) n l h =
    ap (λ b. if b then first_free f text k (suc n) else numbered text n) (h n (omega (arith, l)))
    ∙ ap (λ t. if g (numbered text n) then t else numbered text n) (same_first f g text k (suc n) (omega (arith, l)) h)

pub same_fresh : (ws : List Word) (names : List (List ℕ)) (given : List Naming) (text : List ℕ)
    → fresh (numbered_words ws) names given text ≡ fresh ws names given text
unfolding fresh
same_fresh ws names given text =
    same_first (is_taken (numbered_words ws) names given) (is_taken ws names given) text (2 ^ 64 - 2) 1 (omega arith)
    (same_taken ws names given text)

pub same_numbers : (ws : List Word) (names : List (List ℕ)) (given : List Naming)
    → AreTaken ws names given → AreTaken (numbered_words ws) names given
same_numbers ws names given h text n l m = same_taken ws names given text (1 + n) (omega (arith, m)) ∙ h text n l m
