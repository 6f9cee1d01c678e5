-- A new name takes one number more of its local's name.
use Rattle.std.proofs.Common.{◌≡◌, ℕ, ◌+◌, ◌-◌, ◌^◌, ◌<◌, ◌≤◌, Bool, true, false, List, [], ◌∷◌, ◌++◌, refl, ap, sym}
use Rattle.std.proofs.Common.{subst, ◌∙◌, inl, inr, arith}
use Rattle.std.specs.Prelude.{◌||◌, if◌then◌else◌}
use Rattle.std.specs.Str.{bytes_eq}
use Rattle.std.proofs.Math.Nat.{eq-or-lt_of_le}
use Rattle.mbe_rewriter.specs.Hygiene.LocalNames.{Word, Naming, naming, count_named, is_word, contains_name, is_given}
use Rattle.mbe_rewriter.specs.Hygiene.LocalNames.{is_taken}
use Rattle.mbe_rewriter.specs.Hygiene.LocalNames.{numbered, fresh, AreTaken, is_renamed, with_name}
use Rattle.mbe_rewriter.proofs.Renaming.SameLemmas.{true_or_false, or_cases, or_left, or_right, same_text, text_same}
use Rattle.mbe_rewriter.proofs.Renaming.FreshLemmas.{Trying, skips, found}

given_more : (given : List Naming) (x : Naming) (t : List ℕ)
    → is_given given t ≡ true → is_given (given ++ (x ∷ [])) t ≡ true
given_more [] x t e = cc
given_more (n ∷ ns) x t e = elim (or_cases (bytes_eq n.name t) (is_given ns t) e) [
  | inl h ↦ or_left (bytes_eq n.name t) (is_given (ns ++ (x ∷ [])) t) h
  | inr h ↦ or_right (bytes_eq n.name t) (is_given (ns ++ (x ∷ [])) t) (given_more ns x t h)
]

given_last : (given : List Naming) (x : Naming) (t : List ℕ) → x.name ≡ t → is_given (given ++ (x ∷ [])) t ≡ true
given_last [] x t e = or_left (bytes_eq x.name t) false (text_same x.name t e)
given_last (n ∷ ns) x t e = or_right (bytes_eq n.name t) (is_given (ns ++ (x ∷ [])) t) (given_last ns x t e)

-- what is given is taken
taken_of_given : (ws : List Word) (names : List (List ℕ)) (given : List Naming) (t : List ℕ)
    → is_given given t ≡ true → is_taken ws names given t ≡ true
taken_of_given ws names given t e =
    or_right (is_word ws t) _ (or_right (contains_name names t) (is_given given t) e)

-- what was taken is
still_skipped : (ws : List Word) (names : List (List ℕ)) (given : List Naming) (x : Naming) (t : List ℕ)
    → is_taken ws names given t ≡ true → is_taken ws names (given ++ (x ∷ [])) t ≡ true
still_skipped ws names given x t e = elim (or_cases (is_word ws t) (contains_name names t || is_given given t) e) [
  | inl h ↦ or_left (is_word ws t) _ h
  | inr h ↦ or_right (is_word ws t) _ (elim (or_cases (contains_name names t) (is_given given t) h) [
    | inl a ↦ or_left (contains_name names t) _ a
    | inr g ↦ or_right (contains_name names t) _ (given_more given x t g)
  ])
]

named_more : (given : List Naming) (x : Naming) (t : List ℕ)
    → count_named (given ++ (x ∷ [])) t ≡ count_named given t + (if bytes_eq x.local.text t then 1 else 0)
named_more [] x t = elim (true_or_false (bytes_eq x.local.text t)) [
  | inl e ↦ rw e refl
  | inr e ↦ rw e refl
]
named_more (n ∷ ns) x t = elim (true_or_false (bytes_eq n.local.text t)) [
  | inl e ↦ rw e (omega (arith, named_more ns x t))
  | inr e ↦ rw e (named_more ns x t)
]

-- the numbers that locals of the name have had need not be tried
pub begins_after : (ws : List Word) (names : List (List ℕ)) (given : List Naming) (text : List ℕ) (n : ℕ)
    → AreTaken ws names given → n ≡ count_named given text → n < 2 ^ 64 - 1
    → Trying (is_taken ws names given) text (1 + n) (fresh ws names given text)
unfolding fresh
begins_after ws names given text n h e l =
    skips (is_taken ws names given) text (fresh ws names given text) n l
    (λ k m. h text k (omega (arith, m, e)) (omega (arith, l, m))) refl

-- the next number is taken, or it is the one that is given
next_taken : (ws : List Word) (names : List (List ℕ)) (given : List Naming) (w : Word)
    → AreTaken ws names given → count_named given w.text < 2 ^ 64 - 2
    → is_taken ws names (given ++ (naming w (fresh ws names given w.text) ∷ []))
    (numbered w.text (1 + count_named given w.text)) ≡ true
next_taken ws names given w h l =
    let c = count_named given w.text in
    let taken = is_taken ws names given in
    let all = fresh ws names given w.text in
    let x = naming w all in
    let here = begins_after ws names given w.text c h refl (omega (arith, l)) in
    elim (true_or_false (taken (numbered w.text (1 + c)))) [
      | inl e ↦ still_skipped ws names given x (numbered w.text (1 + c)) e
      | inr e ↦ taken_of_given ws names (given ++ (x ∷ [])) (numbered w.text (1 + c))
          (given_last given x (numbered w.text (1 + c))
          (sym (found taken w.text (numbered w.text (1 + c)) all (1 + c) (omega (arith, l)) refl e here)))
    ]

-- the number that comes next for that name
last_taken : (ws : List Word) (names : List (List ℕ)) (given : List Naming) (w : Word) (text : List ℕ) (n : ℕ)
    → AreTaken ws names given → w.text ≡ text → n ≡ count_named given text → n < 2 ^ 64 - 2
    → is_taken ws names (given ++ (naming w (fresh ws names given w.text) ∷ [])) (numbered text (1 + n)) ≡ true
last_taken ws names given w text n h same e m =
    let taken = is_taken ws names (given ++ (naming w (fresh ws names given w.text) ∷ [])) in
    let count = ap (count_named given) same in
    ap (λ k. taken (numbered text (1 + k))) e
    ∙ sym (ap (λ t. taken (numbered t (1 + count_named given t))) same)
    ∙ next_taken ws names given w h (omega (arith, count, e, m))

pub taken_after : (ws : List Word) (names : List (List ℕ)) (given : List Naming) (w : Word)
    → AreTaken ws names given → AreTaken ws names (given ++ (naming w (fresh ws names given w.text) ∷ []))
taken_after ws names given w h text n l m =
    let x = naming w (fresh ws names given w.text) in
    let counted : Bool → ℕ = λ b. count_named given text + (if b then 1 else 0) in
    elim (true_or_false (bytes_eq w.text text)) [
      | inl s ↦
          (let one = named_more given x text ∙ ap counted s in
          let few : n ≤ count_named given text = omega (arith, l, one) in
          elim (eq-or-lt_of_le few) [
            | inl e ↦ last_taken ws names given w text n h (same_text w.text text s) e m
            | inr e ↦ still_skipped ws names given x (numbered text (1 + n)) (h text n e m)
          ])
      | inr s ↦
          (let none = named_more given x text ∙ ap counted s in
          still_skipped ws names given x (numbered text (1 + n)) (h text n (omega (arith, l, none)) m))
    ]

-- the new name of a local that is renamed comes last
pub with_name_is : (ws : List Word) (names : List (List ℕ)) (given : List Naming) (w : Word)
    → is_renamed ws names w ≡ true
    → with_name ws names given w ≡ given ++ (naming w (fresh ws names given w.text) ∷ [])
with_name_is ws names given w e = rw e refl

pub taken_with_name : (ws : List Word) (names : List (List ℕ)) (given : List Naming) (w : Word)
    → AreTaken ws names given → AreTaken ws names (with_name ws names given w)
taken_with_name ws names given w h = elim (true_or_false (is_renamed ws names w)) [
  | inl e ↦ subst (AreTaken ws names) (sym (with_name_is ws names given w e)) (taken_after ws names given w h)
  | inr e ↦ rw e h
]
