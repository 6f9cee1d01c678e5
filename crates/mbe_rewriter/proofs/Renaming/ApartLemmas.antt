-- One name for one local.
use Rattle.std.proofs.Common.{◌≡◌, ℕ, zero, suc, ◌+◌, ◌-◌, ◌*◌, ◌^◌, ◌<◌, ◌≤◌, Bool, true, false, List, [], ◌∷◌, ◌++◌}
use Rattle.std.proofs.Common.{length, refl, ap, sym, ◌∙◌, ◌⊎◌, inl, inr, Some, None, Option, arith, length-append}
use Rattle.std.specs.Prelude.{◌==◌, ◌&&◌, ◌||◌, not, if◌then◌else◌, codes, decimal}
use Rattle.std.specs.Str.{bytes_eq}
use Rattle.std.proofs.lemmas.Bool.{eqb-true}
use Rattle.std.proofs.lemmas.Fmt.{decimal_injective}
use Rattle.std.proofs.lemmas.List.{append_cancel_left}
use Rattle.mbe_rewriter.specs.Hygiene.Laws.{IsIn, IsDecided, OneNameEach, NoNameAround}
use Rattle.mbe_rewriter.specs.Hygiene.LocalNames.{Word, context, is_nested_role, is_same_namespace, is_same, is_binding}
use Rattle.mbe_rewriter.specs.Hygiene.LocalNames.{contains_word, with_local, locals_from, locals, is_written, is_other}
use Rattle.mbe_rewriter.specs.Hygiene.LocalNames.{has_other, contains_name, is_shared, Naming, naming, is_word}
use Rattle.mbe_rewriter.specs.Hygiene.LocalNames.{is_given, is_taken, numbered, first_free, fresh, is_renamed}
use Rattle.mbe_rewriter.specs.Hygiene.LocalNames.{with_name, names_from, namings, name_in, or_own, new_name}
use Rattle.mbe_rewriter.specs.Hygiene.Renamer.{words_in}
use Rattle.mbe_rewriter.proofs.Renaming.FreshLemmas.{taken_step, free_step}
use Rattle.mbe_rewriter.proofs.Renaming.SameLemmas.{true_or_false, both, and_right, or_cases, or_left, or_right}
use Rattle.mbe_rewriter.proofs.Renaming.SameLemmas.{neither_left, neither_right, neither, same_text, text_same}
use Rattle.mbe_rewriter.proofs.Renaming.SameLemmas.{not_same, same_other_way, not_aside, not_aside_either, Same}
use Rattle.mbe_rewriter.proofs.Renaming.SameLemmas.{same_from, same_to, same_sym, same_trans, new_name_same, here_named}
use Rattle.mbe_rewriter.proofs.Renaming.SameLemmas.{later_named}

-- ---- a new name that isn't taken

-- the texts that are taken
word_texts : List Word → List (List ℕ)
word_texts [] = []
word_texts (w ∷ ws) = w.text ∷ word_texts ws

given_texts : List Naming → List (List ℕ)
given_texts [] = []
given_texts (n ∷ ns) = n.name ∷ given_texts ns

length-word_texts : (ws : List Word) → length (word_texts ws) ≡ length ws
unfolding word_texts
length-word_texts [] = refl
length-word_texts (w ∷ ws) = ap suc (length-word_texts ws)

length-given_texts : (ns : List Naming) → length (given_texts ns) ≡ length ns
unfolding given_texts
length-given_texts [] = refl
length-given_texts (n ∷ ns) = ap suc (length-given_texts ns)

among_left : (xs ys : List (List ℕ)) (t : List ℕ) → contains_name xs t ≡ true → contains_name (xs ++ ys) t ≡ true
among_left [] ys t e = cc
among_left (x ∷ xs) ys t e = elim (or_cases (bytes_eq x t) (contains_name xs t) e) [
  | inl h ↦ or_left (bytes_eq x t) (contains_name (xs ++ ys) t) h
  | inr h ↦ or_right (bytes_eq x t) (contains_name (xs ++ ys) t) (among_left xs ys t h)
]

among_right : (xs ys : List (List ℕ)) (t : List ℕ) → contains_name ys t ≡ true → contains_name (xs ++ ys) t ≡ true
among_right [] ys t e = e
among_right (x ∷ xs) ys t e =
    or_right (bytes_eq x t) (contains_name (xs ++ ys) t) (among_right xs ys t e)

word_among : (ws : List Word) (t : List ℕ) → is_word ws t ≡ true → contains_name (word_texts ws) t ≡ true
unfolding word_texts
word_among [] t e = cc
word_among (w ∷ ws) t e = elim (or_cases (is_written w t) (is_word ws t) e) [
  | inl h ↦ or_left (bytes_eq w.text t) (contains_name (word_texts ws) t)
      (and_right (not (is_nested_role w.role)) (bytes_eq w.text t) h)
  | inr h ↦ or_right (bytes_eq w.text t) (contains_name (word_texts ws) t) (word_among ws t h)
]

given_among : (ns : List Naming) (t : List ℕ) → is_given ns t ≡ true → contains_name (given_texts ns) t ≡ true
unfolding given_texts
given_among [] t e = e
given_among (n ∷ ns) t e = elim (or_cases (bytes_eq n.name t) (is_given ns t) e) [
  | inl h ↦ or_left (bytes_eq n.name t) (contains_name (given_texts ns) t) h
  | inr h ↦ or_right (bytes_eq n.name t) (contains_name (given_texts ns) t) (given_among ns t h)
]

taken_texts : List Word → List (List ℕ) → List Naming → List (List ℕ)
taken_texts ws names given = word_texts ws ++ (names ++ given_texts given)

taken_among : (ws : List Word) (names : List (List ℕ)) (given : List Naming) (t : List ℕ)
    → is_taken ws names given t ≡ true → contains_name (taken_texts ws names given) t ≡ true
unfolding taken_texts
taken_among ws names given t e =
    elim (or_cases (is_word ws t) (contains_name names t || is_given given t) e) [
      | inl h ↦ among_left (word_texts ws) (names ++ given_texts given) t (word_among ws t h)
      | inr h ↦ among_right (word_texts ws) (names ++ given_texts given) t
          (elim (or_cases (contains_name names t) (is_given given t) h) [
            | inl i ↦ among_left names (given_texts given) t i
            | inr i ↦ among_right names (given_texts given) t (given_among given t i)
          ])
    ]

length-taken_texts : (ws : List Word) (names : List (List ℕ)) (given : List Naming)
    → length (taken_texts ws names given) ≡ length ws + (length names + length given)
unfolding taken_texts
length-taken_texts ws names given =
    let a = length-append (word_texts ws) (names ++ given_texts given) in
    let b = length-append names (given_texts given) in
    let c = length-word_texts ws in
    let d = length-given_texts given in
    omega (arith, a, b, c, d)

-- without one of a text
without : List ℕ → List (List ℕ) → List (List ℕ)
without t [] = []
without t (x ∷ xs) = if bytes_eq x t then xs else x ∷ without t xs

length-without : (t : List ℕ) (xs : List (List ℕ)) → contains_name xs t ≡ true
    → length xs ≡ length (without t xs) + 1
unfolding without
length-without t [] e = cc
length-without t (x ∷ xs) e = elim (true_or_false (bytes_eq x t)) [
  | inl h ↦ let same = ap (λ b. length (if b then xs else x ∷ without t xs)) h in omega (arith, same)
  | inr h ↦
      let same = ap (λ b. length (if b then xs else x ∷ without t xs)) h in
      let later : contains_name xs t ≡ true = sym (ap (λ b. b || contains_name xs t) h) ∙ e in
      let more = length-without t xs later in
      omega (arith, same, more)
]

among_without : (t u : List ℕ) (xs : List (List ℕ)) → bytes_eq t u ≡ false → contains_name xs u ≡ true
    → contains_name (without t xs) u ≡ true
unfolding without
among_without t u [] n e = e
among_without t u (x ∷ xs) n e = elim (true_or_false (bytes_eq x t)) [
  | inl h ↦
      let other : bytes_eq x u ≡ false = ap (λ y. bytes_eq y u) (same_text x t h) ∙ n in
      ap (λ b. contains_name (if b then xs else x ∷ without t xs) u) h
      ∙ (sym (ap (λ b. b || contains_name xs u) other) ∙ e)
  | inr h ↦
      ap (λ b. contains_name (if b then xs else x ∷ without t xs) u) h
      ∙ elim (or_cases (bytes_eq x u) (contains_name xs u) e) [
        | inl i ↦ or_left (bytes_eq x u) (contains_name (without t xs) u) i
        | inr i ↦ or_right (bytes_eq x u) (contains_name (without t xs) u) (among_without t u xs n i)
      ]
]

-- other numbers make other names
other_number : (text : List ℕ) (m n : ℕ) → m < 2 ^ 64 → n < 2 ^ 64 → m < n
    → bytes_eq (numbered text m) (numbered text n) ≡ false
other_number text m n hm hn less =
    not_same (numbered text m) (numbered text n)
    (λ e. let tails = append_cancel_left text (codes "_" ++ decimal m) (codes "_" ++ decimal n) e in
    let digits = append_cancel_left (codes "_") (decimal m) (decimal n) tails in
    let same = decimal_injective m n hm hn digits in
    omega (arith, same, less))

last_step : (taken : List ℕ → Bool) (text : List ℕ) (n : ℕ) → first_free taken text zero n ≡ numbered text n
unfolding first_free
last_step taken text n = refl

nothing_among : (xs : List (List ℕ)) (t : List ℕ) → length xs ≤ 0 → contains_name xs t ≡ false
nothing_among [] t h = refl
nothing_among (x ∷ xs) t h = absurd (omega (arith, h))

-- where no more names are taken than are tried, one is free
pub first_is_free : (taken : List ℕ → Bool) (text : List ℕ) (k n : ℕ) (xs : List (List ℕ)) → length xs ≤ k
    → n + k < 2 ^ 64
    → ((m : ℕ) → n ≤ m → m < 2 ^ 64 → taken (numbered text m) ≡ true → contains_name xs (numbered text m) ≡ true)
    → taken (first_free taken text k n) ≡ false
first_is_free taken text zero n xs few small h =
    ap taken (last_step taken text n) ∙ elim (true_or_false (taken (numbered text n))) [
      | inl e ↦ absurd (both (contains_name xs (numbered text n)) true
          (h n (omega arith) (omega (arith, small)) e) (nothing_among xs (numbered text n) few))
      | inr e ↦ e
    ]
first_is_free taken text (suc k) n xs few small h = elim (true_or_false (taken (numbered text n))) [
  | inr e ↦ ap taken (free_step taken text k n e) ∙ e
  | inl e ↦
      let here : contains_name xs (numbered text n) ≡ true = h n (omega arith) (omega (arith, small)) e in
      let fewer = length-without (numbered text n) xs here in
      ap taken (taken_step taken text k n e)
      ∙ first_is_free taken text k (suc n) (without (numbered text n) xs) (omega (arith, few, fewer))
      (omega (arith, small))
      (λ m least most t. among_without (numbered text n) (numbered text m) xs
      (other_number text n m (omega (arith, small)) most (omega (arith, least)))
      (h m (omega (arith, least)) most t))
]

fresh_is_free : (ws : List Word) (names : List (List ℕ)) (given : List Naming) (text : List ℕ)
    → length ws + (length names + length given) < 2 ^ 63 → is_taken ws names given (fresh ws names given text) ≡ false
unfolding fresh
fresh_is_free ws names given text small =
    let few = length-taken_texts ws names given in
    first_is_free (is_taken ws names given) text (2 ^ 64 - 2) 1 (taken_texts ws names given) (omega (arith, few, small))
    (omega arith) (λ m least most t. taken_among ws names given (numbered text m) t)

-- ---- the names that are given

-- each is no word of the trees, and none around them, and none that comes later
abbrev Fine : List Word → List (List ℕ) → List Naming → Type 0
Fine ws names [] = Unit {0}
Fine ws names (n ∷ ns) =
    (is_word ws n.name ≡ false) × (contains_name names n.name ≡ false) × (is_given ns n.name ≡ false)
    × Fine ws names ns

not_given_more : (given : List Naming) (w : Word) (name t : List ℕ) → is_given given t ≡ false → bytes_eq name t ≡ false
    → is_given (given ++ (naming w name ∷ [])) t ≡ false
not_given_more [] w name t e f = neither (bytes_eq name t) false f refl
not_given_more (n ∷ ns) w name t e f =
    neither (bytes_eq n.name t) (is_given (ns ++ (naming w name ∷ [])) t)
    (neither_left (bytes_eq n.name t) (is_given ns t) e)
    (not_given_more ns w name t (neither_right (bytes_eq n.name t) (is_given ns t) e) f)

fine_more : (ws : List Word) (names : List (List ℕ)) (given : List Naming) (w : Word) (name : List ℕ)
    → Fine ws names given → is_word ws name ≡ false → contains_name names name ≡ false → is_given given name ≡ false
    → Fine ws names (given ++ (naming w name ∷ []))
fine_more ws names [] w name h a b c = (a, b, refl, tt)
fine_more ws names (n ∷ ns) w name h a b c =
    let apart = neither_left (bytes_eq n.name name) (is_given ns name) c in (
      h.0,
      h.1,
      not_given_more ns w name n.name h.2 (same_other_way n.name name apart),
      fine_more ws names ns w name h.3 a b (neither_right (bytes_eq n.name name) (is_given ns name) c),
    )

with_fine : (ws : List Word) (names : List (List ℕ)) (given : List Naming) (w : Word)
    → length ws + (length names + length given) < 2 ^ 63 → Fine ws names given
    → Fine ws names (with_name ws names given w)
with_fine ws names given w small h =
    let name = fresh ws names given w.text in
    let free = fresh_is_free ws names given w.text small in
    let others = neither_right (is_word ws name) (contains_name names name || is_given given name) free in
    elim (is_renamed ws names w) as (λ b. Fine ws names (if b then given ++ (naming w name ∷ []) else given)) [
      | true ↦ fine_more ws names given w name h
          (neither_left (is_word ws name) (contains_name names name || is_given given name) free)
          (neither_left (contains_name names name) (is_given given name) others)
          (neither_right (contains_name names name) (is_given given name) others)
      | false ↦ h
    ]

with_length : (ws : List Word) (names : List (List ℕ)) (given : List Naming) (w : Word)
    → length (with_name ws names given w) ≤ length given + 1
with_length ws names given w =
    let name = fresh ws names given w.text in
    let more = length-append given (naming w name ∷ []) in
    elim (is_renamed ws names w)
    as (λ b. length (if b then given ++ (naming w name ∷ []) else given) ≤ length given + 1) [
      | true ↦ omega (arith, more)
      | false ↦ omega arith
    ]

names_fine : (ws : List Word) (names : List (List ℕ)) (more : List Word) (given : List Naming)
    → length ws + (length names + (length given + length more)) < 2 ^ 63 → Fine ws names given
    → Fine ws names (names_from ws names given more)
names_fine ws names [] given small h = h
names_fine ws names (w ∷ more) given small h =
    let grown = with_length ws names given w in
    names_fine ws names more (with_name ws names given w) (omega (arith, small, grown))
    (with_fine ws names given w (omega (arith, small)) h)

with_local_length : (found : List Word) (w : Word) → length (with_local found w) ≤ length found + 1
with_local_length found w =
    let more = length-append found (w ∷ []) in
    elim (is_binding w && not (contains_word found w))
    as (λ b. length (if b then found ++ (w ∷ []) else found) ≤ length found + 1) [
      | true ↦ omega (arith, more)
      | false ↦ omega arith
    ]

locals_length : (ws found : List Word) → length (locals_from found ws) ≤ length found + length ws
locals_length [] found = omega arith
locals_length (w ∷ ws) found =
    let one = with_local_length found w in
    let others = locals_length ws (with_local found w) in
    omega (arith, one, others)

namings_fine : (ws : List Word) (names : List (List ℕ)) → 2 * length ws + length names < 2 ^ 63
    → Fine ws names (namings ws names)
namings_fine ws names small =
    let few = locals_length ws [] in
    names_fine ws names (locals ws) [] (omega (arith, small, few)) tt

-- ---- names of words

same_some : (x y : List ℕ) → Some x ≡ Some y → x ≡ y
same_some x y e = cc

some_or_none : (o : Option (List ℕ)) → ((x : List ℕ) × (o ≡ Some x)) ⊎ (o ≡ None)
some_or_none None = inr refl
some_or_none (Some x) = inl (x, refl)

given_name : (given : List Naming) (v : Word) (x : List ℕ) → name_in given v ≡ Some x → is_given given x ≡ true
given_name [] v x e = cc
given_name (n ∷ ns) v x e = elim (true_or_false (is_same n.local v)) [
  | inl h ↦ or_left (bytes_eq n.name x) (is_given ns x)
      (text_same n.name x (same_some n.name x (sym (here_named n ns v h) ∙ e)))
  | inr h ↦ or_right (bytes_eq n.name x) (is_given ns x) (given_name ns v x (sym (later_named n ns v h) ∙ e))
]

free_name : (ws : List Word) (names : List (List ℕ)) (given : List Naming) (v : Word) (x : List ℕ)
    → Fine ws names given → name_in given v ≡ Some x → (is_word ws x ≡ false) × (contains_name names x ≡ false)
free_name ws names [] v x h e = cc
free_name ws names (n ∷ ns) v x h e = elim (true_or_false (is_same n.local v)) [
  | inl i ↦
      let same = same_some n.name x (sym (here_named n ns v i) ∙ e) in
      (sym (ap (is_word ws) same) ∙ h.0, sym (ap (contains_name names) same) ∙ h.1)
  | inr i ↦ free_name ws names ns v x h.3 (sym (later_named n ns v i) ∙ e)
]

-- the first of these has a name that no later one has
first_apart : (n : Naming) (ns : List Naming) (v w : Word) (x : List ℕ) → is_given ns n.name ≡ false
    → is_same n.local v ≡ true → is_same n.local w ≡ false → name_in (n ∷ ns) v ≡ Some x → name_in (n ∷ ns) w ≡ Some x
    → ⊥
first_apart n ns v w x free hv hw ev ew =
    let same = same_some n.name x (sym (here_named n ns v hv) ∙ ev) in
    let later = given_name ns w x (sym (later_named n ns w hw) ∙ ew) in
    both (is_given ns n.name) true (ap (is_given ns) same ∙ later) free

one_local : (ws : List Word) (names : List (List ℕ)) (given : List Naming) (v w : Word) (x : List ℕ)
    → Fine ws names given → name_in given v ≡ Some x → name_in given w ≡ Some x → Same v w
one_local ws names [] v w x h ev ew = cc
one_local ws names (n ∷ ns) v w x h ev ew =
    elim (true_or_false (is_same n.local v)) [
      | inl hv ↦ elim (true_or_false (is_same n.local w)) [
        | inl hw ↦ same_trans v n.local w (same_sym n.local v (same_from n.local v hv)) (same_from n.local w hw)
        | inr hw ↦ absurd (first_apart n ns v w x h.2 hv hw ev ew)
      ]
      | inr hv ↦ elim (true_or_false (is_same n.local w)) [
        | inl hw ↦ absurd (first_apart n ns w v x h.2 hw hv ew ev)
        | inr hw ↦ one_local ws names ns v w x h.3 (sym (later_named n ns v hv) ∙ ev) (sym (later_named n ns w hw) ∙ ew)
      ]
    ]

-- ---- each local that is renamed has a name

stays_named : (given more : List Naming) (v : Word) (x : List ℕ) → name_in given v ≡ Some x
    → name_in (given ++ more) v ≡ Some x
stays_named [] more v x e = cc
stays_named (n ∷ ns) more v x e = elim (true_or_false (is_same n.local v)) [
  | inl h ↦ here_named n (ns ++ more) v h ∙ (sym (here_named n ns v h) ∙ e)
  | inr h ↦ later_named n (ns ++ more) v h ∙ stays_named ns more v x (sym (later_named n ns v h) ∙ e)
]

with_stays : (ws : List Word) (names : List (List ℕ)) (given : List Naming) (w v : Word) (x : List ℕ)
    → name_in given v ≡ Some x → name_in (with_name ws names given w) v ≡ Some x
with_stays ws names given w v x e =
    let name = fresh ws names given w.text in
    elim (is_renamed ws names w)
    as (λ b. name_in (if b then given ++ (naming w name ∷ []) else given) v ≡ Some x) [
      | true ↦ stays_named given (naming w name ∷ []) v x e
      | false ↦ e
    ]

names_stay : (ws : List Word) (names : List (List ℕ)) (more : List Word) (given : List Naming) (v : Word) (x : List ℕ)
    → name_in given v ≡ Some x → name_in (names_from ws names given more) v ≡ Some x
names_stay ws names [] given v x e = e
names_stay ws names (w ∷ more) given v x e =
    names_stay ws names more (with_name ws names given w) v x (with_stays ws names given w v x e)

last_named : (given : List Naming) (w v : Word) (name : List ℕ) → is_same w v ≡ true
    → (x : List ℕ) × (name_in (given ++ (naming w name ∷ [])) v ≡ Some x)
last_named [] w v name h = (name, here_named (naming w name) [] v h)
last_named (n ∷ ns) w v name h = elim (true_or_false (is_same n.local v)) [
  | inl i ↦ (n.name, here_named n (ns ++ (naming w name ∷ [])) v i)
  | inr i ↦
      let later = last_named ns w v name h in
      (later.0, later_named n (ns ++ (naming w name ∷ [])) v i ∙ later.1)
]

all_named : (ws : List Word) (names : List (List ℕ)) (more : List Word) (given : List Naming) (b v : Word)
    → IsIn b more → is_renamed ws names b ≡ true → is_same b v ≡ true
    → (x : List ℕ) × (name_in (names_from ws names given more) v ≡ Some x)
all_named ws names [] given b v h r s = absurd h
all_named ws names (w ∷ more) given b v h r s = elim h [
  | inl e ↦
      let name = fresh ws names given w.text in
      let renamed : is_renamed ws names w ≡ true = sym (ap (is_renamed ws names) e) ∙ r in
      let same : is_same w v ≡ true = sym (ap (λ y. is_same y v) e) ∙ s in
      let grown : with_name ws names given w ≡ given ++ (naming w name ∷ []) =
      ap (λ y. if y then given ++ (naming w name ∷ []) else given) renamed in
      let last = last_named given w v name same in (
        last.0,
        names_stay ws names more (with_name ws names given w) v last.0
            (ap (λ g. name_in g v) grown ∙ last.1),
      )
  | inr later ↦ all_named ws names more (with_name ws names given w) b v later r s
]

-- ---- words of the trees

written_in : (ws : List Word) (w : Word) → IsIn w ws → is_nested_role w.role ≡ false → is_word ws w.text ≡ true
written_in [] w h t = absurd h
written_in (v ∷ vs) w h t = elim h [
  | inl e ↦
      let here : is_written w w.text ≡ true = rw t (text_same w.text w.text refl) in
      or_left (is_written v w.text) (is_word vs w.text) (sym (ap (λ y. is_written y w.text) e) ∙ here)
  | inr later ↦ or_right (is_written v w.text) (is_word vs w.text) (written_in vs w later t)
]

other_in : (ws : List Word) (w b : Word) → IsIn w ws → has_other ws b ≡ false → is_other w b ≡ false
other_in [] w b h n = absurd h
other_in (v ∷ vs) w b h n = elim h [
  | inl e ↦ ap (λ y. is_other y b) e ∙ neither_left (is_other v b) (has_other vs b) n
  | inr later ↦ other_in vs w b later (neither_right (is_other v b) (has_other vs b) n)
]

among_in : (xs : List (List ℕ)) (t : List ℕ) → IsIn t xs → contains_name xs t ≡ true
among_in [] t h = absurd h
among_in (x ∷ xs) t h = elim h [
  | inl e ↦ or_left (bytes_eq x t) (contains_name xs t) (text_same x t (sym e))
  | inr later ↦ or_right (bytes_eq x t) (contains_name xs t) (among_in xs t later)
]

-- a word of that text that isn't of another context is of the same
no_other : (w b : Word) → is_other w b ≡ false → is_nested_role w.role ≡ false → w.text ≡ b.text → context w ≡ context b
no_other w b n t e =
    let written : is_written w b.text ≡ true = rw t (text_same w.text b.text e) in
    let apart : not (context w == context b) ≡ false =
    sym (ap (λ y. y && not (context w == context b)) written) ∙ n in
    eqb-true (context w) (context b) (elim (true_or_false (context w == context b)) [
      | inl y ↦ y
      | inr y ↦ absurd (both (not (context w == context b)) true (ap not y) apart)
    ])

-- a local that is decided and has no new name shares its name with no other
not_shared : (names : List (List ℕ)) (ws : List Word) (b v : Word) → IsDecided names ws b → is_same b v ≡ true
    → name_in (namings ws names) v ≡ None → is_shared ws names b ≡ false
not_shared names ws b v d s e = elim (true_or_false (is_shared ws names b)) [
  | inl shared ↦
      let renamed : is_renamed ws names b ≡ true = rw (shared, d.decided shared) refl in
      let count_named = all_named ws names (locals ws) [] b v d.bound renamed s in
      absurd (let f : Some count_named.0 ≡ None = sym count_named.1 ∙ e in cc)
  | inr alone ↦ alone
]

named_is : (given : List Naming) (v : Word) (x : List ℕ) → name_in given v ≡ Some x → new_name given v ≡ x
named_is given v x e = ap (or_own v.text) e

own_is : (given : List Naming) (v : Word) → name_in given v ≡ None → new_name given v ≡ v.text
own_is given v e = ap (or_own v.text) e

-- a new name is no word of the trees
new_and_own : (ws : List Word) (names : List (List ℕ)) (given : List Naming) (v w : Word) (x : List ℕ)
    → Fine ws names given → name_in given v ≡ Some x → IsIn w ws → is_nested_role w.role ≡ false → x ≡ w.text → ⊥
new_and_own ws names given v w x h e iw t same =
    both (is_word ws x) true (ap (is_word ws) same ∙ written_in ws w iw t) (free_name ws names given v x h e).0

-- neither has a new name
both_own : (names : List (List ℕ)) (ws : List Word) (b v w : Word) → IsDecided names ws b → is_same b v ≡ true
    → is_same_namespace v.role w.role ≡ true → IsIn w ws → is_nested_role w.role ≡ false
    → name_in (namings ws names) v ≡ None → v.text ≡ w.text → Same v w
both_own names ws b v w d s sort iw t nv e =
    let bv = same_from b v s in
    let alone = neither_left (has_other ws b) (contains_name names b.text) (not_shared names ws b v d s nv) in
    let same_context = no_other w b (other_in ws w b iw alone) t (sym e ∙ sym bv.text) in
    record { sort = sort; context = sym bv.context ∙ sym same_context; text = e }

one_name : (names : List (List ℕ)) (ws : List Word) (b v w : Word) → IsDecided names ws b
    → Fine ws names (namings ws names) → IsIn v ws → IsIn w ws → is_same b v ≡ true
    → is_same_namespace v.role w.role ≡ true → is_nested_role v.role ≡ false → is_nested_role w.role ≡ false
    → new_name (namings ws names) v ≡ new_name (namings ws names) w → Same v w
one_name names ws b v w d fine iv iw s sort tv t_w e =
    let given = namings ws names in
    elim (some_or_none (name_in given v)) [
      | inl x ↦ elim (some_or_none (name_in given w)) [
        | inl y ↦
            let same : x.0 ≡ y.0 = sym (named_is given v x.0 x.1) ∙ (e ∙ named_is given w y.0 y.1) in
            one_local ws names given v w x.0 fine x.1 (y.1 ∙ ap Some (sym same))
        | inr nw ↦ absurd (new_and_own ws names given v w x.0 fine x.1 iw t_w
            (sym (named_is given v x.0 x.1) ∙ (e ∙ own_is given w nw)))
      ]
      | inr nv ↦ elim (some_or_none (name_in given w)) [
        | inl y ↦ absurd (new_and_own ws names given w v y.0 fine y.1 iv tv
            (sym (named_is given w y.0 y.1) ∙ (sym e ∙ own_is given v nv)))
        | inr nw ↦ both_own names ws b v w d s sort iw t_w nv
            (sym (own_is given v nv) ∙ (e ∙ own_is given w nw))
      ]
    ]

pub one_name_each : OneNameEach
one_name_each names ns f b v w d small iv iw s sort =
    let ws = words_in ns f in
    let fine = namings_fine ws names small in (
      λ e. same_to v w (one_name names ws b v w d fine iv iw s sort (not_aside v.role w.role sort)
          (not_aside_either v.role w.role sort) e),
      λ e. new_name_same (namings ws names) v w (same_from v w e),
    )

pub no_name_around : NoNameAround
no_name_around names ns f b v d small s h =
    let ws = words_in ns f in
    let given = namings ws names in
    let fine = namings_fine ws names small in
    let around = among_in names (new_name given v) h in
    elim (some_or_none (name_in given v)) [
      | inl x ↦ both (contains_name names x.0) true
          (sym (ap (contains_name names) (named_is given v x.0 x.1)) ∙ around)
          (free_name ws names given v x.0 fine x.1).1
      | inr nv ↦
          let bv = same_from b v s in
          let alone = neither_right (has_other ws b) (contains_name names b.text) (not_shared names ws b v d s nv) in
          both (contains_name names b.text) true
          (sym (ap (contains_name names) (own_is given v nv ∙ sym bv.text)) ∙ around) alone
    ]
