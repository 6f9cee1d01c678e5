-- The first name that isn't taken: one number more.
use Rattle.std.proofs.Common.{◌≡◌, ℕ, zero, suc, ◌+◌, ◌-◌, ◌<◌, ◌≤◌, ◌^◌, Bool, true, false, List, refl, ap, sym, subst}
use Rattle.std.proofs.Common.{◌∙◌, arith}
use Rattle.mbe_rewriter.specs.Hygiene.LocalNames.{numbered, first_free}

pub taken_step : (taken : List ℕ → Bool) (text : List ℕ) (k n : ℕ) → taken (numbered text n) ≡ true
    → first_free taken text (suc k) n ≡ first_free taken text k (suc n)
unfolding first_free
taken_step taken text k n h = rw h refl

pub free_step : (taken : List ℕ → Bool) (text : List ℕ) (k n : ℕ) → taken (numbered text n) ≡ false
    → first_free taken text (suc k) n ≡ numbered text n
unfolding first_free
free_step taken text k n h = rw h refl

pub path_goes_further : (taken : List ℕ → Bool) (text : List ℕ) (m n : ℕ) → n < m → taken (numbered text n) ≡ true
    → first_free taken text (m - n) n ≡ first_free taken text (m - (n + 1)) (n + 1)
path_goes_further taken text m n h t =
    let one : m - n ≡ suc (m - (n + 1)) = omega (arith, h) in
    let next : suc n ≡ n + 1 = omega arith in
    ap (λ k. first_free taken text k n) one ∙ taken_step taken text (m - (n + 1)) n t
    ∙ ap (first_free taken text (m - (n + 1))) next

pub is_found : (taken : List ℕ → Bool) (text : List ℕ) (m n : ℕ) → n < m → taken (numbered text n) ≡ false
    → first_free taken text (m - n) n ≡ numbered text n
is_found taken text m n h t =
    let one : m - n ≡ suc (m - (n + 1)) = omega (arith, h) in
    ap (λ k. first_free taken text k n) one ∙ free_step taken text (m - (n + 1)) n t

pub is_last : (taken : List ℕ → Bool) (text : List ℕ) (m n : ℕ) → n ≡ m
    → first_free taken text (m - n) n ≡ numbered text m
unfolding first_free
is_last taken text m n e =
    let none_left : m - n ≡ 0 = omega (arith, e) in
    ap (λ k. first_free taken text k n) none_left ∙ ap (numbered text) e

-- the numbers up to this one are taken
pub record Trying (taken : List ℕ → Bool) (text : List ℕ) (n : ℕ) (all : List ℕ) : Type 0 where
  pub most : n ≤ 18446744073709551615
  pub same : first_free taken text (18446744073709551615 - n) n ≡ all

pub begins : (taken : List ℕ → Bool) (text all : List ℕ) → all ≡ first_free taken text (2 ^ 64 - 2) 1
    → Trying taken text 1 all
begins taken text all e = record { most = omega arith; same = sym e }

pub tried : (taken : List ℕ → Bool) (text name all : List ℕ) (n : ℕ) → n < 18446744073709551615
    → name ≡ numbered text n → taken name ≡ true → Trying taken text n all → Trying taken text (n + 1) all
tried taken text name all n h e t w = record {
  most = omega (arith, h);
  same = sym (path_goes_further taken text 18446744073709551615 n h (sym (ap taken e) ∙ t)) ∙ w.same;
}

pub found : (taken : List ℕ → Bool) (text name all : List ℕ) (n : ℕ) → n < 18446744073709551615
    → name ≡ numbered text n → taken name ≡ false → Trying taken text n all → name ≡ all
found taken text name all n h e t w =
    e ∙ sym (is_found taken text 18446744073709551615 n h (sym (ap taken e) ∙ t)) ∙ w.same

pub all_tried : (taken : List ℕ → Bool) (text all : List ℕ) (n : ℕ) → 18446744073709551615 ≤ n
    → Trying taken text n all → numbered text n ≡ all
all_tried taken text all n h w =
    let e : n ≡ 18446744073709551615 = omega (arith, h, w.most) in
    ap (numbered text) e ∙ sym (is_last taken text 18446744073709551615 n e) ∙ w.same

-- ---- numbers that are taken already

-- numbers that were tried before need not be again
pub skips : (taken : List ℕ → Bool) (text all : List ℕ) (n : ℕ) → n < 2 ^ 64 - 1
    → ((k : ℕ) → k < n → taken (numbered text (1 + k)) ≡ true)
    → all ≡ first_free taken text (2 ^ 64 - 2) 1 → Trying taken text (1 + n) all
skips taken text all zero h f e = begins taken text all e
skips taken text all (suc n) h f e =
    let earlier = skips taken text all n (omega (arith, h)) (λ k l. f k (omega (arith, l))) e in
    let low : 1 + n < 2 ^ 64 - 1 = omega (arith, h) in
    let next = tried taken text (numbered text (1 + n)) all (1 + n) low refl (f n (omega arith)) earlier in
    let same : 1 + n + 1 ≡ 1 + suc n = omega arith in
    subst (λ m. Trying taken text m all) same next
