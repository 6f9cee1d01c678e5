-- The last number that passes a test, looked for from above.
use Rattle.std.proofs.Common.{◌≡◌, ℕ, zero, suc, ◌-◌, ◌<◌, ◌≤◌, Bool, true, false, List, Option, Some, None, refl, ap, sym}
use Rattle.std.proofs.Common.{◌∙◌, ◌+◌, ◌&&◌, ◌||◌, length, take, get_or, ⊎_elim, ap₂, arith}
use Rattle.std.proofs.lemmas.Bool.{cases_lt}
use Rattle.std.proofs.lemmas.List.{take_all}
use Rattle.std.proofs.lemmas.List.Folds.{list_any_more}
use Rattle.std.specs.Prelude.{if◌then◌else◌, option_and_then}
use Rattle.std.specs.List.{list_any, slice_get}
use Rattle.mbe_session.specs.Scopes.{last_below}

pub one_more : (n : ℕ) → 0 < n → n ≡ suc (n - 1)
one_more n h = omega (arith, h)

below_suc : (p : ℕ → Bool) (n : ℕ) → last_below p (suc n) ≡ (if p n then Some n else last_below p n)
unfolding last_below
below_suc p n = refl

below_by : (p : ℕ → Bool) (n : ℕ) → 0 < n → last_below p n ≡ (if p (n - 1) then Some (n - 1) else last_below p (n - 1))
below_by p n h = ap (last_below p) (one_more n h) ∙ below_suc p (n - 1)

-- one that fails
pub below_on : (p : ℕ → Bool) (n : ℕ) (whole : Option ℕ) → 0 < n → last_below p n ≡ whole → p (n - 1) ≡ false
    → last_below p (n - 1) ≡ whole
below_on p n whole h w f = sym (below_by p n h ∙ ap (λ b. if b then Some (n - 1) else last_below p (n - 1)) f) ∙ w

-- one that passes
pub below_here : (p : ℕ → Bool) (n : ℕ) (whole : Option ℕ) → 0 < n → last_below p n ≡ whole → p (n - 1) ≡ true
    → Some (n - 1) ≡ whole
below_here p n whole h w t = sym (below_by p n h ∙ ap (λ b. if b then Some (n - 1) else last_below p (n - 1)) t) ∙ w

-- none is left
pub below_none : (p : ℕ → Bool) (n : ℕ) (whole : Option ℕ) → n ≡ 0 → last_below p n ≡ whole → None ≡ whole
unfolding last_below
below_none p n whole e w = sym (ap (last_below p) e) ∙ w

-- what the last one means
pub near_here : (visible : List ℕ) (found : Option ℕ) (n : ℕ) (last : Option ℕ) → found ≡ slice_get visible n
    → Some n ≡ last
    → found ≡ option_and_then (slice_get visible) last
near_here visible found n last e h = e ∙ ap (option_and_then (slice_get visible)) h

pub near_none : (visible : List ℕ) (last : Option ℕ) → None ≡ last → None ≡ option_and_then (slice_get visible) last
near_none visible last h = ap (option_and_then (slice_get visible)) h

-- all numbers from `m` on fail
pub below_past : (p : ℕ → Bool) (m n : ℕ) → m ≤ n → ((k : ℕ) → m ≤ k → k < n → p k ≡ false)
    → last_below p m ≡ last_below p n
below_past p m zero few fails = let none : m ≡ 0 = omega (arith, few) in ap (last_below p) none
below_past p m (suc n) few fails =
    ⊎_elim (λ more. let all : m ≡ suc n = omega (arith, few, more) in ap (last_below p) all)
    (λ some. below_past p m n some (λ k a b. fails k a (omega (arith, b)))
    ∙ sym (below_suc p n ∙ ap (λ b. if b then Some n else last_below p n) (fails n some (omega arith))))
    (cases_lt n m)

-- ---- the definitions of a crate

-- one range on
pub ends_on : {X : Type 0} (named : ℕ → X → Bool) (xs : List X) (i old new most : ℕ) (x : X)
    → i < length xs → x ≡ get_or xs i x → old ≤ new
    → ((n : ℕ) → old ≤ n → n < most → list_any (named n) (take i xs) ≡ false)
    → ((n : ℕ) → new ≤ n → n < most → named n x ≡ false)
    → (n : ℕ) → new ≤ n → n < most → list_any (named n) (take (i + 1) xs) ≡ false
ends_on named xs i old new most x more is le before here n a b =
    list_any_more (named n) xs i x more
    ∙ ap₂ (λ u v. u || v) (before n (omega (arith, le, a)) b) (ap (named n) (sym is) ∙ here n a b)

-- all ranges
pub ends_all : {X : Type 0} (named : ℕ → X → Bool) (xs : List X) (i end most : ℕ) → length xs ≤ i
    → ((n : ℕ) → end ≤ n → n < most → list_any (named n) (take i xs) ≡ false)
    → (n : ℕ) → end ≤ n → n < most → list_any (named n) xs ≡ false
ends_all named xs i end most all before n a b = ap (list_any (named n)) (sym (take_all i xs all)) ∙ before n a b

-- ---- where a lookup ends

-- what isn't searched isn't found
pub not_searched : (admitted found : ℕ → Bool) (m n : ℕ) → m ≤ n
    → ((k : ℕ) → m ≤ k → k < n → admitted k ≡ false)
    → last_below (λ k. admitted k && found k) m ≡ last_below (λ k. admitted k && found k) n
not_searched admitted found m n le past =
    below_past (λ k. admitted k && found k) m n le (λ k a b. ap (λ c. c && found k) (past k a b))
