-- Places, and what is left there.
use Rattle.std.specs.Prelude.{◌≡◌, ◌≤◌, ◌+◌, ◌-◌, ℕ, zero, suc, Bool, true, false, if◌then◌else◌, nat_le, refl}
use Rattle.std.proofs.Common.{arith, ap, sym, ◌∙◌}
use Rattle.std.proofs.lemmas.Bool.{lt-leb, le-leb}
use Rattle.mbe_tt.specs.declared.tt.Delimiter.{Delimiter}
use Rattle.mbe_tt.specs.Trees.Tree.{Forest, none, leaf, group, append, flat_len, rest_at, depth_at}
use Rattle.mbe_tt.specs.Laws.TreeLaws.{RestAfterTrees, RestInGroup}
use Rattle.mbe_tt.proofs.Offsets.CutLemmas.{no_true}

-- h is what is left of f after some trees
abbrev pub IsRest : Forest → Forest → Type 0
IsRest f h = (t : Forest) × (append t h ≡ f)

pub append-none : (f : Forest) → append f none ≡ f
append-none none = refl
append-none (leaf l rest) = ap (leaf l) (append-none rest)
append-none (group d inside rest) = ap (group d inside) (append-none rest)

pub append-assoc : (a b h : Forest) → append a (append b h) ≡ append (append a b) h
append-assoc none b h = refl
append-assoc (leaf l rest) b h = ap (leaf l) (append-assoc rest b h)
append-assoc (group d inside rest) b h = ap (group d inside) (append-assoc rest b h)

-- after the opening of a group
rest_at-inside : (inside rest : Forest) (b : Bool) (p : ℕ) → b ≡ true
    → (if b then rest_at inside p else rest_at rest (p - flat_len inside - 1)) ≡ rest_at inside p
rest_at-inside inside rest true p e = refl
rest_at-inside inside rest false p e = no_true e

rest_at-following : (inside rest : Forest) (b : Bool) (p : ℕ) → b ≡ false
    → (if b then rest_at inside p else rest_at rest (p - flat_len inside - 1)) ≡ rest_at rest (p - flat_len inside - 1)
rest_at-following inside rest true p e = no_true (sym e)
rest_at-following inside rest false p e = refl

-- what is left n tokens after some trees is what is left n tokens into the others
pub rest_at-append : (t h : Forest) (n q : ℕ) → q ≡ flat_len t + n → rest_at (append t h) q ≡ rest_at h n
rest_at-append none h n q e = ap (rest_at h) (let k : q ≡ n = omega (arith, e) in k)
rest_at-append (leaf l t) h n zero e = absurd (omega (arith, e))
rest_at-append (leaf l t) h n (suc q) e = rest_at-append t h n q (omega (arith, e))
rest_at-append (group d inside t) h n zero e = absurd (omega (arith, e))
rest_at-append (group d inside t) h n (suc q) e =
    rest_at-following inside (append t h) (nat_le q (flat_len inside)) q (lt-leb q (flat_len inside) (omega (arith, e)))
    ∙ rest_at-append t h n (q - flat_len inside - 1) (omega (arith, e))

pub rest_at-group : (d : Delimiter) (inside rest : Forest) (n q : ℕ) → n ≤ flat_len inside → q ≡ 1 + n
    → rest_at (group d inside rest) q ≡ rest_at inside n
rest_at-group d inside rest n zero h e = absurd (omega (arith, e))
rest_at-group d inside rest n (suc q) h e =
    rest_at-inside inside rest (nat_le q (flat_len inside)) q (le-leb q (flat_len inside) (omega (arith, e, h)))
    ∙ ap (rest_at inside) (let k : q ≡ n = omega (arith, e) in k)

if_le : {A : Type 0} (n m : ℕ) (x y : A) → n ≤ m → (if nat_le n m then x else y) ≡ x
if_le n m x y h = ap (λ (b : Bool). if b then x else y) (le-leb n m h)

if_gt : {A : Type 0} (n m : ℕ) (x y : A) → m + 1 ≤ n → (if nat_le n m then x else y) ≡ y
if_gt n m x y h = ap (λ (b : Bool). if b then x else y) (lt-leb n m (omega (arith, h)))

pub rest_at-following_group : (d : Delimiter) (inside rest : Forest) (n : ℕ) → flat_len inside + 1 ≤ n
    → rest_at (group d inside rest) (suc n) ≡ rest_at rest (n - flat_len inside - 1)
rest_at-following_group d inside rest n h = if_gt n (flat_len inside) _ _ h

pub rest_at-in_group : (d : Delimiter) (inside rest : Forest) (n : ℕ) → n ≤ flat_len inside
    → rest_at (group d inside rest) (suc n) ≡ rest_at inside n
rest_at-in_group d inside rest n h = if_le n (flat_len inside) _ _ h

pub depth_at-in_group : (d : Delimiter) (inside rest : Forest) (n : ℕ) → n ≤ flat_len inside
    → depth_at (group d inside rest) (suc n) ≡ 1 + depth_at inside n
depth_at-in_group d inside rest n h = if_le n (flat_len inside) _ _ h

pub depth_at-following_group : (d : Delimiter) (inside rest : Forest) (n : ℕ) → flat_len inside + 1 ≤ n
    → depth_at (group d inside rest) (suc n) ≡ depth_at rest (n - flat_len inside - 1)
depth_at-following_group d inside rest n h = if_gt n (flat_len inside) _ _ h

pub rest_at-zero : (f : Forest) → rest_at f 0 ≡ f
rest_at-zero none = refl
rest_at-zero (leaf l rest) = refl
rest_at-zero (group d inside rest) = refl

pub depth_at-zero : (f : Forest) → depth_at f 0 ≡ 0
depth_at-zero none = refl
depth_at-zero (leaf l rest) = refl
depth_at-zero (group d inside rest) = refl

pub rest_after_trees : RestAfterTrees
rest_after_trees trees back n = rest_at-append trees back n (flat_len trees + n) refl

pub rest_in_group : RestInGroup
rest_in_group d inside rest n h = rest_at-group d inside rest n (1 + n) h refl
