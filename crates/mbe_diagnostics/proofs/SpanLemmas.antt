-- One step of the walk to a position.
use Rattle.std.proofs.Common.{ℕ, zero, suc, ◌+◌, ◌-◌, ◌≡◌, ◌<◌, ◌≤◌, Some, None, refl, ap, ◌∙◌, arith}
use Rattle.std.specs.Prelude.{if◌then◌else◌}
use Rattle.std.proofs.lemmas.Bool.{lt-ltb, le-ltb}
use Rattle.mbe_tt.specs.declared.span.Span.{Span}
use Rattle.mbe_tt.specs.declared.tt.Delimiter.{Delimiter}
use Rattle.mbe_tt.specs.Trees.Leaf.{Leaf}
use Rattle.mbe_tt.specs.Trees.Tree.{Forest, none, leaf, group, Tree, Leaf_tree, Group_tree, tree, first, rest_of}
use Rattle.mbe_tt.specs.Trees.Tree.{first_span, flat_len}
use Rattle.mbe_diagnostics.specs.SpanAt.{span_at}

same_some : {A : Type 0} (x y : A) → Some x ≡ Some y → x ≡ y
same_some x y e = cc

-- the first tree, and those after it
pub whole : (f : Forest) (t : Tree) → first f ≡ Some t → f ≡ tree t (rest_of f)
whole none t e = cc
whole (leaf l rest) t e = ap (λ x. tree x rest) (same_some (Leaf_tree l) t e)
whole (group d inside rest) t e = ap (λ x. tree x rest) (same_some (Group_tree d inside) t e)

pub span_none : (close : Span) (f : Forest) (n : ℕ) → first f ≡ None → span_at close f n ≡ close
span_none close none n e = refl
span_none close (leaf l rest) n e = cc
span_none close (group d inside rest) n e = cc

pub span_here : (close : Span) (f : Forest) (t : Tree) (n : ℕ) → first f ≡ Some t → n ≡ 0
    → span_at close f n ≡ first_span t
span_here close f t n e z = ap (span_at close f) z ∙ ap (λ g. span_at close g 0) (whole f t e) ∙ at t
  where
    at : (t : Tree) → span_at close (tree t (rest_of f)) 0 ≡ first_span t
    at (Leaf_tree l) = refl
    at (Group_tree d inside) = refl

pub span_leaf : (close : Span) (f : Forest) (l : Leaf) (n : ℕ) → first f ≡ Some (Leaf_tree l) → 0 < n
    → span_at close f n ≡ span_at close (rest_of f) (n - 1)
span_leaf close f l zero e k = absurd (omega (arith, k))
span_leaf close f l (suc n) e k = ap (λ g. span_at close g (suc n)) (whole f (Leaf_tree l) e)
    ∙ ap (span_at close (rest_of f)) (let s : n ≡ suc n - 1 = omega arith in s)

pub span_inside : (close : Span) (f : Forest) (d : Delimiter) (inside : Forest) (n : ℕ)
    → first f ≡ Some (Group_tree d inside) → 0 < n → n - 1 ≤ flat_len inside →
    span_at close f n ≡ span_at d.close inside (n - 1)
span_inside close f d inside zero e k w = absurd (omega (arith, k))
span_inside close f d inside (suc n) e k w =
    ap (λ g. span_at close g (suc n)) (whole f (Group_tree d inside) e)
    ∙ ap (λ b. if b then span_at close (rest_of f) (n - flat_len inside - 1) else span_at d.close inside n)
    (le-ltb (flat_len inside) n (let s : n ≤ flat_len inside = omega (arith, w) in s))
    ∙ ap (span_at d.close inside) (let s : n ≡ suc n - 1 = omega arith in s)

pub span_past : (close : Span) (f : Forest) (d : Delimiter) (inside : Forest) (n : ℕ)
    → first f ≡ Some (Group_tree d inside) → 0 < n → flat_len inside < n - 1 →
    span_at close f n ≡ span_at close (rest_of f) (n - 1 - (flat_len inside + 1))
span_past close f d inside zero e k w = absurd (omega (arith, k))
span_past close f d inside (suc n) e k w =
    ap (λ g. span_at close g (suc n)) (whole f (Group_tree d inside) e)
    ∙ ap (λ b. if b then span_at close (rest_of f) (n - flat_len inside - 1) else span_at d.close inside n)
    (lt-ltb (flat_len inside) n (let s : flat_len inside < n = omega (arith, w) in s))
    ∙ ap (span_at close (rest_of f)) (let s : n - flat_len inside - 1
    ≡ suc n - 1 - (flat_len inside + 1) = omega arith in s)
