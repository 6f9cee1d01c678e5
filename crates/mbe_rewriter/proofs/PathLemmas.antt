-- A path, one name on.
use Rattle.std.proofs.Common.{◌≡◌, ℕ, suc, ◌-◌, ◌<◌, Option, Some, None, refl, ap, sym, ◌∙◌, arith}
use Rattle.std.specs.Prelude.{option_and_then}
use Rattle.mbe_tt.specs.Trees.Tree.{Forest}
use Rattle.mbe_rewriter.specs.MacroItems.{Path, after_path_separator, path_with_next, path_goes_further, longer}

longer_suc : (n : ℕ) (path : Path) → longer (suc n) path
    ≡ path_goes_further (longer n) path (after_path_separator path.rest)
unfolding longer
longer_suc n path = refl

one_more : (n : ℕ) → 0 < n → n ≡ suc (n - 1)
one_more n h = omega (arith, h)

longer_by : (n : ℕ) (path : Path) (after : Option Forest) → 0 < n → after ≡ after_path_separator path.rest
    → path_goes_further (longer (n - 1)) path after ≡ longer n path
longer_by n path after h e =
    ap (path_goes_further (longer (n - 1)) path) e ∙ (sym (longer_suc (n - 1) path)
    ∙ sym (ap (λ k. longer k path) (one_more n h)))

-- nothing goes on with it
pub stops : (n : ℕ) (path : Path) → 0 < n → None ≡ after_path_separator path.rest → Some path ≡ longer n path
stops n path h e = longer_by n path None h e

-- no name follows
pub breaks : (n : ℕ) (path : Path) (after : Forest) → 0 < n → Some after ≡ after_path_separator path.rest
    → None ≡ path_with_next path.first after
    → None ≡ longer n path
breaks n path after h e p = ap (option_and_then (longer (n - 1))) p ∙ longer_by n path (Some after) h e

-- a name follows
pub goes : (n : ℕ) (path : Path) (after : Forest) (next : Path) → 0 < n → Some after ≡ after_path_separator path.rest
    → Some next ≡ path_with_next path.first after → longer (n - 1) next ≡ longer n path
goes n path after next h e p = ap (option_and_then (longer (n - 1))) p ∙ longer_by n path (Some after) h e

-- no trees are left
pub ends : (n : ℕ) (path : Path) → n ≡ 0 → Some path ≡ longer n path
unfolding longer
ends n path e = rw e refl
