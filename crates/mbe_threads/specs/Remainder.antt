-- What remains of a forest after a fragment.
use Rattle.std.specs.Prelude.{◌≡◌, ℕ, Option, Some, None}
use Rattle.mbe_tt.specs.Trees.Tree.{Forest, flat_len, append}

-- `beyond` is what remains of `all` after whole trees of `width` flat tokens
abbrev pub IsAfter : Forest → ℕ → Forest → Type 0
IsAfter all width beyond = (front : Forest) × (append front beyond ≡ all) × (flat_len front ≡ width)

-- for a step over a fragment of this width, `beyond` is what remains
abbrev pub IsRemainder : Forest → ℕ → Option Forest → Type 0
IsRemainder here width None = Unit {0}
IsRemainder here width (Some beyond) = IsAfter here width beyond
