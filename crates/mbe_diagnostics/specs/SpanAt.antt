-- The span of the token at an offset of an argument.
use Rattle.std.specs.Prelude.{ℕ, zero, suc, ◌-◌, nat_lt, if◌then◌else◌}
use Rattle.mbe_tt.specs.declared.span.Span.{Span}
use Rattle.mbe_tt.specs.Trees.Leaf.{span_of}
use Rattle.mbe_tt.specs.Trees.Tree.{Forest, none, leaf, group, flat_len}

-- The span of the token at an offset, which is the number of flat tokens before it. If a group ends
-- at the offset, it is the span of the closing delimiter. `close` is the span of the closing
-- delimiter after the trees.
abbrev pub span_at : Span → Forest → ℕ → Span
span_at close none n = close
span_at close (leaf l rest) zero = span_of l
span_at close (leaf l rest) (suc n) = span_at close rest n
span_at close (group d inside rest) zero = d.opening
span_at close (group d inside rest) (suc n) =
    if nat_lt (flat_len inside) n then span_at close rest (n - flat_len inside - 1) else span_at
    d.close inside n
