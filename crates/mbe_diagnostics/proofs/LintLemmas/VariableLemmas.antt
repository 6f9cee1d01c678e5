-- Where a variable is looked for among trees, by how many groups may be in one another.
use Rattle.std.proofs.Common.{◌≡◌, ◌+◌, ℕ, suc, None, ap, arith}
use Rattle.mbe_tt.specs.declared.span.Span.{Span}
use Rattle.mbe_tt.specs.Trees.Tree.{Forest}
use Rattle.mbe_diagnostics.specs.Lints.VariableSyntax.{find_among, find_in}

pub too_deep : (levels : ℕ) (place : Span) (f : Forest) → levels ≡ 0 → find_in levels place f ≡ None
unfolding find_in
too_deep levels place f e = ap (λ n. find_in n place f) e

pub deeper : (levels less : ℕ) (place : Span) (f : Forest) → levels ≡ less + 1
    → find_in levels place f ≡ find_among (find_in less place) place f
unfolding find_in
deeper levels less place f e =
    let more : levels ≡ suc less = omega (arith, e) in ap (λ n. find_in n place f) more
