use Rattle.std.proofs.Common.{◌≡◌, ◌≤◌, ◌<◌, ℕ, false, take}
use Rattle.std.specs.List.{list_any}
use Rattle.mbe_session.specs.Scopes.{is_named}
use Rattle.mbe_session.specs.SessionViews.{crate_definitions_of}
use Rattle.mbe_session.proofs.scope.end_of_crate.Given as goal

abbrev pub invariant-loop-one : goal.invariant-loop-one
invariant-loop-one g l =
    (n : ℕ) → l.end ≤ n → n < l.most
    → list_any (λ c. is_named l.name n (crate_definitions_of c)) (take l.one-index l.crates) ≡ false
